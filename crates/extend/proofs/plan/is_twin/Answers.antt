-- `is_twin` meets its contract: only a group can be one. Assumes nothing.
use mathlib.Core.Path.{◌≡◌, sym, subst, ap, ◌∙◌}
use Rattle.format.specs.Policy.{policy_of}
use Rattle.format.specs.Check.{image_in, Accepted}
use Rattle.format.specs.Twins.{listed}
use Rattle.format.proofs.Front.{front_accepted, leading_image}
use Rattle.extension.specs.Add.{added_twin}
use Rattle.extend.proofs.PlanLaws.{twin_groups, twin_rules, twin_constraints}
use Rattle.extend.proofs.plan.is_twin.Goals as goal

pub is_listed-requires : goal.is_listed-requires
is_listed-requires c =
    let image_is : c.leading.result.now ≡ image_in c.args.buffer.now = c.leading.ensures.bytes ∙ leading_image _ c.requires in
    subst Accepted (sym image_is) (front_accepted _ c.requires)

pub returns-in-Groups : goal.returns-in-Groups
returns-in-Groups c =
    let image_is : c.leading.result.now ≡ image_in c.args.buffer.now = c.leading.ensures.bytes ∙ leading_image _ c.requires in
    let a = c.args in
    c.is_listed.ensures
    ∙ ap (λ l. listed a.part.now (policy_of l).groups) image_is
    ∙ sym (ap (λ s. added_twin s (policy_of (image_in a.buffer.now)) a.part.now) c.in-Groups.is ∙ twin_groups _ _)

pub returns-in-Rules : goal.returns-in-Rules
returns-in-Rules c =
    let a = c.args in
    sym (ap (λ s. added_twin s (policy_of (image_in a.buffer.now)) a.part.now) c.in-Rules.is ∙ twin_rules _ _)

pub returns-in-Constraints : goal.returns-in-Constraints
returns-in-Constraints c =
    let a = c.args in
    sym (ap (λ s. added_twin s (policy_of (image_in a.buffer.now)) a.part.now) c.in-Constraints.is ∙ twin_constraints _ _)
