-- `planned` meets its contract: the image is checked first. Assumes nothing.
use mathlib.Core.Path.{◌≡◌, sym, ap, ◌∙◌}
use Rattle.std.specs.Prelude.{None, Err}
use Rattle.format.specs.Check.{image_in, check_front}
use Rattle.format.specs.Answers.{outcome, starts}
use Rattle.format.proofs.Chain.{outcome_gives, outcome_refused, or_else_first, or_else_next}
use Rattle.extension.specs.Add.{own_fault, add_fault}
use Rattle.extend.specs.Inner.Plans.{slot_of}
use borrow.Author.Rules.{rules}
use Rattle.extend.proofs.plan.planned.Goals as goal

pub own_causes-requires : goal.own_causes-requires
own_causes-requires c =
    let front_none : (check_front c.args.buffer.now ≡ None) × (c.in_ok-sections.sections ≡ starts (image_in c.args.buffer.now)) = outcome_gives _ _ (sym c.in_ok-sections.was ∙ c.front.ensures) in
    front_none

pub returns-in_err-sections : goal.returns-in_err-sections
unfolding add_fault
returns-in_err-sections c =
    let passed_on : c.from_residual.result ≡ Err c.in_err-sections.field-0.0 = search rules in
    rw (passed_on, or_else_first (own_fault c.args.buffer.now c.args.part.now) (outcome_refused _ _ (sym c.in_err-sections.was ∙ c.front.ensures)))

pub returns : goal.returns
unfolding add_fault
returns c =
    let front_none : (check_front c.args.buffer.now ≡ None) × (c.in_ok-sections.sections ≡ starts (image_in c.args.buffer.now)) = outcome_gives _ _ (sym c.in_ok-sections.was ∙ c.front.ensures) in
    c.own_causes.ensures ∙ ap (λ f. outcome f (slot_of c.args.buffer.now c.args.part.now)) (sym (or_else_next _ front_none.0))
