-- `own_causes` meets its contract: the kind names the section, and so where the record goes. Assumes nothing.
use native.Mathlib.Omega.{arith}
use mathlib.Core.Path.{◌≡◌, refl, ap, ◌∙◌}
use mathlib.Core.Bool.{true}
use lib.ListN.{length, get_or}
use Rattle.format.specs.declared.Section.TheVariants.{Groups, Rules, Constraints}
use Rattle.format.specs.Format.{kind_in}
use Rattle.format.specs.Answers.{outcome}
use Rattle.format.proofs.ByCase.{kind_groups, kind_rules, kind_constraints}
use Rattle.extension.specs.Add.{own_fault}
use Rattle.extend.proofs.PlanLaws.{own_tiny, own_length, own_kind, slot_is, end_groups, end_rules, end_constraints}
use Rattle.extend.proofs.plan.own_causes.Goals as goal

pub returns-in_default : goal.returns-in_default
returns-in_default c = rw (c.at.ensures, own_tiny c.args.buffer.now c.args.part.now (omega arith))

pub returns-then-from-part : goal.returns-then-from-part
returns-then-from-part c = rw (c.at-then-from-part.ensures, own_length _ _ _ c.from.ensures c.if-from-part.true)

pub room-requires : goal.room-requires
room-requires c =
    let whole : get_or c.args.part.now 0 0 ≡ length c.args.part.now = omega (arith, c.from.ensures, c.if-from-part.false) in
    let kind_group : kind_in Groups (get_or c.args.part.now 1 0) ≡ true = kind_groups (get_or c.args.part.now 1 0) c.in-1.is in
    (c.requires.0, whole, kind_group)

pub room-requires-in-4 : goal.room-requires-in-4
room-requires-in-4 c =
    let whole : get_or c.args.part.now 0 0 ≡ length c.args.part.now = omega (arith, c.from.ensures, c.if-from-part.false) in
    let kind_constraint : kind_in Constraints (get_or c.args.part.now 1 0) ≡ true = kind_constraints (get_or c.args.part.now 1 0) c.in-4.is in
    (c.requires.0, whole, kind_constraint)

pub room-requires-in-2-to-3 : goal.room-requires-in-2-to-3
room-requires-in-2-to-3 c =
    let whole : get_or c.args.part.now 0 0 ≡ length c.args.part.now = omega (arith, c.from.ensures, c.if-from-part.false) in
    let kind_rule : kind_in Rules (get_or c.args.part.now 1 0) ≡ true = kind_rules _ (omega arith) (omega arith) in
    (c.requires.0, whole, kind_rule)

pub returns-in-1 : goal.returns-in-1
returns-in-1 c =
    let whole : get_or c.args.part.now 0 0 ≡ length c.args.part.now = omega (arith, c.from.ensures, c.if-from-part.false) in
    let kind_group : kind_in Groups (get_or c.args.part.now 1 0) ≡ true = kind_groups (get_or c.args.part.now 1 0) c.in-1.is in
    c.room.ensures ∙ ap (outcome (own_fault c.args.buffer.now c.args.part.now)) (slot_is _ _ _ whole kind_group _ (end_groups _ c.requires.0 _ c.requires.1))

pub returns-in-4 : goal.returns-in-4
returns-in-4 c =
    let whole : get_or c.args.part.now 0 0 ≡ length c.args.part.now = omega (arith, c.from.ensures, c.if-from-part.false) in
    let kind_constraint : kind_in Constraints (get_or c.args.part.now 1 0) ≡ true = kind_constraints (get_or c.args.part.now 1 0) c.in-4.is in
    c.room-in-4.ensures ∙ ap (outcome (own_fault c.args.buffer.now c.args.part.now)) (slot_is _ _ _ whole kind_constraint _ (end_constraints _ _ c.requires.0 c.word_at.ensures.0))

pub returns-in-2-to-3 : goal.returns-in-2-to-3
returns-in-2-to-3 c =
    let whole : get_or c.args.part.now 0 0 ≡ length c.args.part.now = omega (arith, c.from.ensures, c.if-from-part.false) in
    let kind_rule : kind_in Rules (get_or c.args.part.now 1 0) ≡ true = kind_rules _ (omega arith) (omega arith) in
    c.room-in-2-to-3.ensures ∙ ap (outcome (own_fault c.args.buffer.now c.args.part.now)) (slot_is _ _ _ whole kind_rule _ (end_rules _ c.requires.0 _ c.requires.1))

pub returns-in_default-kind : goal.returns-in_default-kind
returns-in_default-kind c = let k = get_or c.args.part.now 1 0 in
    let one : k ≡ 1 → ⊥ = omega arith in
    let two : k ≡ 2 → ⊥ = omega arith in
    let three : k ≡ 3 → ⊥ = omega arith in
    let four : k ≡ 4 → ⊥ = omega arith in
    rw (c.at-in_default-kind.ensures, own_kind c.args.buffer.now c.args.part.now k refl one two three four)
