-- `grow` meets its contract: where nothing is refused, the places move by the record. Assumes nothing.
use native.Mathlib.Omega.{arith}
use mathlib.Core.Path.{◌≡◌, sym, ◌∙◌}
use Rattle.std.specs.Prelude.{None}
use Rattle.format.proofs.Chain.{outcome_gives, outcome_refused}
use Rattle.extension.specs.Add.{add_fault}
use Rattle.extension.proofs.Causes.{own_is}
use Rattle.extend.specs.Inner.Plans.{slot_of}
use Rattle.extend.proofs.PlanLaws.{slot_fits}
use Rattle.extend.proofs.GrowLaws.{starts_small, grown, not_grown}
use Rattle.extend.proofs.rows.grow.Goals as goal

pub insert-requires : goal.insert-requires
insert-requires c =
    let slotted : (add_fault c.args.buffer.now c.args.part.now ≡ None) × (c.in-Ok.slot ≡ slot_of c.args.buffer.now c.args.part.now) = let q = outcome_gives _ _ (sym c.in-Ok.is ∙ c.own_causes.ensures) in
    (own_is c.args.buffer.now c.args.part.now c.requires.0 ∙ q.0, q.1) in
    let q = slotted in
    rw q.1 (slot_fits c.args.buffer.now c.args.part.now (λ i. omega (arith, c.type_inv.part i)) q.0)

pub moved-requires : goal.moved-requires
moved-requires c =
    let slotted : (add_fault c.args.buffer.now c.args.part.now ≡ None) × (c.in-Ok.slot ≡ slot_of c.args.buffer.now c.args.part.now) = let q = outcome_gives _ _ (sym c.in-Ok.is ∙ c.own_causes.ensures) in
    (own_is c.args.buffer.now c.args.part.now c.requires.0 ∙ q.0, q.1) in
    starts_small c.args.buffer.now c.args.part.now slotted.0 c.args.sections c.requires.1

pub returns-in-Err : goal.returns-in-Err
returns-in-Err c = not_grown c.args.at c.args.buffer.now c.args.part.now c.requires.0 (own_is c.args.buffer.now c.args.part.now c.requires.0 ∙ outcome_refused _ _ (sym c.in-Err.is ∙ c.own_causes.ensures))

pub returns-in-Ok : goal.returns-in-Ok
returns-in-Ok c =
    let slotted : (add_fault c.args.buffer.now c.args.part.now ≡ None) × (c.in-Ok.slot ≡ slot_of c.args.buffer.now c.args.part.now) = let q = outcome_gives _ _ (sym c.in-Ok.is ∙ c.own_causes.ensures) in
    (own_is c.args.buffer.now c.args.part.now c.requires.0 ∙ q.0, q.1) in
    grown c.args.at c.args.buffer.now c.args.part.now (λ i. omega (arith, c.slice_known-1.given i)) (λ i. omega (arith, c.type_inv.part i))
    slotted.0 c.args.sections c.in-Ok.slot c.requires.1 slotted.1 c.moved.ensures c.insert.ensures
