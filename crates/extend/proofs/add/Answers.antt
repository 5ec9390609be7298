-- `add` meets its contract: where nothing is refused, what is inserted is the new image. Assumes nothing.
use native.Mathlib.Omega.{arith}
use mathlib.Core.Path.{◌≡◌, sym, ap, ◌∙◌}
use Rattle.std.specs.Prelude.{None, Some}
use Rattle.format.specs.Bytes.{Bytes}
use Rattle.format.specs.Format.{count_place}
use Rattle.std.specs.Prelude.{Ok, Err}
use Rattle.format.proofs.Chain.{outcome_gives, outcome_refused}
use Rattle.extension.specs.Add.{new_number, add_fault}
use Rattle.extension.specs.Inner.Splice.{inserted}
use Rattle.extension.proofs.Adds.{buffer_refused, buffer_inserted}
use Rattle.extend.specs.Inner.Plans.{slot_of}
use Rattle.extend.proofs.PlanLaws.{slot_fits}
use borrow.Author.Rules.{rules}
use Rattle.extend.proofs.add.Goals as goal

pub insert-requires : goal.insert-requires
insert-requires c =
    let slotted : (add_fault c.args.buffer.now c.args.part.now ≡ None) × (c.in_ok-slot.slot ≡ slot_of c.args.buffer.now c.args.part.now) = outcome_gives _ _ (sym c.in_ok-slot.was ∙ c.planned.ensures) in
    let q = slotted in rw q.1 (slot_fits _ _ (λ i. omega (arith, c.type_inv.part i)) q.0)

pub returns-in_err-slot : goal.returns-in_err-slot
returns-in_err-slot c =
    let passed_on : c.from_residual.result ≡ Err c.in_err-slot.field-0.0 = search rules in
    let f : add_fault c.args.buffer.now c.args.part.now ≡ Some c.in_err-slot.field-0.0 = outcome_refused _ _ (sym c.in_err-slot.was ∙ c.planned.ensures) in
    record { answer = rw (passed_on, f); buffer = sym (buffer_refused _ _ _ f) }

pub returns : goal.returns
unfolding slot_of new_number
returns c =
    let slotted : (add_fault c.args.buffer.now c.args.part.now ≡ None) × (c.in_ok-slot.slot ≡ slot_of c.args.buffer.now c.args.part.now) = outcome_gives _ _ (sym c.in_ok-slot.was ∙ c.planned.ensures) in
    let q = slotted in
    let b = c.args.buffer.now in
    let r = c.args.part.now in
    let bytes : Bytes b = λ i. omega (arith, c.slice_known-1.given i) in
    record {
      answer = rw q.0 (ap (λ x. Ok x.count) q.1);
      buffer = c.insert.ensures ∙ ap (λ x. inserted b r x.at x.size (count_place x.section) x.count) q.1 ∙ buffer_inserted b r bytes q.0;
    }
