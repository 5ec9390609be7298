-- `fill` meets its contract: the bytes so far, and those of the words left, are those of all. Assumes nothing.
use Rattle.std.proofs.Common.{refl, ap, ◌∙◌, List, length, get_or, arith}
use Rattle.text.specs.declared.Field.{Field}
use Rattle.text.specs.declared.Field.TheVariants.{Member}
use Rattle.extend.proofs.RowLaws.{bytes_few, fields_few, fill_past, fill_outside, spelled, spelled_inside, not_spelled}
use Rattle.extend.proofs.RowLaws.{turn_made, filling_on, row_on, filled_few, filled, not_filled, filling_start}
use Rattle.extend.proofs.row.fill.Goals as goal

pub loop-i-init : goal.loop-i-init
loop-i-init c =
    let a = c.args in
    record { inside = omega arith; low = omega arith; few = omega arith; filling = filling_start a.kind a.text.now a.from a.part.now; same_row = refl }

pub returns : goal.returns
returns c =
    let a = c.args in
    let l = c.loop-i in
    not_filled a.kind a.text.now a.from l.part refl
    (fill_past _ a.kind l.i _ _ l.invariant.filling (omega (arith, ap length c.fields-field-items.ensures)))

pub returns-in_err-word : goal.returns-in_err-word
returns-in_err-word c =
    let a = c.args in
    let l = c.loop-i in
    let few = ap length c.fields-field-items.ensures in
    rw c.from_residual.ensures
    (not_filled a.kind a.text.now a.from l.part refl
    (fill_outside _ a.kind l.i _ _ l.invariant.filling (omega arith) _ (ap (λ (fs : List Field). get_or fs l.i Member) c.fields-field-items.ensures)
    (not_spelled _ a.text.now l.start c.value.ensures c.in_err-word.was)))

pub put-at-requires : goal.put-at-requires
put-at-requires c =
    let a = c.args in
    let l = c.loop-i in
    let few = ap length c.fields-field-items.ensures in
    let word = spelled _ a.text.now l.start c.value.ensures c.in_ok-word.word c.in_ok-word.was in
    (omega (arith, fields_few a.kind), word.small, word.short)

pub overflow_add-end : goal.overflow_add-end
overflow_add-end c =
    let l = c.loop-i in
    let inside = spelled_inside _ c.args.text.now l.start c.value.ensures c.in_ok-word.word c.in_ok-word.was l.invariant.inside in
    omega arith

pub ends_row-requires : goal.ends_row-requires
ends_row-requires c =
    let l = c.loop-i in
    spelled_inside _ c.args.text.now l.start c.value.ensures c.in_ok-word.word c.in_ok-word.was l.invariant.inside

pub returns-then-i-fewest : goal.returns-then-i-fewest
returns-then-i-fewest c =
    let a = c.args in
    let l = c.loop-i in
    let few = ap length c.fields-field-items.ensures in
    let turn =
    turn_made a.kind l.i a.text.now l.part c.put-at.new.part l.start l.at c.put-at.result c.in_ok-word.word c.fields-field-items.ensures (omega arith)
    c.value.ensures c.in_ok-word.was l.invariant.filling l.invariant.inside l.invariant.low (omega (arith, fields_few a.kind)) c.put-at.ensures.0 in
    not_filled a.kind a.text.now a.from c.put-at.new.part refl (filled_few turn c.if-ends_row.ensures (omega (arith, c.fewest.ensures)))

pub returns-then-ends_row : goal.returns-then-ends_row
returns-then-ends_row c =
    let a = c.args in
    let l = c.loop-i in
    let few = ap length c.fields-field-items.ensures in
    let turn =
    turn_made a.kind l.i a.text.now l.part c.put-at.new.part l.start l.at c.put-at.result c.in_ok-word.word c.fields-field-items.ensures (omega arith)
    c.value.ensures c.in_ok-word.was l.invariant.filling l.invariant.inside l.invariant.low (omega (arith, fields_few a.kind)) c.put-at.ensures.0 in
    let size = bytes_few (get_or c.fields-field-items.result.now l.i Member) c.in_ok-word.word.number in
    filled turn c.if-ends_row.ensures a.from refl l.invariant.same_row (omega (arith, c.fewest.ensures)) (omega (arith, c.put-at.ensures.1))
    (omega (arith, fields_few a.kind, c.put-at.ensures.1))

pub loop-i-preserved : goal.loop-i-preserved
loop-i-preserved c =
    let a = c.args in
    let l = c.loop-i in
    let few = ap length c.fields-field-items.ensures in
    let turn =
    turn_made a.kind l.i a.text.now l.part c.put-at.new.part l.start l.at c.put-at.result c.in_ok-word.word c.fields-field-items.ensures (omega arith)
    c.value.ensures c.in_ok-word.was l.invariant.filling l.invariant.inside l.invariant.low (omega (arith, fields_few a.kind)) c.put-at.ensures.0 in
    let size = bytes_few (get_or c.fields-field-items.result.now l.i Member) c.in_ok-word.word.number in
    record {
      inside = omega (arith, c.if-ends_row.ensures.0);
      low = omega (arith, c.put-at.ensures.1);
      few = omega (arith, c.put-at.ensures.1);
      filling = filling_on turn c.if-ends_row.ensures;
      same_row = l.invariant.same_row ∙ row_on turn c.if-ends_row.ensures;
    }
