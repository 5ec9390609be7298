-- `record_at` meets its contract: the first word names the kind, the others fill the fields. Assumes nothing.
use Rattle.std.proofs.Common.{sym, ◌∙◌, arith}
use Rattle.extend.proofs.RowLaws.{kind_number, first_inside, record_unknown, record_alone, record_outside, record_made}
use Rattle.extend.proofs.row.record_at.Goals as goal

pub overflow_add-end : goal.overflow_add-end
overflow_add-end c =
    let inside = first_inside c.args.text.now c.args.at c.word_size.result (omega arith) c.word_size.ensures in
    omega arith

pub slice_bounds-kind_of-end : goal.slice_bounds-kind_of-end
slice_bounds-kind_of-end c = first_inside c.args.text.now c.args.at c.word_size.result (omega arith) c.word_size.ensures

pub returns-in_err-kind : goal.returns-in_err-kind
returns-in_err-kind c =
    let a = c.args in
    rw c.from_residual.ensures
    (record_unknown a.text.now a.at c.word_size.result (omega arith) c.word_size.ensures (sym c.kind_of.ensures ∙ c.in_err-kind.was) a.part.now)

pub returns-then-ends_row : goal.returns-then-ends_row
returns-then-ends_row c =
    let a = c.args in
    record_alone a.text.now a.at c.word_size.result (omega arith) c.word_size.ensures c.if-ends_row.ensures a.part.now

pub returns-in_err-row : goal.returns-in_err-row
returns-in_err-row c =
    let a = c.args in
    let e = c.if-ends_row.ensures in
    rw c.from_residual-in_err-row.ensures
    (record_outside a.text.now a.at c.word_size.result (omega arith) c.word_size.ensures c.in_ok-kind.kind (sym c.kind_of.ensures ∙ c.in_ok-kind.was)
    e.0 e.1 c.fill.new.part (rw c.in_err-row.was at c.fill.ensures))

pub returns : goal.returns
returns c =
    let a = c.args in
    let e = c.if-ends_row.ensures in
    rw kind_number
    (record_made a.text.now a.at c.word_size.result (omega arith) c.word_size.ensures c.in_ok-kind.kind (sym c.kind_of.ensures ∙ c.in_ok-kind.was)
    e.0 e.1 c.fill.new.part c.in_ok-row.row (rw c.in_ok-row.was at c.fill.ensures) (omega arith))
