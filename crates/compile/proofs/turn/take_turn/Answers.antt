-- By what adding the whole rows answers, which are among the bytes that have come.
use Rattle.std.proofs.Common.{rules, ◌≡◌, arith}
use Rattle.std.specs.Prelude.{Err}
use Rattle.std.proofs.Math.Seq.{length-take-le}
use Rattle.compile.proofs.Turns.{fault_inside, turn_told, turn_rests}
use Rattle.compile.proofs.turn.take_turn.Goals as goal

pub map_err-requires : goal.map_err-requires
map_err-requires c = λ f refused.
    let long = length-take-le c.args.have c.args.input.now (omega arith) in
    let rows = c.rows_end-end.ensures in
    let place = fault_inside c.args.p c.args.input.now c.args.image.now _ _ _ rows.0 f c.requires.0 rows.1 c.add_rows.ensures refused in
    search (rules, place, long)

pub returns-in_err-map_err : goal.returns-in_err-map_err
returns-in_err-map_err c =
    let passed_on : c.from_residual.result ≡ Err c.in_err-map_err.field-0.0 = search rules in
    let mapped = c.in_err-map_err.ensures.cases in
    let told = turn_told c.args.p c.args.input.now c.args.image.now _ _ _ c.rows_end-end.ensures.0 _ _ c.add_rows.ensures (λ f is. search rules) mapped in
    rw passed_on told

pub returns : goal.returns
returns c =
    turn_rests c.args.p c.args.input.now c.args.image.now _ _ _ c.rows_end-end.ensures.0 _ c.go_on.result c.go_on.new.input c.requires.0 (λ i. search rules)
    (search rules) c.add_rows.ensures c.go_on.ensures
