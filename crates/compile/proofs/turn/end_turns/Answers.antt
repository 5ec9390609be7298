-- By what adding the last row answers.
use Rattle.std.proofs.Common.{rules, arith}
use Rattle.std.proofs.Math.Seq.{length-take-le}
use Rattle.compile.proofs.Turns.{last_inside, ends_told}
use Rattle.compile.proofs.turn.end_turns.Goals as goal

pub map_err-requires : goal.map_err-requires
map_err-requires c = λ f refused.
    let long = length-take-le c.args.p.kept c.args.input.now (omega arith) in
    let place = last_inside c.args.p c.args.input.now c.args.image.now _ c.requires.0 f c.add_rows.ensures refused in
    search (rules, place, long)

pub returns : goal.returns
returns c =
    ends_told c.args.p c.args.input.now c.args.image.now _ c.requires.0 _ _ (λ i. search rules) c.add_rows.ensures
    (λ f g is. search rules) c.map_err.ensures.cases
