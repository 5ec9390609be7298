use Rattle.std.proofs.Common.{◌≤◌, take, arith}
use Rattle.std.proofs.Math.Seq.{length-take-le}
use Rattle.lines.proofs.Feeds.{cut_is}
use Rattle.streams.proofs.Rests.{kept_bytes}
use Rattle.compile.proofs.Turns.{rests_kept}
use Rattle.compile.proofs.turn.go_on.Goals as goal

pub overflow_sub-have : goal.overflow_sub-have
overflow_sub-have c =
    omega (arith, (cut_is (take c.args.have c.args.input.now)).most, length-take-le c.args.have c.args.input.now (omega arith))

pub overflow_add-result-2 : goal.overflow_add-result-2
overflow_add-result-2 c =
    omega (arith, (cut_is (take c.args.have c.args.input.now)).most, length-take-le c.args.have c.args.input.now (omega arith))

pub overflow_sub-result : goal.overflow_sub-result
overflow_sub-result c =
    omega (arith, (cut_is (take c.args.have c.args.input.now)).most, length-take-le c.args.have c.args.input.now (omega arith))

pub returns : goal.returns
returns c =
    let inside : c.args.end ≤ c.args.have = omega (arith, (cut_is (take c.args.have c.args.input.now)).most, length-take-le c.args.have c.args.input.now (omega arith)) in
    rests_kept c.args.p c.args.input.now c.args.have c.args.end _ (omega arith) c.requires.2 c.count_feeds.ensures.0 _ (omega arith) c.if-have-end-eq-SPACE.false
    (kept_bytes c.args.input.now c.args.end c.args.have _ inside (omega arith) c.keep_rest.ensures)
