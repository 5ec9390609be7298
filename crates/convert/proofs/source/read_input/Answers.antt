use Rattle.std.proofs.Common.{arith}
use Rattle.std.proofs.Math.Seq.{length-take-le}
use Rattle.streams.proofs.Inputs.{bytes_brought}
use Rattle.convert.proofs.Laws.{gathered_read, gathered_more, due_ended, due_full}
use Rattle.convert.proofs.source.read_input.Goals as goal

pub loop-have-preserved : goal.loop-have-preserved
loop-have-preserved g c =
    let loop = c.loop-have in
    let some = bytes_brought _ _ _ c.in-Some.is c.in_ok-n.ensures.brings in
    record {
      few = omega (arith, some);
      long = omega arith;
      gathered = gathered_more loop.space c.read_between.new.buffer loop.have _ (omega arith) (omega arith) c.read_between.ensures.before loop.invariant.gathered;
    }

-- the end of the input
pub returns-in-None : goal.returns-in-None
returns-in-None g c =
    let loop = c.loop-have in
    record {
      fits = omega arith;
      few = omega arith;
      due = due_ended _ (gathered_read loop.space c.read_between.new.buffer loop.have c.read_between.ensures.before loop.invariant.gathered);
    }

-- the end of the space
pub returns : goal.returns
returns g c =
    let loop = c.loop-have in
    let long = length-take-le loop.have loop.space (omega arith) in
    record { fits = omega arith; few = omega arith; due = due_full _ loop.invariant.gathered (omega (arith, long)) }
