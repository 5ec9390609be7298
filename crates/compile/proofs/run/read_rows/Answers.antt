use Rattle.std.proofs.Common.{◌+◌, arith}
use Rattle.std.proofs.Math.Seq.{length-take-le}
use Rattle.streams.proofs.Inputs.{bytes_brought}
use Rattle.compile.proofs.Reached.{starts_accepted, reached_first, reached_read, read_bytes, reached_next, due_fault, due_ended, goes_most}
use Rattle.compile.proofs.Stops.{comes_row}
use Rattle.compile.proofs.run.read_rows.Goals as goal

pub loop-turn-init : goal.loop-turn-init
loop-turn-init g c =
    record {
      accepted = starts_accepted _ c.requires;
      few = omega arith;
      place = omega arith;
      row = omega arith;
      reached = reached_first c.large_buffer-input.result _ c.requires;
    }

pub returns-in_err-p-in-Some : goal.returns-in_err-p-in-Some
returns-in_err-p-in-Some g c =
    let loop = c.loop-turn in
    let input = c.read_between.new.buffer in
    let reached = reached_read loop.p loop.input input loop.image c.read_between.ensures.before loop.invariant.reached in
    let due = due_fault _ reached _ _ (read_bytes input loop.p.kept c.in-Some.n) _ (c.in_err-p-in-Some.ensures) in
    comes_row _ c.from_residual-in_err-p-in-Some.result _ c.from_residual-in_err-p-in-Some.ensures.1 due

pub returns-in_err-end_turns-in-None : goal.returns-in_err-end_turns-in-None
returns-in_err-end_turns-in-None g c =
    let loop = c.loop-turn in
    let input = c.read_between.new.buffer in
    let reached = reached_read loop.p loop.input input loop.image c.read_between.ensures.before loop.invariant.reached in
    let due = due_ended _ reached _ (c.in_err-end_turns-in-None.ensures) in
    comes_row _ c.from_residual-in_err-end_turns-in-None.result _ c.from_residual-in_err-end_turns-in-None.ensures.1 due

pub returns-in-None : goal.returns-in-None
returns-in-None g c =
    let loop = c.loop-turn in
    let input = c.read_between.new.buffer in
    let reached = reached_read loop.p loop.input input loop.image c.read_between.ensures.before loop.invariant.reached in
    let image = c.in_ok-end_turns-in-None.ensures in
    (image.fits, due_ended _ reached _ image.is)

pub loop-turn-preserved : goal.loop-turn-preserved
loop-turn-preserved g c =
    let loop = c.loop-turn in
    let input = c.read_between.new.buffer in
    let some = bytes_brought _ _ _ c.in-Some.is c.in_ok-n.ensures.brings in
    let reached = reached_read loop.p loop.input input loop.image c.read_between.ensures.before loop.invariant.reached in
    let long = length-take-le (loop.p.kept + c.in-Some.n) input (omega (arith, some)) in
    let goes = c.in_ok-p-in-Some.ensures in
    let most = goes_most _ _ _ _ _ goes in
    record {
      accepted = goes.accepted;
      few = goes.few;
      place = omega (arith, most, long, some);
      row = omega (arith, most, long, some);
      reached = reached_next _ reached _ _ (read_bytes input loop.p.kept c.in-Some.n) _ _ _ goes;
    }
