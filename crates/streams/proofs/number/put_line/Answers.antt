use Rattle.std.proofs.Common.{arith}
use Rattle.streams.proofs.Puts.{line_more, line_end}
use Rattle.streams.proofs.number.put_line.Goals as goal

pub loop-n-preserved : goal.loop-n-preserved
loop-n-preserved c =
    let now = c.loop-n in
    let so_far = now.invariant in
    let small = c.type_inv.numbers now.n-index in
    let more = line_more c.args.letter c.args.at c.args.numbers.now c.args.output.now now.output c.put_field-end.new.output now.n-index now.end c.put_field-end.result
    so_far.room (omega arith) so_far.few so_far.ends so_far.put (omega arith) (omega (arith, small)) c.put_field-end.ensures in
    record { room = so_far.room; few = more.0; ends = more.1; put = more.2 }

pub returns : goal.returns
returns c =
    let now = c.loop-n in
    let so_far = now.invariant in
    line_end c.args.letter c.args.at c.args.numbers.now c.args.output.now now.output c.put_byte.new.output now.n-index now.end c.put_byte.result
    so_far.room (omega arith) so_far.few so_far.ends so_far.put (omega arith) (omega arith) c.put_byte.ensures
