-- Only the part between the places is lent.
use Rattle.std.proofs.Common.{◌-◌, drop, length-drop, arith}
use Rattle.std.proofs.Math.Seq.{length-take-le}
use borrow.Rule.Slice.PartMut.{take_put, drop_put}
use Rattle.streams.proofs.Inputs.{brings_same}
use Rattle.streams.proofs.source.read_between.Goals as goal

pub returns : goal.returns
returns g c =
    let part = length-take-le (c.args.to - c.args.from) (drop c.args.from c.args.buffer.now) (omega (arith, length-drop c.args.from c.args.buffer.now)) in
    record {
      brings = brings_same c.read_some.result _ _ part c.read_some.ensures;
      before = take_put c.args.from (c.args.to - c.args.from) c.args.buffer.now c.read_some.new.part (omega arith);
      behind = drop_put c.args.from c.args.to c.args.buffer.now c.read_some.new.part (omega arith) (omega arith) (omega (arith, part));
      crossed = λ h. absurd (omega (arith, h));
      past = λ h. absurd (omega (arith, h));
    }
