use Rattle.std.proofs.Common.{arith}
use Rattle.streams.proofs.Inputs.{bytes_brought}
use Rattle.permit.proofs.Inputs.{size_more}
use Rattle.permit.proofs.source.read_image.Goals as goal

pub loop-have-preserved : goal.loop-have-preserved
loop-have-preserved g c =
    let some = bytes_brought _ _ _ c.in-Some.is c.in_ok-n.ensures.brings in
    let size = c.image_size-size.ensures in
    record {
      few = omega (arith, some, size.1);
      long = omega arith;
      told = size_more c.loop-have.space c.read_between.new.buffer c.loop-have.have _ (omega arith) c.in_ok-n.ensures.before (omega arith) (omega (arith, some, size.1)) (omega (arith, some, size.0));
    }
