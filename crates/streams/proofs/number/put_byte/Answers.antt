use Rattle.std.proofs.Common.{arith, refl}
use Rattle.streams.proofs.Puts.{placed_one, puts_room}
use Rattle.streams.proofs.number.put_byte.Goals as goal

pub returns : goal.returns
returns c = puts_room _ _ _ _ _ _ (omega arith) refl (placed_one _ _ _ (omega arith))
