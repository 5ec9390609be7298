-- `note` meets its contract: a table without the slot stays as it is. Assumes nothing.
use native.Mathlib.Omega.{arith}
use mathlib.Core.Path.{sym}
use lib.Seq.{set_out}
use Rattle.image.proofs.checker.note.Goals as goal

pub returns-else-k-places : goal.returns-else-k-places
returns-else-k-places c = sym (set_out _ _ _ (omega arith))
