-- `first_member` meets its contract: what is bad from a member's place on is what is bad in all. Assumes nothing.
use Prim.Native.Nat.{◌+◌, ◌*◌, ◌≤◌}
use mathlib.Core.Path.{◌≡◌}
use lib.ListN.{drop}
use Rattle.format.specs.Bytes.{words}
use Rattle.format.specs.Format.{bad_member, bad_group}
use Rattle.image.proofs.fields.first_member.Given as goal

abbrev pub invariant-loop-i : goal.invariant-loop-i
invariant-loop-i l = (l.low ≤ 1024) × (bad_group l.part ≡ bad_member (2 + 2 * l.i) l.low (words (drop (2 + 2 * l.i) l.part)))
