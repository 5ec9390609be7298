-- `type_list` meets its contract: what is bad from a type's place on is what is bad in all. Assumes nothing.
use Prim.Native.Nat.{◌+◌, ◌*◌}
use mathlib.Core.Path.{◌≡◌}
use lib.ListN.{drop}
use Rattle.format.specs.Bytes.{words}
use Rattle.format.specs.Format.{bad_type}
use Rattle.image.proofs.fields.type_list.Given as goal

abbrev pub invariant-loop-i : goal.invariant-loop-i
invariant-loop-i l =
    bad_type l.groups l.from (words (drop l.from l.part)) ≡ bad_type l.groups (l.from + 2 * l.i) (words (drop (l.from + 2 * l.i) l.part))
