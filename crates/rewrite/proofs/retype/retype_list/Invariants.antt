-- `retype_list` meets its contract: the fields from that of `second` on are still to come. Assumes nothing.
use Prim.Native.Nat.{◌+◌, ◌-◌}
use mathlib.Core.Path.{◌≡◌}
use mathlib.Core.List.{◌++◌}
use lib.ListN.{length, take, drop}
use Rattle.rewrite.specs.Inner.Retype.{changed}
use Rattle.rewrite.proofs.retype.retype_list.Given as goal

abbrev pub invariant-loop-second : goal.invariant-loop-second
invariant-loop-second l =
    changed l.to l.initial.list ≡ take (l.second - 1) l.list ++ changed l.to (drop (l.second - 1) l.list)

abbrev pub decreases-loop-second : goal.decreases-loop-second
decreases-loop-second l = length l.initial.list + 1 - l.second
