-- `any_is` meets its contract: what is left to look at answers as all does. Assumes nothing.
use Prim.Native.Nat.{◌+◌, ◌*◌, ◌≤◌}
use mathlib.Core.Path.{◌≡◌}
use lib.ListN.{length}
use Rattle.decide.specs.Inner.Marks.{any_is}
use Rattle.format.specs.Inner.Places.{words_at, Rising}
use Rattle.decide.proofs.marks.any_is.Given as goal

abbrev pub invariant-loop-left : goal.invariant-loop-left
invariant-loop-left l =
    (l.at + 2 * l.left ≤ length l.image) × Rising 0 (words_at l.image l.left l.at)
    × (any_is l.marks l.value (words_at l.image l.count l.from) ≡ any_is l.marks l.value (words_at l.image l.left l.at))

abbrev pub decreases-loop-left : goal.decreases-loop-left
decreases-loop-left l = l.left
