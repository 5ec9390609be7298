-- `walk` meets its contract. The walk comes to a place, and the part starts there: the rest of the walk from there answers as the
use Prim.Native.Nat.{◌-◌, ◌≤◌}
use mathlib.Core.Path.{◌≡◌}
use lib.ListN.{length, drop}
use Rattle.image.specs.Inner.Walk.{walk_of, noted_from, Fits}
use Rattle.image.proofs.checker.walk.Given as goal

abbrev pub invariant-loop-k : goal.invariant-loop-k
invariant-loop-k l =
    (l.k ≤ l.count)
    × (l.at ≤ length l.image)
    × (length l.places ≡ length l.initial.places)
    × (walk_of l.image l.section l.from l.count ≡ walk_of l.image l.section l.at (l.count - l.k))
    × (noted_from l.image l.section l.from 0 l.count l.initial.places ≡ noted_from l.image l.section l.at l.k (l.count - l.k) l.places)
    × (Fits l.image l.section l.at (l.count - l.k))
    × (l.part ≡ drop l.at l.image)

abbrev pub decreases-loop-k : goal.decreases-loop-k
decreases-loop-k l = l.count - l.k
