-- `meet_each` meets its contract: what was found so far, or is found in what is left of a group, is kept of it. Assumes
-- nothing.
use Prim.Native.Nat.{◌+◌, ◌*◌, ◌≤◌}
use mathlib.Core.Path.{◌≡◌}
use mathlib.Core.Bool.{◌||◌}
use lib.ListN.{length}
use Rattle.format.specs.Inner.Places.{words_at, Rising}
use Rattle.decide.specs.Inner.Parts.{group_set}
use Rattle.decide.specs.Inner.Marks.{any_marked}
use Rattle.decide.proofs.policy.Policy.meet_each.Given as goal

abbrev pub invariant-loop-left : goal.invariant-loop-left
invariant-loop-left l =
    (l.m + 2 * l.left ≤ length l.self.image.now) × Rising 0 (words_at l.self.image.now l.left l.m)
    × (any_marked l.first (group_set l.self.image.now l.g) ≡ l.a || any_marked l.first (words_at l.self.image.now l.left l.m))
    × (any_marked l.second (group_set l.self.image.now l.g) ≡ l.b || any_marked l.second (words_at l.self.image.now l.left l.m))

abbrev pub decreases-loop-left : goal.decreases-loop-left
decreases-loop-left l = l.left
