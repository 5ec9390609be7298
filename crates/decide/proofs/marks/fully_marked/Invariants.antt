-- `fully_marked` meets its contract: the hits so far and those among what is left are all hits. Assumes nothing.
use Prim.Native.Nat.{◌+◌, ◌≤◌}
use mathlib.Core.Path.{◌≡◌}
use lib.ListN.{drop}
use Rattle.format.specs.Inner.Places.{words_at}
use Rattle.decide.specs.Inner.Marks.{tallied}
use Rattle.decide.proofs.marks.fully_marked.Given as goal

abbrev pub invariant-loop-member : goal.invariant-loop-member
invariant-loop-member l =
    (tallied l.marks (words_at l.image l.count l.from) ≡ l.hits + tallied l.marks (drop l.member-index (words_at l.image l.count l.from)))
    × (l.hits ≤ l.member-index)
