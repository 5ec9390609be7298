-- `mark` meets its contract: what is left to mark, on top of what is marked, is all. Assumes nothing.
use mathlib.Core.Path.{◌≡◌}
use lib.ListN.{length, drop}
use Rattle.format.specs.Inner.Places.{words_at}
use Rattle.decide.specs.Inner.Marks.{mark_all}
use Rattle.decide.proofs.marks.mark.Given as goal

abbrev pub invariant-loop-member : goal.invariant-loop-member
invariant-loop-member l =
    (mark_all l.initial.marks (words_at l.image l.count l.from) ≡ mark_all l.marks (drop l.member-index (words_at l.image l.count l.from)))
    × (length l.marks ≡ length l.initial.marks)
