-- `any_both` meets its contract: what was found is told of the numbers so far. Assumes nothing.
use mathlib.Core.Path.{◌≡◌}
use lib.ListN.{length}
use Rattle.decide.specs.Inner.Marks.{both_below}
use Rattle.decide.proofs.marks.any_both.Given as goal

abbrev pub invariant-loop-x : goal.invariant-loop-x
invariant-loop-x l = l.found ≡ both_below l.a l.b (length l.yielded)
