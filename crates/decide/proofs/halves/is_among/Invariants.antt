-- `is_among` meets its contract: the number is among the members left where it is among all. Assumes nothing.
use Rattle.decide.proofs.HalfLaws.{Among}
use Rattle.decide.proofs.halves.is_among.Given as goal

abbrev pub invariant-loop-left : goal.invariant-loop-left
invariant-loop-left l = Among l.image l.from l.count l.x l.at l.left

abbrev pub decreases-loop-left : goal.decreases-loop-left
decreases-loop-left l = l.left
