-- `find_alike` meets its contract: an earlier group that is alike is at most the next one. Assumes nothing.
use Rattle.format.specs.Policy.{policy_of}
use Rattle.image.proofs.AlikeLaws.{Sought, left}
use Rattle.image.proofs.twins.find_alike.Given as goal

abbrev pub invariant-loop-next : goal.invariant-loop-next
invariant-loop-next l = Sought (policy_of l.image).groups l.k l.next

abbrev pub decreases-loop-next : goal.decreases-loop-next
decreases-loop-next l = left l.next
