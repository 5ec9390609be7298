-- `moved` meets its contract. Assumes nothing.
use Rattle.extend.specs.Inner.Grow.{moved_starts}
use Rattle.extend.proofs.rows.moved.Goals as goal

pub returns-in-Groups : goal.returns-in-Groups
unfolding moved_starts
returns-in-Groups c = rw c.in-Groups.is

pub returns-in-Rules : goal.returns-in-Rules
unfolding moved_starts
returns-in-Rules c = rw c.in-Rules.is

pub returns-in-Constraints : goal.returns-in-Constraints
unfolding moved_starts
returns-in-Constraints c = rw c.in-Constraints.is
