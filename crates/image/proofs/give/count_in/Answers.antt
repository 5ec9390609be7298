-- `count_in` meets its contract. Assumes nothing.
use Rattle.format.specs.Format.{count_of, count_place}
use Rattle.image.proofs.give.count_in.Goals as goal

pub returns-in-Groups : goal.returns-in-Groups
unfolding count_of count_place
returns-in-Groups c = simp c.in-Groups.is c.word_in.ensures.0

pub returns-in-Rules : goal.returns-in-Rules
unfolding count_of count_place
returns-in-Rules c = simp c.in-Rules.is c.word_in-in-Rules.ensures.0

pub returns-in-Constraints : goal.returns-in-Constraints
unfolding count_of count_place
returns-in-Constraints c = simp c.in-Constraints.is c.word_in-in-Constraints.ensures.0
