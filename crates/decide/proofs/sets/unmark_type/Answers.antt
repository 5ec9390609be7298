-- `unmark_type` meets its contract: a basic type has one mark, and a group's are all stored over. Assumes nothing.
use Rattle.decide.proofs.MarkedLaws.{unmark_basic}
use Rattle.decide.proofs.sets.unmark_type.Goals as goal

pub bounds-marks-t : goal.bounds-marks-t
bounds-marks-t c = c.requires c.if-t-lt32768.true

pub returns-then-t-lt32768 : goal.returns-then-t-lt32768
returns-then-t-lt32768 c = λ l e. unmark_basic l _ c.if-t-lt32768.true _ e
