-- `misread` meets its contract: the cases are the definition's. Assumes nothing.
use mathlib.Core.Path.{refl}
use Rattle.format.specs.Check.{read_fault}
use Rattle.image.proofs.checker.misread.Goals as goal

pub returns-in-Malformed : goal.returns-in-Malformed
unfolding read_fault
returns-in-Malformed c = rw (c.at.ensures, c.in-Malformed.is) refl

pub returns-in-BadField : goal.returns-in-BadField
unfolding read_fault
returns-in-BadField c = rw (c.at-in-BadField.ensures, c.in-BadField.is) refl
