-- `is_stopped_by_class` meets its contract: the class is asked where it may tell. Assumes nothing.
use mathlib.Core.Path.{sym, ◌∙◌}
use Rattle.decide.proofs.NearerLaws.{class_few, class_known}
use Rattle.decide.proofs.passes.is_stopped_by_class.Goals as goal

pub returns-then-most-lt3 : goal.returns-then-most-lt3
returns-then-most-lt3 c = sym (class_few _ _ _ _ c.if-most-lt3.true)

pub returns : goal.returns
returns c = c.is_of_other_class.ensures ∙ sym (class_known _ _ _ _ c.if-most-lt3.false)
