-- `known_outside` meets its contract: a mark, or what is kept. Assumes nothing.
use mathlib.Core.Path.{sym, ◌∙◌}
use Rattle.decide.proofs.KeptLaws.{no_says, says_no_not, outside_basic, outside_group}
use Rattle.decide.proofs.kept.Side.known_outside.Goals as goal

pub bounds-self-t : goal.bounds-self-t
bounds-self-t c = c.requires.0 c.if-t-lt32768.true

pub returns-then-t-lt32768 : goal.returns-then-t-lt32768
returns-then-t-lt32768 c = sym (outside_basic _ _ _ c.if-t-lt32768.true)

pub returns-in-No : goal.returns-in-No
returns-in-No c = no_says _ c.in-No.is ∙ sym (outside_group _ _ _ c.if-t-lt32768.false)

pub returns-in_default : goal.returns-in_default
returns-in_default c = says_no_not _ c.in_default.not-No ∙ sym (outside_group _ _ _ c.if-t-lt32768.false)
