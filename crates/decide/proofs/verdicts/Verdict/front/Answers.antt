-- `front` meets its contract: a case for each number. Assumes nothing.
use mathlib.Core.Path.{sym}
use Rattle.decide.proofs.VerdictLaws.{said_zero, said_more}
use Rattle.decide.proofs.verdicts.Verdict.front.Goals as goal

pub returns-then-said-eq0 : goal.returns-then-said-eq0
returns-then-said-eq0 c = sym (said_zero _ c.if-said-eq0.true)

pub returns-else-said-eq0 : goal.returns-else-said-eq0
returns-else-said-eq0 c = sym (said_more _ c.if-said-eq0.false)
