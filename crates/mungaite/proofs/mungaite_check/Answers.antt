-- `mungaite_check` meets its contract: a case for each answer of the check. Assumes nothing.
use mathlib.Core.Path.{sym, ap, ◌∙◌}
use Rattle.format.proofs.Chain.{outcome_gives, outcome_refused}
use Rattle.mungaite.specs.Code.{fault_code}
use Rattle.mungaite.proofs.mungaite_check.Goals as goal

pub returns-in-Ok : goal.returns-in-Ok
returns-in-Ok c = ap fault_code (sym (outcome_gives _ _ (sym c.in-Ok.is ∙ c.check.ensures)).0)

pub returns-in-Err : goal.returns-in-Err
returns-in-Err c = c.refused.ensures ∙ ap fault_code (sym (outcome_refused _ _ (sym c.in-Err.is ∙ c.check.ensures)))
