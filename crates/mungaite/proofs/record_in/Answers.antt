-- `record_in` meets its contract: a case for each answer of finding. Assumes nothing.
use mathlib.Core.Path.{sym, ap, ◌∙◌}
use Rattle.decision.specs.Numbers.{code_of}
use Rattle.mungaite.specs.Code.{extent_code, record_in}
use Rattle.mungaite.proofs.record_in.Goals as goal

pub returns-in-Ok : goal.returns-in-Ok
unfolding record_in
returns-in-Ok c = c.parts.ensures ∙ ap (code_of extent_code) (sym c.in-Ok.is ∙ (rw c.from.ensures at c.find.ensures))

pub returns-in-Err : goal.returns-in-Err
unfolding record_in
returns-in-Err c = c.refused.ensures ∙ ap (code_of extent_code) (sym c.in-Err.is ∙ (rw c.from.ensures at c.find.ensures))
