-- `mungaite_add` meets its contract: a case for each answer of adding. Assumes nothing.
use mathlib.Core.Path.{sym, ap, ◌∙◌}
use Rattle.decision.specs.Numbers.{code_of, parts_of}
use Rattle.mungaite.specs.Code.{add_code}
use Rattle.mungaite.proofs.mungaite_add.Goals as goal

pub returns-in-Ok : goal.returns-in-Ok
unfolding add_code
returns-in-Ok c = (c.parts.ensures ∙ ap (code_of (parts_of 1 0)) (sym c.in-Ok.is ∙ c.add.ensures.answer), c.add.ensures.buffer)

pub returns-in-Err : goal.returns-in-Err
unfolding add_code
returns-in-Err c = (c.refused.ensures ∙ ap (code_of (parts_of 1 0)) (sym c.in-Err.is ∙ c.add.ensures.answer), c.add.ensures.buffer)
