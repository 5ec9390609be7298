-- `mungaite_convert` meets its contract: a case for each answer of converting. Assumes nothing.
use mathlib.Core.Path.{sym, ap, ◌∙◌}
use Rattle.decision.specs.Numbers.{code_of, parts_of}
use Rattle.mungaite.specs.Code.{convert_code}
use Rattle.mungaite.proofs.mungaite_convert.Goals as goal

pub returns-in-Ok : goal.returns-in-Ok
unfolding convert_code
returns-in-Ok c =
    let w = c.convert.ensures in
    (c.parts.ensures ∙ ap (code_of (parts_of 1 0)) (sym c.in-Ok.is ∙ w.answer), w.buffer)

pub returns-in-Err : goal.returns-in-Err
unfolding convert_code
returns-in-Err c =
    let w = c.convert.ensures in
    (c.refused.ensures ∙ ap (code_of (parts_of 1 0)) (sym c.in-Err.is ∙ w.answer), w.buffer)
