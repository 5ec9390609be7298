-- `mungaite_build` meets its contract: a case for each answer of building. Assumes nothing.
use mathlib.Core.Path.{sym, ap, ◌∙◌}
use Rattle.mungaite.specs.Code.{build_code}
use Rattle.mungaite.proofs.mungaite_build.Goals as goal

pub returns-in-Ok : goal.returns-in-Ok
unfolding build_code
returns-in-Ok c = let d = c.build in
    (ap build_code (sym c.in-Ok.is ∙ d.ensures.answer), d.ensures.buffer)

pub returns-in-Err : goal.returns-in-Err
unfolding build_code
returns-in-Err c = let d = c.build in
    rw c.from.ensures (ap build_code (sym c.in-Err.is ∙ d.ensures.answer), d.ensures.buffer)
