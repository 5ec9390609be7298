-- `mungaite_run` meets its contract. Assumes nothing.
use mathlib.Core.Path.{ap, ◌∙◌}
use lib.ListN.{length}
use Rattle.runs.specs.Numbers.{run_code}
use Rattle.runs.proofs.Numbered.{numbers_left}
use Rattle.mungaite.proofs.mungaite_run.Goals as goal

pub shape_of-answers : goal.shape_of-answers
shape_of-answers c = ap length c.run_numbers.ensures.1 ∙ (numbers_left _ _ _).0

pub returns : goal.returns
returns c = let r = c.run_numbers.ensures in (c.run_number.ensures ∙ ap run_code r.0, r.1)
