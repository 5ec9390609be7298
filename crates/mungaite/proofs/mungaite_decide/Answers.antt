-- `mungaite_decide` meets its contract. Assumes nothing.
use mathlib.Core.Path.{ap, ◌∙◌}
use Rattle.decision.specs.Numbers.{decision_code}
use Rattle.mungaite.proofs.mungaite_decide.Goals as goal

pub returns : goal.returns
returns c = c.number.ensures ∙ ap decision_code c.decide.ensures
