-- `denied` meets its contract: a case for each of the nearest. Assumes nothing.
use mathlib.Core.Path.{sym, ap, ◌∙◌}
use Rattle.decision.specs.Numbers.{nearest_code}
use Rattle.numbers.proofs.denied.Goals as goal

pub returns-in-None : goal.returns-in-None
returns-in-None c = c.parts.ensures ∙ ap nearest_code (sym c.in-None.is)

pub returns-in-Some : goal.returns-in-Some
returns-in-Some c = c.parts-in-Some.ensures ∙ ap nearest_code (sym c.in-Some.is)
