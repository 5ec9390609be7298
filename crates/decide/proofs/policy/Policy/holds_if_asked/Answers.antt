-- `holds_if_asked` meets its contract. Assumes nothing.
use mathlib.Core.Path.{sym, ◌∙◌}
use Rattle.decide.proofs.CoverLaws.{asked_no, asked_yes}
use Rattle.decide.proofs.policy.Policy.holds_if_asked.Goals as goal

pub returns-then-not-asked : goal.returns-then-not-asked
returns-then-not-asked c = record { is = sym (asked_no _ _ c.if-not-asked.true); kept = c.requires.1 }

pub returns : goal.returns
returns c = let f = c.inside.ensures in record { is = f.is ∙ sym (asked_yes _ _ c.if-not-asked.false); kept = f.kept }
