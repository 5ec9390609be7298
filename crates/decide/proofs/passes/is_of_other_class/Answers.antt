-- `is_of_other_class` meets its contract: only an allow rule asks for a class. Assumes nothing.
use mathlib.Core.Path.{sym, ap₂, ◌∙◌}
use mathlib.Core.Bool.{not}
use lib.Dec.{eqb}
use Rattle.decide.proofs.NearerLaws.{other_no, other_yes}
use Rattle.decide.proofs.passes.is_of_other_class.Goals as goal

pub returns-then-not-allow : goal.returns-then-not-allow
returns-then-not-allow c = sym (other_no _ _ (sym c.requires.1 ∙ c.if-not-allow.true) _)

pub returns : goal.returns
returns c =
    ap₂ (λ a b. not (eqb a b)) c.word_in.ensures.0 c.from.ensures
    ∙ sym (other_yes _ _ (sym c.requires.1 ∙ c.if-not-allow.false) _)
