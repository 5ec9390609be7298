-- `recall` meets its contract: a refused image has no verdicts. Assumes nothing.
use mathlib.Core.Path.{sym, subst, ◌∙◌}
use Rattle.format.proofs.Chain.{outcome_refused}
use Rattle.decide.specs.declared.verdicts.Held.{Held}
use Rattle.decide.specs.Inner.Verdicts.{Recalled}
use Rattle.decide.proofs.VerdictLaws.{recalled_refused, refused_not}
use Rattle.decide.proofs.policy.Survey.recall.Goals as goal

pub returns-in-Err : goal.returns-in-Err
returns-in-Err c =
    let a = c.args in
    subst (λ (h : Held). Recalled a.self.image.now a.switches h a.verdicts.now) (sym c.first_held.ensures)
    (recalled_refused _ _ _ (refused_not _ _ (outcome_refused _ _ (sym c.in-Err.is ∙ c.args.self.surveyed.sections))))
