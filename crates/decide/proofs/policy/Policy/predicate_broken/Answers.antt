-- `predicate_broken` meets its contract: each predicate number has its own. Assumes nothing.
use native.Mathlib.Omega.{arith}
use mathlib.Core.Path.{sym, ◌∙◌}
use Rattle.decide.proofs.ConstraintLaws.{broken_ban, broken_separation, broken_roster, broken_companion, predicate_is}
use Rattle.decide.proofs.policy.Policy.predicate_broken.Goals as goal

pub returns-in-0 : goal.returns-in-0
returns-in-0 c = sym (broken_ban _ _ (predicate_is _ _ _ c.requires ∙ c.in-0.is))

pub returns-in-1 : goal.returns-in-1
returns-in-1 c = c.separation_broken.ensures ∙ sym (broken_separation _ _ (predicate_is _ _ _ c.requires ∙ c.in-1.is))

pub returns-in-2 : goal.returns-in-2
returns-in-2 c = c.roster_broken.ensures ∙ sym (broken_roster _ _ (predicate_is _ _ _ c.requires ∙ c.in-2.is))

pub returns-in-3 : goal.returns-in-3
returns-in-3 c = let e = predicate_is _ _ _ c.requires ∙ c.in-3.is in
    c.companion_broken.ensures ∙ sym
    (broken_companion _ _ (λ k. absurd (omega (arith, e, k))) (λ k. absurd (omega (arith, e, k)))
    (λ k. absurd (omega (arith, e, k))))

pub returns-in_default : goal.returns-in_default
returns-in_default c = absurd (omega (arith, c.requires.predicate))
