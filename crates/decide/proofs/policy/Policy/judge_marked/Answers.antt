-- `judge_marked` meets its contract: the lowest covering rule and the lowest failing constraint make the decision. Assumes
-- nothing.
use mathlib.Core.Path.{refl, sym, ap, ◌∙◌}
use Rattle.decision.specs.declared.Decision.TheVariants.{NotPermitted}
use Rattle.decision.specs.Decide.{decision_of}
use Rattle.std.specs.Prelude.{Some, None}
use Rattle.decide.proofs.VerdictLaws.{written_same}
use Rattle.decide.proofs.EngineLaws.{engine_is, found_none}
use Rattle.decide.proofs.policy.Policy.judge_marked.Goals as goal

pub first_rule-requires : goal.first_rule-requires
first_rule-requires c = c.requires.0

pub nearest_rule-requires : goal.nearest_rule-requires
nearest_rule-requires c =
    let r = c.first_rule.ensures in
    (r.kept, found_none _ _ (sym c.in-None.is ∙ r.is))

pub first_constraint-requires : goal.first_constraint-requires
first_constraint-requires c = (c.first_rule.ensures.kept, c.requires.1)

pub returns-in-None : goal.returns-in-None
unfolding decision_of
returns-in-None c =
    record {
      is =
          ap NotPermitted c.nearest_rule.ensures
          ∙ engine_is _ _ None _ (sym c.in-None.is ∙ c.first_rule.ensures.is) refl;
      kept = written_same _ _ _ c.requires.1;
    }

pub returns-in-None-first_constraint : goal.returns-in-None-first_constraint
unfolding decision_of
returns-in-None-first_constraint c =
    let r = c.first_rule.ensures in
    let k = c.first_constraint.ensures in
    record {
      is = engine_is _ _ (Some _) None (sym c.in-Some.is ∙ r.is) (sym c.in-None-first_constraint.is ∙ k.is);
      kept = k.kept;
    }

pub returns-in-Some-first_constraint : goal.returns-in-Some-first_constraint
unfolding decision_of
returns-in-Some-first_constraint c =
    let r = c.first_rule.ensures in
    let k = c.first_constraint.ensures in
    record {
      is = engine_is _ _ (Some _) (Some _) (sym c.in-Some.is ∙ r.is) (sym c.in-Some-first_constraint.is ∙ k.is);
      kept = k.kept;
    }
