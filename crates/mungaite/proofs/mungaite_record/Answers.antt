-- `mungaite_record` meets its contract: a case for each section. Assumes nothing.
use Rattle.std.proofs.Common.{arith}
use mathlib.Core.Path.{sym, ap, ◌∙◌}
use Rattle.format.proofs.Chain.{outcome_gives, outcome_refused}
use Rattle.decision.specs.Numbers.{refusal_code}
use Rattle.mungaite.specs.Code.{fault_code}
use Rattle.mungaite.proofs.CodeLaws.{record_groups, record_rules, record_constraints, record_nowhere, no_section_accepted, no_section_refused}
use Rattle.mungaite.proofs.mungaite_record.Goals as goal

pub returns-in-0 : goal.returns-in-0
returns-in-0 c = c.record_in.ensures ∙ sym (record_groups _ _ _ c.in-0.is)

pub returns-in-1 : goal.returns-in-1
returns-in-1 c = c.record_in-in-1.ensures ∙ sym (record_rules _ _ _ c.in-1.is)

pub returns-in-2 : goal.returns-in-2
returns-in-2 c = c.record_in-in-2.ensures ∙ sym (record_constraints _ _ _ c.in-2.is)

pub returns-in-Ok : goal.returns-in-Ok
returns-in-Ok c = c.refused.ensures ∙ ap refusal_code c.at.ensures ∙ sym (record_nowhere _ _ _ (λ e. absurd (omega arith)) (λ e. absurd (omega arith)) (λ e. absurd (omega arith)) ∙ ap fault_code (no_section_accepted _ (sym (outcome_gives _ _ (sym c.in-Ok.is ∙ c.check.ensures)).0)))

pub returns-in-Err : goal.returns-in-Err
returns-in-Err c = c.refused-in-Err.ensures ∙ sym (record_nowhere _ _ _ (λ e. absurd (omega arith)) (λ e. absurd (omega arith)) (λ e. absurd (omega arith)) ∙ ap fault_code (no_section_refused _ _ (sym (outcome_refused _ _ (sym c.in-Err.is ∙ c.check.ensures)))))
