-- `opening` meets its contract: the check's refusal, then 16, then 17. Assumes nothing.
use native.Mathlib.Omega.{arith}
use mathlib.Core.Path.{◌≡◌, sym, ap, ◌∙◌}
use Rattle.std.specs.Prelude.{None, Some}
use Rattle.format.specs.Refusals.{refusal}
use Rattle.runs.proofs.Faults.{rows_few, rows_many, rows_slots, rows_none}
use Rattle.decide.proofs.BatchLaws.{opened, opened_refused}
use Rattle.std.specs.Prelude.{Err}
use borrow.Author.Rules.{rules}
use Rattle.decide.proofs.steps.opening.Goals as goal

pub returns-then-rows-lt1 : goal.returns-then-rows-lt1
returns-then-rows-lt1 c = ap Err c.at.ensures ∙ opened _ _ _ _ (Some (refusal 16 0)) (sym c.in_ok-sections.was) (rows_few _ _ c.if-rows-lt1.true)

pub returns-then-rows-gt64 : goal.returns-then-rows-gt64
returns-then-rows-gt64 c = ap Err c.at-then-rows-gt64.ensures ∙ opened _ _ _ _ (Some (refusal 16 0)) (sym c.in_ok-sections.was) (rows_many _ _ c.if-rows-gt64.true)

pub returns-then-not-fits : goal.returns-then-not-fits
returns-then-not-fits c =
    ap Err c.at-then-not-fits.ensures
    ∙ opened _ _ _ _ (Some (refusal 17 0)) (sym c.in_ok-sections.was)
    (rows_slots _ _ (omega (arith, c.if-rows-lt1.false)) (omega (arith, c.if-rows-gt64.false)) c.if-not-fits.true)

pub returns-in_err-sections : goal.returns-in_err-sections
returns-in_err-sections c =
    let passed_on : c.from_residual.result ≡ Err c.in_err-sections.field-0.0 = search rules in
    passed_on ∙ opened_refused _ _ _ _ c.in_err-sections.was

pub returns : goal.returns
returns c =
    opened _ _ _ _ None (sym c.in_ok-sections.was)
    (rows_none _ _ (omega (arith, c.if-rows-lt1.false)) (omega (arith, c.if-rows-gt64.false)) c.if-not-fits.false)
