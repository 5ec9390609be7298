-- `convert` meets its contract: it refuses what passes not 1 to 7. Assumes nothing.
use mathlib.Core.Path.{◌≡◌, sym, ◌∙◌}
use Rattle.std.specs.Prelude.{Err}
use lib.ListN.{replicate}
use Rattle.format.proofs.Chain.{outcome_gives, outcome_refused}
use Rattle.rewrite.proofs.AnswerLaws.{alike_all, converts_refused}
use borrow.Author.Rules.{rules}
use Rattle.rewrite.proofs.convert.Goals as goal

pub put_converted-requires : goal.put_converted-requires
put_converted-requires c = let survey = c.survey_old.ensures in
    let q = outcome_gives _ _ (sym c.in_ok-sections.was ∙ survey.sections) in (
      q.0,
      q.1,
      alike_all c.args.image.now (replicate 256 0) _ q.0 survey.alike,
    )

pub returns-in_err-sections : goal.returns-in_err-sections
returns-in_err-sections c =
    let passed_on : c.from_residual.result ≡ Err c.in_err-sections.field-0.0 = search rules in
    rw passed_on (converts_refused _ _ _ (outcome_refused _ _ (sym c.in_err-sections.was ∙ c.survey_old.ensures.sections)))
