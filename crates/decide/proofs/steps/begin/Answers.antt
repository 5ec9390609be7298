-- `begin` meets its contract: the check, the run's refusal, the rows that are decided. Assumes nothing.
use mathlib.Core.Path.{◌≡◌, refl, ap, ◌∙◌}
use Rattle.format.specs.Answers.{starts}
use Rattle.image.proofs.SurveyLaws.{survey_placed}
use Rattle.runs.specs.Runs.{run_fault}
use Rattle.runs.specs.Inner.Progress.{open_fault, run_said, rows_for}
use Rattle.runs.proofs.Progress.{open_fault_lem}
use Rattle.decide.proofs.steps.begin.Goals as goal

pub returns : goal.returns
returns c =
    let run_is : c.opening-run.result ≡ run_said (run_fault c.args.image.now c.args.rows c.args.fits) = let a = c.args in
    c.opening-run.ensures
    ∙ ap (λ o. run_said (open_fault o a.rows a.fits)) c.survey-sections.ensures.sections
    ∙ ap run_said (open_fault_lem a.image.now (starts a.image.now) a.rows a.fits) in
    let s = c.survey-sections.ensures in
    record {
      rows = c.decided.ensures ∙ ap (λ r. rows_for r c.args.rows) run_is;
      run = run_is;
      fresh = refl;
      surveyed = record { sections = s.sections; placed = survey_placed _ _ _ _ s };
    }
