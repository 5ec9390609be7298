-- `survey` meets its contract: 1 to 7 with a table that has a slot for each group, and then the twins. Assumes nothing.
use mathlib.Core.Path.{◌≡◌, sym, ap, ◌∙◌}
use Rattle.std.specs.Prelude.{Ok, Err}
use lib.ListN.{length}
use Rattle.format.specs.Check.{LaidOut}
use Rattle.format.specs.Answers.{starts}
use Rattle.format.proofs.Chain.{outcome_gives, outcome_refused}
use Rattle.image.proofs.SurveyLaws.{checks_refused, checks_laid, checks_groups, checks_placed, check_refused, check_twin, check_none}
use borrow.Author.Rules.{rules}
use Rattle.image.proofs.checker.survey.Goals as goal

pub check_twins-requires : goal.check_twins-requires
check_twins-requires c =
    let table_long : length c.args.groups.now ≡ 256 = search rules in
    let laid : LaidOut c.args.image.now × (c.in_ok-starts.starts ≡ starts c.args.image.now) = checks_laid _ _ _ _ c.check_all.ensures _ (sym c.in_ok-starts.was) in
    checks_placed _ _ _ _ c.check_all.ensures table_long laid.0

pub returns-in_err-starts : goal.returns-in_err-starts
returns-in_err-starts c =
    let table_long : length c.args.groups.now ≡ 256 = search rules in
    let e = checks_refused _ _ _ _ c.check_all.ensures _ (sym c.in_err-starts.was) in
    let passed_on : c.from_residual.result ≡ Err c.in_err-starts.field-0.0 = search rules in
    record { sections = passed_on ∙ check_refused _ _ e; groups = checks_groups _ _ _ _ c.check_all.ensures table_long }

pub returns-in_err-check_twins : goal.returns-in_err-check_twins
returns-in_err-check_twins c =
    let table_long : length c.args.groups.now ≡ 256 = search rules in
    let laid : LaidOut c.args.image.now × (c.in_ok-starts.starts ≡ starts c.args.image.now) = checks_laid _ _ _ _ c.check_all.ensures _ (sym c.in_ok-starts.was) in
    let passed_on : c.from_residual-in_err-check_twins.result ≡ Err c.in_err-check_twins.field-0.0 = search rules in
    let e = outcome_refused _ _ (sym c.in_err-check_twins.was ∙ c.check_twins.ensures) in
    record { sections = passed_on ∙ check_twin _ laid.0 e; groups = checks_groups _ _ _ _ c.check_all.ensures table_long }

pub returns : goal.returns
returns c =
    let table_long : length c.args.groups.now ≡ 256 = search rules in
    let laid : LaidOut c.args.image.now × (c.in_ok-starts.starts ≡ starts c.args.image.now) = checks_laid _ _ _ _ c.check_all.ensures _ (sym c.in_ok-starts.was) in
    let e = outcome_gives _ _ (sym c.in_ok-check_twins.was ∙ c.check_twins.ensures) in
    record {
      sections = ap Ok laid.1 ∙ check_none _ laid.0 e.0;
      groups = checks_groups _ _ _ _ c.check_all.ensures table_long;
    }
