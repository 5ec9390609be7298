-- `survey_old` meets its contract: 1 to 7 with a table that has a slot for each group, and then the alike groups. Assumes nothing.
use Prim.Native.Nat.{ℕ}
use native.Mathlib.Omega.{arith}
use mathlib.Core.Path.{◌≡◌, sym, ap, ◌∙◌}
use mathlib.Core.List.{List}
use lib.ListN.{length}
use Rattle.format.specs.declared.Section.TheVariants.{Groups}
use Rattle.format.specs.Format.{count_of}
use Rattle.format.specs.Check.{LaidOut}
use Rattle.std.specs.Prelude.{Ok, Err}
use Rattle.format.specs.Answers.{starts}
use Rattle.format.proofs.ByCase.{count_groups}
use Rattle.format.proofs.Accepted.{laid_header}
use Rattle.image.proofs.AlikeLaws.{placed_as}
use Rattle.image.proofs.SurveyLaws.{checks_refused, checks_laid, checks_groups, checks_placed, alike_refused, alike_filled}
use borrow.Author.Rules.{rules}
use Rattle.image.proofs.checker.survey_old.Goals as goal

pub word_in-count-requires : goal.word_in-count-requires
word_in-count-requires c =
    let l : List ℕ = c.args.image.now in
    let laid : LaidOut l × (c.in_ok-starts.starts ≡ starts l) = checks_laid _ _ _ _ c.check_all.ensures _ (sym c.in_ok-starts.was) in
    omega (arith, (laid_header l laid.0).long)

pub fill_alike-requires : goal.fill_alike-requires
fill_alike-requires c =
    let table_long : length c.args.groups.now ≡ 256 = search rules in
    let l : List ℕ = c.args.image.now in
    let laid : LaidOut l × (c.in_ok-starts.starts ≡ starts l) = checks_laid _ _ _ _ c.check_all.ensures _ (sym c.in_ok-starts.was) in
    let count_is : c.word_in-count.result ≡ count_of l Groups = c.word_in-count.ensures.0 ∙ sym (count_groups l) in
    let placed = checks_placed _ _ _ _ c.check_all.ensures table_long laid.0 in
    (placed_as _ _ _ count_is placed, omega (arith, c.told-alike))

pub returns-in_err-starts : goal.returns-in_err-starts
returns-in_err-starts c =
    let table_long : length c.args.groups.now ≡ 256 = search rules in
    let e = checks_refused _ _ _ _ c.check_all.ensures _ (sym c.in_err-starts.was) in
    let passed_on : c.from_residual.result ≡ Err c.in_err-starts.field-0.0 = search rules in
    record {
      sections = rw (passed_on, e);
      groups = checks_groups _ _ _ _ c.check_all.ensures table_long;
      alike = λ g. alike_refused _ _ e g _;
    }

pub returns : goal.returns
returns c =
    let table_long : length c.args.groups.now ≡ 256 = search rules in
    let l : List ℕ = c.args.image.now in
    let laid : LaidOut l × (c.in_ok-starts.starts ≡ starts l) = checks_laid _ _ _ _ c.check_all.ensures _ (sym c.in_ok-starts.was) in
    let count_is : c.word_in-count.result ≡ count_of l Groups = c.word_in-count.ensures.0 ∙ sym (count_groups l) in
    record {
      sections = ap Ok laid.1 ∙ rw laid.0;
      groups = checks_groups _ _ _ _ c.check_all.ensures table_long;
      alike = alike_filled _ _ _ laid.0 (rw count_is at c.fill_alike.ensures);
    }
