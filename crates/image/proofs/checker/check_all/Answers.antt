-- `check_all` meets its contract: the header is checked before the body, and a bad header leaves the table. Assumes nothing.
use mathlib.Core.Path.{◌≡◌, sym, ap, ◌∙◌}
use Rattle.std.specs.Prelude.{None, Err}
use lib.Dec.{eqb}
use Rattle.format.specs.Check.{header_fault}
use Rattle.format.specs.Answers.{outcome, starts}
use Rattle.format.proofs.Chain.{outcome_gives, outcome_refused, unless_accepted, unless_refused_lem}
use Rattle.image.proofs.BodyLaws.{header_stops, header_passes}
use borrow.Author.Rules.{rules}
use Rattle.image.proofs.checker.check_all.Goals as goal

pub check_body-requires : goal.check_body-requires
check_body-requires c = (outcome_gives _ _ (sym c.in_ok-check_header.was ∙ c.check_header.ensures)).0

pub returns-in_err-check_header : goal.returns-in_err-check_header
returns-in_err-check_header c =
    let passed_on : c.from_residual.result ≡ Err c.in_err-check_header.field-0.0 = search rules in
    let e = outcome_refused _ _ (sym c.in_err-check_header.was ∙ c.check_header.ensures) in
    record { sections = rw (passed_on, header_stops _ _ e); table = sym (unless_refused_lem _ _ e) }

pub returns : goal.returns
returns c =
    let passed : header_fault eqb c.args.image.now ≡ None = (outcome_gives _ _ (sym c.in_ok-check_header.was ∙ c.check_header.ensures)).0 in
    let q = c.check_body.ensures in
    record {
      sections = q.sections ∙ ap (λ f. outcome f (starts c.args.image.now)) (sym (header_passes _ passed));
      table = q.table ∙ sym (unless_accepted _ _ passed);
    }
