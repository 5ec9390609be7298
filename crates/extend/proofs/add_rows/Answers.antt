-- `add_rows` meets its contract: the image is checked, and then its rows are added. Assumes nothing.
use mathlib.Core.Path.{◌≡◌, sym, ap, ◌∙◌}
use Rattle.std.specs.Prelude.{Err}
use Rattle.format.proofs.Chain.{outcome_gives, outcome_refused}
use Rattle.text.specs.Build.{Made}
use Rattle.text.proofs.Chunks.{added_front, added_refused}
use borrow.Author.Rules.{rules}
use Rattle.extend.proofs.add_rows.Goals as goal

pub add_each-requires : goal.add_each-requires
add_each-requires c = let q = outcome_gives _ _ (sym c.in_ok-sections.was ∙ c.front.ensures) in (q.0, q.1)

pub returns-in_err-sections : goal.returns-in_err-sections
returns-in_err-sections c = let a = c.args in
    let passed_on : c.from_residual.result ≡ Err c.in_err-sections.field-0.0 = search rules in
    let m = added_refused a.text.now a.buffer.now (outcome_refused _ _ (sym c.in_err-sections.was ∙ c.front.ensures)) in
    record { answer = passed_on ∙ ap (λ (x : Made). x.answer) (sym m); buffer = ap (λ (x : Made). x.buffer) (sym m) }

pub returns : goal.returns
returns c = let a = c.args in let d = c.add_each.ensures in
    let q = outcome_gives _ _ (sym c.in_ok-sections.was ∙ c.front.ensures) in
    let m = added_front a.text.now a.buffer.now q.0 in
    record { answer = d.answer ∙ ap (λ (x : Made). x.answer) (sym m); buffer = d.buffer ∙ ap (λ (x : Made). x.buffer) (sym m) }
