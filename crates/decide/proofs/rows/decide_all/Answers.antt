-- `decide_all` meets its contract: k slots are filled. Assumes nothing.
use native.Mathlib.Omega.{arith}
use Prim.Native.Nat.{◌<◌, ◌/◌}
use mathlib.Core.Path.{refl, ap, ◌∙◌}
use lib.ListN.{length}
use Rattle.std.proofs.lemmas.List.{length-take}
use Rattle.decision.specs.Decide.{answer}
use Rattle.decision.specs.Numbers.{decision_code}
use Rattle.image.proofs.SurveyLaws.{survey_placed}
use Rattle.decide.proofs.VerdictLaws.{rows_first}
use Rattle.decide.proofs.RowLaws.{rows_next, row_query, rows_end}
use Rattle.decide.proofs.rows.decide_all.Goals as goal

pub loop-k-init : goal.loop-k-init
loop-k-init c =
    record {
      are = refl;
      kept = rows_first _ _ _ refl c.new-tables.ensures;
    }

pub invariant_of-surveyed : goal.invariant_of-surveyed
invariant_of-surveyed c =
    let k = c.survey-sections.ensures in
    record { surveyed = record { sections = k.sections; placed = survey_placed _ _ _ _ k } }

pub loop-k-preserved : goal.loop-k-preserved
loop-k-preserved c =
    let l = c.args.image.now in
    let b = c.args.queries.now in
    let L = c.loop-k in
    let r = c.row-r.ensures in
    let h : L.k < length b / 12 =
    omega (arith, length-take c.min-count.result c.args.answers.now, c.as_chunks.ensures.front_len) in
    let q = row_query l b c.args.answers.now _ _ L.k c.as_chunks.ensures.front h in
    record {
      are = rows_next l b _ _ L.k _ h c.loop-k-test.true (r.0 ∙ ap (λ q. decision_code (answer l q)) q) L.invariant.are;
      kept = r.1;
    }

pub returns : goal.returns
returns c =
    let L = c.loop-k in
    let long = length-take c.min-count.result c.args.answers.now in
    let rows = c.as_chunks.ensures.front_len in
    record {
      value = omega (arith, rows);
      answers_after = rows_end _ _ _ L.slots L.k _ (omega (arith, rows)) (omega (arith, long)) L.invariant.are;
    }
