-- `run` meets its contract: after i rows the slots are filled so far, and the run comes to what the rows so far say.
use Rattle.std.proofs.Common.{ℕ, zero, suc, ◌+◌, ◌≡◌, ◌≤◌, ◌<◌, ◌++◌, List, map, length, get_or, take, drop, refl, sym, ap, subst, ◌∙◌, add-one, arith}
use Rattle.std.proofs.Math.ListN.{set, length-map, get_or-map}
use Rattle.std.proofs.lemmas.List.{length-take-le}
use Rattle.decision.specs.declared.Query.{Query}
use Rattle.runs.specs.Runs.{queries_fault, row_answer, Run}
use Rattle.runs.specs.Inner.Progress.{run_said, rows_for, next_run}
use Rattle.runs.proofs.Faults.{same_lengths}
use Rattle.runs.proofs.Fill.{fill, fill_next}
use Rattle.runs.proofs.Progress.{out_at, out_none, out_next, rows_most, rows_decided, ran_queries, wrote_queries}
use Rattle.decide.specs.declared.steps.Step.{Step}
use Rattle.decide.specs.Inner.Steps.{Stepped}
use Rattle.decide.proofs.ArrayLaws.{fill_front}
use Rattle.decide.proofs.VerdictLaws.{rows_first}
use Rattle.decide.proofs.batch.run.Goals as goal
use Rattle.format.specs.Answers.{Outcome}
use Rattle.decision.specs.declared.Decision.{Decision}

-- the rows that are decided have queries and slots
rows_few : (l : List ℕ) (n m r : ℕ) → r ≡ rows_for (run_said (queries_fault l n m)) n → (r ≤ n) × (r ≤ m)
rows_few l n m zero e = (omega arith, omega arith)
rows_few l n m (suc k) e =
    let f = queries_fault l n m in
    let same = same_lengths l n m (rows_decided f n k (omega (arith, e))) in
    (omega (arith, e, rows_most f n), omega (arith, e, rows_most f n, same))

-- what the run comes to after a row, and its slot
module _ (l : List ℕ) (qs : List Query) (i : ℕ) (d : Query) (h : i < length qs) (r : Run) (s : Step)
    (z : Stepped l (get_or qs i d) r i s) where
  row_run : (m : ℕ) → r ≡ out_at l (queries_fault l (length qs) m) qs i
      → s.progress.run ≡ out_at l (queries_fault l (length qs) m) qs (i + 1)
  row_run m e =
      let f = queries_fault l (length qs) m in
      z.run ∙ ap (λ x. next_run x i (row_answer l (get_or qs i d))) e ∙ out_next l f qs i d h
      ∙ ap (out_at l f qs) (sym (add-one i))

  row_slots : (ys zs : List (Outcome Decision)) → i < length ys → zs ≡ fill (map (row_answer l) qs) ys i
      → set zs i s.answer ≡ fill (map (row_answer l) qs) ys (i + 1)
  row_slots ys zs k e =
      let xs = map (row_answer l) qs in
      let many : i < length xs = subst (λ n. i < n) (sym (length-map qs (row_answer l))) h in
      ap (λ (x : List (Outcome Decision)). set x i s.answer) e
      ∙ ap (set (fill xs ys i) i) (z.answer ∙ sym (get_or-map (row_answer l) qs i d))
      ∙ fill_next xs ys i (row_answer l d) many k
      ∙ ap (fill xs ys) (sym (add-one i))

pub slice_bounds-slots-end : goal.slice_bounds-slots-end
slice_bounds-slots-end c =
    let h = rows_few c.args.image.now (length c.args.queries.now) (length c.args.answers.now) _ c.begin_queries-rows.ensures.rows in
    omega (arith, h.1)

pub slice_bounds-slots-end-2 : goal.slice_bounds-slots-end-2
slice_bounds-slots-end-2 c =
    let h = rows_few c.args.image.now (length c.args.queries.now) (length c.args.answers.now) _ c.begin_queries-rows.ensures.rows in
    sym (length-take-le _ c.args.answers.now h.1)

pub loop-i-init : goal.loop-i-init
loop-i-init c =
    let l = c.args.image.now in
    let qs = c.args.queries.now in
    let begun = c.begin_queries-rows.ensures in
    record {
      ran = begun.run ∙ out_none l (queries_fault l (length qs) (length c.args.answers.now)) qs;
      are = refl;
      kept = rows_first _ _ _ begun.fresh c.new-tables.ensures;
    }

pub loop-i-preserved : goal.loop-i-preserved
loop-i-preserved c =
    let l = c.args.image.now in
    let qs = c.args.queries.now in
    let ys = c.args.answers.now in
    let L = c.loop-i in
    let few = rows_few l (length qs) (length ys) _ c.begin_queries-rows.ensures.rows in
    let long = length-take-le c.begin_queries-rows.result.rows ys few.1 in
    let h : L.i < length qs = omega (arith, long, few.0) in
    let r = c.decide_row-s.ensures in
    record {
      ran = row_run l qs L.i _ h _ c.decide_row-s.result r.0 (length ys) L.invariant.ran;
      are = row_slots l qs L.i _ h _ c.decide_row-s.result r.0 _ L.slots c.loop-i-test.true L.invariant.are;
      kept = r.1;
    }

pub returns : goal.returns
returns c =
    let l = c.args.image.now in
    let qs = c.args.queries.now in
    let ys = c.args.answers.now in
    let L = c.loop-i in
    let xs = map (row_answer l) qs in
    let f = queries_fault l (length qs) (length ys) in
    let rows = c.begin_queries-rows.result.rows in
    let few = rows_few l (length qs) (length ys) rows c.begin_queries-rows.ensures.rows in
    let long = length-take-le rows ys few.1 in
    let all : L.i ≡ rows = omega (arith, long) in
    let e = c.begin_queries-rows.ensures.rows in (
      L.invariant.ran ∙ ap (out_at l f qs) (all ∙ e) ∙ ran_queries l qs (length ys),
      ap (λ (zs : List (Outcome Decision)). zs ++ drop rows ys) (L.invariant.are ∙ ap (fill xs (take rows ys)) all)
          ∙ fill_front xs ys rows (omega (arith, few.0, length-map qs (row_answer l))) few.1
          ∙ ap (fill xs ys) e ∙ wrote_queries l qs ys,
    )
