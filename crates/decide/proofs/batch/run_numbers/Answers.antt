-- `run_numbers` meets its contract: after i rows the slots are filled so far, and the run comes to what the rows so far say.
use native.Mathlib.Omega.{arith}
use mathlib.Core.Path.{◌≡◌, refl, sym, ap, subst, ◌∙◌}
use mathlib.Core.List.{List, ◌++◌}
use lib.ListN.{length, take, drop, length-map}
use Rattle.std.proofs.Common.{ℕ, ◌/◌, ◌<◌}
use Rattle.std.proofs.lemmas.List.{length-take-le}
use Rattle.runs.specs.Runs.{Run}
use Rattle.runs.specs.Numbers.{rows_of, row_code}
use Rattle.runs.proofs.Numbered.{rows_many}
use Rattle.runs.proofs.Fill.{fill}
use Rattle.runs.proofs.Progress.{out_none, ran_numbers, wrote_numbers}
use Rattle.decide.specs.Inner.Steps.{Stepped}
use Rattle.decide.proofs.ArrayLaws.{fill_front}
use Rattle.decide.proofs.VerdictLaws.{rows_first}
use Rattle.decide.proofs.NumberLaws.{fault, codes, out, begun_numbers, row_run, row_code_lem, rows_few, row_here}
use Rattle.decide.proofs.batch.run_numbers.Goals as goal

pub slice_bounds-slots-end : goal.slice_bounds-slots-end
slice_bounds-slots-end c =
    let begins = begun_numbers c.args.image.now c.args.queries.now c.args.answers.now _ _ _ c.six_each-fits.ensures
    c.as_chunks.ensures.front_len c.begin-count.ensures in
    omega (arith, (rows_few _ _ _ _ begins.rows).1)

pub slice_bounds-slots-end-2 : goal.slice_bounds-slots-end-2
slice_bounds-slots-end-2 c =
    let begins = begun_numbers c.args.image.now c.args.queries.now c.args.answers.now _ _ _ c.six_each-fits.ensures
    c.as_chunks.ensures.front_len c.begin-count.ensures in
    sym (length-take-le _ c.args.answers.now (rows_few _ _ _ _ begins.rows).1)

pub loop-i-init : goal.loop-i-init
loop-i-init c =
    let begins = begun_numbers c.args.image.now c.args.queries.now c.args.answers.now _ _ _ c.six_each-fits.ensures
    c.as_chunks.ensures.front_len c.begin-count.ensures in
    record {
      ran = begins.run ∙ out_none _ (fault c.args.image.now c.args.queries.now c.args.answers.now) (rows_of c.args.queries.now);
      are = refl;
      kept = rows_first _ _ _ begins.fresh c.new-tables.ensures;
    }

pub bounds-rows-i : goal.bounds-rows-i
bounds-rows-i c =
    let ns = c.args.queries.now in
    let begins = begun_numbers c.args.image.now ns c.args.answers.now _ _ _ c.six_each-fits.ensures
    c.as_chunks.ensures.front_len c.begin-count.ensures in
    let few = rows_few _ _ _ _ begins.rows in
    let long = length-take-le _ c.args.answers.now few.1 in
    omega (arith, long, few.0, rows_many ns, c.as_chunks.ensures.front_len)

pub invariant_of-surveyed : goal.invariant_of-surveyed
invariant_of-surveyed c =
    let begins = begun_numbers c.args.image.now c.args.queries.now c.args.answers.now _ _ _ c.six_each-fits.ensures
    c.as_chunks.ensures.front_len c.begin-count.ensures in
    record { surveyed = begins.surveyed }

pub loop-i-preserved : goal.loop-i-preserved
loop-i-preserved c =
    let l = c.args.image.now in
    let ns = c.args.queries.now in
    let ys = c.args.answers.now in
    let begins = begun_numbers l ns ys _ _ _ c.six_each-fits.ensures c.as_chunks.ensures.front_len c.begin-count.ensures in
    let long = length-take-le _ ys (rows_few _ _ _ _ begins.rows).1 in
    let L = c.loop-i in
    let r = c.decide_row-s.ensures in
    let s = c.decide_row-s.result in
    let h : L.i < c.begin-count.result.rows = omega (arith, long) in
    let here : L.i < length ns / 6 = omega (arith, h, (rows_few _ _ _ _ begins.rows).0, rows_many ns) in
    let z : Stepped l c.query_of-q.result (out l ns ys L.i) L.i s =
    subst (λ (x : Run). Stepped l c.query_of-q.result x L.i s) L.invariant.ran r.0 in
    let asked = c.query_of-q.ensures ∙ row_here ns _ _ L.i c.as_chunks.ensures.front here in
    record {
      ran = row_run l ns ys L.i _ begins.rows h _ s asked z;
      are = row_code_lem l ns ys L.i _ begins.rows h _ s asked z _ c.number.ensures _ L.slots c.loop-i-test.true L.invariant.are;
      kept = r.1;
    }

pub returns : goal.returns
returns c =
    let l = c.args.image.now in
    let ns = c.args.queries.now in
    let ys = c.args.answers.now in
    let begins = begun_numbers l ns ys _ _ _ c.six_each-fits.ensures c.as_chunks.ensures.front_len c.begin-count.ensures in
    let L = c.loop-i in
    let rows = c.begin-count.result.rows in
    let few = rows_few l ns ys rows begins.rows in
    let all : L.i ≡ rows = omega (arith, length-take-le rows ys few.1) in (
      L.invariant.ran ∙ ap (out l ns ys) (all ∙ begins.rows) ∙ ran_numbers l ns (length ys),
      ap (λ (zs : List ℕ). zs ++ drop rows ys) (L.invariant.are ∙ ap (fill (codes l ns ys) (take rows ys)) all)
          ∙ fill_front (codes l ns ys) ys rows (omega (arith, few.0, length-map (rows_of ns) (row_code l))) few.1
          ∙ ap (fill (codes l ns ys) ys) begins.rows ∙ wrote_numbers l ns ys,
    )
