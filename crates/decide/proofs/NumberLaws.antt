-- Laws of a run over numbers. Assumes nothing.
--     fault, codes, out, rows    its refusal, its rows' numbers, what it comes to after i rows, how many are decided
--     begun_numbers              what it begins with
--     row_slot                   the slot of a row that is decided
--     row_run, row_code          what the run comes to after it, and its slot
--     rows_few                   the rows that are decided have numbers and slots
--     row_here                   six numbers of the list are a row of it
use Prim.Native.Nat.{ℕ, zero, suc, ◌+◌, ◌*◌, ◌/◌, ◌≤◌, ◌<◌}
use mathlib.Core.Path.{◌≡◌, sym, ap, subst, ◌∙◌}
use mathlib.Core.Bool.{Bool}
use Rattle.std.specs.Prelude.{Option, None}
use mathlib.Core.List.{List, [], map}
use native.Mathlib.Omega.{arith}
use native.Mathlib.Numerals.{add-one}
use lib.ListN.{length, get_or, set, take, drop, length-map, get_or-map}
use Rattle.std.specs.Simd.{first_chunks}
use Rattle.std.proofs.lemmas.List.{get_or-take, get_or-drop}
use Rattle.decide.proofs.ArrayLaws.{chunk_nth}
use lib.Dec.{eqb}
use Rattle.format.specs.declared.Refusal.{Refusal}
use Rattle.decision.specs.declared.Query.{Query}
use Rattle.decision.specs.Decide.{query_of}
use Rattle.decision.specs.Numbers.{decision_code}
use Rattle.runs.specs.Runs.{run_fault, row_answer, Run}
use Rattle.runs.specs.Numbers.{rows_of, numbers_fault, row_code}
use Rattle.runs.specs.Inner.Progress.{run_said, rows_for, next_run, row_at}
use Rattle.runs.proofs.Fill.{fill, fill_next}
use Rattle.runs.proofs.Faults.{numbers_fault_lem, same_count}
use Rattle.runs.proofs.Holds.{answer_code}
use Rattle.runs.proofs.Numbered.{row_at_lem, rows_many}
use Rattle.runs.proofs.Progress.{out_at, out_next, rows_most, rows_decided}
use Rattle.decide.specs.declared.steps.Begun.{Begun}
use Rattle.decide.specs.declared.steps.Step.{Step}
use Rattle.decide.specs.Inner.Steps.{Begins, Stepped}
use Rattle.format.specs.Answers.{Outcome}
use Rattle.decision.specs.declared.Decision.{Decision}

abbrev no_query : Query
no_query = query_of 0 0 0 0 0

module _ (l ns ys : List ℕ) where
  abbrev pub fault : Option Refusal
  fault = numbers_fault l (length ns) (length ys)

  abbrev pub codes : List ℕ
  codes = map (row_code l) (rows_of ns)

  abbrev pub out : ℕ → Run
  out i = out_at l fault (rows_of ns) i

  abbrev pub rows : ℕ
  rows = rows_for (run_said fault) (length (rows_of ns))

  pub begun_numbers : (t : Bool) (b : Begun) (n : ℕ) → t ≡ eqb (length ns) (6 * length ys) → n ≡ length ns / 6
      → Begins l n (run_fault l n t) b → Begins l (length (rows_of ns)) fault b
  begun_numbers t b n e many k' =
      let k = subst (λ n. Begins l n (run_fault l n t) b) many k' in
      let f : run_fault l (length ns / 6) t ≡ fault =
      ap (run_fault l (length ns / 6)) e ∙ sym (numbers_fault_lem l (length ns) (length ys)) in
      subst (λ n. Begins l n fault b) (sym (rows_many ns)) (subst (λ x. Begins l (length ns / 6) x b) f k)

  module _ (i r : ℕ) (e : r ≡ rows) (h : i < r) where
    row_none : fault ≡ None
    row_none = rows_decided fault (length (rows_of ns)) i (subst (λ n. i < n) e h)

    row_in : i < length (rows_of ns)
    row_in = let k = rows_most fault (length (rows_of ns)) in omega (arith, h, e, k)

    pub row_slot : i < length ys
    row_slot = omega (arith, same_count l (length ns) (length ys) row_none, rows_many ns, row_in)

    module _ (q : Query) (s : Step) (a : q ≡ row_at ns i) (z : Stepped l q (out i) i s) where
      asked : q ≡ get_or (rows_of ns) i no_query
      asked = a ∙ sym (row_at_lem ns i no_query row_in)

      pub row_run : s.progress.run ≡ out (i + 1)
      row_run =
          z.run ∙ ap (λ (x : Query). next_run (out i) i (row_answer l x)) asked
          ∙ out_next l fault (rows_of ns) i no_query row_in ∙ ap out (sym (add-one i))

      pub row_code_lem : (c : ℕ) → c ≡ decision_code (s.answer) → (slots zs : List ℕ) → i < length slots
          → zs ≡ fill codes slots i → set zs i c ≡ fill codes slots (i + 1)
      row_code_lem c w slots zs k y =
          let v : c ≡ row_code l (get_or (rows_of ns) i no_query) =
          w ∙ ap (λ (x : Outcome Decision). decision_code (x)) z.answer ∙ answer_code l q ∙ ap (row_code l) asked in
          ap (λ (x : List ℕ). set x i c) y
          ∙ ap (set (fill codes slots i) i) (v ∙ sym (get_or-map (row_code l) (rows_of ns) i no_query))
          ∙ fill_next codes slots i (row_code l no_query)
          (subst (λ n. i < n) (sym (length-map (rows_of ns) (row_code l))) row_in) k
          ∙ ap (fill codes slots) (sym (add-one i))

  pub rows_few : (r : ℕ) → r ≡ rows → (r ≤ length (rows_of ns)) × (r ≤ length ys)
  rows_few zero e = (omega arith, omega arith)
  rows_few (suc k) e =
      let h : k < suc k = omega arith in (omega (arith, row_in k (suc k) e h), omega (arith, row_slot k (suc k) e h))

-- six numbers of a list are a row of it
pub row_here : (ns : List ℕ) (rows : List (List ℕ)) (n i : ℕ) → rows ≡ first_chunks 6 n ns → i < n
    → row_at (get_or rows i []) 0 ≡ row_at ns i
row_here ns rows n i e h =
    let six : List ℕ = take 6 (drop (6 * i) ns) in
    let at : get_or rows i [] ≡ six = ap (λ (xs : List (List ℕ)). get_or xs i []) e ∙ chunk_nth 6 n i ns h in
    let n0 : get_or six 0 0 ≡ get_or ns (6 * i) 0 = num 0 (omega arith) ∙ ap (λ k. get_or ns k 0) (omega arith) in
    let n1 : get_or six 1 0 ≡ get_or ns (6 * i + 1) 0 = num 1 (omega arith) in
    let n2 : get_or six 2 0 ≡ get_or ns (6 * i + 2) 0 = num 2 (omega arith) in
    let n3 : get_or six 3 0 ≡ get_or ns (6 * i + 3) 0 = num 3 (omega arith) in
    let n4 : get_or six 4 0 ≡ get_or ns (6 * i + 4) 0 = num 4 (omega arith) in
    let n5 : get_or six 5 0 ≡ get_or ns (6 * i + 5) 0 = num 5 (omega arith) in
    let same : row_at six 0 ≡ row_at ns i = cc in
    ap (λ (x : List ℕ). row_at x 0) at ∙ same
  where
    num : (k : ℕ) → k < 6 → get_or (take 6 (drop (6 * i) ns)) k 0 ≡ get_or ns (6 * i + k) 0
    num k h = get_or-take 6 (drop (6 * i) ns) k 0 h ∙ get_or-drop (6 * i) ns k 0
