-- A run after its first i rows. Assumes nothing.
--     out_at l f qs i          what it comes to, where f is its refusal
--     out_none, out_next      before the first row, and one row more
--     rows_most, rows_decided   at most all rows are decided, and one is only where nothing is refused
--     ran, wrote              after the last: what it comes to, and its slots; ran_queries, wrote_queries, ran_numbers, wrote_numbers
--     open_fault_lem              the refusal, from what the check gave
use Prim.Native.Nat.{ℕ, suc, ◌≤◌, ◌<◌}
use mathlib.Core.Path.{◌≡◌, refl, sym, ap, ◌∙◌}
use mathlib.Core.Bool.{Bool, not}
use Rattle.std.specs.Prelude.{Option, None, Some}
use mathlib.Core.List.{List, map}
use native.Mathlib.Nat.{not-suc-le-zero, zero-add}
use native.Mathlib.Omega.{arith}
use lib.ListN.{length, length-map, get_or, take}
use lib.Seq.{take-length}
use Rattle.format.specs.declared.Refusal.{Refusal}
use Rattle.format.specs.declared.Starts.{Starts}
use Rattle.format.specs.Refusals.{unless_refused}
use Rattle.format.specs.Check.{check}
use Rattle.std.specs.Prelude.{Ok, Err}
use Rattle.format.specs.Answers.{Outcome, outcome}
use Rattle.format.proofs.Chain.{or_else_next, or_else_first, unless_accepted, unless_refused_lem}
use Rattle.decision.specs.declared.Query.{Query}
use Rattle.decision.specs.declared.Decision.{Decision}
use Rattle.decision.specs.declared.Decision.TheVariants.{NotPermitted, Permitted, UnKnown}
use Rattle.decision.specs.Decide.{first_at, answer}
use Rattle.decision.proofs.Search.{or_now, first_at_nil, first_at_next}
use Rattle.runs.specs.Runs.{run_fault, queries_fault, is_permitted, unfit, first_unfit, run_of, row_answer, answers_after, Run}
use Rattle.runs.specs.Numbers.{rows_of, numbers_fault, numbers_run, row_code, codes_after}
use Rattle.runs.specs.Inner.Progress.{open_fault, run_said, rows_for, next_run}
use Rattle.runs.proofs.Fill.{fill, fill_all}
use Rattle.runs.proofs.Faults.{same_lengths, same_count}
use Rattle.runs.proofs.Numbered.{rows_many}

-- ---- the refusal

pub open_fault_lem : (l : List ℕ) (s : Starts) (n : ℕ) (fits : Bool) → open_fault (outcome (check l) s) n fits ≡ run_fault l n fits
unfolding run_fault
open_fault_lem l s n fits = go (check l) refl
  where
    go : (f : Option Refusal) → check l ≡ f → open_fault (outcome f s) n fits ≡ run_fault l n fits
    go None e = sym (or_else_next _ e)
    go (Some f) e = sym (or_else_first _ e)

-- ---- the rows so far

next_result : (f : Option Refusal) (o : Option ℕ) (i : ℕ) (x : Outcome Decision) → next_run (outcome f o) i x ≡ outcome f (or_now o i (not (is_permitted x)))
next_result None None i (Ok (NotPermitted x)) = refl
next_result None None i (Ok (Permitted r)) = refl
next_result None None i (Ok (UnKnown r c)) = refl
next_result None None i (Err f) = refl
next_result None (Some n) i x = refl
next_result (Some f) o i x = refl

module _ (l : List ℕ) (f : Option Refusal) (qs : List Query) where
  abbrev pub out_at : ℕ → Run
  out_at i = outcome f (first_unfit l (take i qs))

  pub out_none : run_said f ≡ out_at 0
  unfolding first_unfit
  out_none = go f ∙ ap (outcome f) (sym (first_at_nil (unfit l) 0))
    where
      go : (f : Option Refusal) → run_said f ≡ outcome f None
      go None = refl
      go (Some f) = refl

  pub out_next : (i : ℕ) (d : Query) → i < length qs → next_run (out_at i) i (row_answer l (get_or qs i d)) ≡ out_at (suc i)
  unfolding row_answer unfit first_unfit
  out_next i d k =
      next_result f (first_at (unfit l) 0 (take i qs)) i (answer l (get_or qs i d)) ∙ ap (outcome f) (first_at_next (unfit l) qs 0 i i d (sym (zero-add i)) k)

pub rows_most : (f : Option Refusal) (n : ℕ) → rows_for (run_said f) n ≤ n
rows_most None n = omega arith
rows_most (Some f) n = omega arith

pub rows_decided : (f : Option Refusal) (n i : ℕ) → i < rows_for (run_said f) n → f ≡ None
rows_decided None n i h = refl
rows_decided (Some f) n i h = absurd (not-suc-le-zero h)

-- ---- after the last row

pub ran : (l : List ℕ) (f : Option Refusal) (qs : List Query) → out_at l f qs (rows_for (run_said f) (length qs)) ≡ outcome f (first_unfit l qs)
ran l None qs = ap (λ (xs : List Query). outcome None (first_unfit l xs)) (take-length qs)
ran l (Some f) qs = refl

pub wrote : {A : Type 0} (f : Option Refusal) (xs ys : List A) → (f ≡ None → length xs ≡ length ys) → fill xs ys (rows_for (run_said f) (length xs)) ≡ unless_refused f xs ys
wrote None xs ys h = fill_all xs ys (h refl) ∙ sym (unless_accepted xs ys refl)
wrote (Some f) xs ys h = sym (unless_refused_lem xs ys refl)

-- of queries, and of numbers
pub ran_queries : (l : List ℕ) (qs : List Query) (m : ℕ) → (let f = queries_fault l (length qs) m in out_at l f qs (rows_for (run_said f) (length qs))) ≡ run_of l qs m
unfolding run_of
ran_queries l qs m = ran l (queries_fault l (length qs) m) qs

pub wrote_queries : (l : List ℕ) (qs : List Query) (ys : List (Outcome Decision)) → fill (map (row_answer l) qs) ys (rows_for (run_said (queries_fault l (length qs) (length ys))) (length qs)) ≡ answers_after l qs ys
unfolding answers_after
wrote_queries l qs ys =
    let f = queries_fault l (length qs) (length ys) in
    let n = length-map qs (row_answer l) in
    ap (λ k. fill (map (row_answer l) qs) ys (rows_for (run_said f) k)) (sym n)
    ∙ wrote f (map (row_answer l) qs) ys (λ e. n ∙ sym (same_lengths l (length qs) (length ys) e))

pub ran_numbers : (l ns : List ℕ) (m : ℕ) → (let f = numbers_fault l (length ns) m in out_at l f (rows_of ns) (rows_for (run_said f) (length (rows_of ns)))) ≡ numbers_run l ns m
unfolding numbers_run
ran_numbers l ns m = ran l (numbers_fault l (length ns) m) (rows_of ns)

pub wrote_numbers : (l ns ys : List ℕ) → fill (map (row_code l) (rows_of ns)) ys (rows_for (run_said (numbers_fault l (length ns) (length ys))) (length (rows_of ns))) ≡ codes_after l ns ys
unfolding codes_after
wrote_numbers l ns ys =
    let f = numbers_fault l (length ns) (length ys) in
    let n = length-map (rows_of ns) (row_code l) in
    ap (λ k. fill (map (row_code l) (rows_of ns)) ys (rows_for (run_said f) k)) (sym n)
    ∙ wrote f (map (row_code l) (rows_of ns)) ys (λ e. omega (arith, n, rows_many ns, same_count l (length ns) (length ys) e))
