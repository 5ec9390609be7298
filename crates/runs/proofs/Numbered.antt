-- Rows as numbers: claims NumbersRun, NumbersWhole, NumbersAnswered, NumbersRefused, NumbersLeft, and where a row stands. Assumes
-- nothing.
--     same_test    two tests of the same numbers
--     row_at_lem       row i of a list of numbers
--     rows_many    how many whole rows it has
--     row_inside   a row's numbers are in the list
--     numbers_run_is   what a run comes to, by its refusal and its rows
--     row_below    the row that comes back is below 64
use Prim.Native.Nat.{ℕ, zero, suc, ◌+◌, ◌-◌, ◌*◌, ◌/◌, ◌%◌, ◌<◌}
use mathlib.Core.Path.{◌≡◌, refl, sym, ap, ap₂, ◌∙◌}
use mathlib.Core.Bool.{Bool, true, false}
use Rattle.std.specs.Prelude.{Option, None, Some}
use mathlib.Core.List.{List, [], ◌∷◌, map}
use native.Mathlib.Nat.{not-suc-le-zero, le_of_suc-le-suc}
use native.Mathlib.Omega.{arith}
use lib.ListN.{length, length-map, get_or}
use lib.Dec.{eqb}
use borrow.Author.Tests.{eqb-true, eqb-false, eq-eqb, ne_eqb}
use Rattle.format.specs.declared.Refusal.{Refusal}
use Rattle.format.specs.Refusals.{unless_refused}
use Rattle.format.specs.Answers.{outcome}
use Rattle.format.proofs.Chain.{unless_accepted, unless_refused_lem, outcome_refused}
use Rattle.decision.specs.declared.Query.{Query}
use Rattle.decision.specs.Decide.{query_of}
use Rattle.runs.specs.Runs.{run_fault, queries_fault, first_unfit, run_of}
use Rattle.runs.specs.Numbers.{word_from, rows_of, numbers_of, numbers_fault, numbers_run, row_code, codes_after}
use Rattle.runs.specs.Inner.Progress.{row_at}
use Rattle.runs.specs.Claims.{NumbersRun, NumbersWhole, NumbersAnswered, NumbersRefused, NumbersLeft}
use Rattle.runs.proofs.Faults.{same_count, few_numbers}
use Rattle.runs.proofs.Holds.{map_at, first_unfit_lem}

rows_read : (qs : List Query) → rows_of (numbers_of qs) ≡ qs
unfolding rows_of numbers_of
rows_read [] = refl
rows_read (q ∷ qs) =
    let same : query_of q.source q.dest q.class q.action (word_from (q.switches / 65536) (q.switches % 65536)) ≡ q =
    ap (query_of q.source q.dest q.class q.action) (omega arith) in
    ap₂ {C = List Query} (λ x r. x ∷ r) same (rows_read qs)

pub numbers_whole : NumbersWhole
unfolding rows_of numbers_of
numbers_whole [] m f e = refl
numbers_whole (s ∷ []) m f e = absurd (omega (arith, e))
numbers_whole (s ∷ x ∷ []) m f e = absurd (omega (arith, e))
numbers_whole (s ∷ x ∷ c ∷ []) m f e = absurd (omega (arith, e))
numbers_whole (s ∷ x ∷ c ∷ a ∷ []) m f e = absurd (omega (arith, e))
numbers_whole (s ∷ x ∷ c ∷ a ∷ h ∷ []) m f e = absurd (omega (arith, e))
numbers_whole (s ∷ x ∷ c ∷ a ∷ h ∷ w ∷ ns) m f e =
    let low : w < 65536 = f 5 in
    let high : (h * 65536 + w) / 65536 ≡ h = omega (arith, low) in
    let rest : (h * 65536 + w) % 65536 ≡ w = omega (arith, low) in
    let later = numbers_whole ns (m - 1) (λ i. f (suc (suc (suc (suc (suc (suc i))))))) (omega (arith, e)) in
    ap (λ r. s ∷ x ∷ c ∷ a ∷ (h * 65536 + w) / 65536 ∷ (h * 65536 + w) % 65536 ∷ r) later ∙ ap₂ (λ y z. s ∷ x ∷ c ∷ a ∷ y ∷ z ∷ ns) high rest

numbers_many : (qs : List Query) → length (numbers_of qs) ≡ 6 * length qs
unfolding numbers_of
numbers_many [] = refl
numbers_many (q ∷ qs) = omega (arith, numbers_many qs)

-- two tests of the same numbers
pub same_test : (a b c d : ℕ) → (a ≡ b → c ≡ d) → (c ≡ d → a ≡ b) → eqb a b ≡ eqb c d
same_test a b c d f g = go (eqb a b) refl
  where
    go : (t : Bool) → eqb a b ≡ t → t ≡ eqb c d
    go true e = sym (eq-eqb c d (f (eqb-true a b e)))
    go false e = sym (ne_eqb c d (λ k. eqb-false a b e (g k)))

fault_read : (l : List ℕ) (qs : List Query) (m : ℕ) → numbers_fault l (length (numbers_of qs)) m ≡ queries_fault l (length qs) m
unfolding numbers_fault queries_fault
fault_read l qs m =
    let h = numbers_many qs in
    let many : length (numbers_of qs) / 6 ≡ length qs = omega (arith, h) in
    ap₂ (run_fault l) many (same_test (length (numbers_of qs)) (6 * m) m (length qs) (λ e. omega (arith, e, h)) (λ e. omega (arith, e, h)))

pub numbers_run_lem : NumbersRun
unfolding numbers_run run_of codes_after
numbers_run_lem l qs ys = (
  ap₂ (λ f rows. outcome f (first_unfit l rows)) (fault_read l qs (length ys)) (rows_read qs),
  ap₂ (λ f rows. unless_refused f (map (row_code l) rows) ys) (fault_read l qs (length ys)) (rows_read qs),
)

-- ---- row i of a list of numbers

further : (x y z w u v : ℕ) (ns : List ℕ) (i : ℕ) → row_at (x ∷ y ∷ z ∷ w ∷ u ∷ v ∷ ns) (suc i) ≡ row_at ns i
further x y z w u v ns i =
    let a : List ℕ = x ∷ y ∷ z ∷ w ∷ u ∷ v ∷ ns in
    let from : (j k : ℕ) → j ≡ suc (suc (suc (suc (suc (suc k))))) → get_or a j 0 ≡ get_or ns k 0 = λ j k e. ap (λ n. get_or a n 0) e in
    let source = from (6 * suc i) (6 * i) (omega arith) in
    let dest = from (6 * suc i + 1) (6 * i + 1) (omega arith) in
    let class = from (6 * suc i + 2) (6 * i + 2) (omega arith) in
    let action = from (6 * suc i + 3) (6 * i + 3) (omega arith) in
    let high = from (6 * suc i + 4) (6 * i + 4) (omega arith) in
    let low = from (6 * suc i + 5) (6 * i + 5) (omega arith) in
    cc

pub row_at_lem : (ns : List ℕ) (i : ℕ) (d : Query) → i < length (rows_of ns) → get_or (rows_of ns) i d ≡ row_at ns i
unfolding rows_of
row_at_lem [] i d l = absurd (not-suc-le-zero l)
row_at_lem (s ∷ []) i d l = absurd (not-suc-le-zero l)
row_at_lem (s ∷ x ∷ []) i d l = absurd (not-suc-le-zero l)
row_at_lem (s ∷ x ∷ c ∷ []) i d l = absurd (not-suc-le-zero l)
row_at_lem (s ∷ x ∷ c ∷ a ∷ []) i d l = absurd (not-suc-le-zero l)
row_at_lem (s ∷ x ∷ c ∷ a ∷ h ∷ []) i d l = absurd (not-suc-le-zero l)
row_at_lem (s ∷ x ∷ c ∷ a ∷ h ∷ w ∷ ns) zero d l = refl
row_at_lem (s ∷ x ∷ c ∷ a ∷ h ∷ w ∷ ns) (suc i) d l = row_at_lem ns i d (le_of_suc-le-suc l) ∙ sym (further s x c a h w ns i)

pub rows_many : (ns : List ℕ) → length (rows_of ns) ≡ length ns / 6
unfolding rows_of
rows_many [] = omega arith
rows_many (s ∷ []) = omega arith
rows_many (s ∷ x ∷ []) = omega arith
rows_many (s ∷ x ∷ c ∷ []) = omega arith
rows_many (s ∷ x ∷ c ∷ a ∷ []) = omega arith
rows_many (s ∷ x ∷ c ∷ a ∷ h ∷ []) = omega arith
rows_many (s ∷ x ∷ c ∷ a ∷ h ∷ w ∷ ns) = omega (arith, rows_many ns)

pub row_inside : (ns : List ℕ) (i : ℕ) → i < length (rows_of ns) → 6 * i + 5 < length ns
row_inside ns i h = omega (arith, h, rows_many ns)

-- ---- the slots

pub numbers_refused : NumbersRefused
unfolding numbers_run
numbers_refused l ns slots f = (
  λ e. ap (λ g. outcome g (first_unfit l (rows_of ns))) e,
  λ e. outcome_refused (numbers_fault l (length ns) slots) (first_unfit l (rows_of ns)) (sym e),
)

pub numbers_left : NumbersLeft
unfolding codes_after
numbers_left l ns ys = (
  many (numbers_fault l (length ns) (length ys)) refl,
  λ f e. unless_refused_lem (map (row_code l) (rows_of ns)) ys ((numbers_refused l ns (length ys) f).1 e),
)
  where
    many : (f : Option Refusal) → numbers_fault l (length ns) (length ys) ≡ f → length (codes_after l ns ys) ≡ length ys
    many None e =
        let k = same_count l (length ns) (length ys) e in
        let m = length-map (rows_of ns) (row_code l) in
        ap length (unless_accepted (map (row_code l) (rows_of ns)) ys e) ∙ omega (arith, m, rows_many ns, k)
    many (Some f) e = ap length (unless_refused_lem (map (row_code l) (rows_of ns)) ys e)

pub numbers_answered : NumbersAnswered
unfolding codes_after row_code
numbers_answered l ns ys i y e k =
    let d : Query = query_of 0 0 0 0 0 in
    let h : i < length (rows_of ns) = omega (arith, k, same_count l (length ns) (length ys) e, rows_many ns) in
    ap (λ zs. get_or zs i y) (unless_accepted (map (row_code l) (rows_of ns)) ys e)
    ∙ map_at (row_code l) (rows_of ns) i d y h
    ∙ ap (row_code l) (row_at_lem ns i d h)

module _ (l ns : List ℕ) where
  pub numbers_run_is : (m : ℕ) → numbers_run l ns m ≡ outcome (numbers_fault l (length ns) m) (first_unfit l (rows_of ns))
  unfolding numbers_run
  numbers_run_is m = refl

  -- the row that comes back is one of at most 64
  pub row_below : (m n : ℕ) → numbers_fault l (length ns) m ≡ None → first_unfit l (rows_of ns) ≡ Some n → n < 64
  row_below m n e k = omega (arith, (first_unfit_lem l (rows_of ns) (query_of 0 0 0 0 0) n k).0, few_numbers l (length ns) m e, rows_many ns)
