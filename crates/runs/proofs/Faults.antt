-- Laws of a run's refusals. Assumes nothing.
--     rows_few, rows_many, rows_slots, rows_none   16, 17, or none, whatever the rows are
--     fault_fits, fault_rows           a run that is not refused: its answers' list fits, and it has at most 64 rows
--     queries_fault_lem, same_lengths      the refusal of queries, by their rows; as many slots as queries
--     numbers_fault_lem, numbers_named     the refusal of numbers, by their rows; it is the check's, 16 or 17
--     same_count, few_numbers          six numbers for each slot, and at most 64 rows of them
--     run_faults, numbers_faults       the claims
use Prim.Native.Nat.{ℕ, ◌*◌, ◌/◌, ◌≤◌, ◌<◌}
use mathlib.Core.Path.{◌≡◌, refl, ◌∙◌}
use mathlib.Core.Bool.{Bool, true, false, ◌&&◌}
use mathlib.Core.Logic.{◌⊎◌, inl, inr}
use Rattle.std.specs.Prelude.{None, Some}
use mathlib.Core.List.{List}
use native.Mathlib.Omega.{arith}
use lib.Dec.{leb, eqb}
use borrow.Author.Tests.{eqb-true, leb-true, le-leb, lt-leb, eq-eqb, ne_eqb}
use Rattle.format.specs.declared.Refusal.{Refusal}
use Rattle.format.specs.Refusals.{refusal, need}
use Rattle.format.specs.Check.{check, Accepted}
use Rattle.format.proofs.Chain.{or_else_split, or_else_none, or_else_next, or_else_first, or_else_refuses, need_true, need_none, need_some, need_refuses}
use Rattle.format.proofs.Tests.{both, and_true}
use Rattle.runs.specs.Runs.{rows_fault, run_fault, queries_fault}
use Rattle.runs.specs.Numbers.{numbers_fault}
use Rattle.runs.specs.Claims.{RunFaults, NumbersFaults}

and_left_false : (a b : Bool) → a ≡ false → a && b ≡ false
and_left_false a b e = rw e refl

and_right_false : (a b : Bool) → a ≡ true → b ≡ false → a && b ≡ false
and_right_false a b e f = rw (e, f) refl

-- ---- the run's own

module _ (n : ℕ) (fits : Bool) where
  pub rows_few : n < 1 → rows_fault n fits ≡ Some (refusal 16 0)
  unfolding rows_fault
  rows_few h = or_else_first _ (need_some _ (and_left_false (leb 1 n) (leb n 64) (lt-leb 1 n h)))

  pub rows_many : 64 < n → rows_fault n fits ≡ Some (refusal 16 0)
  unfolding rows_fault
  rows_many h = or_else_first _ (need_some _ (and_right_false (leb 1 n) (leb n 64) (le-leb 1 n (omega arith)) (lt-leb n 64 h)))

  module _ (h : 1 ≤ n) (k : n ≤ 64) where
    pub rows_slots : fits ≡ false → rows_fault n fits ≡ Some (refusal 17 0)
    unfolding rows_fault
    rows_slots d = or_else_next _ (need_none _ (and_true (le-leb 1 n h) (le-leb n 64 k))) ∙ need_some _ d

    pub rows_none : fits ≡ true → rows_fault n fits ≡ None
    unfolding rows_fault
    rows_none d = or_else_none (need_none _ (and_true (le-leb 1 n h) (le-leb n 64 k))) (need_none _ d)

-- ---- after the image's

module _ (l : List ℕ) (n : ℕ) (fits : Bool) where
  fault_image : (f : Refusal) → check l ≡ Some f → run_fault l n fits ≡ Some f
  unfolding run_fault
  fault_image f e = or_else_first _ e

  fault_own : Accepted l → run_fault l n fits ≡ rows_fault n fits
  unfolding run_fault
  fault_own e = or_else_next _ e

  pub fault_fits : run_fault l n fits ≡ None → fits ≡ true
  unfolding run_fault rows_fault
  fault_fits e = need_true _ _ (or_else_split _ _ (or_else_split _ _ e).1).1

  pub fault_rows : run_fault l n fits ≡ None → n ≤ 64
  unfolding run_fault rows_fault
  fault_rows e = leb-true n 64 (both (leb 1 n) (leb n 64) (need_true _ _ (or_else_split _ _ (or_else_split _ _ e).1).0)).1

  abbrev Named : Refusal → Type 0
  Named f = (check l ≡ Some f) ⊎ ((f ≡ refusal 16 0) ⊎ (f ≡ refusal 17 0))

  fault_named : (f : Refusal) → run_fault l n fits ≡ Some f → Named f
  unfolding run_fault rows_fault
  fault_named =
      or_else_refuses Named (check l) _ (λ f e. inl e)
      (λ _. or_else_refuses Named (need (leb 1 n && leb n 64) (refusal 16 0)) (need fits (refusal 17 0))
      (need_refuses Named (leb 1 n && leb n 64) (refusal 16 0) (inr (inl refl)))
      (λ _. need_refuses Named fits (refusal 17 0) (inr (inr refl))))

pub queries_fault_lem : (l : List ℕ) (n m : ℕ) → queries_fault l n m ≡ run_fault l n (eqb m n)
unfolding queries_fault
queries_fault_lem l n m = refl

pub same_lengths : (l : List ℕ) (n m : ℕ) → queries_fault l n m ≡ None → m ≡ n
unfolding queries_fault
same_lengths l n m e = eqb-true m n (fault_fits l n (eqb m n) e)

pub numbers_fault_lem : (l : List ℕ) (n m : ℕ) → numbers_fault l n m ≡ run_fault l (n / 6) (eqb n (6 * m))
unfolding numbers_fault
numbers_fault_lem l n m = refl

pub numbers_named : (l : List ℕ) (n m : ℕ) (f : Refusal) → numbers_fault l n m ≡ Some f → (check l ≡ Some f) ⊎ ((f ≡ refusal 16 0) ⊎ (f ≡ refusal 17 0))
unfolding numbers_fault
numbers_named l n m f e = fault_named l (n / 6) (eqb n (6 * m)) f e

pub same_count : (l : List ℕ) (n m : ℕ) → numbers_fault l n m ≡ None → n ≡ 6 * m
unfolding numbers_fault
same_count l n m e = eqb-true n (6 * m) (fault_fits l (n / 6) (eqb n (6 * m)) e)

pub few_numbers : (l : List ℕ) (n m : ℕ) → numbers_fault l n m ≡ None → n / 6 ≤ 64
unfolding numbers_fault
few_numbers l n m e = fault_rows l (n / 6) (eqb n (6 * m)) e

pub run_faults : RunFaults
unfolding queries_fault
run_faults l = (
  λ f n m e. fault_image l n (eqb m n) f e,
  λ e. (
    λ m. fault_own l 0 (eqb m 0) e ∙ rows_few 0 (eqb m 0) (omega arith),
    λ n m h. fault_own l n (eqb m n) e ∙ rows_many n (eqb m n) (omega arith),
    λ n m h k d. fault_own l n (eqb m n) e ∙ rows_slots n (eqb m n) h k (ne_eqb m n d),
    λ n h k. fault_own l n (eqb n n) e ∙ rows_none n (eqb n n) h k (eq-eqb n n refl),
  ),
)

pub numbers_faults : NumbersFaults
unfolding numbers_fault
numbers_faults l = (
  λ f n m e. fault_image l (n / 6) (eqb n (6 * m)) f e,
  λ e. (
    λ n m h. fault_own l (n / 6) (eqb n (6 * m)) e ∙ rows_few (n / 6) (eqb n (6 * m)) (omega arith),
    λ n m h. fault_own l (n / 6) (eqb n (6 * m)) e ∙ rows_many (n / 6) (eqb n (6 * m)) (omega arith),
    λ n m h k d. fault_own l (n / 6) (eqb n (6 * m)) e ∙ rows_slots (n / 6) (eqb n (6 * m)) (omega arith) (omega arith) (ne_eqb n (6 * m) d),
    λ m h k. fault_own l (6 * m / 6) (eqb (6 * m) (6 * m)) e ∙ rows_none (6 * m / 6) (eqb (6 * m) (6 * m)) (omega arith) (omega arith) (eq-eqb (6 * m) (6 * m) refl),
  ),
)
