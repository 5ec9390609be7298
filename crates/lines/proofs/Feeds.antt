-- Line feeds, and where the last one stands. Assumes nothing.
--     feeds_append, feeds_most   the line feeds of two parts, and that there are no more than bytes
--     one_feed, no_feed          those of one byte
--     no_feeds, feeds_from       those of no byte, and from a place on
--     Whole l n                  the first n bytes of l are none, or end with a line feed
--     cut_is                     what `cut` finds: whole rows, and behind them no line feed
--     cut_here, cut_before       the bytes up to a place, by the byte before it
use Prim.Native.Nat.{ℕ, zero, suc, ◌+◌, ◌≤◌, ◌<◌}
use native.Mathlib.Omega.{arith}
use mathlib.Core.Path.{◌≡◌, refl, ap, ◌∙◌}
use mathlib.Core.Bool.{Bool, true, false, cond}
use mathlib.Core.List.{List, [], ◌∷◌, ◌++◌}
use lib.ListN.{length, get_or, take, drop}
use lib.Seq.{take-suc, drop-cons, length-take-le}
use lib.Dec.{eqb}
use borrow.Author.Tests.{eqb-true, eq-eqb, ne_eqb}
use Rattle.lines.specs.Compiled.{feeds, cut_step, cut}

pub feeds_append : (a b : List ℕ) → feeds (a ++ b) ≡ feeds a + feeds b
unfolding feeds
feeds_append [] b = omega arith
feeds_append (c ∷ a) b = step (eqb c 10) (feeds_append a b) where
  step :
      (t : Bool) → feeds (a ++ b) ≡ feeds a + feeds b
      → cond t (suc (feeds (a ++ b))) (feeds (a ++ b)) ≡ cond t (suc (feeds a)) (feeds a) + feeds b
  step true h = omega arith
  step false h = h

pub feeds_most : (l : List ℕ) → feeds l ≤ length l
unfolding feeds
feeds_most [] = omega arith
feeds_most (c ∷ l) = step (eqb c 10) (feeds_most l) where
  step : (t : Bool) → feeds l ≤ length l → cond t (suc (feeds l)) (feeds l) ≤ suc (length l)
  step true h = omega arith
  step false h = omega arith

pub one_feed : (c : ℕ) → c ≡ 10 → 1 ≡ feeds (c ∷ [])
unfolding feeds
one_feed c e = rw (eq-eqb c 10 e) refl

pub no_feed : (c : ℕ) → (c ≡ 10 → ⊥) → 0 ≡ feeds (c ∷ [])
unfolding feeds
no_feed c h = rw (ne_eqb c 10 h) refl

pub no_feeds : (l : List ℕ) → length l ≡ 0 → feeds l ≡ 0
no_feeds l e = omega (arith, feeds_most l)

pub feeds_from : (l : List ℕ) (i : ℕ) → i < length l → feeds (drop i l) ≡ feeds (get_or l i 0 ∷ []) + feeds (drop (suc i) l)
feeds_from l i h = ap feeds (drop-cons l i 0 h) ∙ feeds_append (get_or l i 0 ∷ []) (drop (suc i) l)

-- ---- up to the last line feed

pub data Whole (l : List ℕ) (n : ℕ) : Type 0 where
  bare : n ≡ 0 → Whole l n
  fed : (q : List ℕ) → take n l ≡ q ++ (10 ∷ []) → Whole l n

pub record Cut (l : List ℕ) (n : ℕ) : Type 0 where
  pub most : n ≤ length l
  pub whole : Whole l n
  pub rest : feeds (drop n l) ≡ 0

one_fed : (c : ℕ) (l : List ℕ) (n : ℕ) → c ≡ 10 → Whole l n → Whole (c ∷ l) (suc n)
one_fed c l n e (bare z) = fed [] (ap (λ k. c ∷ take k l) z ∙ ap (λ x. x ∷ []) e)
one_fed c l n e (fed q h) = fed (c ∷ q) (ap (λ x. c ∷ x) h)

one_more : (c : ℕ) (l : List ℕ) (n : ℕ) → Whole l (suc n) → Whole (c ∷ l) (suc (suc n))
one_more c l n (bare z) = absurd (omega arith)
one_more c l n (fed q h) = fed (c ∷ q) (ap (λ x. c ∷ x) h)

pub cut_is : (l : List ℕ) → Cut l (cut l)
unfolding cut cut_step feeds
cut_is [] = record { most = omega arith; whole = bare refl; rest = refl }
cut_is (c ∷ l) = step (eqb c 10) refl (cut l) (cut_is l) where
  step : (t : Bool) → eqb c 10 ≡ t → (n : ℕ) → Cut l n → Cut (c ∷ l) (cut_step t n)
  step true e n k = record { most = omega (arith, k.most); whole = one_fed c l n (eqb-true c 10 e) k.whole; rest = k.rest }
  step false e zero k = record { most = omega arith; whole = bare refl; rest = rw e k.rest }
  step false e (suc n) k = record { most = omega (arith, k.most); whole = one_more c l n k.whole; rest = k.rest }

-- ---- and so byte by byte, from the end

last_fed : (l : List ℕ) → cut (l ++ (10 ∷ [])) ≡ suc (length l)
unfolding cut cut_step
last_fed [] = refl
last_fed (c ∷ l) = ap (cut_step (eqb c 10)) (last_fed l) ∙ step (eqb c 10) where
  step : (t : Bool) → cut_step t (suc (length l)) ≡ suc (suc (length l))
  step true = refl
  step false = refl

last_other : (l : List ℕ) (c : ℕ) → (c ≡ 10 → ⊥) → cut (l ++ (c ∷ [])) ≡ cut l
unfolding cut cut_step
last_other [] c h = rw (ne_eqb c 10 h) refl
last_other (d ∷ l) c h = ap (cut_step (eqb d 10)) (last_other l c h)

module _ (l : List ℕ) (i : ℕ) (h : i < length l) where
  pub cut_here : get_or l i 0 ≡ 10 → cut (take (suc i) l) ≡ suc i
  cut_here e =
      ap cut (take-suc l i 0 h) ∙ ap (λ c. cut (take i l ++ (c ∷ []))) e ∙ last_fed (take i l) ∙ ap suc (length-take-le i l (omega arith))

  pub cut_before : (get_or l i 0 ≡ 10 → ⊥) → cut (take (suc i) l) ≡ cut (take i l)
  cut_before e = ap cut (take-suc l i 0 h) ∙ last_other (take i l) (get_or l i 0) e

pub cut_none : (l : List ℕ) → cut (take 0 l) ≡ 0
unfolding cut
cut_none l = refl
