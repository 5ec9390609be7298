-- Laws of line feeds in a buffer. Assumes nothing.
--     feed_of              the line feeds of one byte, as a number
--     last_cut, no_cut     the last line feed stands there; there is none
use Prim.Native.Nat.{ℕ, zero, suc, ◌+◌, ◌-◌, ◌≤◌, ◌<◌}
use native.Mathlib.Omega.{arith}
use mathlib.Core.Path.{◌≡◌, refl, sym, ap, ◌∙◌}
use mathlib.Core.Bool.{Bool, true, false}
use mathlib.Core.List.{List, [], ◌∷◌}
use lib.ListN.{length, get_or, take}
use lib.Seq.{take-length}
use Rattle.std.specs.Prelude.{◌==◌, cond}
use Rattle.std.specs.Int.{from_bool}
use Rattle.lines.specs.Compiled.{feeds, cut}
use Rattle.lines.proofs.Feeds.{cut_here, cut_before, cut_none}

pub feed_of : (c : ℕ) → feeds (c ∷ []) ≡ from_bool (c == 10)
unfolding feeds
feed_of c = step (c == 10) where
  step : (t : Bool) → cond t (suc 0) 0 ≡ from_bool t
  step true = refl
  step false = refl

module _ (l : List ℕ) where
  -- behind k bytes no line feed stands
  abbrev NoneBehind : ℕ → Type 0
  NoneBehind k = (i : ℕ) → k ≤ i → i < length l → get_or l i 0 ≡ 10 → ⊥

  cut_behind : (k n : ℕ) → k + n ≤ length l → NoneBehind k → cut (take (k + n) l) ≡ cut (take k l)
  cut_behind k zero h rest = (let e : k + 0 ≡ k = omega arith in ap (λ x. cut (take x l)) e)
  cut_behind k (suc n) h rest =
      let e : k + suc n ≡ suc (k + n) = omega arith in
      ap (λ x. cut (take x l)) e ∙ cut_before l (k + n) (omega arith) (rest (k + n) (omega arith) (omega arith)) ∙ cut_behind k n (omega arith) rest

  cut_all : (k : ℕ) → k ≤ length l → NoneBehind k → cut l ≡ cut (take k l)
  cut_all k h rest =
      let all : k + (length l - k) ≡ length l = omega arith in
      sym (ap cut (take-length l)) ∙ sym (ap (λ x. cut (take x l)) all) ∙ cut_behind k (length l - k) (omega arith) rest

  pub last_cut : (i : ℕ) → i < length l → get_or l i 0 ≡ 10 → NoneBehind (i + 1) → i + 1 ≡ cut l
  last_cut i h e rest =
      let next : i + 1 ≡ suc i = omega arith in
      next ∙ sym (cut_all (i + 1) (omega arith) rest ∙ ap (λ k. cut (take k l)) next ∙ cut_here l i h e)

  pub no_cut : NoneBehind 0 → 0 ≡ cut l
  no_cut rest = sym (cut_all 0 (omega arith) rest ∙ cut_none l)
