-- Laws of a condition. Assumes nothing.
--     on_is     1 is on
--     bit_is    a condition that is not 1 is on as the word's bit at its switch's number is, counted round 64: off has 62
use Prim.Native.Nat.{ℕ, zero, suc, ◌+◌, ◌-◌, ◌/◌, ◌%◌, ◌^◌, ◌≤◌, ◌<◌}
use native.Mathlib.Omega.{arith}
use mathlib.Core.Path.{◌≡◌, refl, sym, ap, ◌∙◌}
use mathlib.Core.Bool.{true}
use lib.Dec.{eqb, leb}
use borrow.Author.Tests.{le-leb, leb-true, leb-false}
use Rattle.decision.specs.Conditions.{switch_on, is_on}
use Rattle.decision.proofs.Search.{by_test}

pub on_is : (w b : ℕ) → b ≡ 1 → true ≡ is_on w b
unfolding is_on
on_is w b e = rw e refl

-- a word of 32 bits is off past them
off : (w b : ℕ) → w < 4294967296 → b < 2 → (b ≡ 1 → ⊥) → eqb (w / 2 ^ ((b + 62) % 64) % 2) 1 ≡ is_on w b
unfolding is_on
off w zero l h n = ap (λ x. eqb x 1) (let e : w / 4611686018427387904 % 2 ≡ 0 = omega arith in e)
off w (suc zero) l h n = absurd (n refl)
off w (suc (suc k)) l h n = absurd (omega arith)

switch : (w b : ℕ) → 2 ≤ b → b < 34 → eqb (w / 2 ^ ((b + 62) % 64) % 2) 1 ≡ is_on w b
unfolding is_on switch_on
switch w b h l = let k : (b + 62) % 64 ≡ b - 2 = omega arith in ap (λ n. eqb (w / 2 ^ n % 2) 1) k ∙ sym (simp (le-leb 2 b h))

pub bit_is : (w b : ℕ) → w < 4294967296 → b < 34 → (b ≡ 1 → ⊥) → eqb (w / 2 ^ ((b + 62) % 64) % 2) 1 ≡ is_on w b
bit_is w b l h n = by_test (leb 2 b) (λ t. switch w b (leb-true 2 b t) h) (λ f. off w b l (leb-false 2 b f) n)
