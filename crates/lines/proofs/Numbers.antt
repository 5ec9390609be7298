-- Decimal numbers: claims DecimalFewest and DecimalRead, and that no other count of digits is the fewest. Assumes nothing.
use Prim.Native.Nat.{ℕ, zero, suc, ◌+◌, ◌-◌, ◌*◌, ◌/◌, ◌%◌, ◌^◌, ◌≤◌, ◌<◌}
use native.Mathlib.Nat.{pow-succ', pow-le-pow_right}
use native.Mathlib.Omega.{arith}
use mathlib.Core.Path.{◌≡◌, refl, ◌∙◌}
use mathlib.Core.Bool.{Bool, true, false, cond}
use mathlib.Core.List.{List, [], ◌∷◌, ◌++◌}
use lib.ListN.{length, length-append}
use lib.Dec.{ltb}
use borrow.Author.Tests.{ltb-true, ltb-false, lt-ltb}
use Rattle.io.specs.Digits.{hex_digit_ascii, last_digits, IsDigitCount}
use Rattle.lines.specs.Lines.{width_from, width, decimal}
use Rattle.lines.specs.Claims.{DecimalFewest, DecimalRead, read_from}

-- one digit more
fewest_more : (n k : ℕ) → 10 ≤ n → IsDigitCount 10 1 (n / 10) k → IsDigitCount 10 1 n (suc k)
fewest_more n zero h f = (omega arith, omega (arith, f.0), omega (arith, f.0))
fewest_more n (suc zero) h f = (omega arith, omega (arith, f.1), λ _. omega arith)
fewest_more n (suc (suc k)) h f =
    let one : suc (suc k) - 1 ≡ suc k = omega arith in
    let two : suc (suc (suc k)) - 1 ≡ suc (suc k) = omega arith in
    let low : 10 ^ suc k ≤ n / 10 = rw one at (f.2 (omega arith)) in
    (omega arith, omega (arith, f.1, pow-succ' 10 (suc (suc k))), λ _. rw two (omega (arith, pow-succ' 10 (suc k))))

width_step : (m n : ℕ) → (10 ≤ n → IsDigitCount 10 1 (n / 10) (width_from m (n / 10))) → IsDigitCount 10 1 n (width_from (suc m) n)
unfolding width_from
width_step m n f = go (ltb n 10) refl
  where
    go : (x : Bool) → ltb n 10 ≡ x → IsDigitCount 10 1 n (width_from (suc m) n)
    go true e = rw e (omega arith, ltb-true n 10 e, λ more. omega arith)
    go false e = let h = ltb-false n 10 e in rw e (fewest_more n (width_from m (n / 10)) h (f h))

width_fewest : (m n : ℕ) → n < 10 ^ suc m → IsDigitCount 10 1 n (width_from m n)
unfolding width_from
width_fewest zero n h = (omega arith, h, λ more. omega arith)
width_fewest (suc m) n h = width_step m n (λ _. width_fewest m (n / 10) (omega (arith, pow-succ' 10 (suc m))))

pub decimal_fewest : DecimalFewest
unfolding width
decimal_fewest n h = width_fewest _ n (omega arith)

not_more : (n j k : ℕ) → IsDigitCount 10 1 n j → IsDigitCount 10 1 n k → j < k → ⊥
not_more n j k f g h =
    let below : j ≤ k - 1 = omega (arith, f.0) in
    let up : 10 ^ j ≤ 10 ^ (k - 1) = pow-le-pow_right (omega arith) below in
    omega (arith, f.1, g.2 (omega (arith, f.0)))

pub fewest_same : (n j k : ℕ) → IsDigitCount 10 1 n j → IsDigitCount 10 1 n k → j ≡ k
fewest_same n j k f g = go (ltb j k) refl (ltb k j) refl
  where
    go : (x : Bool) → ltb j k ≡ x → (y : Bool) → ltb k j ≡ y → j ≡ k
    go true e y q = absurd (not_more n j k f g (ltb-true j k e))
    go false e true q = absurd (not_more n k j g f (ltb-true k j q))
    go false e false q = omega (arith, ltb-false j k e, ltb-false k j q)

pub decimal_one : (n : ℕ) → n < 10 → decimal n ≡ (48 + n) ∷ []
unfolding width width_from
decimal_one n h =
    let r : n % 10 ≡ n = omega arith in
    rw (lt-ltb n 10 h, r, lt-ltb n 10 h) refl

width_most : (m n : ℕ) → width_from m n ≤ suc m
unfolding width_from
width_most zero n = omega arith
width_most (suc m) n = go (ltb n 10) (width_from m (n / 10)) (width_most m (n / 10))
  where
    go : (x : Bool) (k : ℕ) → k ≤ suc m → cond x 1 (suc k) ≤ suc (suc m)
    go true k h = omega arith
    go false k h = omega arith

pub fewest_most : (n k : ℕ) → n < 10 ^ 20 → IsDigitCount 10 1 n k → k ≤ 20
unfolding width
fewest_most n k h f = let e = fewest_same n k (width n) f (decimal_fewest n h) in omega (arith, width_most 19 n)

-- ---- digits read back

pub digits_length : (b k n : ℕ) → length (last_digits b k n) ≡ k
digits_length b zero n = refl
digits_length b (suc k) n = length-append (last_digits b k (n / b)) _ ∙ omega (arith, digits_length b k (n / b))

read_last : (m : ℕ) (ds : List ℕ) (d : ℕ) → read_from m (ds ++ (d ∷ [])) ≡ read_from m ds * 10 + (d - 48)
unfolding read_from
read_last m [] d = refl
read_last m (x ∷ ds) d = read_last (m * 10 + (x - 48)) ds d

digits_read : (k n : ℕ) → n < 10 ^ k → read_from 0 (last_digits 10 k n) ≡ n
unfolding read_from
digits_read zero n h = omega arith
digits_read (suc k) n h =
    let last : hex_digit_ascii (n % 10) ≡ 48 + n % 10 = rw (lt-ltb (n % 10) 10 (omega arith)) refl in
    let first : read_from 0 (last_digits 10 k (n / 10)) ≡ n / 10 = digits_read k (n / 10) (omega (arith, pow-succ' 10 k)) in
    read_last 0 (last_digits 10 k (n / 10)) (hex_digit_ascii (n % 10)) ∙ omega arith

pub decimal_read : DecimalRead
decimal_read n h = digits_read (width n) n (decimal_fewest n h).1
