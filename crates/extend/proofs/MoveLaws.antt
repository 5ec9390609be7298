-- Laws of bytes moved up and written. Assumes nothing.
--     word_put       the two bytes of a number, written at a place
--     put_is         a record written over what was moved up is the record spliced in
use Prim.Native.Nat.{ℕ, zero, suc, ◌+◌, ◌-◌, ◌/◌, ◌%◌, ◌<◌, ◌≤◌}
use mathlib.Core.Path.{◌≡◌, refl, sym, ap, ◌∙◌}
use mathlib.Core.List.{List, [], ◌∷◌, ◌++◌, append_assoc}
use native.Mathlib.Omega.{arith}
use native.Mathlib.Nat.{sub-zero}
use lib.ListN.{length, take, drop, set}
use lib.Seq.{slice, paste, drop_at, length-take-le, take-append-le, take-take, drop-drop}
use borrow.Rule.Slice.PartMut.{put_mid}
use Rattle.std.specs.Int.{w16, to_be_bytes}
use Rattle.extension.specs.Inner.Splice.{put_word_at, spliced}

-- ---- a number of two bytes

two_put : (at : ℕ) (l : List ℕ) (a b : ℕ) → at + 1 < length l → put_mid at 2 l (a ∷ b ∷ []) ≡ set (set l at a) (at + 1) b
two_put at [] a b h = absurd (omega arith)
two_put zero (x ∷ []) a b h = absurd (omega arith)
two_put zero (x ∷ y ∷ l) a b h = refl
two_put (suc at) (x ∷ l) a b h =
    let n : suc at + 1 ≡ suc (at + 1) = omega arith in
    ap (λ (t : List ℕ). x ∷ t) (two_put at l a b (omega arith)) ∙ ap (λ (i : ℕ). set (set (x ∷ l) (suc at) a) i b) (sym n)

pub word_put : (at n : ℕ) (l b : List ℕ) → n < 65536 → at + 1 < length l → b ≡ to_be_bytes w16 n → put_mid at (at + 2 - at) l b ≡ put_word_at l at n
unfolding put_word_at
word_put at n l b small room is =
    let two : at + 2 - at ≡ 2 = omega arith in
    let high : n / 256 % 256 ≡ n / 256 = omega arith in
    rw (two, is) (two_put at l (n / 256 % 256) (n % 256) room ∙ ap (λ (h : ℕ). set (set l at h) (at + 1) (n % 256)) high)

-- ---- a record spliced in

slice_is : (at size : ℕ) (l : List ℕ) → at ≤ size → take (size - at) (drop at l) ≡ slice at size l
slice_is zero size l h = rw (sub-zero size)
slice_is (suc at) zero l h = absurd (omega arith)
slice_is (suc at) (suc size) [] h = go (suc size - suc at) where
  go : (n : ℕ) → ◌≡◌ {A = List ℕ} (take n []) []
  go zero = refl
  go (suc n) = refl
slice_is (suc at) (suc size) (x ∷ l) h =
    let n : suc size - suc at ≡ size - at = omega arith in
    ap (λ (m : ℕ). take m (drop at l)) n ∙ slice_is at size l (omega arith)

pub put_is :
    (l r : List ℕ) (at size : ℕ) → at ≤ size → size + length r ≤ length l
    → put_mid at (at + length r - at) (paste l (at + length r) (drop at l) (size - at)) r ≡ spliced l r at size
unfolding spliced
put_is l r at size h room =
    let n : ℕ = length r in
    let rest : List ℕ = slice at size l ++ drop (size + n) l in
    let k : at + n - at ≡ n = omega arith in
    let e : at + n + (size - at) ≡ size + n = omega arith in
    let low : length (take (at + n) l) ≡ at + n = length-take-le (at + n) l (omega arith) in
    let moved : paste l (at + n) (drop at l) (size - at) ≡ take (at + n) l ++ rest =
    append_assoc (take (at + n) l) (take (size - at) (drop at l)) (drop (at + n + (size - at)) l) ∙ rw (slice_is at size l h, e) in
    let front : take at (take (at + n) l ++ rest) ≡ take at l =
    take-append-le at (take (at + n) l) rest (omega arith) ∙ take-take at (at + n) l (omega arith) in
    let behind : drop n (drop at (take (at + n) l ++ rest)) ≡ rest =
    drop-drop n at (take (at + n) l ++ rest) ∙ drop_at (take (at + n) l) rest (at + n) low in
    rw (k, moved, front, behind)
