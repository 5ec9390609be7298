-- The bytes from a place up to another, moved to the front of a buffer. Assumes nothing.
--     rest_past, rest_crossed, rest_moved     what a call leaves: places that are not there, or not in this order; all are moved
--     rest_copied                             they are, by a copy within the buffer
--     kept_bytes                              what then stands at the front
use Prim.Native.Nat.{ℕ, ◌+◌, ◌-◌, ◌≤◌, ◌<◌}
use native.Mathlib.Omega.{arith}
use mathlib.Core.Path.{◌≡◌, refl, sym, ap, ◌∙◌}
use mathlib.Core.List.{List, ◌++◌}
use lib.ListN.{length, take, drop}
use lib.Seq.{length-slice}
use borrow.Author.Tests.{le-leb, lt-leb}
use Rattle.std.specs.List.{copy_within}
use Rattle.std.proofs.lemmas.List.{drop-take}
use Rattle.streams.specs.Put.{placed, kept_rest}
use Rattle.streams.proofs.Puts.{taken_placed}

module _ (l : List ℕ) (from to : ℕ) where
  pub rest_past : length l < to → l ≡ kept_rest from to l
  unfolding kept_rest
  rest_past h = rw (lt-leb to (length l) h) refl

  pub rest_crossed : to ≤ length l → to < from → l ≡ kept_rest from to l
  unfolding kept_rest
  rest_crossed h k = rw (le-leb to (length l) h, lt-leb from to k) refl

  pub rest_moved : to ≤ length l → from ≤ to → placed 0 (drop from (take to l)) l ≡ kept_rest from to l
  unfolding kept_rest
  rest_moved h k = rw (le-leb to (length l) h, le-leb from to k) refl

  -- `from` and a difference
  slice_taken : from ≤ to → take (to - from) (drop from l) ≡ drop from (take to l)
  slice_taken k =
      let sum : from + (to - from) ≡ to = omega arith in
      sym (drop-take from (to - from) l) ∙ ap (λ n. drop from (take n l)) sum

  pub rest_copied : to ≤ length l → from ≤ to → copy_within l from to 0 ≡ kept_rest from to l
  unfolding placed
  rest_copied h k =
      let s = drop from (take to l) in
      let long : to - from ≡ length (drop from (take to l)) = omega (arith, length-slice from to l h) in
      ap (λ x. x ++ drop (0 + (to - from)) l) (slice_taken k)
      ∙ ap (λ n. s ++ drop (0 + n) l) long
      ∙ rest_moved h k

  pub kept_bytes : (after : List ℕ) → from ≤ to → to ≤ length l → after ≡ kept_rest from to l → take (to - from) after ≡ drop from (take to l)
  kept_bytes after k h is =
      let s = drop from (take to l) in
      let long : to - from ≡ 0 + length (drop from (take to l)) = omega (arith, length-slice from to l h) in
      ap (λ n. take n after) long
      ∙ ap (take (0 + length s)) (is ∙ sym (rest_moved h k))
      ∙ taken_placed 0 s l (omega arith)
