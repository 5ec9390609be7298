-- Of the bytes of an input, those that the image takes are enough for its check. Assumes nothing.
--     size_none     how many they are, where there is no header yet
--     size_short    where the length field is below 9
--     size_whole    and where it is not
--     image_taken   the check of the image that an input starts with is that of those bytes
--     image_front   where it is accepted, those bytes are that image, up to the length field
use Prim.Native.Nat.{ℕ, ◌≤◌, ◌<◌}
use native.Mathlib.Omega.{arith}
use mathlib.Core.Path.{◌≡◌, refl, sym, ap, ◌∙◌}
use mathlib.Core.Bool.{Bool, true, false}
use Rattle.std.specs.Prelude.{None}
use mathlib.Core.List.{List}
use lib.ListN.{length, take}
use lib.Seq.{take_all}
use lib.Dec.{leb}
use borrow.Author.Tests.{leb-true, leb-false, le-leb, lt-leb}
use Rattle.format.specs.Bytes.{word_at}
use Rattle.format.specs.Check.{check, image_in, check_front, leading}
use Rattle.format.proofs.Front.{front_header, leading_check, leading_taken, leading_whole, leading_short}
use Rattle.lines.specs.Output.{image_size}

module _ (b : List ℕ) where
  pub size_none : length b < 9 → image_size b ≡ 9
  unfolding image_size
  size_none h = rw (lt-leb 9 (length b) h) refl

  pub size_short : 9 ≤ length b → word_at b 1 < 9 → image_size b ≡ 9
  unfolding image_size
  size_short h s = rw (le-leb 9 (length b) h, lt-leb 9 (word_at b 1) s) refl

  pub size_whole : 9 ≤ length b → 9 ≤ word_at b 1 → image_size b ≡ word_at b 1
  unfolding image_size
  size_whole h w = rw (le-leb 9 (length b) h, le-leb 9 (word_at b 1) w) refl

pub image_taken : (i : List ℕ) → check (leading (take (image_size i) i)) ≡ check_front i
image_taken i = go (leb 9 (length i)) refl (leb 9 (word_at i 1)) refl (leb (word_at i 1) (length i)) refl ∙ leading_check i
  where
    go :
        (x : Bool) → leb 9 (length i) ≡ x → (y : Bool) → leb 9 (word_at i 1) ≡ y → (z : Bool) → leb (word_at i 1) (length i) ≡ z
        → check (leading (take (image_size i) i)) ≡ check (leading i)
    go false e y p z q =
        let s = leb-false 9 (length i) e in
        ap (λ n. check (leading (take n i))) (size_none i s) ∙ ap (λ l. check (leading l)) (take_all 9 i (omega arith))
    go true e false p z q =
        let h = leb-true 9 (length i) e in
        let s = leb-false 9 (word_at i 1) p in
        ap (λ n. check (leading (take n i))) (size_short i h s) ∙ leading_short i h s
    go true e true p false q =
        let h = leb-true 9 (length i) e in
        let w = leb-true 9 (word_at i 1) p in
        let f = leb-false (word_at i 1) (length i) q in
        ap (λ n. check (leading (take n i))) (size_whole i h w) ∙ ap (λ l. check (leading l)) (take_all (word_at i 1) i (omega arith))
    go true e true p true q =
        let h = leb-true 9 (length i) e in
        let w = leb-true 9 (word_at i 1) p in
        let f = leb-true (word_at i 1) (length i) q in
        ap (λ n. check (leading (take n i))) (size_whole i h w) ∙ ap check (leading_taken i w f ∙ sym (leading_whole i w f))

module _ (i : List ℕ) (e : check_front i ≡ None) where
  pub image_size_lem : image_size i ≡ word_at i 1
  image_size_lem = let h = front_header i e in size_whole i h.long h.least

  pub image_front : leading (take (image_size i) i) ≡ image_in i
  image_front =
      let h = front_header i e in
      ap (λ n. leading (take n i)) image_size_lem ∙ leading_taken i h.least (leb-true (word_at i 1) (length i) h.fit)
