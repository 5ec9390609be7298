-- How many bytes the image takes. Assumes nothing.
use Prim.Native.Nat.{ℕ, ◌≤◌, ◌<◌}
use native.Mathlib.Omega.{arith}
use mathlib.Core.Path.{◌≡◌, refl, sym, ap, ◌∙◌}
use mathlib.Core.Bool.{Bool, true, false}
use mathlib.Core.List.{List}
use lib.ListN.{length, take}
use lib.Seq.{length-take-le}
use lib.Dec.{leb}
use borrow.Author.Tests.{leb-true, leb-false, le-leb}
use Rattle.format.specs.Bytes.{word_at}
use Rattle.lines.specs.Output.{image_size}
use Rattle.format.proofs.Bytes.{word_take}
use Rattle.lines.proofs.Image.{size_none, size_short, size_whole}

size_least : (b : List ℕ) → 9 ≤ image_size b
size_least b = go (leb 9 (length b)) refl (leb 9 (word_at b 1)) refl
  where
    go : (x : Bool) → leb 9 (length b) ≡ x → (y : Bool) → leb 9 (word_at b 1) ≡ y → 9 ≤ image_size b
    go false e y p = omega (arith, size_none b (leb-false 9 (length b) e))
    go true e false p = omega (arith, size_short b (leb-true 9 (length b) e) (leb-false 9 (word_at b 1) p))
    go true e true p = let w = leb-true 9 (word_at b 1) p in omega (arith, size_whole b (leb-true 9 (length b) e) w)

-- two that both have a header, and the same one, take the same
size_same : (b b' : List ℕ) → 9 ≤ length b → 9 ≤ length b' → word_at b' 1 ≡ word_at b 1 → image_size b' ≡ image_size b
unfolding image_size
size_same b b' h h' w = rw (w, le-leb 9 (length b') h', le-leb 9 (length b) h) refl

-- more bytes behind those that were there, and no more than the image takes as far as these told
pub size_more :
    (l l' : List ℕ) (have more : ℕ) → have ≤ length l → take have l' ≡ take have l → have ≤ more → more ≤ length l'
    → more ≤ image_size (take have l) → more ≤ image_size (take more l')
size_more l l' have more h t k f s = go (leb 9 have) refl
  where
    go : (x : Bool) → leb 9 have ≡ x → more ≤ image_size (take more l')
    go false e =
        let few = leb-false 9 have e in
        omega (arith, size_none (take have l) (omega (arith, length-take-le have l h)), size_least (take more l'))
    go true e =
        let many = leb-true 9 have e in
        let w : word_at (take more l') 1 ≡ word_at (take have l) 1 =
        word_take more l' 1 (omega arith) ∙ sym (word_take have l' 1 (omega arith)) ∙ ap (λ x. word_at x 1) t in
        omega (arith, size_same (take have l) (take more l') (omega (arith, length-take-le have l h)) (omega (arith, length-take-le more l' f)) w)

-- l₀ is what there was before the read that brought nothing
pub still_short : (l l₀ : List ℕ) (have : ℕ) → take have l ≡ take have l₀ → have < image_size (take have l₀) → have < image_size (take have l)
still_short l l₀ have t h = rw t h
