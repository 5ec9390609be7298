-- An image whose length field does not say its length. Assumes nothing.
--     misfit_refused      it is refused with 2 by its version, or else with 3
use Prim.Native.Nat.{ℕ, ◌≤◌}
use mathlib.Core.Path.{◌≡◌, refl}
use mathlib.Core.Bool.{Bool, true, false}
use Rattle.std.specs.Prelude.{Some}
use mathlib.Core.List.{List}
use lib.ListN.{length, get_or}
use lib.Dec.{leb, eqb}
use borrow.Author.Tests.{le-leb, ne_eqb}
use Rattle.format.specs.Bytes.{word_at}
use Rattle.format.specs.Refusals.{refusal, need, ◌or_else◌}
use Rattle.format.specs.Format.{known_version}
use Rattle.format.specs.Check.{header_fault, layout_fault}

pub misfit_refused :
    (l : List ℕ) → 9 ≤ length l → (word_at l 1 ≡ length l → ⊥)
    → layout_fault l ≡ need (known_version (get_or l 0 0)) (refusal 2 0) or_else Some (refusal 3 0)
unfolding layout_fault header_fault need ◌or_else◌
misfit_refused l h n =
    go (le-leb 9 (length l) h) (ne_eqb (word_at l 1) (length l) n) (known_version (get_or l 0 0)) refl (leb 9 (word_at l 1)) refl
  where
    go :
        leb 9 (length l) ≡ true → eqb (word_at l 1) (length l) ≡ false → (v : Bool) → known_version (get_or l 0 0) ≡ v
        → (x : Bool) → leb 9 (word_at l 1) ≡ x
        → layout_fault l ≡ need (known_version (get_or l 0 0)) (refusal 2 0) or_else Some (refusal 3 0)
    go p q false k x r = simp (p, k)
    go p q true k false r = simp (p, k, r)
    go p q true k true r = simp (p, k, r, q)
