-- What stands at the places of an accepted image, for code that reads there.
--     Stands l at r         the record r lies in the image l at a place, byte by byte
--     words_at l n at        n words from a place on
--     Rising low ms         basic types, strictly rising, the first at least low
--     GroupAt, RuleAt, ConstraintAt   a group, a rule and a constraint at a place: where its fields lie and what they are
use Rattle.std.specs.Prelude.{ℕ, zero, suc, ◌+◌, ◌-◌, ◌*◌, ◌/◌, ◌%◌, ◌≤◌, ◌<◌, ◌≡◌, ◌⊎◌, List, [], ◌∷◌, length, get_or, drop}
use Rattle.format.specs.declared.Section.TheVariants.{Groups}
use Rattle.format.specs.Bytes.{word_at, words}
use Rattle.format.specs.Format.{count_of}
use Rattle.format.specs.Claims.{IsType}

pub record Stands (l : List ℕ) (at : ℕ) (r : List ℕ) : Type 0 where
  pub size : length r ≡ get_or l at 0
  pub some : 4 ≤ length r
  pub inside : at + length r ≤ length l
  pub field : (i : ℕ) → i < length r → get_or r i 0 ≡ get_or l (at + i) 0

unfoldable pub words_at : List ℕ → ℕ → ℕ → List ℕ
words_at l zero at = []
words_at l (suc n) at = word_at l at ∷ words_at l n (at + 2)

unfoldable pub Rising : ℕ → List ℕ → Type 0
Rising low [] = Unit
Rising low (m ∷ ms) = (low ≤ m) × (m < 1024) × Rising (suc m) ms

pub record GroupAt (l : List ℕ) (at : ℕ) (r : List ℕ) : Type 0 where
  pub here : Stands l at r
  pub even : length r % 2 ≡ 0
  pub members : words (drop 2 r) ≡ words_at l ((get_or l at 0 - 2) / 2) (at + 2)
  pub rising : Rising 0 (words (drop 2 r))

pub record RuleAt (l : List ℕ) (at : ℕ) (r : List ℕ) : Type 0 where
  pub here : Stands l at r
  pub long : 8 ≤ length r
  pub kind : ((get_or l (at + 1) 0 ≡ 2) × (length r ≡ 11)) ⊎ (get_or l (at + 1) 0 ≡ 3)
  pub condition : get_or l (at + 1) 0 ≡ 2 → get_or l (at + 10) 0 ≤ 33
  pub source : IsType (count_of l Groups) (word_at l (at + 2))
  pub dest : IsType (count_of l Groups) (word_at l (at + 4))

pub record ConstraintAt (l : List ℕ) (at : ℕ) (r : List ℕ) : Type 0 where
  pub here : Stands l at r
  pub long : 11 ≤ length r
  pub first : IsType (count_of l Groups) (word_at l (at + 6))
  pub second : IsType (count_of l Groups) (word_at l (at + 8))
  pub predicate : get_or l (at + 10) 0 ≤ 3
  pub list : words (drop 11 r) ≡ words_at l ((get_or l at 0 - 11) / 2) (at + 11)
  pub types : (i : ℕ) → i < (get_or l at 0 - 11) / 2 → IsType (count_of l Groups) (word_at l (at + 11 + 2 * i))
  pub odd : length r % 2 ≡ 1
