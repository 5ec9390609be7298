-- Sets as marks, one for each basic type.
--     Basic t               a type that is no group is a basic type
--     no_marks               1,024 marks, none of them set
--     mark_all ms xs         marks with those of a list
--     any_is ms v xs         an element of a list has a mark of a value; any_marked: it is marked
--     tallied ms xs         how many elements are marked
--     fully_marked ms n xs   n are
--     both_below ms ns n     a number below n is marked in both
--     Marked S ms size      marks and size of a set
use Rattle.std.specs.Prelude.{ℕ, zero, suc, ◌+◌, ◌<◌, ◌≡◌, Bool, true, false, ◌&&◌, ◌||◌, cond, List, [], ◌∷◌, length, get_or, set, replicate, eqb}
use Rattle.std.specs.Bool.{beq}
use Rattle.format.specs.Inner.Places.{Rising}
use Rattle.decision.specs.Sets.{any_of, is_in}

abbrev pub Basic : ℕ → Type 0
Basic t = t < 32768 → t < 1024

abbrev pub no_marks : List Bool
no_marks = replicate 1024 false

unfoldable pub mark_all : List Bool → List ℕ → List Bool
mark_all ms [] = ms
mark_all ms (x ∷ xs) = mark_all (set ms x true) xs

unfoldable pub any_is : List Bool → Bool → List ℕ → Bool
any_is ms v xs = any_of (λ x. beq (get_or ms x false) v) xs

abbrev pub any_marked : List Bool → List ℕ → Bool
any_marked ms = any_is ms true

unfoldable pub tallied : List Bool → List ℕ → ℕ
tallied ms [] = 0
tallied ms (x ∷ xs) = cond (get_or ms x false) 1 0 + tallied ms xs

unfoldable pub fully_marked : List Bool → ℕ → List ℕ → Bool
fully_marked ms size xs = eqb (tallied ms xs) size

unfoldable pub both_below : List Bool → List Bool → ℕ → Bool
both_below ms ns zero = false
both_below ms ns (suc n) = both_below ms ns n || get_or ms n false && get_or ns n false

pub record Marked (S : List ℕ) (ms : List Bool) (size : ℕ) : Type 0 where
  pub is : (m : ℕ) → m < 1024 → get_or ms m false ≡ is_in m S
  pub many : size ≡ length S
  pub rising : Rising 0 S
