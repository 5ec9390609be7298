-- Types as sets of basic types (document 01, "The policy image" and "How a draw is decided").
--     any_of f l, all_of f l    an element of l passes the test f, and each does
--     is_in x s               x is in the set s
--     set_of gs t             the set that a type field stands for, where gs are the records of the groups
--     union_of gs ts          the union of the sets of several types
--     within a b             document 01's "within": set inclusion
--     touches a b            document 01's "touch": the two share a basic type
use Rattle.std.specs.Prelude.{ℕ, ◌-◌, Bool, true, false, ◌&&◌, ◌||◌, cond, List, [], ◌∷◌, ◌++◌, get_or, drop, ltb, eqb}
use Rattle.format.specs.Bytes.{words}

module _ {A : Type 0} where
  unfoldable pub any_of : (A → Bool) → List A → Bool
  any_of f [] = false
  any_of f (x ∷ l) = f x || any_of f l

  unfoldable pub all_of : (A → Bool) → List A → Bool
  all_of f [] = true
  all_of f (x ∷ l) = f x && all_of f l

unfoldable pub is_in : ℕ → List ℕ → Bool
is_in x s = any_of (eqb x) s

unfoldable pub set_of : List (List ℕ) → ℕ → List ℕ
set_of gs t = cond (ltb t 32768) (t ∷ []) (words (drop 2 (get_or gs (t - 32768) [])))

unfoldable pub union_of : List (List ℕ) → List ℕ → List ℕ
union_of gs [] = []
union_of gs (t ∷ ts) = set_of gs t ++ union_of gs ts

unfoldable pub within : List ℕ → List ℕ → Bool
within a b = all_of (λ x. is_in x b) a

unfoldable pub touches : List ℕ → List ℕ → Bool
touches a b = any_of (λ x. is_in x b) a
