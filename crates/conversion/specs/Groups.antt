-- Groups without twins, and where a reference goes when groups move (document 02 [7]).
--     with_groups kept gs   the groups kept, then each of gs that is not there yet
--     distinct gs          the lowest of each set of twins, in their order
--     moved old new t      a type field: a basic type stays, and a group is looked up among the new ones
use Rattle.std.specs.Prelude.{ℕ, ◌+◌, ◌-◌, cond, List, [], ◌∷◌, ◌++◌, get_or, ltb}
use Rattle.format.specs.Twins.{listed, number_of}

unfoldable pub with_groups : List (List ℕ) → List (List ℕ) → List (List ℕ)
with_groups kept [] = kept
with_groups kept (g ∷ gs) = with_groups (cond (listed g kept) kept (kept ++ (g ∷ []))) gs

unfoldable pub distinct : List (List ℕ) → List (List ℕ)
distinct gs = with_groups [] gs

unfoldable pub moved : List (List ℕ) → List (List ℕ) → ℕ → ℕ
moved old new t = cond (ltb t 32768) t (32768 + number_of (get_or old (t - 32768) []) new)
