-- The records of a section, and those of them that are kept.
--     Lie k b n       n records of at least k bytes lie at the front of the bytes b, one after the other
--     kept_of b ms    the bytes of the records there that are kept: each has a mark, which says whether it is
--     pick ms k rs    those of the records, numbered from k, whose mark is set; `keep_if`, with one record more
use Rattle.std.specs.Prelude.{ℕ, zero, suc, ◌≤◌, Bool, true, false, cond, List, [], ◌∷◌, ◌++◌, length, get_or, take, drop}

unfoldable pub Lie : ℕ → List ℕ → ℕ → Type 0
Lie k b zero = Unit
Lie k b (suc n) = (k ≤ get_or b 0 0) × (get_or b 0 0 ≤ length b) × Lie k (drop (get_or b 0 0) b) n

unfoldable pub kept_of : List ℕ → List Bool → List ℕ
kept_of b [] = []
kept_of b (m ∷ ms) = cond m (take (get_or b 0 0) b) [] ++ kept_of (drop (get_or b 0 0) b) ms

unfoldable pub keep_if : Bool → List ℕ → List (List ℕ) → List (List ℕ)
keep_if true r rs = r ∷ rs
keep_if false r rs = rs

unfoldable pub pick : List Bool → ℕ → List (List ℕ) → List (List ℕ)
pick ms k [] = []
pick ms k (r ∷ rs) = keep_if (get_or ms k false) r (pick ms (suc k) rs)
