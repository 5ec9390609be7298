-- The first part of a text, and the rest.
--     run_of s l       how many bytes of l stand before the first s
--     rest s l        the parts of l behind the first
--     width ps        how many bytes the parts ps take, each with one byte behind it
use Rattle.std.specs.Prelude.{ℕ, suc, ◌+◌, cond, List, [], ◌∷◌, length, eqb}
use Rattle.text.specs.Words.{split}

unfoldable pub run_of : ℕ → List ℕ → ℕ
run_of s [] = 0
run_of s (c ∷ l) = cond (eqb c s) 0 (suc (run_of s l))

unfoldable pub rest : ℕ → List ℕ → List (List ℕ)
rest s [] = []
rest s (c ∷ l) = cond (eqb c s) (split s l) (rest s l)

unfoldable pub width : List (List ℕ) → ℕ
width [] = 0
width (p ∷ ps) = suc (length p) + width ps
