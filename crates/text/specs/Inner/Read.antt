-- A text as it is read, from a place on.
--     row_of l         the row that l starts with
--     word_size l      how many bytes of l stand before the first space and the first line feed
--     word_of l        the word that l starts with
use Rattle.std.specs.Prelude.{ℕ, suc, cond, ◌||◌, List, [], ◌∷◌, take, eqb}
use Rattle.text.specs.Inner.Parts.{run_of}

unfoldable pub row_of : List ℕ → List ℕ
row_of l = take (run_of 10 l) l

unfoldable pub word_size : List ℕ → ℕ
word_size [] = 0
word_size (c ∷ l) = cond (eqb c 32 || eqb c 10) 0 (suc (word_size l))

unfoldable pub word_of : List ℕ → List ℕ
word_of l = take (word_size l) l
