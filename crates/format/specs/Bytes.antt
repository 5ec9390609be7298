-- Bytes and the numbers that they hold. Numbers are big-endian and unsigned (document 01, "The policy image").
--     Bytes l        every element of l is a byte
--     word_at l at    the 2-byte number at a place
--     words l        the 2-byte numbers that l holds, from its start; an odd byte at the end is none
--     put_word n l    the two bytes of n, and then l
--     put_words ns    two bytes for each
use Rattle.std.specs.Prelude.{ℕ, ◌+◌, ◌*◌, ◌/◌, ◌%◌, ◌<◌, List, [], ◌∷◌, get_or}

abbrev pub Bytes : List ℕ → Type 0
Bytes l = (i : ℕ) → get_or l i 0 < 256

unfoldable pub word_at : List ℕ → ℕ → ℕ
word_at l at = get_or l at 0 * 256 + get_or l (at + 1) 0

unfoldable pub words : List ℕ → List ℕ
words [] = []
words (a ∷ []) = []
words (a ∷ b ∷ l) = (a * 256 + b) ∷ words l

unfoldable pub put_word : ℕ → List ℕ → List ℕ
put_word n l = n / 256 ∷ n % 256 ∷ l

unfoldable pub put_words : List ℕ → List ℕ
put_words [] = []
put_words (n ∷ ns) = put_word n (put_words ns)
