-- The parts of a text, and what a word can say (document 02, request [3]).
--     ascii s                  the bytes of a quoted ASCII text
--     split s l                the parts of l between the bytes s, one more than there are of these
--     same a b                 the two are the same bytes
--     number_of w               the number that w writes in decimal, without leading zeros
--     number_to most w          that number, where it is at most so much
--     named word n w           n, where w is this word
--     lettered letter base most w   base + n, where w is this letter and a number n, at most so much
use Rattle.std.specs.Prelude.{ℕ, ◌+◌, ◌-◌, ◌*◌, Bool, true, false, cond, ◌&&◌, List, [], ◌∷◌, leb, eqb}
use Prim.Native.Char.{code}
use Prim.Native.String as string
use Rattle.std.specs.Prelude.{Option, None, Some}

unfoldable pub ascii : string.String → List ℕ
ascii string.[] = []
ascii (string.◌∷◌ c s) = code c ∷ ascii s

unfoldable pub split_step : Bool → ℕ → List (List ℕ) → List (List ℕ)
split_step true c ps = [] ∷ ps
split_step false c [] = (c ∷ []) ∷ []
split_step false c (p ∷ ps) = (c ∷ p) ∷ ps

unfoldable pub split : ℕ → List ℕ → List (List ℕ)
split s [] = [] ∷ []
split s (c ∷ l) = split_step (eqb c s) c (split s l)

unfoldable pub same : List ℕ → List ℕ → Bool
same [] [] = true
same [] (b ∷ y) = false
same (a ∷ x) [] = false
same (a ∷ x) (b ∷ y) = eqb a b && same x y

-- the digits 0 to 9 are the bytes 48 to 57
unfoldable pub is_digit : ℕ → Bool
is_digit c = leb 48 c && leb c 57

-- the number that digits write behind those of n
unfoldable pub digits_from : ℕ → List ℕ → Option ℕ
digits_from n [] = Some n
digits_from n (c ∷ w) = cond (is_digit c) (digits_from (n * 10 + (c - 48)) w) None

-- one digit, or several of which the first is not 0
unfoldable pub number_of : List ℕ → Option ℕ
number_of [] = None
number_of (c ∷ []) = digits_from 0 (c ∷ [])
number_of (c ∷ d ∷ w) = cond (eqb c 48) None (digits_from 0 (c ∷ d ∷ w))

unfoldable pub up_to : ℕ → Option ℕ → Option ℕ
up_to most None = None
up_to most (Some n) = cond (leb n most) (Some n) None

unfoldable pub number_to : ℕ → List ℕ → Option ℕ
number_to most w = up_to most (number_of w)

unfoldable pub named : List ℕ → ℕ → List ℕ → Option ℕ
named word n w = cond (same w word) (Some n) None

unfoldable pub above : ℕ → Option ℕ → Option ℕ
above base None = None
above base (Some n) = Some (base + n)

unfoldable pub lettered : ℕ → ℕ → ℕ → List ℕ → Option ℕ
lettered letter base most [] = None
lettered letter base most (c ∷ w) = cond (eqb c letter) (above base (number_to most w)) None
