-- The spelling of a record, written from its bytes alone, and the claim that no other row gives that record. A row is
-- `group` and 1 to 64 members; `allow`, source, destination, class, action, condition; `trans`, source, destination, class;
-- or `limit`, class, action, two arguments, predicate and 0 to 16 list types. One space stands between two words, and no
-- number has a zero in front.
--     number_word n      a number below 100000 in decimal
--     type_word t        a type field: a basic type, or `g` and a group's number
--     spaced ws          words, each behind one space
--     spelling r         the row of a record, by its kind `group_row`, `allow_row`, `transition_row` or `constraint_row`
--     Spellable r        the record has a spelling: its fields are in the form's ranges, also where adding refuses them
--     OneSpelling        a row gives a record exactly where it is the spelling of that record
use Rattle.std.specs.Prelude.{ℕ, zero, suc, ◌+◌, ◌-◌, ◌/◌, ◌%◌, ◌≤◌, ◌≡◌, true, cond, get_or, drop, ltb, eqb}
use Rattle.std.specs.Prelude.{Some}
use mathlib.Core.List.{List, [], ◌∷◌, ◌++◌, map, Memᴰ}
use Rattle.format.specs.Bytes.{Bytes, word_at, words}
use Rattle.format.specs.Format.{shape_ok}
use Rattle.text.specs.Words.{ascii}
use Rattle.text.specs.Rows.{record_of_row}
use Rattle.text.specs.Claims.{condition_word}

-- the digits of n, k + 1 of them at most; the digit 0 is the byte 48
unfoldable pub digits_in : ℕ → ℕ → List ℕ
digits_in zero n = (48 + n) ∷ []
digits_in (suc k) n = cond (ltb n 10) ((48 + n) ∷ []) (digits_in k (n / 10) ++ ((48 + n % 10) ∷ []))

unfoldable pub number_word : ℕ → List ℕ
number_word n = digits_in 4 n

unfoldable pub type_word : ℕ → List ℕ
type_word t = cond (ltb t 32768) (number_word t) (ascii "g" ++ number_word (t - 32768))

unfoldable pub spaced : List (List ℕ) → List ℕ
spaced [] = []
spaced (w ∷ ws) = ascii " " ++ w ++ spaced ws

unfoldable pub group_row : List ℕ → List ℕ
group_row r = ascii "group" ++ spaced (map number_word (words (drop 2 r)))

-- source, destination, class, action, condition
unfoldable pub allow_row : List ℕ → List ℕ
allow_row r =
    ascii "allow"
    ++ spaced
    (type_word (word_at r 2) ∷ type_word (word_at r 4) ∷ number_word (word_at r 6) ∷ number_word (word_at r 8)
    ∷ condition_word (get_or r 10 0) ∷ [])

-- source, destination, class
unfoldable pub transition_row : List ℕ → List ℕ
transition_row r =
    ascii "trans" ++ spaced (type_word (word_at r 2) ∷ type_word (word_at r 4) ∷ number_word (word_at r 6) ∷ [])

-- class, action, first and second argument, predicate, list
unfoldable pub constraint_row : List ℕ → List ℕ
constraint_row r =
    ascii "limit"
    ++ spaced
    (number_word (word_at r 2) ∷ number_word (word_at r 4) ∷ type_word (word_at r 6) ∷ type_word (word_at r 8)
    ∷ number_word (get_or r 10 0) ∷ map type_word (words (drop 11 r)))

unfoldable pub spelling : List ℕ → List ℕ
spelling r =
    cond (eqb (get_or r 1 0) 1) (group_row r)
    (cond (eqb (get_or r 1 0) 2) (allow_row r) (cond (eqb (get_or r 1 0) 3) (transition_row r) (constraint_row r)))

-- a member and a condition have smaller ranges than their bytes
pub record Spellable (r : List ℕ) : Type 0 where
  pub shape : shape_ok r ≡ true
  pub bytes : Bytes r
  pub members : get_or r 1 0 ≡ 1 → (m : ℕ) → Memᴰ m (words (drop 2 r)) → m ≤ 32767
  pub condition : get_or r 1 0 ≡ 2 → get_or r 10 0 ≤ 33

pub record OneSpelling : Type 0 where
  pub only : (row r : List ℕ) → record_of_row row ≡ Some r → Spellable r × (row ≡ spelling r)
  pub each : (r : List ℕ) → Spellable r → record_of_row (spelling r) ≡ Some r
