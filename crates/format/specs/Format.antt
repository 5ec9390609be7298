-- The layout of an image and of its records (document 01, "The policy image").
--     known_version v      a version byte that images may have
--     header_length        the length of the header, and so the place of the first record
--     length_place         the place of the length field
--     limit_of s           the most records that a section may have
--     count_place s        the place of the section's count in the header
--     count_of l s         the section's count
--     kind_in s k          kind k is one of the section's
--     length_ok k n        length n is one of kind k's
--     is_type g t          t is a type field where there are g groups: a basic type, or 32768 + a group's number
--     is_condition b       a condition byte
--     list_ok p n          p is a predicate, and a list of n types suits it
--     first_record part    the record that a part starts with: as many bytes as its first byte says, or what there is
--     shape_ok r           r is whole, of a known kind, and of a length of its kind
--     bad_field g r        for such a record: the place in it of the first field that breaks its rule, where there are g
--                         groups; by its kind `bad_group`, `bad_allow`, `bad_transition` or `bad_constraint`
use Rattle.std.specs.Prelude.{ℕ, suc, ◌+◌, ◌-◌, ◌%◌, Bool, false, ◌&&◌, ◌||◌, cond, List, [], ◌∷◌, length, get_or, take, drop, leb, ltb, eqb}
use Rattle.std.specs.Prelude.{Option, None}
use Rattle.format.specs.declared.Section.{Section}
use Rattle.format.specs.declared.Section.TheVariants.{Groups, Rules, Constraints}
use Rattle.format.specs.Bytes.{word_at, words}
use Rattle.format.specs.Refusals.{need, ◌or_else◌}

unfoldable pub known_version : ℕ → Bool
known_version v = eqb v 1

abbrev pub header_length : ℕ
header_length = 9

abbrev pub length_place : ℕ
length_place = 1

unfoldable pub limit_of : Section → ℕ
limit_of Groups = 256
limit_of Rules = 1024
limit_of Constraints = 256

unfoldable pub count_place : Section → ℕ
count_place Groups = 3
count_place Rules = 5
count_place Constraints = 7

unfoldable pub count_of : List ℕ → Section → ℕ
count_of l s = word_at l (count_place s)

-- 1 group; 2 allow and 3 transition; 4 constraint
unfoldable pub kind_in : Section → ℕ → Bool
kind_in Groups k = eqb k 1
kind_in Rules k = leb 2 k && leb k 3
kind_in Constraints k = eqb k 4

unfoldable pub length_ok : ℕ → ℕ → Bool
length_ok k n =
    cond (eqb k 1) (leb 4 n && leb n 130 && eqb (n % 2) 0)
    (cond (eqb k 2) (eqb n 11)
    (cond (eqb k 3) (eqb n 8)
    (cond (eqb k 4) (leb 11 n && leb n 43 && eqb (n % 2) 1) false)))

unfoldable pub is_type : ℕ → ℕ → Bool
is_type g t = ltb t 1024 || (leb 32768 t && ltb (t - 32768) g)

-- 0 off, 1 on, and 2 to 33 the switches 0 to 31 (request [6])
unfoldable pub is_condition : ℕ → Bool
is_condition b = leb b 33

-- 1 to 16 types for predicate 2, none for 0, 1 and 3; that there are at most 16 is the record's length
unfoldable pub list_ok : ℕ → ℕ → Bool
list_ok p n = cond (eqb p 2) (ltb 0 n) (leb p 3 && eqb n 0)

unfoldable pub first_record : List ℕ → List ℕ
first_record part = take (get_or part 0 0) part

unfoldable pub shape_ok : List ℕ → Bool
shape_ok r = eqb (length r) (get_or r 0 0) && length_ok (get_or r 1 0) (length r)

-- members from a place on rise strictly: each is a basic type, and at least `low`, which it then raises above itself
unfoldable pub bad_member : ℕ → ℕ → List ℕ → Option ℕ
bad_member at low [] = None
bad_member at low (m ∷ ms) = need (leb low m && ltb m 1024) at or_else bad_member (at + 2) (suc m) ms

-- types from a place on
unfoldable pub bad_type : ℕ → ℕ → List ℕ → Option ℕ
bad_type g at [] = None
bad_type g at (t ∷ ts) = need (is_type g t) at or_else bad_type g (at + 2) ts

unfoldable pub bad_group : List ℕ → Option ℕ
bad_group r = bad_member 2 0 (words (drop 2 r))

unfoldable pub bad_allow : ℕ → List ℕ → Option ℕ
bad_allow g r =
    need (is_type g (word_at r 2)) 2
    or_else need (is_type g (word_at r 4)) 4
    or_else need (is_condition (get_or r 10 0)) 10

unfoldable pub bad_transition : ℕ → List ℕ → Option ℕ
bad_transition g r = need (is_type g (word_at r 2)) 2 or_else need (is_type g (word_at r 4)) 4

unfoldable pub bad_constraint : ℕ → List ℕ → Option ℕ
bad_constraint g r =
    need (is_type g (word_at r 6)) 6
    or_else need (is_type g (word_at r 8)) 8
    or_else need (list_ok (get_or r 10 0) (length (words (drop 11 r)))) 10
    or_else bad_type g 11 (words (drop 11 r))

unfoldable pub bad_field : ℕ → List ℕ → Option ℕ
bad_field g r =
    cond (eqb (get_or r 1 0) 1) (bad_group r)
    (cond (eqb (get_or r 1 0) 2) (bad_allow g r) (cond (eqb (get_or r 1 0) 3) (bad_transition g r) (bad_constraint g r)))
