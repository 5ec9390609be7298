-- The check of an image: refusals 1 to 7 and 19 with their places, in the table's order (document 01, "When the engine says no";
-- document 02 [7]).
--     Read                    what the record reader reads: the length of a whole record, or why there is none
--     read_of s g part        what the record at the front of a part is, for a section of an image with g groups
--     read_fields f n         a record of n bytes, where f is its first bad field, if any
--     read_fault at r         refusals 5 and 6, for the record at a place
--     section_fault l s at n  the first refusal of n records of a section, from a place on
--     header_fault fits l     refusals 1 to 4; `fits` compares the length field with the length of what is lent
--     count_fault l s         refusal 4, for one section
--     body_fault l            refusals 5 to 7, where l is the image to its last byte and no more
--     layout_fault l          refusals 1 to 7
--     LaidOut l              there is none of these; there may be twins
--     rest_fault l            refusals 5 to 7, and 19
--     check l                the first refusal of the image l, where there is one
--     Accepted l             there is none
--     image_in b              the image that a buffer starts with: the bytes up to its length field
--     check_front b           the first refusal of that image; there, 3 is a length field beyond the buffer
--     leading b              the bytes that are to be checked: that image where there is one, else the buffer itself
use Rattle.std.specs.Prelude.{ℕ, zero, suc, ◌+◌, ◌≡◌, Bool, cond, ◌&&◌, List, length, get_or, take, drop, leb, eqb}
use Rattle.std.specs.Prelude.{Option, None, Some, Result, Ok, Err}
use Rattle.format.specs.declared.Section.{Section}
use Rattle.format.specs.declared.Section.TheVariants.{Groups, Rules, Constraints}
use Rattle.format.specs.declared.Refusal.{Refusal}
use Rattle.format.specs.declared.Misread.{Misread}
use Rattle.format.specs.declared.Misread.TheVariants.{Malformed, BadField}
use Rattle.format.specs.Bytes.{word_at}
use Rattle.format.specs.Refusals.{refusal, need, ◌or_else◌}
use Rattle.format.specs.Format.{known_version, header_length, length_place, limit_of, count_place, count_of, kind_in, first_record, shape_ok, bad_field}
use Rattle.format.specs.Policy.{start_of, end_of}
use Rattle.format.specs.Twins.{twin_fault}

abbrev pub Read : Type 0
Read = Result ℕ Misread

unfoldable pub read_fields : Option ℕ → ℕ → Read
read_fields None n = Ok n
read_fields (Some i) n = Err (BadField i)

unfoldable pub read_of : Section → ℕ → List ℕ → Read
read_of s g part =
    cond (shape_ok (first_record part) && kind_in s (get_or (first_record part) 1 0))
    (read_fields (bad_field g (first_record part)) (length (first_record part)))
    (Err Malformed)

unfoldable pub read_fault : ℕ → Read → Option Refusal
read_fault at (Ok n) = None
read_fault at (Err Malformed) = Some (refusal 5 at)
read_fault at (Err (BadField i)) = Some (refusal 6 (at + i))

unfoldable pub section_fault : List ℕ → Section → ℕ → ℕ → Option Refusal
section_fault l s at zero = None
section_fault l s at (suc n) = read_fault at (read_of s (count_of l Groups) (drop at l)) or_else section_fault l s (at + get_or l at 0) n

unfoldable pub count_fault : List ℕ → Section → Option Refusal
count_fault l s = need (leb (count_of l s) (limit_of s)) (refusal 4 (count_place s))

unfoldable pub header_fault : (ℕ → ℕ → Bool) → List ℕ → Option Refusal
header_fault fits l =
    need (leb header_length (length l)) (refusal 1 0)
    or_else need (known_version (get_or l 0 0)) (refusal 2 0)
    or_else need (leb header_length (word_at l length_place) && fits (word_at l length_place) (length l)) (refusal 3 0)
    or_else count_fault l Groups
    or_else count_fault l Rules
    or_else count_fault l Constraints

unfoldable pub body_fault : List ℕ → Option Refusal
body_fault l =
    section_fault l Groups (start_of l Groups) (count_of l Groups)
    or_else section_fault l Rules (start_of l Rules) (count_of l Rules)
    or_else section_fault l Constraints (start_of l Constraints) (count_of l Constraints)
    or_else need (leb (length l) (end_of l)) (refusal 7 (end_of l))

unfoldable pub layout_fault : List ℕ → Option Refusal
layout_fault l = header_fault eqb l or_else body_fault l

abbrev pub LaidOut : List ℕ → Type 0
LaidOut l = layout_fault l ≡ None

unfoldable pub rest_fault : List ℕ → Option Refusal
rest_fault l = body_fault l or_else twin_fault l

unfoldable pub check : List ℕ → Option Refusal
check l = header_fault eqb l or_else rest_fault l

abbrev pub Accepted : List ℕ → Type 0
Accepted l = check l ≡ None

unfoldable pub image_in : List ℕ → List ℕ
image_in b = take (word_at b length_place) b

unfoldable pub check_front : List ℕ → Option Refusal
check_front b = header_fault leb b or_else rest_fault (image_in b)

unfoldable pub leading : List ℕ → List ℕ
leading b = cond (leb header_length (length b) && leb header_length (word_at b length_place) && leb (word_at b length_place) (length b)) (image_in b) b
