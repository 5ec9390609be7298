-- A row of a text, and the record that it stands for (document 02, request [3]; the switches of conditions are request [6]'s).
--     value_of f w           what the word w says in a field
--     field_bytes f n        the bytes that a field of the record has for it: one for a predicate and a condition, else two
--     Form                  a row's first word, the kind of its record, the fields that follow, and those that may follow them
--     forms                 the four forms
--     fields_of fs more ws   the bytes of the words ws, where the fields fs follow, and then as many of `more` as there are
--                           words; none where a word says nothing in its field, or where there are too few words or too many
--     record_of_row row       the record that a row stands for, or none where the row is outside the form
use Rattle.std.specs.Prelude.{ℕ, ◌+◌, cond, List, [], ◌∷◌, ◌++◌, length, replicate}
use Rattle.std.specs.Prelude.{Option, None, Some}
use Rattle.format.specs.Bytes.{put_word}
use Rattle.format.specs.Refusals.{◌or_else◌}
use Rattle.text.specs.declared.Field.{Field}
use Rattle.text.specs.declared.Field.TheVariants.{Member, AnyType, Number, Predicate, Condition}
use Rattle.text.specs.Words.{ascii, split, same, number_to, named, lettered}

-- What the form allows: that a basic type is below 1024, and that a group is there, is adding's 11. A member is a basic type; any
-- type is one, or `g` (103) and a group's number, which the field holds with 32768 added; a number is a class or an action. A
-- condition is `off`, byte 0, or `on`, byte 1; or `s` (115) and a switch, 0 to 31, whose byte is 2 more (request [6]).
unfoldable pub value_of : Field → List ℕ → Option ℕ
value_of Member w = number_to 32767 w
value_of AnyType w = number_to 32767 w or_else lettered 103 32768 32767 w
value_of Number w = number_to 65535 w
value_of Predicate w = number_to 255 w
value_of Condition w = named (ascii "off") 0 w or_else named (ascii "on") 1 w or_else lettered 115 2 31 w

unfoldable pub field_bytes : Field → ℕ → List ℕ
field_bytes Member n = put_word n []
field_bytes AnyType n = put_word n []
field_bytes Number n = put_word n []
field_bytes Predicate n = n ∷ []
field_bytes Condition n = n ∷ []

pub record Form : Type 0 where
  pub word : List ℕ
  pub kind : ℕ
  pub fields : List Field
  pub more : List Field

-- 1 to 64 members
unfoldable pub group : Form
group = record { word = ascii "group"; kind = 1; fields = Member ∷ []; more = replicate 63 Member }

-- source, destination, class, action, condition
unfoldable pub allow : Form
allow = record { word = ascii "allow"; kind = 2; fields = AnyType ∷ AnyType ∷ Number ∷ Number ∷ Condition ∷ []; more = [] }

-- source, destination, class
unfoldable pub transition : Form
transition = record { word = ascii "trans"; kind = 3; fields = AnyType ∷ AnyType ∷ Number ∷ []; more = [] }

-- class, action, two arguments, predicate, and 0 to 16 list types
unfoldable pub constraint : Form
constraint =
    record {
      word = ascii "limit";
      kind = 4;
      fields = Number ∷ Number ∷ AnyType ∷ AnyType ∷ Predicate ∷ [];
      more = replicate 16 AnyType;
    }

unfoldable pub forms : List Form
forms = group ∷ allow ∷ transition ∷ constraint ∷ []

unfoldable pub as_bytes : Field → Option ℕ → Option (List ℕ)
as_bytes f None = None
as_bytes f (Some n) = Some (field_bytes f n)

unfoldable pub joined : Option (List ℕ) → Option (List ℕ) → Option (List ℕ)
joined None b = None
joined (Some x) None = None
joined (Some x) (Some y) = Some (x ++ y)

unfoldable pub fields_of : List Field → List Field → List (List ℕ) → Option (List ℕ)
fields_of [] more [] = Some []
fields_of [] [] (w ∷ ws) = None
fields_of [] (f ∷ more) (w ∷ ws) = joined (as_bytes f (value_of f w)) (fields_of [] more ws)
fields_of (f ∷ fs) more [] = None
fields_of (f ∷ fs) more (w ∷ ws) = joined (as_bytes f (value_of f w)) (fields_of fs more ws)

-- a record starts with its own length and its kind
unfoldable pub headed : ℕ → Option (List ℕ) → Option (List ℕ)
headed k None = None
headed k (Some l) = Some ((2 + length l) ∷ k ∷ l)

-- the record of a row of one of these forms, whose first word is w
unfoldable pub record_by : List Form → List ℕ → List (List ℕ) → Option (List ℕ)
record_by [] w ws = None
record_by (f ∷ fs) w ws = cond (same w f.word) (headed f.kind (fields_of f.fields f.more ws)) (record_by fs w ws)

unfoldable pub record_of_words : List (List ℕ) → Option (List ℕ)
record_of_words [] = None
record_of_words (w ∷ ws) = record_by forms w ws

-- words are separated by one space, 32
unfoldable pub record_of_row : List ℕ → Option (List ℕ)
record_of_row row = record_of_words (split 32 row)
