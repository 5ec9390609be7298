-- A row as the code reads it, word by word, and what its buffer for a record holds.
--     said o l            what the word says that l starts with, as the code has it
--     kind_of w            the kind of record that a row's first word names
--     form_of k            the form of a kind
--     fields_in f          the fields that a row of a form has and may have
--     is_short f           a field has one byte in a record
--     fields_from k i ws   the bytes of the words ws in a row of kind k, where i words came before them
--     fields_of_part r b    the fields of the record of the row r, at the front of b
--     record_of_part r b    that record
--     Ends r text at      a record's length is in its range, and its row ends where the row at a place of the text does
--     Fills k text at r b, Records text at r b   what is put for the words from a place on, and for the row at a place
use Rattle.std.specs.Prelude.{ℕ, ◌+◌, ◌-◌, ◌≤◌, ◌≡◌, Bool, true, false, cond, Option, Some, None, IfSome, List, ◌++◌, length, take, drop}
use Rattle.text.specs.declared.Field.{Field}
use Rattle.text.specs.declared.Field.TheVariants.{Member, AnyType, Number, Predicate, Condition}
use Rattle.text.specs.Words.{split, same}
use Rattle.text.specs.Rows.{Form, group, allow, transition, constraint, fields_of, record_of_row}
use Rattle.text.specs.Inner.Parts.{run_of}
use Rattle.text.specs.Inner.Read.{row_of, word_size}
use Rattle.extend.specs.declared.form.Kind.{Kind}
use Rattle.extend.specs.declared.form.Kind.TheVariants.{Group, Allow, Transition, Constraint}
use Rattle.extend.specs.declared.spell.Word.{Word}
use Rattle.extend.specs.declared.row.Row.{Row}

unfoldable pub said : Option ℕ → List ℕ → Option Word
said None l = None
said (Some n) l = Some (record { number = n; size = word_size l })

unfoldable pub kind_of : List ℕ → Option Kind
kind_of w =
    cond (same w group.word) (Some Group)
    (cond (same w allow.word) (Some Allow) (cond (same w transition.word) (Some Transition) (cond (same w constraint.word) (Some Constraint) None)))

unfoldable pub form_of : Kind → Form
form_of Group = group
form_of Allow = allow
form_of Transition = transition
form_of Constraint = constraint

unfoldable pub fields_in : Form → List Field
fields_in f = f.fields ++ f.more

unfoldable pub is_short : Field → Bool
is_short Member = false
is_short AnyType = false
is_short Number = false
is_short Predicate = true
is_short Condition = true

unfoldable pub fields_from : Kind → ℕ → List (List ℕ) → Option (List ℕ)
fields_from k i ws = fields_of (drop i (form_of k).fields) (drop (i - length (form_of k).fields) (form_of k).more) ws

unfoldable pub fields_of_part : Option Row → List ℕ → Option (List ℕ)
fields_of_part None b = None
fields_of_part (Some r) b = Some (drop 2 (take r.length b))

unfoldable pub record_of_part : Option Row → List ℕ → Option (List ℕ)
record_of_part None b = None
record_of_part (Some r) b = Some (take r.length b)

pub record Ends (text : List ℕ) (at : ℕ) (r : Row) : Type 0 where
  pub least : 2 ≤ r.length
  pub few : r.length ≤ 130
  pub end : r.end ≡ at + run_of 10 (drop at text)

pub record Fills (k : Kind) (text : List ℕ) (at : ℕ) (r : Option Row) (b : List ℕ) : Type 0 where
  pub fields : fields_from k 0 (split 32 (row_of (drop at text))) ≡ fields_of_part r b
  pub ends : IfSome r (Ends text at)

pub record Records (text : List ℕ) (at : ℕ) (r : Option Row) (b : List ℕ) : Type 0 where
  pub bytes : record_of_row (row_of (drop at text)) ≡ record_of_part r b
  pub ends : IfSome r (Ends text at)
