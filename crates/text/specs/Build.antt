-- What a text builds in a lent buffer (document 02, request [3]).
--     Made                  an answer, the length of an image or a refusal, and a buffer
--     row_fault at row b     the refusal of a row that starts at a place of its text, which is the refusal's place: 18, and else
--                           that of adding its record to b
--     after_row row b        the buffer after a row
--     onward f b more       more; or the refusal f, with the buffer b
--     rows_from at rows b    the rows one after the other, each added to what the rows before it left. The first that is
--                           refused ends it, and the buffer stays as the rows before left it
--     built text b          what a text builds in the buffer b
--     rows_added text b      what a text's rows do to the image that the buffer b starts with; that image's own refusals, 1 to 7,
--                           come first, with their place in it
--     Builds text b r after, AddsRows text b r after   what a call answers and leaves
use Rattle.std.specs.Prelude.{ℕ, suc, ◌+◌, ◌≡◌, cond, List, [], ◌∷◌, length, ltb}
use Rattle.std.specs.Prelude.{Option, None, Some}
use Rattle.format.specs.declared.Refusal.{Refusal}
use Rattle.format.specs.Bytes.{word_at}
use Rattle.format.specs.Refusals.{refusal}
use Rattle.format.specs.Format.{header_length, length_place}
use Rattle.format.specs.Check.{check_front}
use Rattle.std.specs.Prelude.{Ok, Err}
use Rattle.format.specs.Answers.{Outcome}
use Rattle.format.specs.Sample.{empty}
use Rattle.extension.specs.Add.{add_fault, buffer_after, overwrite}
use Rattle.text.specs.Words.{split}
use Rattle.text.specs.Rows.{record_of_row}

pub record Made : Type 0 where
  pub answer : Outcome ℕ
  pub buffer : List ℕ

-- the same number, at another place
unfoldable pub moved_to : ℕ → Option Refusal → Option Refusal
moved_to at None = None
moved_to at (Some f) = Some (refusal f.number at)

unfoldable pub record_fault : ℕ → Option (List ℕ) → List ℕ → Option Refusal
record_fault at None b = Some (refusal 18 at)
record_fault at (Some r) b = moved_to at (add_fault b r)

unfoldable pub after_record : Option (List ℕ) → List ℕ → List ℕ
after_record None b = b
after_record (Some r) b = buffer_after b r

-- an empty row is skipped
unfoldable pub row_fault : ℕ → List ℕ → List ℕ → Option Refusal
row_fault at [] b = None
row_fault at (c ∷ row) b = record_fault at (record_of_row (c ∷ row)) b

unfoldable pub after_row : List ℕ → List ℕ → List ℕ
after_row [] b = b
after_row (c ∷ row) b = after_record (record_of_row (c ∷ row)) b

unfoldable pub onward : Option Refusal → List ℕ → Made → Made
onward None b more = more
onward (Some f) b more = record { answer = Err f; buffer = b }

-- a row takes its bytes and the line feed behind it
unfoldable pub rows_from : ℕ → List (List ℕ) → List ℕ → Made
rows_from at [] b = record { answer = Ok (word_at b length_place); buffer = b }
rows_from at (row ∷ rows) b = onward (row_fault at row b) b (rows_from (at + suc (length row)) rows (after_row row b))

-- a row ends at a line feed, 10, or at the end of the text
unfoldable pub built : List ℕ → List ℕ → Made
built text b =
    cond (ltb (length b) header_length) (record { answer = Err (refusal 13 0); buffer = b })
    (rows_from 0 (split 10 text) (overwrite empty b))

unfoldable pub rows_added : List ℕ → List ℕ → Made
rows_added text b = onward (check_front b) b (rows_from 0 (split 10 text) b)

pub record Builds (text b : List ℕ) (r : Outcome ℕ) (after : List ℕ) : Type 0 where
  pub answer : r ≡ (built text b).answer
  pub buffer : after ≡ (built text b).buffer

pub record AddsRows (text b : List ℕ) (r : Outcome ℕ) (after : List ℕ) : Type 0 where
  pub answer : r ≡ (rows_added text b).answer
  pub buffer : after ≡ (rows_added text b).buffer
