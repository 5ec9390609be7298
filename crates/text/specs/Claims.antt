-- What is claimed of texts, and proved in proofs/.
--     records_in rows      the records of rows in order, empty rows skipped; none where a row is outside the form
--     record_count b       how many records the image has that a buffer starts with
--     complete b          what a text that is not refused answers and leaves: b, and the length of its image
--     OneMore m m'        m' leaves one record more than m, where it is not refused
--     EachRowAdded        where nothing is refused, the buffer is that of adding each row's record in order to the empty
--                         policy, the answer is its image's length, and there are as many records as rows that are not empty
--     RowsEnough          where each row's record is added without a refusal, the text is not refused
--     BuiltAccepted       the buffer starts with the image of a well-formed policy without twins, refused or not; bytes past it stay
--     LastLineFeed        a line feed at the end changes nothing
--     LastRowCounts       a last row that is not empty is one record more, without a line feed behind it
--     NextRows            what follows a line feed is added to what the text before it left
--     RefusedStops        behind a refused row nothing is read
--     RefusedKeeps        a refused text leaves what the text before its place builds. A row starts at that place, and it is
--                         refused for its own cause: 18 where it is outside the form, else the number of adding its record
--     RefusedShort        a buffer under 9 bytes is untouched, and 13 at place 0 comes before any row
--     OwnNumbers          no other number than 11, 12, 13, 18 and 20: 10 cannot occur
--     SpaceEnough         a buffer that holds the longest image is never short
--     condition_word n     the word of a condition byte: `off`, `on`, and then `s` and a switch in decimal, from 0 on
--     ConditionWords      each condition byte, 0 to 33, is what its word says, and no other word says anything (request [6])
use Rattle.std.specs.Prelude.{ℕ, zero, suc, ◌+◌, ◌/◌, ◌%◌, ◌≤◌, ◌<◌, ◌≡◌, true, cond, ◌||◌, List, [], ◌∷◌, ◌++◌, length, take, drop, ltb, eqb}
use Rattle.std.specs.Prelude.{Option, None, Some}
use Rattle.format.specs.declared.Refusal.{Refusal}
use Rattle.format.specs.Bytes.{word_at}
use Rattle.format.specs.Refusals.{refusal}
use Rattle.format.specs.Format.{length_place}
use Rattle.format.specs.Policy.{Policy, image_of, policy_of}
use Rattle.format.specs.Twins.{NoTwins}
use Rattle.format.specs.Check.{image_in, check_front}
use Rattle.std.specs.Prelude.{Ok, Err}
use Rattle.format.specs.Claims.{WellFormed}
use Rattle.format.specs.Sample.{empty}
use Rattle.extension.specs.Add.{add_fault, buffer_after, overwrite}
use Rattle.extension.specs.Claims.{add_all, all_records}
use Rattle.text.specs.declared.Field.TheVariants.{Condition}
use Rattle.text.specs.Words.{ascii, split}
use Rattle.text.specs.Rows.{value_of, record_of_row}
use Rattle.text.specs.Build.{Made, rows_from, built}

unfoldable pub with_first : Option (List ℕ) → Option (List (List ℕ)) → Option (List (List ℕ))
with_first None rs = None
with_first (Some r) None = None
with_first (Some r) (Some rs) = Some (r ∷ rs)

unfoldable pub records_in : List (List ℕ) → Option (List (List ℕ))
records_in [] = Some []
records_in ([] ∷ rows) = records_in rows
records_in ((c ∷ row) ∷ rows) = with_first (record_of_row (c ∷ row)) (records_in rows)

abbrev pub record_count : List ℕ → ℕ
record_count b = length (all_records (policy_of (image_in b)))

abbrev pub complete : List ℕ → Made
complete b = record { answer = Ok (word_at b length_place); buffer = b }

-- each is added without a refusal
unfoldable pub all_added : List ℕ → List (List ℕ) → Type 0
all_added b [] = Unit
all_added b (r ∷ rs) = (add_fault b r ≡ None) × all_added (buffer_after b r) rs

pub record EachAdded (text b : List ℕ) (n : ℕ) : Type 0 where
  pub records : List (List ℕ)
  pub from_rows : records_in (split 10 text) ≡ Some records
  pub none_refused : all_added (overwrite empty b) records
  pub buffer : (built text b).buffer ≡ add_all (overwrite empty b) records
  pub image_length : n ≡ length (image_in (built text b).buffer)
  pub count : record_count (built text b).buffer ≡ length records

abbrev pub EachRowAdded : Type 0
EachRowAdded = (text b : List ℕ) (n : ℕ) → (built text b).answer ≡ Ok n → EachAdded text b n

abbrev pub RowsEnough : Type 0
RowsEnough =
    (text b : List ℕ) (rs : List (List ℕ)) → 9 ≤ length b → records_in (split 10 text) ≡ Some rs → all_added (overwrite empty b) rs
    → built text b ≡ complete (add_all (overwrite empty b) rs)

pub record Leaves (b after : List ℕ) : Type 0 where
  pub policy : Policy
  pub well_formed : WellFormed policy
  pub twins : NoTwins policy.groups
  pub image : after ≡ overwrite (image_of policy) b
  pub accepted : check_front after ≡ None
  pub same_length : length after ≡ length b

abbrev pub BuiltAccepted : Type 0
BuiltAccepted = (text b : List ℕ) → 9 ≤ length b → Leaves b (built text b).buffer

abbrev pub LastLineFeed : Type 0
LastLineFeed = (text b : List ℕ) → built (text ++ (10 ∷ [])) b ≡ built text b

abbrev pub OneMore : Made → Made → Type 0
OneMore m m' = (n : ℕ) → m'.answer ≡ Ok n → record_count m'.buffer ≡ suc (record_count m.buffer)

-- the last row has no line feed in it; the rows before it, where there are any, have one behind them
abbrev pub LastRowCounts : Type 0
LastRowCounts =
    (row b : List ℕ) → split 10 row ≡ row ∷ [] → 0 < length row
    → OneMore (built [] b) (built row b) × ((text : List ℕ) → OneMore (built text b) (built (text ++ (10 ∷ row)) b))

abbrev pub NextRows : Type 0
NextRows =
    (text more b : List ℕ) (n : ℕ) → (built text b).answer ≡ Ok n
    → built (text ++ (10 ∷ more)) b ≡ rows_from (suc (length text)) (split 10 more) (built text b).buffer

abbrev pub RefusedStops : Type 0
RefusedStops =
    (text more b : List ℕ) (f : Refusal) → (built text b).answer ≡ Err f → built (text ++ (10 ∷ more)) b ≡ built text b

-- a row starts at a place: the text's start, or behind a line feed
pub data RowAt (text : List ℕ) (at : ℕ) : Type 0 where
  first : at ≡ 0 → RowAt text at
  behind : (before more : List ℕ) → text ≡ before ++ (10 ∷ more) → at ≡ suc (length before) → RowAt text at

-- why a row is refused: it is outside the form, which comes first; else its record is not added
pub data Cause (row b : List ℕ) (n : ℕ) : Type 0 where
  outside : record_of_row row ≡ None → n ≡ 18 → Cause row b n
  not_added : (r : List ℕ) (f : Refusal) → record_of_row row ≡ Some r → add_fault b r ≡ Some f → n ≡ f.number → Cause row b n

-- what a refused text leaves, and the row that is refused: `own`, at the refusal's place
pub record Kept (text b : List ℕ) (f : Refusal) : Type 0 where
  pub row : RowAt text f.place
  pub inside : f.place < length text
  pub before : built (take f.place text) b ≡ complete (built text b).buffer
  pub own : List ℕ
  pub later : List (List ℕ)
  pub rows : split 10 (drop f.place text) ≡ own ∷ later
  pub not_empty : 0 < length own
  pub cause : Cause own (built text b).buffer f.number

abbrev pub RefusedKeeps : Type 0
RefusedKeeps = (text b : List ℕ) (f : Refusal) → 9 ≤ length b → (built text b).answer ≡ Err f → Kept text b f

abbrev pub RefusedShort : Type 0
RefusedShort = (text b : List ℕ) → length b < 9 → built text b ≡ record { answer = Err (refusal 13 0); buffer = b }

abbrev pub OwnNumbers : Type 0
OwnNumbers =
    (text b : List ℕ) (f : Refusal) → (built text b).answer ≡ Err f
    → (eqb f.number 11 || eqb f.number 12 || eqb f.number 13 || eqb f.number 18 || eqb f.number 20) ≡ true

abbrev pub SpaceEnough : Type 0
SpaceEnough = (text b : List ℕ) (f : Refusal) → 55561 ≤ length b → (built text b).answer ≡ Err f → f.number ≡ 13 → ⊥

-- one digit below 10, else two; the digit 0 is the byte 48
unfoldable pub switch_digits : ℕ → List ℕ
switch_digits k = cond (ltb k 10) ((48 + k) ∷ []) ((48 + k / 10) ∷ (48 + k % 10) ∷ [])

-- `s` is the byte 115
unfoldable pub condition_word : ℕ → List ℕ
condition_word zero = ascii "off"
condition_word (suc zero) = ascii "on"
condition_word (suc (suc k)) = 115 ∷ switch_digits k

pub record ConditionWords : Type 0 where
  pub each : (n : ℕ) → n ≤ 33 → value_of Condition (condition_word n) ≡ Some n
  pub only : (w : List ℕ) (n : ℕ) → value_of Condition w ≡ Some n → (n ≤ 33) × (w ≡ condition_word n)
