-- Rows of the worked tables by themselves, and facts of texts that are written out, by computation. Cites no proof. Assumes nothing.
use Prim.Native.Nat.{ℕ, zero, suc, ◌+◌, ◌*◌, ◌≤◌}
use native.Mathlib.Omega.{arith}
use mathlib.Core.Path.{◌≡◌, refl, sym, ap, ◌∙◌}
use Rattle.std.specs.Prelude.{Option, None, Some}
use mathlib.Core.List.{List, [], ◌∷◌, ◌++◌, append-nil, flatten, map}
use lib.ListN.{length, get_or, replicate}
use Rattle.format.specs.declared.Refusal.{Refusal}
use Rattle.format.specs.Bytes.{put_word}
use Rattle.format.specs.Refusals.{refusal, ◌or_else◌}
use Rattle.std.specs.Prelude.{Ok, Err}
use Rattle.format.specs.Sample.{sample, empty}
use Rattle.extension.specs.Add.{add_fault, buffer_after}
use Rattle.extension.specs.Claims.{add_all}
use Rattle.text.specs.Words.{ascii, split_step, split, same, is_digit, digits_from, number_of, up_to, number_to, named, above, lettered}
use Rattle.text.specs.declared.Field.TheVariants.{Condition}
use Rattle.text.specs.Rows as rows
use Rattle.text.specs.Build.{Made, row_fault, record_fault, onward, rows_from, built}
use Rattle.text.specs.Claims.{with_first, records_in, all_added, switch_digits, condition_word, ConditionWords}
use Rattle.text.specs.Cases.{worked_rows, row_gives, row_stands, WorkedRows, outside_rows, row_named, WorkedOutside}
use Rattle.text.specs.Cases.{full_groups, full_fault, WorkedFull, one_transition, one_switched, worked_texts, text_gives, text_makes, WorkedTexts}
use Rattle.decision.specs.declared.Decision.TheVariants.{NotPermitted, UnKnown}
use Rattle.decision.specs.Switches.{sample_if}
use Rattle.lines.specs.Lines.{line}
use Rattle.lines.specs.Output.{printed}
use Rattle.lines.specs.Compiled.{Written, compiled}
use Rattle.lines.specs.Worked.{worked_lines, line_of, line_said, WorkedLines, asked_on, asked, worked_runs, run_of, run_said, WorkedRuns}
use Rattle.lines.specs.Worked.{worked_compiled, text_written, WorkedCompiled}
use Rattle.lines.specs.Worked as printing
use Rattle.mungaite.specs.Code.{build_code}
use Rattle.claims.specs.Terms.{three_queries, three_said, by_bytes, too_short, sample_bytes, trans}
use Rattle.decision.specs.Decide.{near}

-- ---- the programs' output

module _ (e : WorkedLines) where
  pub unknown_line : line (Ok (UnKnown 1023 255)) ≡ ascii "U 1023 255\n"
  unfolding worked_lines line_of line_said
  unknown_line = ap (λ (xs : List (List ℕ)). get_or xs 6 []) e

  pub near_line : line (Ok (NotPermitted (Some (near 4 1023)))) ≡ ascii "N 4 1023\n"
  unfolding worked_lines line_of line_said
  near_line = ap (λ (xs : List (List ℕ)). get_or xs 2 []) e

  pub no_rules_line : line (Ok (NotPermitted None)) ≡ ascii "N -\n"
  unfolding worked_lines line_of line_said
  no_rules_line = ap (λ (xs : List (List ℕ)). get_or xs 0 []) e

module _ (e : WorkedRuns) where
  run_row : (n : ℕ) → get_or (map run_of worked_runs) n [] ≡ get_or (map run_said worked_runs) n []
  run_row n = ap (λ (xs : List (List ℕ)). get_or xs n []) e

  pub empty_printed : printed empty ≡ []
  unfolding worked_runs run_of run_said ascii
  empty_printed = run_row 2

  pub short_printed : printed too_short ≡ ascii "R 3 0\n"
  unfolding worked_runs run_of run_said
  short_printed = run_row 16

  pub three_printed : printed (sample ++ three_queries) ≡ ascii three_said
  unfolding worked_runs run_of run_said
  three_printed = run_row 18

  pub eleven_left : printed (empty ++ replicate 11 0) ≡ ascii "R 15 0\n"
  unfolding worked_runs run_of run_said
  eleven_left = run_row 13

  pub switch_0_printed : printed (sample_if 2 ++ (asked_on (0 ∷ 0 ∷ 0 ∷ 1 ∷ []) 13 21 5 1 ++ asked 13 21 5 1)) ≡ ascii "P 3\nN 1 0\n"
  unfolding worked_runs run_of run_said sample_if
  switch_0_printed = run_row 20

  pub switch_31_printed :
      printed (sample_if 33 ++ (asked_on (128 ∷ 0 ∷ 0 ∷ 0 ∷ []) 13 21 5 1 ++ asked_on (0 ∷ 0 ∷ 0 ∷ 128 ∷ []) 13 21 5 1)) ≡ ascii "P 3\nN 1 0\n"
  unfolding worked_runs run_of run_said sample_if
  switch_31_printed = run_row 21

module _ (e : WorkedCompiled) where
  compiled_row : (n : ℕ) (m : Written) → get_or (map printing.text_gives worked_compiled) n m ≡ get_or (map text_written worked_compiled) n m
  compiled_row n m = ap (λ (xs : List Written). get_or xs n m) e

  pub sample_compiled : compiled sample_bytes (replicate 100 0) ≡ record { output = sample; errors = [] }
  unfolding worked_compiled printing.text_gives text_written ascii
  sample_compiled = compiled_row 0 (record { output = []; errors = [] })

  pub refused_compiled : compiled (ascii "\n\nx") (replicate 100 0) ≡ record { output = []; errors = ascii "R 18 2 3\n" }
  unfolding worked_compiled printing.text_gives text_written
  refused_compiled = compiled_row 3 (record { output = []; errors = [] })

-- ---- texts

-- how many records there are
count_in : Option (List (List ℕ)) → ℕ
count_in None = 0
count_in (Some rs) = length rs

pub record Texts : Type 0 where
  pub no_rows : records_in (split 10 []) ≡ Some []
  pub trans_row : split 10 trans ≡ trans ∷ []
  pub trans_length : length trans ≡ 13
  pub sample_length : length sample_bytes ≡ 122
  pub outside_length : length (ascii "x") ≡ 1
  pub rows : length worked_rows ≡ 17
  pub outside : length outside_rows ≡ 92
  pub texts : length worked_texts ≡ 28
  pub compiled : length worked_compiled ≡ 7

pub texts : Texts
unfolding ascii split_step split records_in worked_rows outside_rows worked_texts worked_compiled
texts =
    record {
      no_rows = refl;
      trans_row = refl;
      trans_length = refl;
      sample_length = refl;
      outside_length = refl;
      rows = refl;
      outside = refl;
      texts = refl;
      compiled = refl;
    }

sample_count : count_in (records_in (split 10 sample_bytes)) ≡ 7
unfolding
    count_in put_word ◌or_else◌ ascii split_step split same is_digit digits_from number_of up_to number_to named above lettered
    rows.value_of rows.field_bytes rows.group rows.allow rows.transition rows.constraint rows.forms
    rows.as_bytes rows.joined rows.fields_of rows.headed rows.record_by rows.record_of_words rows.record_of_row
    with_first records_in
sample_count = refl

pub sample_records : (rs : List (List ℕ)) → records_in (split 10 sample_bytes) ≡ Some rs → length rs ≡ 7
unfolding count_in
sample_records rs e = sym (ap count_in e) ∙ sample_count

pub feeds_rows : (n : ℕ) → records_in (split 10 (replicate n 10)) ≡ Some []
unfolding split_step split records_in
feeds_rows zero = refl
feeds_rows (suc n) = feeds_rows n

pub reads_bytes : (text : List ℕ) → flatten (by_bytes text) ≡ text
unfolding flatten
reads_bytes [] = refl
reads_bytes (c ∷ text) = ap (λ (x : List ℕ). c ∷ x) (reads_bytes text)

pub reads_once : (text : List ℕ) → flatten (text ∷ []) ≡ text
unfolding flatten
reads_once text = append-nil text

pub reads_in_two : (text more : List ℕ) → flatten (text ∷ [] ∷ more ∷ []) ≡ text ++ more
unfolding flatten
reads_in_two text more = ap (λ (x : List ℕ). text ++ x) (append-nil more)

module _ (b r : List ℕ) where
  pub one_added : add_fault b r ≡ None → all_added b (r ∷ [])
  unfolding all_added
  one_added e = (e, tt)

  pub one_after : add_all b (r ∷ []) ≡ buffer_after b r
  unfolding add_all
  one_after = refl

pub none_added : (b : List ℕ) → all_added b []
unfolding all_added
none_added b = tt

pub none_after : (b : List ℕ) → add_all b [] ≡ b
unfolding add_all
none_after b = refl

pub length_code : (n : ℕ) → build_code (Ok n) ≡ n
unfolding build_code
length_code n = refl

pub build_refusal_code : (f : Refusal) → f.place ≤ 281474976710655 → build_code (Err f) ≡ f.number * 281474976710656 + f.place
unfolding build_code
build_refusal_code f h = omega arith

-- ---- the words of conditions

module _ (e : ConditionWords) where
  pub words_said :
      (rows.value_of Condition (ascii "off") ≡ Some 0) × (rows.value_of Condition (ascii "on") ≡ Some 1) × (rows.value_of Condition (ascii "s0") ≡ Some 2)
      × (rows.value_of Condition (ascii "s31") ≡ Some 33)
  unfolding ascii switch_digits condition_word
  words_said = (e.each 0 (omega arith), e.each 1 (omega arith), e.each 2 (omega arith), e.each 33 (omega arith))

-- ---- rows and texts

module _ (e : WorkedRows) where
  stands_row : (n : ℕ) → get_or (map row_gives worked_rows) n None ≡ get_or (map row_stands worked_rows) n None
  stands_row n = ap (λ (xs : List (Option (List ℕ))). get_or xs n None) e

  pub off_row :
      rows.record_of_row (ascii "allow g32767 32767 65535 0 off") ≡ Some (11 ∷ 2 ∷ 255 ∷ 255 ∷ 127 ∷ 255 ∷ 255 ∷ 255 ∷ 0 ∷ 0 ∷ 0 ∷ [])
  unfolding worked_rows row_gives row_stands
  off_row = stands_row 4

  pub list_row : rows.record_of_row (ascii "limit 1 2 3 4 2 g5 6") ≡ Some (15 ∷ 4 ∷ 0 ∷ 1 ∷ 0 ∷ 2 ∷ 0 ∷ 3 ∷ 0 ∷ 4 ∷ 2 ∷ 128 ∷ 5 ∷ 0 ∷ 6 ∷ [])
  unfolding worked_rows row_gives row_stands
  list_row = stands_row 12

  pub switch_0_row : rows.record_of_row (ascii "allow 10 g0 5 1 s0") ≡ Some (11 ∷ 2 ∷ 0 ∷ 10 ∷ 128 ∷ 0 ∷ 0 ∷ 5 ∷ 0 ∷ 1 ∷ 2 ∷ [])
  unfolding worked_rows row_gives row_stands
  switch_0_row = stands_row 13

  pub switch_31_row :
      rows.record_of_row (ascii "allow g32767 32767 65535 0 s31") ≡ Some (11 ∷ 2 ∷ 255 ∷ 255 ∷ 127 ∷ 255 ∷ 255 ∷ 255 ∷ 0 ∷ 0 ∷ 33 ∷ [])
  unfolding worked_rows row_gives row_stands
  switch_31_row = stands_row 16

module _ (e : WorkedOutside) where
  outside_row : (n : ℕ) → get_or (map row_named outside_rows) n (Some []) ≡ get_or (replicate 92 None) n (Some [])
  outside_row n = ap (λ (xs : List (Option (List ℕ))). get_or xs n (Some [])) e.rows

  pub return_outside : rows.record_of_row (ascii "group 1\r") ≡ None
  unfolding outside_rows row_named
  return_outside = outside_row 43

  pub zero_outside : rows.record_of_row (ascii "group 01") ≡ None
  unfolding outside_rows row_named
  zero_outside = outside_row 10

  pub class_outside : rows.record_of_row (ascii "allow 1 2 65536 4 on") ≡ None
  unfolding outside_rows row_named
  class_outside = outside_row 19

  pub switch_32_outside : rows.record_of_row (ascii "allow 1 2 3 4 s32") ≡ None
  unfolding outside_rows row_named
  switch_32_outside = outside_row 66

  pub switch_01_outside : rows.record_of_row (ascii "allow 1 2 3 4 s01") ≡ None
  unfolding outside_rows row_named
  switch_01_outside = outside_row 68

  letter_outside : rows.record_of_row (ascii "x") ≡ None
  unfolding outside_rows row_named
  letter_outside = outside_row 0

  pub outside_rows_lem : (at : ℕ) (b : List ℕ) → rows_from at (split 10 (ascii "x")) b ≡ record { answer = Err (refusal 18 at); buffer = b }
  unfolding ascii split_step split row_fault record_fault onward rows_from
  outside_rows_lem at b = rw letter_outside refl

module _ (e : WorkedFull) where
  full_row :
      (n : ℕ)
      → get_or (map full_fault ("group 256" ∷ "group 0" ∷ "group 255" ∷ "x" ∷ "group 1024" ∷ "trans 1 g255 3" ∷ [])) n None
      ≡ get_or
      (Some (refusal 12 5) ∷ Some (refusal 20 5) ∷ Some (refusal 20 5) ∷ Some (refusal 18 5) ∷ Some (refusal 11 5) ∷ Some (refusal 13 5) ∷ [])
      n None
  full_row n = ap (λ (xs : List (Option Refusal)). get_or xs n None) e

  pub full_12 : row_fault 5 (ascii "group 256") full_groups ≡ Some (refusal 12 5)
  unfolding full_fault
  full_12 = full_row 0

  pub full_20 : row_fault 5 (ascii "group 255") full_groups ≡ Some (refusal 20 5)
  unfolding full_fault
  full_20 = full_row 2

  pub full_18 : row_fault 5 (ascii "x") full_groups ≡ Some (refusal 18 5)
  unfolding full_fault
  full_18 = full_row 3

  pub full_11 : row_fault 5 (ascii "group 1024") full_groups ≡ Some (refusal 11 5)
  unfolding full_fault
  full_11 = full_row 4

  pub full_13 : row_fault 5 (ascii "trans 1 g255 3") full_groups ≡ Some (refusal 13 5)
  unfolding full_fault
  full_13 = full_row 5

module _ (e : WorkedTexts) where
  text_row : (n : ℕ) → get_or (map text_gives worked_texts) n (built [] []) ≡ get_or (map text_makes worked_texts) n (built [] [])
  text_row n = ap (λ (xs : List Made). get_or xs n (built [] [])) e

  pub sample_built : built sample_bytes (replicate 83 7) ≡ record { answer = Ok 80; buffer = sample ++ replicate 3 7 }
  unfolding worked_texts text_gives text_makes
  sample_built = text_row 0

  pub trans_built : built trans (replicate 17 7) ≡ record { answer = Ok 17; buffer = one_transition }
  unfolding worked_texts text_gives text_makes
  trans_built = text_row 5

  pub trans_short : built trans (replicate 16 7) ≡ record { answer = Err (refusal 13 0); buffer = empty ++ replicate 7 7 }
  unfolding worked_texts text_gives text_makes
  trans_short = text_row 7

  pub outside_full : built (ascii "trans 12 20 5\nx") (replicate 17 7) ≡ record { answer = Err (refusal 18 14); buffer = one_transition }
  unfolding worked_texts text_gives text_makes
  outside_full = text_row 11

  pub return_refused : built (ascii "group 1\r\n") (replicate 13 7) ≡ record { answer = Err (refusal 18 0); buffer = empty ++ replicate 4 7 }
  unfolding worked_texts text_gives text_makes
  return_refused = text_row 18

  pub switch_built : built (ascii "allow 12 20 5 1 s31") (replicate 20 7) ≡ record { answer = Ok 20; buffer = one_switched }
  unfolding worked_texts text_gives text_makes
  switch_built = text_row 23
