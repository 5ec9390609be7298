-- Rows and texts with what they give, worked out from document 02, request [3]; those with switches from [6],
-- and those with twins, last in each table, from [7].
--     WorkedRows      rows, and the records that they stand for
--     WorkedOutside   rows outside the form: 65 members too, but not the 64 that there may be, and bytes that no quoted text has
--     WorkedFull      rows behind a section that is full
--     WorkedTexts     texts in buffers of a size, filled with the byte 7: the answer, and the buffer
use Rattle.std.specs.Prelude.{ℕ, zero, suc, ◌≡◌, List, [], ◌∷◌, ◌++◌, map, replicate}
use Prim.Native.String.{String}
use Rattle.std.specs.Prelude.{Option, None, Some}
use Rattle.format.specs.declared.Refusal.{Refusal}
use Rattle.format.specs.Refusals.{refusal}
use Rattle.std.specs.Prelude.{Ok, Err}
use Rattle.format.specs.Answers.{Outcome}
use Rattle.format.specs.Sample.{sample, empty}
use Rattle.text.specs.Words.{ascii}
use Rattle.text.specs.Rows.{record_of_row}
use Rattle.text.specs.Build.{Made, row_fault, built}

pub record WorkedRow : Type 0 where
  pub row : String
  pub stands : List ℕ

unfoldable pub worked_rows : List WorkedRow
worked_rows =
    record { row = "group 0"; stands = 4 ∷ 1 ∷ 0 ∷ 0 ∷ [] }
    ∷ record { row = "group 20 21"; stands = 6 ∷ 1 ∷ 0 ∷ 20 ∷ 0 ∷ 21 ∷ [] }
    ∷ record { row = "group 32767 5 5"; stands = 8 ∷ 1 ∷ 127 ∷ 255 ∷ 0 ∷ 5 ∷ 0 ∷ 5 ∷ [] }
    ∷ record { row = "allow 10 g0 5 1 on"; stands = 11 ∷ 2 ∷ 0 ∷ 10 ∷ 128 ∷ 0 ∷ 0 ∷ 5 ∷ 0 ∷ 1 ∷ 1 ∷ [] }
    ∷ record { row = "allow g32767 32767 65535 0 off"; stands = 11 ∷ 2 ∷ 255 ∷ 255 ∷ 127 ∷ 255 ∷ 255 ∷ 255 ∷ 0 ∷ 0 ∷ 0 ∷ [] }
    ∷ record { row = "trans 0 g256 65535"; stands = 8 ∷ 3 ∷ 0 ∷ 0 ∷ 129 ∷ 0 ∷ 255 ∷ 255 ∷ [] }
    ∷ record { row = "limit 1 2 3 4 0"; stands = 11 ∷ 4 ∷ 0 ∷ 1 ∷ 0 ∷ 2 ∷ 0 ∷ 3 ∷ 0 ∷ 4 ∷ 0 ∷ [] }
    ∷ record { row = "limit 256 2 g3 4 255"; stands = 11 ∷ 4 ∷ 1 ∷ 0 ∷ 0 ∷ 2 ∷ 128 ∷ 3 ∷ 0 ∷ 4 ∷ 255 ∷ [] }
    ∷ record { row = "trans g1 0 9"; stands = 8 ∷ 3 ∷ 128 ∷ 1 ∷ 0 ∷ 0 ∷ 0 ∷ 9 ∷ [] }
    ∷ record { row = "allow 1 2 3 65535 on"; stands = 11 ∷ 2 ∷ 0 ∷ 1 ∷ 0 ∷ 2 ∷ 0 ∷ 3 ∷ 255 ∷ 255 ∷ 1 ∷ [] }
    ∷ record { row = "limit 65535 65535 8 g9 3"; stands = 11 ∷ 4 ∷ 255 ∷ 255 ∷ 255 ∷ 255 ∷ 0 ∷ 8 ∷ 128 ∷ 9 ∷ 3 ∷ [] }
    ∷ record {
      row = "limit 1 2 3 4 2 1 2 3 4 5 6 7 8 9 10 11 12 13 14 15 16";
      stands =
          43 ∷ 4 ∷ 0 ∷ 1 ∷ 0 ∷ 2 ∷ 0 ∷ 3 ∷ 0 ∷ 4 ∷ 2
          ∷ 0 ∷ 1 ∷ 0 ∷ 2 ∷ 0 ∷ 3 ∷ 0 ∷ 4 ∷ 0 ∷ 5 ∷ 0 ∷ 6 ∷ 0 ∷ 7 ∷ 0 ∷ 8
          ∷ 0 ∷ 9 ∷ 0 ∷ 10 ∷ 0 ∷ 11 ∷ 0 ∷ 12 ∷ 0 ∷ 13 ∷ 0 ∷ 14 ∷ 0 ∷ 15 ∷ 0 ∷ 16 ∷ [];
    }
    ∷ record { row = "limit 1 2 3 4 2 g5 6"; stands = 15 ∷ 4 ∷ 0 ∷ 1 ∷ 0 ∷ 2 ∷ 0 ∷ 3 ∷ 0 ∷ 4 ∷ 2 ∷ 128 ∷ 5 ∷ 0 ∷ 6 ∷ [] }
    ∷ record { row = "allow 10 g0 5 1 s0"; stands = 11 ∷ 2 ∷ 0 ∷ 10 ∷ 128 ∷ 0 ∷ 0 ∷ 5 ∷ 0 ∷ 1 ∷ 2 ∷ [] }
    ∷ record { row = "allow 1 2 3 4 s9"; stands = 11 ∷ 2 ∷ 0 ∷ 1 ∷ 0 ∷ 2 ∷ 0 ∷ 3 ∷ 0 ∷ 4 ∷ 11 ∷ [] }
    ∷ record { row = "allow 1 2 3 4 s10"; stands = 11 ∷ 2 ∷ 0 ∷ 1 ∷ 0 ∷ 2 ∷ 0 ∷ 3 ∷ 0 ∷ 4 ∷ 12 ∷ [] }
    ∷ record { row = "allow g32767 32767 65535 0 s31"; stands = 11 ∷ 2 ∷ 255 ∷ 255 ∷ 127 ∷ 255 ∷ 255 ∷ 255 ∷ 0 ∷ 0 ∷ 33 ∷ [] }
    ∷ []

unfoldable pub row_gives : WorkedRow → Option (List ℕ)
row_gives w = record_of_row (ascii w.row)

unfoldable pub row_stands : WorkedRow → Option (List ℕ)
row_stands w = Some w.stands

abbrev pub WorkedRows : Type 0
WorkedRows = map row_gives worked_rows ≡ map row_stands worked_rows

-- words, numbers, ranges, types, conditions, counts, control bytes; then again, with words in other places; and switches
unfoldable pub outside_rows : List String
outside_rows =
    "x" ∷ "group" ∷ "group " ∷ " group 1" ∷ "group  1" ∷ "group 1 " ∷ " " ∷ "Group 1" ∷ "groups 1" ∷ "grou 1"
    ∷ "group 01" ∷ "group 00" ∷ "group +1" ∷ "group -1" ∷ "group 1a" ∷ "group 0x1" ∷ "group 1,2" ∷ "trans 1 2 03"
    ∷ "group 32768" ∷ "allow 1 2 65536 4 on" ∷ "allow 1 2 3 65536 on" ∷ "limit 1 2 3 4 256" ∷ "trans 1 2 99999999999999999999"
    ∷ "group g1" ∷ "trans g32768 2 3" ∷ "trans 32768 2 3" ∷ "trans g 2 3" ∷ "trans g01 2 3" ∷ "trans G1 2 3" ∷ "trans gg1 2 3"
    ∷ "allow 1 2 3 4 ON" ∷ "allow 1 2 3 4 1" ∷ "allow 1 2 3 4 onn" ∷ "allow 1 2 3 4 o" ∷ "allow 1 2 3 4 Off" ∷ "allow 1 2 3 4 of"
    ∷ "allow 1 2 3 4" ∷ "allow 1 2 3 4 on on" ∷ "trans 1 2" ∷ "trans 1 2 3 4" ∷ "limit 1 2 3 4"
    ∷ "limit 1 2 3 4 2 1 2 3 4 5 6 7 8 9 10 11 12 13 14 15 16 17"
    ∷ "group\t1" ∷ "group 1\r" ∷ "\r" ∷ "\t"
    ∷ "group 1 g0" ∷ "group 1 32768" ∷ "allow 1 2 3 g4 on" ∷ "limit g1 2 3 4 0" ∷ "limit 1 g2 3 4 0" ∷ "limit 1 2 3 32768 0"
    ∷ "limit 1 2 3 4 2 32768" ∷ "group :" ∷ "group /" ∷ "trans a1 2 3" ∷ "Allow 1 2 3 4 on" ∷ "Trans 1 2 3" ∷ "Limit 1 2 3 4 0"
    ∷ "a 1 2 3 4 on" ∷ "t 1 2 3" ∷ "l 1 2 3 4 0" ∷ "allow 1 2 3 4 on 5" ∷ "trans 1 2 4294967301"
    ∷ "trans 1 2 18446744073709551621" ∷ "# x"
    ∷ "allow 1 2 3 4 s32" ∷ "allow 1 2 3 4 s00" ∷ "allow 1 2 3 4 s01" ∷ "allow 1 2 3 4 s" ∷ "allow 1 2 3 4 s031"
    ∷ "allow 1 2 3 4 s1x" ∷ "allow 1 2 3 4 S1" ∷ "allow 1 2 3 4 s 1" ∷ "allow 1 2 3 4 on1" ∷ "allow 1 2 3 4 off0"
    ∷ "allow 1 2 3 4 s+1" ∷ "allow 1 2 3 4 ss1" ∷ "allow 1 2 3 4 1s" ∷ "allow 1 2 3 4 g1" ∷ "allow 1 2 3 4 s1 "
    ∷ "allow 1 2 3 4 s1 s1" ∷ "allow 1 2 3 4 son" ∷ "allow 1 2 3 4 s99" ∷ "allow 1 2 3 4 s310" ∷ "allow 1 2 3 4 s4294967297"
    ∷ "allow 1 2 3 4 s18446744073709551617" ∷ "allow s1 2 3 4 on" ∷ "allow 1 2 3 s4 on" ∷ "trans 1 2 s3" ∷ "limit 1 2 3 4 s0"
    ∷ "group s1" ∷ []

unfoldable pub row_named : String → Option (List ℕ)
row_named row = record_of_row (ascii row)

-- n members
unfoldable pub members : ℕ → List (List ℕ)
members n = replicate n (ascii " 7")

unfoldable pub group_of : List (List ℕ) → List ℕ
group_of [] = []
group_of (w ∷ ws) = w ++ group_of ws

pub record WorkedOutside : Type 0 where
  pub rows : map row_named outside_rows ≡ replicate 92 None
  pub zero_byte : record_of_row (ascii "group 1" ++ (0 ∷ [])) ≡ None
  pub high_byte : record_of_row (ascii "group " ++ (177 ∷ [])) ≡ None
  pub members_65 : record_of_row (ascii "group" ++ group_of (members 65)) ≡ None
  pub members_64 : record_of_row (ascii "group" ++ group_of (members 64)) ≡ Some (130 ∷ 1 ∷ group_of (replicate 64 (0 ∷ 7 ∷ [])))

pub record WorkedText : Type 0 where
  pub text : String
  pub space : ℕ
  pub answer : Outcome ℕ
  pub buffer : List ℕ

-- the empty policy with one transition: 12 to 20, class 5
unfoldable pub one_transition : List ℕ
one_transition = 1 ∷ 0 ∷ 17 ∷ 0 ∷ 0 ∷ 0 ∷ 1 ∷ 0 ∷ 0 ∷ 8 ∷ 3 ∷ 0 ∷ 12 ∷ 0 ∷ 20 ∷ 0 ∷ 5 ∷ []

-- and with one rule that a switch turns on: 12 to 20, class 5, action 1, switch 31
unfoldable pub one_switched : List ℕ
one_switched = 1 ∷ 0 ∷ 20 ∷ 0 ∷ 0 ∷ 0 ∷ 1 ∷ 0 ∷ 0 ∷ 11 ∷ 2 ∷ 0 ∷ 12 ∷ 0 ∷ 20 ∷ 0 ∷ 5 ∷ 0 ∷ 1 ∷ 33 ∷ []

-- document 01's sample
abbrev pub sample_text : String
sample_text =
    "group 20 21\nallow 10 g0 5 1 on\nallow 20 30 5 2 on\ntrans 12 20 5\nallow 13 21 5 1 off\nlimit 5 1 10 21 2 10\nlimit 5 2 20 30 1"

unfoldable pub two_groups : List ℕ
two_groups = 1 ∷ 0 ∷ 19 ∷ 0 ∷ 2 ∷ 0 ∷ 0 ∷ 0 ∷ 0 ∷ 6 ∷ 1 ∷ 0 ∷ 5 ∷ 0 ∷ 7 ∷ 4 ∷ 1 ∷ 0 ∷ 5 ∷ []

unfoldable pub worked_texts : List WorkedText
worked_texts =
    record { text = sample_text; space = 83; answer = Ok 80; buffer = sample ++ replicate 3 7 }
    ∷ record { text = ""; space = 10; answer = Ok 9; buffer = empty ++ replicate 1 7 }
    ∷ record { text = "\n\n"; space = 9; answer = Ok 9; buffer = empty }
    ∷ record { text = ""; space = 8; answer = Err (refusal 13 0); buffer = replicate 8 7 }
    ∷ record { text = "x"; space = 0; answer = Err (refusal 13 0); buffer = [] }
    ∷ record { text = "trans 12 20 5"; space = 17; answer = Ok 17; buffer = one_transition }
    ∷ record { text = "trans 12 20 5\n"; space = 17; answer = Ok 17; buffer = one_transition }
    ∷ record { text = "trans 12 20 5"; space = 16; answer = Err (refusal 13 0); buffer = empty ++ replicate 7 7 }
    ∷ record {
      text = "trans 12 20 5\ngroup g0\n";
      space = 20;
      answer = Err (refusal 18 14);
      buffer = one_transition ++ replicate 3 7;
    }
    ∷ record {
      text = "trans 12 20 5\ntrans 1 2 3\nx";
      space = 20;
      answer = Err (refusal 13 14);
      buffer = one_transition ++ replicate 3 7;
    }
    ∷ record {
      text = "trans 12 20 5\nx\ntrans 1 2 3";
      space = 28;
      answer = Err (refusal 18 14);
      buffer = one_transition ++ replicate 11 7;
    }
    ∷ record { text = "trans 12 20 5\nx"; space = 17; answer = Err (refusal 18 14); buffer = one_transition }
    ∷ record { text = "\n\ntrans 1 1024 3"; space = 17; answer = Err (refusal 11 2); buffer = empty ++ replicate 8 7 }
    ∷ record { text = "trans 1 g0 3"; space = 17; answer = Err (refusal 11 0); buffer = empty ++ replicate 8 7 }
    ∷ record { text = "group 5 5"; space = 20; answer = Err (refusal 11 0); buffer = empty ++ replicate 11 7 }
    ∷ record { text = "limit 1 2 3 4 2"; space = 20; answer = Err (refusal 11 0); buffer = empty ++ replicate 11 7 }
    ∷ record { text = "limit 1 2 3 4 1 5"; space = 22; answer = Err (refusal 11 0); buffer = empty ++ replicate 13 7 }
    ∷ record { text = "limit 1 2 3 4 4"; space = 20; answer = Err (refusal 11 0); buffer = empty ++ replicate 11 7 }
    ∷ record { text = "group 1\r\n"; space = 13; answer = Err (refusal 18 0); buffer = empty ++ replicate 4 7 }
    ∷ record { text = " \n"; space = 9; answer = Err (refusal 18 0); buffer = empty }
    ∷ record { text = "\r\n"; space = 9; answer = Err (refusal 18 0); buffer = empty }
    ∷ record { text = "# x\n"; space = 9; answer = Err (refusal 18 0); buffer = empty }
    ∷ record { text = "trans 1 1024 3"; space = 9; answer = Err (refusal 11 0); buffer = empty }
    ∷ record { text = "allow 12 20 5 1 s31"; space = 20; answer = Ok 20; buffer = one_switched }
    ∷ record {
      text = "allow 12 20 5 1 s31\nallow 12 20 5 1 s32";
      space = 33;
      answer = Err (refusal 18 20);
      buffer = one_switched ++ replicate 13 7;
    }
    ∷ record { text = "group 5 7\ngroup 5"; space = 20; answer = Ok 19; buffer = two_groups ++ replicate 1 7 }
    ∷ record { text = "group 5 7\ngroup 5\ngroup 5 7"; space = 25; answer = Err (refusal 20 18); buffer = two_groups ++ replicate 6 7 }
    ∷ record { text = "group 5 7\ngroup 5\n\ngroup 5\nx"; space = 19; answer = Err (refusal 20 19); buffer = two_groups }
    ∷ []

unfoldable pub text_gives : WorkedText → Made
text_gives w = built (ascii w.text) (replicate w.space 7)

unfoldable pub text_makes : WorkedText → Made
text_makes w = record { answer = w.answer; buffer = w.buffer }

abbrev pub WorkedTexts : Type 0
WorkedTexts = map text_gives worked_texts ≡ map text_makes worked_texts

-- groups of one type each, the types below n
unfoldable pub singles : ℕ → List (List ℕ)
singles zero = []
singles (suc n) = (4 ∷ 1 ∷ 0 ∷ n ∷ []) ∷ singles n

-- 256 of them, and nothing behind them: 12 comes behind 18, 11 and 20, and before 13
unfoldable pub full_groups : List ℕ
full_groups = 1 ∷ 4 ∷ 9 ∷ 1 ∷ 0 ∷ 0 ∷ 0 ∷ 0 ∷ 0 ∷ group_of (singles 256)

unfoldable pub full_fault : String → Option Refusal
full_fault row = row_fault 5 (ascii row) full_groups

abbrev pub WorkedFull : Type 0
WorkedFull =
    map full_fault ("group 256" ∷ "group 0" ∷ "group 255" ∷ "x" ∷ "group 1024" ∷ "trans 1 g255 3" ∷ [])
    ≡ Some (refusal 12 5) ∷ Some (refusal 20 5) ∷ Some (refusal 20 5) ∷ Some (refusal 18 5) ∷ Some (refusal 11 5)
    ∷ Some (refusal 13 5) ∷ []
