-- What the program `compile` writes for a text (document 02, request [3]).
--     feeds l             how many line feeds there are in l
--     refused_row at row part f   the refusal f of a row in a part of a text, which starts at a place of it with the row of this
--                         number; with the number of the refused row
--     part_fault at row part a    the refusal that an answer a has for such a part
--     Written             what is written to standard output and to standard error
--     written f image     the image; or nothing, and the line of a refused row: R, the number, the place, the row's number
--     compiled text b     what is written for a text, which is built in the buffer b. Rows are counted from 1
-- How the program comes to that, one read after the other:
--     row_space            how many bytes of rows there is space for
--     Reading             the place and the number of the row that is read, its bytes so far, and the buffer of the rows before
--     cut l               how many bytes of l there are up to its last line feed, which is one of them
--     turn_fault s l       the refusal among the rows of l that have their line feed; or 18, where what is left fills the space (no
--                         row in the form has more than 460 bytes)
--     turned s l          the reading after those rows
--     reads s cs          what is written from here on, where the next reads bring the bytes cs, and then the input ends
use Rattle.std.specs.Prelude.{ℕ, zero, suc, ◌+◌, Bool, true, false, cond, List, [], ◌∷◌, ◌++◌, length, take, drop, ltb, eqb}
use Rattle.std.specs.Prelude.{Option, None, Some}
use Rattle.format.specs.declared.Refusal.{Refusal}
use Rattle.format.specs.Refusals.{need, ◌or_else◌}
use Rattle.format.specs.Check.{image_in}
use Rattle.std.specs.Prelude.{Ok, Err}
use Rattle.format.specs.Answers.{Outcome}
use Rattle.format.specs.Sample.{empty}
use Rattle.extension.specs.Add.{overwrite}
use Rattle.text.specs.Build.{built, rows_added}
use Rattle.lines.specs.declared.RowRefusal.{RowRefusal}
use Rattle.lines.specs.Lines.{field}

unfoldable pub feeds : List ℕ → ℕ
feeds [] = 0
feeds (c ∷ l) = cond (eqb c 10) (suc (feeds l)) (feeds l)

abbrev pub refused_row : ℕ → ℕ → List ℕ → Refusal → RowRefusal
refused_row at row part f = record { number = f.number; place = at + f.place; row = row + feeds (take f.place part) }

unfoldable pub part_fault : ℕ → ℕ → List ℕ → Outcome ℕ → Option RowRefusal
part_fault at row part (Ok n) = None
part_fault at row part (Err f) = Some (refused_row at row part f)

pub record Written : Type 0 where
  pub output : List ℕ
  pub errors : List ℕ

abbrev pub row_line : RowRefusal → List ℕ
row_line f = 82 ∷ (field f.number ++ (field f.place ++ (field f.row ++ (10 ∷ []))))

unfoldable pub written : Option RowRefusal → List ℕ → Written
written None image = record { output = image; errors = [] }
written (Some f) image = record { output = []; errors = row_line f }

unfoldable pub compiled : List ℕ → List ℕ → Written
compiled text b = written (part_fault 0 1 text (built text b).answer) (image_in (built text b).buffer)

pub record Reading : Type 0 where
  pub at : ℕ
  pub row : ℕ
  pub kept : List ℕ
  pub buffer : List ℕ

-- a line feed counts, and so does any byte with a line feed behind it
unfoldable pub cut_step : Bool → ℕ → ℕ
cut_step true n = suc n
cut_step false zero = zero
cut_step false (suc n) = suc (suc n)

unfoldable pub cut : List ℕ → ℕ
cut [] = 0
cut (c ∷ l) = cut_step (eqb c 10) (cut l)

abbrev pub row_space : ℕ
row_space = 65536

unfoldable pub turn_fault : Reading → List ℕ → Option RowRefusal
turn_fault s l =
    part_fault s.at s.row l (rows_added (take (cut l) l) s.buffer).answer
    or_else need (ltb (length (drop (cut l) l)) row_space) (record { number = 18; place = s.at + cut l; row = s.row + feeds l })

unfoldable pub turned : Reading → List ℕ → Reading
turned s l =
    record {
      at = s.at + cut l;
      row = s.row + feeds l;
      kept = drop (cut l) l;
      buffer = (rows_added (take (cut l) l) s.buffer).buffer;
    }

unfoldable pub unless_turned : Option RowRefusal → Written → Written
unless_turned None w = w
unless_turned (Some f) w = written (Some f) []

unfoldable pub reads : Reading → List (List ℕ) → Written
reads s [] =
    written (part_fault s.at s.row s.kept (rows_added s.kept s.buffer).answer)
    (image_in (rows_added s.kept s.buffer).buffer)
reads s (c ∷ cs) = unless_turned (turn_fault s (s.kept ++ c)) (reads (turned s (s.kept ++ c)) cs)

-- the empty policy, and no byte read
unfoldable pub begun : List ℕ → Reading
begun b = record { at = 0; row = 1; kept = []; buffer = overwrite empty b }
