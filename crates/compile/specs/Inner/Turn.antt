-- One turn of the program, as `reads` says.
--     reading_of p input image    the reading at a place: what is kept of it stands at the front of the input
--     Rests p l r input          the bytes of l behind its last line feed, where l is read from the place p on: they are kept at
--                                the front of the input, or fill the space
--     Turned s l r input image   a turn on the bytes l; input and image after it: a refused row, or the reading goes on
--     Ended s r image            the end of the input: a refused row, or an image at the front of its buffer
use Rattle.std.specs.Prelude.{ℕ, ◌+◌, ◌≤◌, ◌<◌, ◌≡◌, List, [], length, take, drop, Result, Ok, Err, None, Some}
use Rattle.format.specs.Check.{check_front}
use Rattle.lines.specs.declared.RowRefusal.{RowRefusal}
use Rattle.lines.specs.Compiled.{feeds, Reading, row_line, cut, turn_fault, turned, reads}
use Rattle.compile.specs.declared.turn.Place.{Place}

abbrev pub reading_of : Place → List ℕ → List ℕ → Reading
reading_of p input image = record { at = p.at; row = p.row; kept = take p.kept input; buffer = image }

pub record Kept (p : Place) (l : List ℕ) (q : Place) (input : List ℕ) : Type 0 where
  pub few : length (drop (cut l) l) < 65536
  pub place : q ≡ record { at = p.at + cut l; row = p.row + feeds l; kept = length (drop (cut l) l) }
  pub bytes : take q.kept input ≡ drop (cut l) l

pub record Filled (p : Place) (l : List ℕ) (f : RowRefusal) : Type 0 where
  pub full : 65536 ≤ length (drop (cut l) l)
  pub is : f ≡ record { number = 18; place = p.at + cut l; row = p.row + feeds l }

abbrev pub Rests : Place → List ℕ → Result Place RowRefusal → List ℕ → Type 0
Rests p l (Ok q) input = Kept p l q input
Rests p l (Err f) input = Filled p l f

pub record Goes (s : Reading) (l : List ℕ) (p : Place) (input image : List ℕ) : Type 0 where
  pub none_refused : turn_fault s l ≡ None
  pub accepted : check_front image ≡ None
  pub few : p.kept < 65536
  pub next : turned s l ≡ reading_of p input image

abbrev pub Turned : Reading → List ℕ → Result Place RowRefusal → List ℕ → List ℕ → Type 0
Turned s l (Ok p) input image = Goes s l p input image
Turned s l (Err f) input image = turn_fault s l ≡ Some f

pub record Image (s : Reading) (n : ℕ) (image : List ℕ) : Type 0 where
  pub fits : n ≤ length image
  pub is : reads s [] ≡ record { output = take n image; errors = [] }

abbrev pub Ended : Reading → Result ℕ RowRefusal → List ℕ → Type 0
Ended s (Ok n) image = Image s n image
Ended s (Err f) image = reads s [] ≡ record { output = []; errors = row_line f }
