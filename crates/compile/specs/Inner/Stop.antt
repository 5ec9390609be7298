-- What the reading of all rows comes to.
--     Comes image r    the image that is due, at the front of its buffer; the line of a refused row, which is due; or an error
use Rattle.std.specs.Prelude.{ℕ, ◌≤◌, List, length, take, Result, Ok, Err}
use Rattle.lines.specs.Compiled.{row_line}
use Rattle.compile.specs.declared.stop.Stop.{Stop}
use Rattle.compile.specs.declared.stop.Stop.TheVariants as stop
use Rattle.compile.specs.Inner.Due.{DueOutput, DueErrors}

abbrev pub Comes : List ℕ → Result ℕ Stop → Type 0
Comes image (Ok n) = (n ≤ length image) × DueOutput (take n image)
Comes image (Err (stop.Row f)) = DueErrors (row_line f)
Comes image (Err (stop.Stream e)) = Unit
