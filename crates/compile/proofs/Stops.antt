-- What the reading of all rows comes to, where a row is refused. Assumes nothing.
use Prim.Native.Nat.{ℕ}
use mathlib.Core.Path.{◌≡◌, sym, subst}
use mathlib.Core.List.{List}
use Rattle.std.specs.Prelude.{Result, Ok, Err, IsErrAnd}
use Rattle.lines.specs.declared.RowRefusal.{RowRefusal}
use Rattle.lines.specs.Compiled.{row_line}
use Rattle.compile.specs.declared.stop.Stop.{Stop}
use Rattle.compile.specs.declared.stop.Stop.TheVariants as stop
use Rattle.compile.specs.Inner.Due.{DueErrors}
use Rattle.compile.specs.Inner.Stop.{Comes}

pub comes_row : (image : List ℕ) (r : Result ℕ Stop) (f : RowRefusal) → IsErrAnd r (λ s. s ≡ stop.Row f) → DueErrors (row_line f) → Comes image r
comes_row image (Ok n) f h d = absurd h
comes_row image (Err s) f h d = subst (λ x. Comes image (Err x)) (sym h) d
