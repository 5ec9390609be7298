-- `decide_all` meets its contract: k slots are filled. Assumes nothing.
use Prim.Native.Nat.{ℕ}
use mathlib.Core.Path.{◌≡◌}
use mathlib.Core.List.{List}
use Rattle.std.specs.Prelude.{Option}
use Rattle.decide.specs.declared.verdicts.Held.{Held}
use Rattle.decide.specs.declared.verdicts.Tables.{Tables}
use Rattle.decide.specs.Inner.Verdicts.{RowTables}
use Rattle.decide.proofs.RowLaws.{filled}
use Rattle.decide.proofs.rows.decide_all.Given as goal

-- k slots are filled, of as many as there are
pub record Rows (l b slots : List ℕ) (now : List ℕ) (tables : Tables) (held : Option Held) (k : ℕ) : Type 0 where
  pub are : now ≡ filled l b slots k
  pub kept : RowTables l held tables

abbrev pub invariant-loop-k : goal.invariant-loop-k
invariant-loop-k l = Rows l.image l.queries l.initial.slots l.slots l.tables l.held l.k
