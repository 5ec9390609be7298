-- `run_numbers` meets its contract: after i rows the slots are filled so far, and the run comes to what the rows so far say.
use Prim.Native.Nat.{ℕ}
use mathlib.Core.Path.{◌≡◌}
use mathlib.Core.List.{List}
use Rattle.runs.proofs.Fill.{fill}
use Rattle.decide.specs.declared.steps.Progress.{Progress}
use Rattle.decide.specs.declared.verdicts.Tables.{Tables}
use Rattle.decide.specs.Inner.Verdicts.{RowTables}
use Rattle.decide.proofs.NumberLaws.{codes, out}
use Rattle.decide.proofs.batch.run_numbers.Given as goal

-- i rows are decided
pub record Rows (l ns ys slots zs : List ℕ) (progress : Progress) (tables : Tables) (i : ℕ) : Type 0 where
  pub ran : progress.run ≡ out l ns ys i
  pub are : zs ≡ fill (codes l ns ys) slots i
  pub kept : RowTables l progress.held tables

abbrev pub invariant-loop-i : goal.invariant-loop-i
invariant-loop-i l = Rows l.image l.queries l.fn.answers l.initial.slots l.slots l.progress l.tables l.i
