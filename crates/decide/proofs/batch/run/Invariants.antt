-- `run` meets its contract: after i rows the slots are filled so far, and the run comes to what the rows so far say.
use Rattle.std.proofs.Common.{ℕ, ◌≡◌, List, map, length}
use Rattle.decision.specs.declared.Query.{Query}
use Rattle.runs.specs.Runs.{queries_fault, row_answer}
use Rattle.runs.proofs.Fill.{fill}
use Rattle.runs.proofs.Progress.{out_at}
use Rattle.decide.specs.declared.steps.Progress.{Progress}
use Rattle.decide.specs.declared.verdicts.Tables.{Tables}
use Rattle.decide.specs.Inner.Verdicts.{RowTables}
use Rattle.decide.proofs.batch.run.Given as goal
use Rattle.format.specs.Answers.{Outcome}
use Rattle.decision.specs.declared.Decision.{Decision}

-- i rows are decided
pub record Rows (l : List ℕ) (qs : List Query) (slots : ℕ) (ys zs : List (Outcome Decision)) (progress : Progress)
    (tables : Tables) (i : ℕ) : Type 0 where
  pub ran : progress.run ≡ out_at l (queries_fault l (length qs) slots) qs i
  pub are : zs ≡ fill (map (row_answer l) qs) ys i
  pub kept : RowTables l progress.held tables

abbrev pub invariant-loop-i : goal.invariant-loop-i
invariant-loop-i l =
    Rows l.image l.queries (length l.fn.answers) l.initial.slots l.slots l.progress l.tables l.i
