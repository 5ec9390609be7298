-- What the steps of a run answer.
--     Begins l n f b   what a run of n rows begins with, where f is its refusal
--     Stepped l q r i s   what row i comes to, where the run was r before
use Rattle.std.specs.Prelude.{ℕ, ◌≡◌, List, None}
use Rattle.std.specs.Prelude.{Option}
use Rattle.format.specs.declared.Refusal.{Refusal}
use Rattle.decision.specs.declared.Query.{Query}
use Rattle.runs.specs.Runs.{row_answer, Run}
use Rattle.runs.specs.Inner.Progress.{run_said, rows_for, next_run}
use Rattle.decide.specs.declared.steps.Begun.{Begun}
use Rattle.decide.specs.declared.steps.Step.{Step}
use Rattle.decide.specs.Inner.Parts.{Surveyed}

pub record Begins (l : List ℕ) (n : ℕ) (f : Option Refusal) (b : Begun) : Type 0 where
  pub rows : b.rows ≡ rows_for (run_said f) n
  pub run : b.progress.run ≡ run_said f
  pub fresh : b.progress.held ≡ None
  pub surveyed : Surveyed l b.groups b.sections

pub record Stepped (l : List ℕ) (q : Query) (r : Run) (i : ℕ) (s : Step) : Type 0 where
  pub answer : s.answer ≡ row_answer l q
  pub run : s.progress.run ≡ next_run r i (row_answer l q)
