-- A run on its way: what it comes to after some of its rows.
--     open_fault o n fits   a run's refusal, from what the check gave
--     run_said f            what it comes to before its first row, where f is its refusal
--     rows_for r n          how many of n rows are decided, by what it comes to before the first
--     next_run r i a        what it comes to after row i, where it was r before and the row is answered a
--     row_at ns i           row i of a list of numbers
use Rattle.std.specs.Prelude.{ℕ, ◌+◌, ◌*◌, Bool, List, get_or}
use Rattle.std.specs.Prelude.{Option, None, Some}
use Rattle.format.specs.declared.Refusal.{Refusal}
use Rattle.format.specs.declared.Starts.{Starts}
use Rattle.std.specs.Prelude.{Ok, Err}
use Rattle.format.specs.Answers.{Outcome}
use Rattle.decision.specs.declared.Query.{Query}
use Rattle.decision.specs.Decide.{query_of}
use Rattle.runs.specs.Runs.{rows_fault, Run}
use Rattle.runs.specs.Numbers.{word_from}
use Rattle.decision.specs.declared.Decision.{Decision}
use Rattle.decision.specs.declared.Decision.TheVariants.{NotPermitted, Permitted, UnKnown}

abbrev pub open_fault : Outcome Starts → ℕ → Bool → Option Refusal
open_fault (Err f) rows fits = Some f
open_fault (Ok s) rows fits = rows_fault rows fits

abbrev pub run_said : Option Refusal → Run
run_said None = Ok None
run_said (Some f) = Err f

abbrev pub rows_for : Run → ℕ → ℕ
rows_for (Ok o) n = n
rows_for (Err f) n = 0

abbrev pub next_run : Run → ℕ → Outcome Decision → Run
next_run (Ok None) i (Ok (NotPermitted x)) = Ok (Some i)
next_run (Ok None) i (Ok (Permitted r)) = Ok None
next_run (Ok None) i (Ok (UnKnown r c)) = Ok (Some i)
next_run (Ok None) i (Err f) = Ok (Some i)
next_run (Ok (Some n)) i a = Ok (Some n)
next_run (Err f) i a = Err f

abbrev pub row_at : List ℕ → ℕ → Query
row_at ns i =
    query_of (get_or ns (6 * i) 0) (get_or ns (6 * i + 1) 0) (get_or ns (6 * i + 2) 0) (get_or ns (6 * i + 3) 0)
    (word_from (get_or ns (6 * i + 4) 0) (get_or ns (6 * i + 5) 0))
