-- Laws of a run's first steps. Assumes nothing.
--     opened, opened_refused   what the sections say, from the case that they are
--     step_is      a row's answer and what the run comes to after it
use Prim.Native.Nat.{ℕ}
use mathlib.Core.Path.{◌≡◌, sym, ap, ◌∙◌}
use mathlib.Core.Bool.{Bool}
use Rattle.std.specs.Prelude.{Option, Some, Ok, Err}
use mathlib.Core.List.{List}
use Rattle.format.specs.declared.Refusal.{Refusal}
use Rattle.decision.specs.declared.Query.{Query}
use Rattle.decision.specs.Decide.{answer}
use Rattle.runs.specs.Runs.{rows_fault, row_answer, Run}
use Rattle.runs.specs.Inner.Progress.{open_fault, run_said, next_run}
use Rattle.runs.proofs.Holds.{said_answer}
use Rattle.decide.specs.declared.steps.Progress.{Progress}
use Rattle.decide.specs.Inner.Steps.{Stepped}
use Rattle.format.specs.Answers.{Outcome}
use Rattle.format.specs.declared.Starts.{Starts}
use Rattle.decision.specs.declared.Decision.{Decision}

-- an accepted image: what is left is the run's own refusal
pub opened : (x : Outcome Starts) (s : _) (n : ℕ) (fits : Bool) (f : Option Refusal) → Ok s ≡ x → rows_fault n fits ≡ f
    → run_said f ≡ run_said (open_fault x n fits)
opened x s n fits f e h = ap run_said (sym h) ∙ ap (λ y. run_said (open_fault y n fits)) e

pub opened_refused : (x : Outcome Starts) (f : Refusal) (n : ℕ) (fits : Bool) → x ≡ Err f
    → run_said (Some f) ≡ run_said (open_fault x n fits)
opened_refused x f n fits e = sym (ap (λ y. run_said (open_fault y n fits)) e)

pub step_is : (l : List ℕ) (q : Query) (r : Run) (i : ℕ) (a : Outcome Decision) (p : Progress) → a ≡ answer l q
    → p.run ≡ next_run r i a → Stepped l q r i (record { answer = a; progress = p })
step_is l q r i a p e h =
    let k : a ≡ row_answer l q = said_answer l q a e in
    record { answer = k; run = h ∙ ap (next_run r i) k }
