-- A run: 1 to 64 rows, each a query, on one policy (document 02, request 1: "Whole formulas on the pipetting arm").
--     Run                    what a run comes to: the first row that is not Permitted, or none, which is fit; or the refusal
--     rows_fault n fits      16 unless there are 1 to 64 rows, then 17 unless the answers' list fits
--     run_fault l n fits     the image's refusals, 1 to 7, before them
--     queries_fault l n m    the same, of n rows with m slots for answers
--     is_permitted o         what a query is answered is Permitted
--     unfit l q             a row is not Permitted: NotPermitted, UnKnown or refused
--     first_unfit l qs       the number, counted from 0, of the first row that is not
--     run_of l qs m          what a run with m slots comes to: the first row that is not Permitted, or none, which is fit; or the refusal
--     row_answer l q         a row's answer: what the single query would get, a refusal included
--     answers_after l qs ys  the slots afterwards: each row's answer, and where the call is refused as they were
use Rattle.std.specs.Prelude.{ℕ, Bool, true, false, not, ◌&&◌, List, map, length, leb, eqb}
use Rattle.std.specs.Prelude.{Option}
use Rattle.format.specs.declared.Refusal.{Refusal}
use Rattle.format.specs.Refusals.{refusal, need, ◌or_else◌, unless_refused}
use Rattle.format.specs.Check.{check}
use Rattle.std.specs.Prelude.{Ok, Err}
use Rattle.format.specs.Answers.{Outcome, outcome}
use Rattle.decision.specs.declared.Query.{Query}
use Rattle.decision.specs.declared.Decision.{Decision}
use Rattle.decision.specs.declared.Decision.TheVariants.{NotPermitted, Permitted, UnKnown}
use Rattle.decision.specs.Decide.{first_at, answer}

abbrev pub Run : Type 0
Run = Outcome (Option ℕ)

unfoldable pub rows_fault : ℕ → Bool → Option Refusal
rows_fault rows fits = need (leb 1 rows && leb rows 64) (refusal 16 0) or_else need fits (refusal 17 0)

unfoldable pub run_fault : List ℕ → ℕ → Bool → Option Refusal
run_fault l rows fits = check l or_else rows_fault rows fits

unfoldable pub queries_fault : List ℕ → ℕ → ℕ → Option Refusal
queries_fault l rows slots = run_fault l rows (eqb slots rows)

abbrev pub is_permitted : Outcome Decision → Bool
is_permitted (Ok (NotPermitted x)) = false
is_permitted (Ok (Permitted r)) = true
is_permitted (Ok (UnKnown r c)) = false
is_permitted (Err f) = false

unfoldable pub unfit : List ℕ → Query → Bool
unfit l q = not (is_permitted (answer l q))

unfoldable pub first_unfit : List ℕ → List Query → Option ℕ
first_unfit l qs = first_at (unfit l) 0 qs

unfoldable pub run_of : List ℕ → List Query → ℕ → Run
run_of l qs slots = outcome (queries_fault l (length qs) slots) (first_unfit l qs)

unfoldable pub row_answer : List ℕ → Query → Outcome Decision
row_answer l q = answer l q

unfoldable pub answers_after : List ℕ → List Query → List (Outcome Decision) → List (Outcome Decision)
answers_after l qs ys = unless_refused (queries_fault l (length qs) (length ys)) (map (row_answer l) qs) ys
