-- A run over numbers, as C lends it: six for each row, the halves of its switch word last (request [6]), and the number of its answer
-- for each slot.
--     word_from h l         the word of a high and a low half
--     rows_of ns            the whole rows of a list of numbers; what is left at its end is no row
--     numbers_of qs         the numbers of rows
--     numbers_fault l n m   of n numbers with m slots: 16 by the whole rows, then 17 unless there are six numbers for each slot
--     numbers_run l ns m    what a run with m slots comes to
--     row_code l q          the number of a row's answer
--     codes_after l ns ys   the slots afterwards: each row's number, and where the call is refused as they were
--     row_found o           0, 1, 0, 0 where no row is found, which is fit; 0, 0, 0, row where one is
--     run_code o            what a run comes to, as a number: that, or the refusal
use Rattle.std.specs.Prelude.{ℕ, ◌+◌, ◌*◌, ◌/◌, ◌%◌, List, [], ◌∷◌, map, length, eqb}
use Rattle.std.specs.Prelude.{Option, None, Some}
use Rattle.format.specs.declared.Refusal.{Refusal}
use Rattle.format.specs.Refusals.{unless_refused}
use Rattle.format.specs.Answers.{Outcome, outcome}
use Rattle.decision.specs.declared.Query.{Query}
use Rattle.decision.specs.Decide.{answer, query_of}
use Rattle.decision.specs.Numbers.{parts_of, code_of, decision_code}
use Rattle.runs.specs.Runs.{run_fault, first_unfit}

abbrev pub word_from : ℕ → ℕ → ℕ
word_from h l = h * 65536 + l

unfoldable pub rows_of : List ℕ → List Query
rows_of [] = []
rows_of (s ∷ []) = []
rows_of (s ∷ d ∷ []) = []
rows_of (s ∷ d ∷ c ∷ []) = []
rows_of (s ∷ d ∷ c ∷ a ∷ []) = []
rows_of (s ∷ d ∷ c ∷ a ∷ h ∷ []) = []
rows_of (s ∷ d ∷ c ∷ a ∷ h ∷ w ∷ ns) = query_of s d c a (word_from h w) ∷ rows_of ns

unfoldable pub numbers_of : List Query → List ℕ
numbers_of [] = []
numbers_of (q ∷ qs) = q.source ∷ q.dest ∷ q.class ∷ q.action ∷ q.switches / 65536 ∷ q.switches % 65536 ∷ numbers_of qs

unfoldable pub numbers_fault : List ℕ → ℕ → ℕ → Option Refusal
numbers_fault l n slots = run_fault l (n / 6) (eqb n (6 * slots))

unfoldable pub numbers_run : List ℕ → List ℕ → ℕ → Outcome (Option ℕ)
numbers_run l ns slots = outcome (numbers_fault l (length ns) slots) (first_unfit l (rows_of ns))

unfoldable pub row_code : List ℕ → Query → ℕ
row_code l q = decision_code (answer l q)

unfoldable pub codes_after : List ℕ → List ℕ → List ℕ → List ℕ
codes_after l ns ys = unless_refused (numbers_fault l (length ns) (length ys)) (map (row_code l) (rows_of ns)) ys

abbrev pub row_found : Option ℕ → ℕ
row_found None = parts_of 1 0 0
row_found (Some n) = parts_of 0 0 n

abbrev pub run_code : Outcome (Option ℕ) → ℕ
run_code = code_of row_found
