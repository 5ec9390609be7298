-- What is claimed of runs, and proved in proofs/.
--     Permits l q        a row is Permitted
--     AllPermits l qs other n   each of the first n rows is
--     FitExactly         a run is fit exactly when it is not refused and every row is Permitted
--     UnfitFirst         the row that comes back is not Permitted and every row before it is; and such a row comes back
--     LastCounts         of rows that are all Permitted but the last, the last comes back; a fit run's last row is Permitted; and the
--                        last row is answered
--     RunRefused         a run is refused for its own causes alone, and what the rows are does not matter
--     RunFaults          the image's refusal first, then 16 outside 1 to 64 rows, then 17
--     EachAnswered       each slot says what the single query is answered, a refusal included
--     SlotsLeft          a refused call leaves every slot, and there are always as many
--     OwnRow             an answer depends on its own row alone: not on its place, the other rows, the slots
--     OneRow             a run of one row answers what the single query is answered
--     AnswerSaid         what a row says is what its query is answered, whole
-- And of runs over numbers.
--     NumbersRun         over the numbers of rows it is the run over the rows, and its slots hold their answers' numbers
--     NumbersWhole       and every list of six 16-bit numbers a row is the numbers of rows
--     NumbersAnswered    slot i is the number of the answer to the query of numbers 6 i to 6 i + 5
--     NumbersRefused     it is refused for its own causes alone
--     NumbersLeft        a refused call leaves every slot, and there are always as many
--     NumbersFaults      the image's refusal first; fewer than 6 numbers, and 390 or more, are 16; else 17 unless there are six for
--                        each slot
use Rattle.std.specs.Prelude.{ℕ, ◌+◌, ◌*◌, ◌<◌, ◌≤◌, ◌≡◌, List, [], ◌∷◌, ◌++◌, map, length, get_or}
use Rattle.std.specs.Prelude.{None, Some}
use Rattle.format.specs.declared.Refusal.{Refusal}
use Rattle.format.specs.Refusals.{refusal, unless_refused}
use Rattle.format.specs.Check.{check, Accepted}
use Rattle.std.specs.Prelude.{Ok, Err}
use Rattle.format.specs.Answers.{Outcome}
use Rattle.decision.specs.declared.Query.{Query}
use Rattle.decision.specs.declared.Decision.{Decision}
use Rattle.decision.specs.declared.Decision.TheVariants.{Permitted}
use Rattle.decision.specs.Decide.{answer, query_of}
use Rattle.decision.specs.Numbers.{decision_code}
use Rattle.runs.specs.Runs.{queries_fault, run_of, row_answer, answers_after}
use Rattle.runs.specs.Numbers.{rows_of, numbers_of, numbers_fault, numbers_run, row_code, codes_after}

abbrev pub Permits : List ℕ → Query → Type 0
Permits l q = (r : ℕ) × (answer l q ≡ Ok (Permitted r))

-- `other` stands past the last row; no claim asks for more rows than there are
abbrev pub AllPermits : List ℕ → List Query → Query → ℕ → Type 0
AllPermits l qs other n = (i : ℕ) → i < n → Permits l (get_or qs i other)

abbrev pub FitExactly : Type 0
FitExactly =
    (l : List ℕ) (qs : List Query) (slots : ℕ) (other : Query)
    → (run_of l qs slots ≡ Ok None → (queries_fault l (length qs) slots ≡ None) × AllPermits l qs other (length qs))
    × (queries_fault l (length qs) slots ≡ None → AllPermits l qs other (length qs) → run_of l qs slots ≡ Ok None)

abbrev pub UnfitFirst : Type 0
UnfitFirst =
    (l : List ℕ) (qs : List Query) (slots n : ℕ) (other : Query)
    → (run_of l qs slots ≡ Ok (Some n)
    → (queries_fault l (length qs) slots ≡ None) × (n < length qs) × (Permits l (get_or qs n other) → ⊥) × AllPermits l qs other n)
    × (queries_fault l (length qs) slots ≡ None → n < length qs → (Permits l (get_or qs n other) → ⊥) → AllPermits l qs other n
    → run_of l qs slots ≡ Ok (Some n))

abbrev pub LastCounts : Type 0
LastCounts =
    (l : List ℕ) (qs : List Query) (q : Query) (ys : List (Outcome Decision)) (y : Outcome Decision)
    → (queries_fault l (length qs + 1) (length ys) ≡ None → AllPermits l qs q (length qs) → (Permits l q → ⊥)
    → run_of l (qs ++ (q ∷ [])) (length ys) ≡ Ok (Some (length qs)))
    × (run_of l (qs ++ (q ∷ [])) (length ys) ≡ Ok None → Permits l q)
    × (queries_fault l (length qs + 1) (length ys) ≡ None
    → get_or (answers_after l (qs ++ (q ∷ [])) ys) (length qs) y ≡ answer l q)

abbrev pub RunRefused : Type 0
RunRefused =
    (l : List ℕ) (qs : List Query) (slots : ℕ) (f : Refusal)
    → (queries_fault l (length qs) slots ≡ Some f → run_of l qs slots ≡ Err f)
    × (run_of l qs slots ≡ Err f → queries_fault l (length qs) slots ≡ Some f)

abbrev pub RunFaults : Type 0
RunFaults =
    (l : List ℕ)
    → ((f : Refusal) (n m : ℕ) → check l ≡ Some f → queries_fault l n m ≡ Some f)
    × (Accepted l
    → ((m : ℕ) → queries_fault l 0 m ≡ Some (refusal 16 0))
    × ((n m : ℕ) → 65 ≤ n → queries_fault l n m ≡ Some (refusal 16 0))
    × ((n m : ℕ) → 1 ≤ n → n ≤ 64 → (m ≡ n → ⊥) → queries_fault l n m ≡ Some (refusal 17 0))
    × ((n : ℕ) → 1 ≤ n → n ≤ 64 → queries_fault l n n ≡ None))

abbrev pub EachAnswered : Type 0
EachAnswered =
    (l : List ℕ) (qs : List Query) (ys : List (Outcome Decision)) (i : ℕ) (other : Query) (y : Outcome Decision)
    → queries_fault l (length qs) (length ys) ≡ None → i < length qs
    → get_or (answers_after l qs ys) i y ≡ answer l (get_or qs i other)

abbrev pub SlotsLeft : Type 0
SlotsLeft =
    (l : List ℕ) (qs : List Query) (ys : List (Outcome Decision))
    → (length (answers_after l qs ys) ≡ length ys)
    × ((f : Refusal) → run_of l qs (length ys) ≡ Err f → answers_after l qs ys ≡ ys)

abbrev pub OwnRow : Type 0
OwnRow =
    (l : List ℕ) (qs qs' : List Query) (ys ys' : List (Outcome Decision)) (i i' : ℕ) (other : Query) (y : Outcome Decision)
    → queries_fault l (length qs) (length ys) ≡ None → queries_fault l (length qs') (length ys') ≡ None
    → i < length qs → i' < length qs' → get_or qs i other ≡ get_or qs' i' other
    → get_or (answers_after l qs ys) i y ≡ get_or (answers_after l qs' ys') i' y

abbrev pub OneRow : Type 0
OneRow =
    (l : List ℕ) (q : Query) (y : Outcome Decision)
    → (Accepted l → answers_after l (q ∷ []) (y ∷ []) ≡ answer l q ∷ [])
    × (Permits l q → run_of l (q ∷ []) 1 ≡ Ok None)
    × (Accepted l → (Permits l q → ⊥) → run_of l (q ∷ []) 1 ≡ Ok (Some 0))
    × ((f : Refusal) → check l ≡ Some f
    → (run_of l (q ∷ []) 1 ≡ Err f) × (answer l q ≡ Err f) × (answers_after l (q ∷ []) (y ∷ []) ≡ y ∷ []))

abbrev pub AnswerSaid : Type 0
AnswerSaid = (l : List ℕ) (q : Query) → row_answer l q ≡ answer l q

abbrev pub NumbersRun : Type 0
NumbersRun =
    (l : List ℕ) (qs : List Query) (ys : List ℕ)
    → (numbers_run l (numbers_of qs) (length ys) ≡ run_of l qs (length ys))
    × (codes_after l (numbers_of qs) ys ≡ unless_refused (queries_fault l (length qs) (length ys)) (map (row_code l) qs) ys)

abbrev pub NumbersWhole : Type 0
NumbersWhole = (ns : List ℕ) (m : ℕ) → ((i : ℕ) → get_or ns i 0 < 65536) → length ns ≡ 6 * m → numbers_of (rows_of ns) ≡ ns

abbrev pub NumbersAnswered : Type 0
NumbersAnswered =
    (l ns ys : List ℕ) (i y : ℕ) → numbers_fault l (length ns) (length ys) ≡ None → i < length ys
    → get_or (codes_after l ns ys) i y
    ≡ decision_code (answer l (query_of (get_or ns (6 * i) 0) (get_or ns (6 * i + 1) 0) (get_or ns (6 * i + 2) 0) (get_or ns (6 * i + 3) 0)
    (get_or ns (6 * i + 4) 0 * 65536 + get_or ns (6 * i + 5) 0)))

abbrev pub NumbersRefused : Type 0
NumbersRefused =
    (l ns : List ℕ) (slots : ℕ) (f : Refusal)
    → (numbers_fault l (length ns) slots ≡ Some f → numbers_run l ns slots ≡ Err f)
    × (numbers_run l ns slots ≡ Err f → numbers_fault l (length ns) slots ≡ Some f)

abbrev pub NumbersLeft : Type 0
NumbersLeft =
    (l ns ys : List ℕ)
    → (length (codes_after l ns ys) ≡ length ys)
    × ((f : Refusal) → numbers_run l ns (length ys) ≡ Err f → codes_after l ns ys ≡ ys)

abbrev pub NumbersFaults : Type 0
NumbersFaults =
    (l : List ℕ)
    → ((f : Refusal) (n m : ℕ) → check l ≡ Some f → numbers_fault l n m ≡ Some f)
    × (Accepted l
    → ((n m : ℕ) → n ≤ 5 → numbers_fault l n m ≡ Some (refusal 16 0))
    × ((n m : ℕ) → 390 ≤ n → numbers_fault l n m ≡ Some (refusal 16 0))
    × ((n m : ℕ) → 6 ≤ n → n ≤ 389 → (n ≡ 6 * m → ⊥) → numbers_fault l n m ≡ Some (refusal 17 0))
    × ((m : ℕ) → 1 ≤ m → m ≤ 64 → numbers_fault l (6 * m) m ≡ None))
