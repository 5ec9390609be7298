-- Runs on the sample sheet, worked out by hand from document 01's cases and from document 02, requests 1, 2 and 6.
--     member, group, transition, separated, off_rule, other_action, no_source, no_dest   rows: document 01's marked queries, one of an
--                         action that no rule has, and two of a type that is none
--     waiting w, apart w  rows under a word: one that the sample's rule 3 covers while it is on, and one that a separation stops
--     P r, N s r, R8, R9  what a row is answered: Permitted by rule r, NotPermitted with s steps at rule r, refused with 8 and
--                         with 9
--     blank n             n slots before the run
--     RunCase, asks       the image, the rows, the slots before; what the run comes to, and what the slots say afterwards
--     run_cases            fit runs of three rows, of one, of 64; the first, a middle and the last row not Permitted, of one row and of 64;
--                         refused rows alone, among others, and last; UnKnown; 65 rows, and none; slots too few and too many; a refused
--                         image, before 16 and before 17
--     comes_of, says_of     what the definitions give
--     RunCases            that, for each
--     NumberCase, calls, number_cases, number_of, codes_of, NumberCases   over numbers, as C calls it: a number each; all rules
--                                off is 0, no rules 65535
use Rattle.std.specs.Prelude.{ℕ, ◌≡◌, List, [], ◌∷◌, ◌++◌, map, length, take, set, replicate}
use Rattle.std.specs.Prelude.{Option, None, Some}
use Rattle.format.specs.Refusals.{refusal}
use Rattle.std.specs.Prelude.{Ok, Err}
use Rattle.format.specs.Answers.{Outcome}
use Rattle.format.specs.Sample.{sample, empty}
use Rattle.decision.specs.declared.Query.{Query}
use Rattle.decision.specs.declared.Decision.{Decision}
use Rattle.decision.specs.declared.Decision.TheVariants.{NotPermitted, Permitted, UnKnown}
use Rattle.decision.specs.Decide.{query_of, near}
use Rattle.decision.specs.Cases.{g0, allow, extended}
use Rattle.decision.specs.Steps.{off}
use Rattle.decision.specs.Switches.{allow_if, sample_if}
use Rattle.runs.specs.Runs.{run_of, answers_after}
use Rattle.runs.specs.Numbers.{numbers_run, codes_after, run_code}

-- Permitted by rules 0, 0, 2 and 1; NotPermitted, with 1 step and with 4; refused with 8, and with 9
unfoldable pub member : Query
member = query_of 10 21 5 1 0

unfoldable pub group : Query
group = query_of 10 g0 5 1 0

unfoldable pub transition : Query
transition = query_of 12 20 9 9 0

unfoldable pub separated : Query
separated = query_of 20 30 5 2 0

unfoldable pub off_rule : Query
off_rule = query_of 13 21 5 1 0

unfoldable pub other_action : Query
other_action = query_of 10 21 5 9 0

unfoldable pub no_source : Query
no_source = query_of 1024 21 5 1 0

unfoldable pub no_dest : Query
no_dest = query_of 10 32769 5 1 0

-- 13 to 21, class 5, action 1, under a word: rule 3 of the sample, where a switch turns it on
unfoldable pub waiting : ℕ → Query
waiting = query_of 13 21 5 1

-- 20 to 30, class 5, action 2, under a word
unfoldable pub apart : ℕ → Query
apart = query_of 20 30 5 2

abbrev Said : Type 0
Said = Outcome Decision

abbrev pub P : ℕ → Said
P r = Ok (Permitted r)

abbrev pub N : ℕ → ℕ → Said
N s r = Ok (NotPermitted (Some (near s r)))

abbrev pub R8 : Said
R8 = Err (refusal 8 0)

abbrev pub R9 : Said
R9 = Err (refusal 9 0)

-- what slots hold before: UnKnown, rule 1,000 and constraint 200, which the sample has not
abbrev pub blank : ℕ → List Said
blank n = replicate n (Ok (UnKnown 1000 200))

pub record RunCase : Type 0 where
  pub image : List ℕ
  pub rows : List Query
  pub slots : List Said
  pub comes : Outcome (Option ℕ)
  pub says : List Said

unfoldable pub asks : List ℕ → List Query → ℕ → Outcome (Option ℕ) → List Said → RunCase
asks l qs n o s = record { image = l; rows = qs; slots = blank n; comes = o; says = s }

unfoldable pub run_cases : List RunCase
run_cases =
    asks sample (member ∷ group ∷ transition ∷ []) 3 (Ok None) (P 0 ∷ P 0 ∷ P 2 ∷ [])
    ∷ asks sample (separated ∷ []) 1 (Ok None) (P 1 ∷ [])
    ∷ asks sample (off_rule ∷ []) 1 (Ok (Some 0)) (N 1 0 ∷ [])
    ∷ asks sample (off_rule ∷ member ∷ off_rule ∷ []) 3 (Ok (Some 0)) (N 1 0 ∷ P 0 ∷ N 1 0 ∷ [])
    ∷ asks sample (member ∷ off_rule ∷ transition ∷ []) 3 (Ok (Some 1)) (P 0 ∷ N 1 0 ∷ P 2 ∷ [])
    ∷ asks sample (member ∷ transition ∷ off_rule ∷ []) 3 (Ok (Some 2)) (P 0 ∷ P 2 ∷ N 1 0 ∷ [])
    ∷ asks sample (member ∷ no_source ∷ transition ∷ off_rule ∷ []) 4 (Ok (Some 1)) (P 0 ∷ R8 ∷ P 2 ∷ N 1 0 ∷ [])
    ∷ asks sample (other_action ∷ off_rule ∷ member ∷ other_action ∷ []) 4 (Ok (Some 0)) (N 4 0 ∷ N 1 0 ∷ P 0 ∷ N 4 0 ∷ [])
    ∷ asks empty (member ∷ []) 1 (Ok (Some 0)) (Ok (NotPermitted None) ∷ [])
    ∷ asks sample (member ∷ group ∷ no_source ∷ []) 3 (Ok (Some 2)) (P 0 ∷ P 0 ∷ R8 ∷ [])
    ∷ asks sample (no_dest ∷ []) 1 (Ok (Some 0)) (R9 ∷ [])
    ∷ asks (extended sample (allow 10 30 5 3)) (member ∷ separated ∷ transition ∷ []) 3 (Ok (Some 1)) (P 0 ∷ Ok (UnKnown 1 1) ∷ P 2 ∷ [])
    -- each row under its own word: rule 3 by switch 0; and a separation that a rule of switch 5 breaks, found again for each word
    ∷ asks (sample_if 2) (waiting 1 ∷ waiting 0 ∷ waiting 0xFFFFFFFF ∷ waiting 0xFFFFFFFE ∷ []) 4 (Ok (Some 1)) (P 3 ∷ N 1 0 ∷ P 3 ∷ N 1 0 ∷ [])
    ∷ asks (extended sample (allow_if 7 (allow 10 30 5 3))) (apart 31 ∷ apart 32 ∷ apart 31 ∷ apart 0 ∷ []) 4 (Ok (Some 1))
    (P 1 ∷ Ok (UnKnown 1 1) ∷ P 1 ∷ P 1 ∷ [])
    ∷ asks sample (replicate 64 transition) 64 (Ok None) (replicate 64 (P 2))
    ∷ asks sample (replicate 63 transition ++ (off_rule ∷ [])) 64 (Ok (Some 63)) (replicate 63 (P 2) ++ (N 1 0 ∷ []))
    ∷ asks sample (replicate 65 transition) 65 (Err (refusal 16 0)) (blank 65)
    ∷ asks sample [] 0 (Err (refusal 16 0)) []
    ∷ asks sample [] 2 (Err (refusal 16 0)) (blank 2)
    ∷ asks sample (replicate 65 transition) 1 (Err (refusal 16 0)) (blank 1)
    ∷ asks sample (member ∷ transition ∷ []) 1 (Err (refusal 17 0)) (blank 1)
    ∷ asks sample (member ∷ transition ∷ []) 3 (Err (refusal 17 0)) (blank 3)
    ∷ asks sample (replicate 64 transition) 63 (Err (refusal 17 0)) (blank 63)
    ∷ asks sample (replicate 64 transition) 65 (Err (refusal 17 0)) (blank 65)
    ∷ asks sample (member ∷ []) 0 (Err (refusal 17 0)) []
    ∷ asks (take 79 sample) (member ∷ []) 1 (Err (refusal 3 0)) (blank 1)
    ∷ asks (take 79 (set sample 2 79)) (member ∷ []) 1 (Err (refusal 5 69)) (blank 1)
    ∷ asks (take 79 sample) [] 1 (Err (refusal 3 0)) (blank 1)
    ∷ asks (take 79 sample) (member ∷ []) 2 (Err (refusal 3 0)) (blank 2)
    ∷ []

unfoldable pub comes_of : RunCase → Outcome (Option ℕ)
comes_of c = run_of c.image c.rows (length c.slots)

unfoldable pub says_of : RunCase → List Said
says_of c = answers_after c.image c.rows c.slots

pub record RunCases : Type 0 where
  pub come : map comes_of run_cases ≡ map (λ c. c.comes) run_cases
  pub say : map says_of run_cases ≡ map (λ c. c.says) run_cases

-- the image, the numbers, how many slots, which hold 7; what comes back, and the slots afterwards
pub record NumberCase : Type 0 where
  pub image : List ℕ
  pub numbers : List ℕ
  pub slots : ℕ
  pub comes : ℕ
  pub says : List ℕ

unfoldable pub calls : List ℕ → List ℕ → ℕ → ℕ → List ℕ → NumberCase
calls l ns m n s = record { image = l; numbers = ns; slots = m; comes = n; says = s }

unfoldable pub number_cases : List NumberCase
number_cases =
    calls sample (10 ∷ 21 ∷ 5 ∷ 1 ∷ 0 ∷ 0 ∷ 12 ∷ 20 ∷ 9 ∷ 9 ∷ 0 ∷ 0 ∷ []) 2 0x100000000 (0x100000000 ∷ 0x100000002 ∷ [])
    ∷ calls sample (20 ∷ 30 ∷ 5 ∷ 2 ∷ 0 ∷ 0 ∷ 13 ∷ 21 ∷ 5 ∷ 1 ∷ 0 ∷ 0 ∷ []) 2 1 (0x100000001 ∷ 0x10000 ∷ [])
    ∷ calls sample (13 ∷ 21 ∷ 5 ∷ 1 ∷ 0 ∷ 0 ∷ []) 1 0 (0x10000 ∷ [])
    ∷ calls sample (10 ∷ 21 ∷ 5 ∷ 9 ∷ 0 ∷ 0 ∷ []) 1 0 (0x40000 ∷ [])
    ∷ calls sample (20 ∷ 30 ∷ 6 ∷ 2 ∷ 0 ∷ 0 ∷ []) 1 0 (0x30001 ∷ [])
    ∷ calls empty (13 ∷ 21 ∷ 5 ∷ 1 ∷ 0 ∷ 0 ∷ []) 1 0 (0xFFFF ∷ [])
    ∷ calls (extended empty (off (allow 10 21 5 1))) (10 ∷ 21 ∷ 5 ∷ 1 ∷ 0 ∷ 0 ∷ []) 1 0 (0 ∷ [])
    ∷ calls sample (10 ∷ 21 ∷ 5 ∷ 1 ∷ 0 ∷ 0 ∷ 1024 ∷ 21 ∷ 5 ∷ 1 ∷ 0 ∷ 0 ∷ []) 2 1 (0x100000000 ∷ 0x200080000 ∷ [])
    ∷ calls sample (10 ∷ 32769 ∷ 5 ∷ 1 ∷ 0 ∷ 0 ∷ []) 1 0 (0x200090000 ∷ [])
    ∷ calls (extended sample (allow 10 30 5 3)) (20 ∷ 30 ∷ 5 ∷ 2 ∷ 0 ∷ 0 ∷ []) 1 0 (0x300010001 ∷ [])
    ∷ calls sample (replicate 384 0) 64 0 (replicate 64 0x10000)
    -- switch 16 is the lowest of the high half, switch 0 of the low one
    ∷ calls (sample_if 18) (13 ∷ 21 ∷ 5 ∷ 1 ∷ 1 ∷ 0 ∷ 13 ∷ 21 ∷ 5 ∷ 1 ∷ 0 ∷ 1 ∷ []) 2 1 (0x100000003 ∷ 0x10000 ∷ [])
    ∷ calls (sample_if 2) (13 ∷ 21 ∷ 5 ∷ 1 ∷ 1 ∷ 0 ∷ 13 ∷ 21 ∷ 5 ∷ 1 ∷ 0 ∷ 1 ∷ []) 2 0 (0x10000 ∷ 0x100000003 ∷ [])
    ∷ calls sample [] 0 0x200100000 []
    ∷ calls sample (12 ∷ 20 ∷ 9 ∷ 9 ∷ 0 ∷ []) 1 0x200100000 (7 ∷ [])
    ∷ calls sample (12 ∷ 20 ∷ 9 ∷ 9 ∷ 0 ∷ 0 ∷ 12 ∷ []) 1 0x200110000 (7 ∷ [])
    ∷ calls sample (12 ∷ 20 ∷ 9 ∷ 9 ∷ 0 ∷ 0 ∷ []) 0 0x200110000 []
    ∷ calls sample (12 ∷ 20 ∷ 9 ∷ 9 ∷ 0 ∷ 0 ∷ []) 4 0x200110000 (replicate 4 7)
    ∷ calls sample (replicate 389 0) 64 0x200110000 (replicate 64 7)
    ∷ calls sample (replicate 390 0) 65 0x200100000 (replicate 65 7)
    ∷ calls (take 79 sample) (12 ∷ 20 ∷ 9 ∷ 9 ∷ 0 ∷ 0 ∷ []) 1 0x200030000 (7 ∷ [])
    ∷ []

unfoldable pub number_of : NumberCase → ℕ
number_of c = run_code (numbers_run c.image c.numbers c.slots)

unfoldable pub codes_of : NumberCase → List ℕ
codes_of c = codes_after c.image c.numbers (replicate c.slots 7)

pub record NumberCases : Type 0 where
  pub come : map number_of number_cases ≡ map (λ c. c.comes) number_cases
  pub say : map codes_of number_cases ≡ map (λ c. c.says) number_cases
