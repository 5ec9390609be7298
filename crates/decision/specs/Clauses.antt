-- Clauses of document 01 that no marked case meets, as a second table, and refusals 1 to 7, 10, 11 and 13. Worked out by hand from the
-- clauses; `tests/` runs these and more.
--     allow_group, companion_of_group, roster_of_group, back_transition, long_roster   records
--     clause_cases       a ban; a companion and a roster that touch; 9, 8 before 9, 1 before both; a transition that is not live; a list of
--                       two types, and of a group; a source of which a part is listed; a companion's rule to elsewhere;
--                       a rule and a ban of another class, and of another action (`Separation` has the cases of separations)
--     ClauseCases       the definitions give these answers
--     RefusalCases      document 01's unmarked refusals, and one each of 1 to 7, 10, 11 and 13; the last condition, and one past it
--                       (request [6])
use Rattle.std.specs.Prelude.{ℕ, ◌≡◌, List, [], ◌∷◌, ◌++◌, map, take, set}
use Rattle.std.specs.Prelude.{None, Some}
use Rattle.format.specs.Refusals.{refusal}
use Rattle.format.specs.Check.{check}
use Rattle.std.specs.Prelude.{Ok, Err}
use Rattle.format.specs.Sample.{sample}
use Rattle.extension.specs.Add.{add_fault}
use Rattle.decision.specs.declared.Decision.TheVariants.{NotPermitted, Permitted, UnKnown}
use Rattle.decision.specs.Cases.{g0, allow, companion, one_member, banned, extended, Case, ask, given, expected_of}
use Rattle.decision.specs.Decide.{near}

-- an allow rule from group n to a basic type, class 5, action 3
unfoldable pub allow_group : ℕ → ℕ → List ℕ
allow_group n d = 11 ∷ 2 ∷ 128 ∷ n ∷ 0 ∷ d ∷ 0 ∷ 5 ∷ 0 ∷ 3 ∷ 1 ∷ []

-- a companion on class 5, action 1, of 10 and g0, and a roster of 10, of 10 and g0
unfoldable pub companion_of_group : List ℕ
companion_of_group = 11 ∷ 4 ∷ 0 ∷ 5 ∷ 0 ∷ 1 ∷ 0 ∷ 10 ∷ 128 ∷ 0 ∷ 3 ∷ []

unfoldable pub roster_of_group : List ℕ
roster_of_group = 13 ∷ 4 ∷ 0 ∷ 5 ∷ 0 ∷ 1 ∷ 0 ∷ 10 ∷ 128 ∷ 0 ∷ 2 ∷ 0 ∷ 10 ∷ []

-- a transition 21 to 10
unfoldable pub back_transition : List ℕ
back_transition = 8 ∷ 3 ∷ 0 ∷ 21 ∷ 0 ∷ 10 ∷ 0 ∷ 5 ∷ []

-- a roster on class 5, action 1, arguments 12 and 20, of 10 and of the type in two bytes
unfoldable pub long_roster : ℕ → ℕ → List ℕ
long_roster h l = 15 ∷ 4 ∷ 0 ∷ 5 ∷ 0 ∷ 1 ∷ 0 ∷ 12 ∷ 0 ∷ 20 ∷ 2 ∷ 0 ∷ 10 ∷ h ∷ l ∷ []

unfoldable pub clause_cases : List Case
clause_cases =
    ask (extended sample banned) 10 21 5 1 (Ok (UnKnown 0 2))
    ∷ ask (extended sample banned) 10 g0 5 1 (Ok (Permitted 0))
    ∷ ask (extended (extended sample companion) (allow_group 0 10)) 10 21 5 1 (Ok (Permitted 0))
    ∷ ask (extended (extended sample companion_of_group) (allow 21 10 7 9)) 10 21 5 1 (Ok (Permitted 0))
    ∷ ask (extended (extended sample roster_of_group) (allow 14 21 7 7)) 10 21 5 1 (Ok (UnKnown 0 0))
    ∷ ask (extended (extended sample roster_of_group) (allow 14 20 7 7)) 10 21 5 1 (Ok (UnKnown 0 2))
    ∷ ask sample 10 1024 5 1 (Err (refusal 9 0))
    ∷ ask sample 1024 1024 5 1 (Err (refusal 8 0))
    ∷ ask (5 ∷ []) 1024 1024 5 1 (Err (refusal 1 0))
    ∷ ask (extended sample back_transition) 10 21 5 1 (Ok (Permitted 0))
    ∷ ask (extended (extended sample back_transition) companion) 10 21 5 1 (Ok (UnKnown 0 2))
    ∷ ask (extended (extended sample (allow 14 g0 7 7)) (long_roster 0 14)) 12 20 5 1 (Ok (Permitted 2))
    ∷ ask (extended (extended sample (allow 15 g0 7 7)) (long_roster 0 14)) 12 20 5 1 (Ok (UnKnown 2 2))
    ∷ ask (extended (extended sample (allow_group 0 20)) (long_roster 0 21)) 12 20 5 1 (Ok (UnKnown 2 2))
    ∷ ask (extended (extended sample (allow 21 20 7 7)) (long_roster 128 0)) 12 20 5 1 (Ok (Permitted 2))
    ∷ ask (extended (extended sample companion) (allow 21 30 5 9)) 10 21 5 1 (Ok (UnKnown 0 2))
    ∷ ask (extended (extended sample one_member) (allow 14 0x8001 7 7)) 10 21 5 1 (Ok (UnKnown 0 0))
    ∷ ask sample 10 21 6 1 (Ok (NotPermitted (Some (near 3 0))))
    ∷ ask sample 10 21 5 2 (Ok (NotPermitted (Some (near 4 0))))
    ∷ ask (extended (extended sample banned) (allow 10 21 6 1)) 10 21 6 1 (Ok (Permitted 4))
    ∷ ask (extended (extended sample banned) (allow 10 21 5 2)) 10 21 5 2 (Ok (Permitted 4))
    ∷ []

abbrev pub ClauseCases : Type 0
ClauseCases = map given clause_cases ≡ map expected_of clause_cases

pub record RefusalCases : Type 0 where
  pub short : check (take 8 sample) ≡ Some (refusal 1 0)
  pub version_two : check (set sample 0 2) ≡ Some (refusal 2 0)
  pub cut : check (take 79 sample) ≡ Some (refusal 3 0)
  pub rules_1025 : check (set (set sample 5 4) 6 1) ≡ Some (refusal 4 5)
  pub cut_said : check (take 79 (set sample 2 79)) ≡ Some (refusal 5 69)
  pub condition_33 : check (set sample 25 33) ≡ None
  pub condition_34 : check (set sample 25 34) ≡ Some (refusal 6 25)
  pub added_condition_34 : add_fault sample (set (allow 10 21 5 1) 10 34) ≡ Some (refusal 11 10)
  pub more : check (set sample 2 81 ++ (0 ∷ [])) ≡ Some (refusal 7 80)
  pub shape_first : add_fault sample (set companion 0 12) ≡ Some (refusal 10 0)
  pub field : add_fault sample (set companion 10 4) ≡ Some (refusal 11 10)
  pub no_room : add_fault sample companion ≡ Some (refusal 13 0)
