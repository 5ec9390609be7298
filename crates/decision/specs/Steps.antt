-- What is claimed of the steps and of the nearest rule (request [2]), and cases worked out by hand.
--     steps_of p q r       the steps that a rule's record passes of a query on its policy; steps_at p q n: rule n of the policy
--     StepsInOrder        the steps in their order: condition, source, destination, class, action; 5 is all of them
--     StepsOfRecord       the same by the bytes of a record: an allow rule that is on, one that is off, a transition
--     CoversAll           a rule covers a query exactly where all five pass, and there are no more
--     FewSteps p q r      at most 4 steps; at a transition at most 2, and its first always passes
--     DeniedSteps         so it is of each rule where the answer is NotPermitted
--     NearestPasses       the rule that the answer names is one of the policy's, and passes so many steps
--     NearestOfAll        no rule passes more, and every lower one passes fewer
--     NoRulesExactly      the answer says that there are no rules exactly where there are none
--     off r               the allow rule r, off
--     step_cases           each number of steps at an allow rule and at a transition; the lowest of several; rules that are off;
--                         the last rule; groups
--     StepCases           the definitions give these answers
use Rattle.std.specs.Prelude.{ℕ, ◌≤◌, ◌<◌, ◌≡◌, Bool, true, false, cond, length, get_or, set, eqb, None, Some}
use mathlib.Core.List.{List, [], ◌∷◌, map, Memᴰ}
use Rattle.format.specs.Bytes.{word_at}
use Rattle.format.specs.Policy.{Policy, policy_of}
use Rattle.format.specs.Check.{Accepted}
use Rattle.std.specs.Prelude.{Ok}
use Rattle.format.specs.Sample.{sample, empty}
use Rattle.decision.specs.declared.Query.{Query}
use Rattle.decision.specs.Sets.{set_of, within}
use Rattle.decision.specs.Conditions.{is_on}
use Rattle.decision.specs.Reading.{Rule, Request, asks, rule_of, request_of}
use Rattle.decision.specs.declared.Decision.TheVariants.{NotPermitted, Permitted}
use Rattle.decision.specs.Decide.{covers, steps, answer, Valid, near, Nearest}
use Rattle.decision.specs.Cases.{g0, allow, banned, extended, Case, ask, given, expected_of}
use Rattle.decision.specs.Clauses.{allow_group, back_transition}

abbrev pub steps_of : Policy → Query → List ℕ → ℕ
steps_of p q r = steps (request_of p q) (rule_of p q.switches r)

abbrev pub StepsInOrder : Type 0
StepsInOrder =
    (a : Request) (r : Rule)
    → steps a r
    ≡ cond r.on
    (cond (within a.source r.source)
    (cond (within a.dest r.dest) (cond (asks r.class a.class) (cond (asks r.action a.action) 5 4) 3) 2) 1) 0

-- the query's source and destination within the record's
abbrev pub source_in : Policy → Query → List ℕ → Bool
source_in p q r = within (set_of p.groups q.source) (set_of p.groups (word_at r 2))

abbrev pub dest_in : Policy → Query → List ℕ → Bool
dest_in p q r = within (set_of p.groups q.dest) (set_of p.groups (word_at r 4))

pub record StepsOfRecord : Type 0 where
  pub on :
      (p : Policy) (q : Query) (r : List ℕ) → get_or r 1 0 ≡ 2 → is_on q.switches (get_or r 10 0) ≡ true
      → steps_of p q r
      ≡ cond (source_in p q r) (cond (dest_in p q r) (cond (eqb (word_at r 6) q.class) (cond (eqb (word_at r 8) q.action) 5 4) 3) 2) 1
  pub off : (p : Policy) (q : Query) (r : List ℕ) → get_or r 1 0 ≡ 2 → is_on q.switches (get_or r 10 0) ≡ false → steps_of p q r ≡ 0
  pub transition :
      (p : Policy) (q : Query) (r : List ℕ) → get_or r 1 0 ≡ 3 → steps_of p q r ≡ cond (source_in p q r) (cond (dest_in p q r) 5 2) 1

abbrev pub CoversAll : Type 0
CoversAll = (a : Request) (r : Rule) → (covers a r ≡ eqb (steps a r) 5) × (steps a r ≤ 5)

pub record FewSteps (p : Policy) (q : Query) (r : List ℕ) : Type 0 where
  pub few : steps_of p q r ≤ 4
  pub transition : get_or r 1 0 ≡ 3 → (1 ≤ steps_of p q r) × (steps_of p q r ≤ 2)

abbrev pub DeniedSteps : Type 0
DeniedSteps =
    (l : List ℕ) (q : Query) (x : Nearest) → answer l q ≡ Ok (NotPermitted x)
    → (r : List ℕ) → Memᴰ r (policy_of l).rules → FewSteps (policy_of l) q r

-- of the rule of a number
abbrev pub steps_at : Policy → Query → ℕ → ℕ
steps_at p q n = steps_of p q (get_or p.rules n [])

abbrev pub NearestPasses : Type 0
NearestPasses =
    (l : List ℕ) (q : Query) (s n : ℕ) → answer l q ≡ Ok (NotPermitted (Some (near s n)))
    → (n < length (policy_of l).rules) × (steps_at (policy_of l) q n ≡ s) × (s ≤ 4)

abbrev pub NearestOfAll : Type 0
NearestOfAll =
    (l : List ℕ) (q : Query) (s n : ℕ) → answer l q ≡ Ok (NotPermitted (Some (near s n)))
    → (k : ℕ) → k < length (policy_of l).rules → (steps_at (policy_of l) q k ≤ s) × (k < n → steps_at (policy_of l) q k < s)

abbrev pub NoRulesExactly : Type 0
NoRulesExactly =
    (l : List ℕ) (q : Query) → Accepted l → Valid l q
    → (answer l q ≡ Ok (NotPermitted None) → (policy_of l).rules ≡ [])
    × ((policy_of l).rules ≡ [] → answer l q ≡ Ok (NotPermitted None))

unfoldable pub off : List ℕ → List ℕ
off r = set r 10 0

unfoldable pub step_cases : List Case
step_cases =
    -- allow 10 to 21, class 5, action 1: stopped at the source, whatever comes after it; at the destination, the class, the action
    ask (extended empty (allow 10 21 5 1)) 11 21 5 1 (Ok (NotPermitted (Some (near 1 0))))
    ∷ ask (extended empty (allow 10 21 5 1)) 11 22 6 2 (Ok (NotPermitted (Some (near 1 0))))
    ∷ ask (extended empty (allow 10 21 5 1)) 10 22 5 1 (Ok (NotPermitted (Some (near 2 0))))
    ∷ ask (extended empty (allow 10 21 5 1)) 10 21 6 1 (Ok (NotPermitted (Some (near 3 0))))
    ∷ ask (extended empty (allow 10 21 5 1)) 10 21 5 2 (Ok (NotPermitted (Some (near 4 0))))
    ∷ ask (extended empty (allow 10 21 5 1)) 10 21 5 1 (Ok (Permitted 0))
    -- off: none of its later steps counts, but it is a rule; a constraint that fails plays no part
    ∷ ask (extended empty (off (allow 10 21 5 1))) 10 21 5 1 (Ok (NotPermitted (Some (near 0 0))))
    ∷ ask (extended (extended empty (off (allow 10 21 5 1))) (off (allow 10 21 5 2))) 10 21 5 1 (Ok (NotPermitted (Some (near 0 0))))
    ∷ ask (extended (extended empty (off (allow 10 21 5 1))) (allow 11 21 5 1)) 10 21 5 1 (Ok (NotPermitted (Some (near 1 1))))
    ∷ ask (extended (extended empty (off (allow 10 21 5 1))) banned) 10 21 5 1 (Ok (NotPermitted (Some (near 0 0))))
    -- a transition from 21 to 10, of class 5: stopped at the source and at the destination, of its class and of another
    ∷ ask (extended empty back_transition) 20 10 5 1 (Ok (NotPermitted (Some (near 1 0))))
    ∷ ask (extended empty back_transition) 21 11 5 1 (Ok (NotPermitted (Some (near 2 0))))
    ∷ ask (extended empty back_transition) 21 11 6 1 (Ok (NotPermitted (Some (near 2 0))))
    ∷ ask (extended empty back_transition) 21 10 6 1 (Ok (Permitted 0))
    -- the lowest of several, the greatest of all, the last rule
    ∷ ask (extended (extended empty (allow 10 21 5 1)) (allow 10 21 5 2)) 10 21 5 3 (Ok (NotPermitted (Some (near 4 0))))
    ∷ ask (extended (extended empty (allow 10 22 5 1)) (allow 10 21 6 2)) 10 21 5 3 (Ok (NotPermitted (Some (near 3 1))))
    ∷ ask (extended (extended empty back_transition) (allow 21 11 5 1)) 21 11 6 1 (Ok (NotPermitted (Some (near 3 1))))
    ∷ ask (extended sample (allow 14 21 5 7)) 14 21 5 8 (Ok (NotPermitted (Some (near 4 4))))
    -- the sample's rule 1 and its transition, rule 2
    ∷ ask sample 20 30 6 2 (Ok (NotPermitted (Some (near 3 1))))
    ∷ ask sample 12 30 5 1 (Ok (NotPermitted (Some (near 2 2))))
    -- group 0 is 20, 21, which is not within 20; and is within itself
    ∷ ask sample g0 30 5 2 (Ok (NotPermitted (Some (near 1 0))))
    ∷ ask sample 12 g0 5 1 (Ok (NotPermitted (Some (near 2 2))))
    ∷ ask (extended sample (allow_group 0 10)) g0 10 5 1 (Ok (NotPermitted (Some (near 4 4))))
    ∷ []

abbrev pub StepCases : Type 0
StepCases = map given step_cases ≡ map expected_of step_cases
