-- How a query is decided (document 01, "How a draw is decided"), how near a rule came to it (request [2]), and what a separation asks
-- (request [5]).
--     tests a r           the tests that a rule makes of a query, in order
--     covers a r          document 01's "covers": all pass
--     passes bs, steps a r   request [2]'s "steps": how many pass before the first that fails; all five where the rule covers
--     reaches s r         a live rule whose destination touches a set
--     broken rs c         the predicate byte's part of a predicate is false, by the rules rs: `separation_broken`,
--                         `roster_broken`, `companion_broken`, and ban always
--     applies a c         document 01's "applies": of the query's class and action
--     inside a c          the query's types are within the constraint's arguments
--     fails rs a c        the constraint applies to the query, and its predicate is false
--     first_at f n l       the number, counted from n, of the first element that passes a test
--     greatest f l        the greatest number that f gives for an element
--     nearest_of, nearest_by f l   that number, and the first element that has it; of no element, that there are none
--     nearest a rs        the greatest number of steps, and the lowest rule that has it; or that there are no rules
--     Nearest, near s n   the nearest rule, if there is one; rule n, of which s steps pass
--     decision_of         the three decisions, from the nearest rule, and the rule and the constraint that were found
--     judge rs cs a       the decision: the lowest rule that covers the query, the lowest constraint that fails; the nearest rule
--                         where none covers
--     decide p q          the decision of a policy: its rules are read under the query's word, for cover and for every predicate
--     query_fault g q      refusals 8 and 9, where there are g groups
--     answer_fault l q     refusals 1 to 7, then 8 and 9
--     answer l q          the engine's answer, for any bytes and any query
--     query_of s d c a w   a query of five numbers, the last its switch word
--     Valid l q           the query's types are type fields of the image
use Rattle.std.specs.Prelude.{ℕ, suc, max, ◌≡◌, Bool, true, not, ◌&&◌, cond, List, [], ◌∷◌, eqb}
use Rattle.std.specs.Prelude.{Option, None, Some}
use Rattle.format.specs.declared.Section.TheVariants.{Groups}
use Rattle.format.specs.declared.Refusal.{Refusal}
use Rattle.format.specs.Refusals.{refusal, need, ◌or_else◌}
use Rattle.format.specs.Format.{is_type, count_of}
use Rattle.format.specs.Policy.{Policy, policy_of}
use Rattle.format.specs.Check.{check}
use Rattle.format.specs.Answers.{Outcome, outcome}
use Rattle.decision.specs.declared.Query.{Query}
use Rattle.decision.specs.declared.Near.{Near}
use Rattle.decision.specs.Sets.{any_of, all_of, within, touches}
use Rattle.decision.specs.Reading.{Rule, Constraint, Request, asks, live, request_of, rules_of, constraints_of}
use Rattle.decision.specs.declared.Decision.{Decision}
use Rattle.decision.specs.declared.Decision.TheVariants.{NotPermitted, Permitted, UnKnown}

-- condition, source, destination, class, action
unfoldable pub tests : Request → Rule → List Bool
tests a r =
    r.on
    ∷ within a.source r.source
    ∷ within a.dest r.dest
    ∷ asks r.class a.class
    ∷ asks r.action a.action
    ∷ []

unfoldable pub covers : Request → Rule → Bool
covers a r = all_of (λ b. b) (tests a r)

unfoldable pub passes : List Bool → ℕ
passes [] = 0
passes (b ∷ l) = cond b (suc (passes l)) 0

unfoldable pub steps : Request → Rule → ℕ
steps a r = passes (tests a r)

abbrev pub Nearest : Type 0
Nearest = Option Near

abbrev pub near : ℕ → ℕ → Near
near s n = record { steps = s; rule = n }

unfoldable pub nearest_of : ℕ → Option ℕ → Nearest
nearest_of s None = None
nearest_of s (Some n) = Some (near s n)

module _ {A : Type 0} where
  unfoldable pub first_at : (A → Bool) → ℕ → List A → Option ℕ
  first_at f n [] = None
  first_at f n (x ∷ l) = cond (f x) (Some n) (first_at f (suc n) l)

  unfoldable pub greatest : (A → ℕ) → List A → ℕ
  greatest f [] = 0
  greatest f (x ∷ l) = max (f x) (greatest f l)

  unfoldable pub nearest_by : (A → ℕ) → List A → Nearest
  nearest_by f l = let s = greatest f l in nearest_of s (first_at (λ x. eqb (f x) s) 0 l)

unfoldable pub nearest : Request → List Rule → Nearest
nearest a rs = nearest_by (steps a) rs

unfoldable pub reaches : List ℕ → Rule → Bool
reaches s r = live r && touches r.dest s

-- a and b may be one rule
unfoldable pub separation_broken : List Rule → Constraint → Bool
separation_broken rs c = any_of (λ a. reaches c.first a && any_of (λ b. reaches c.second b && touches a.source b.source) rs) rs

unfoldable pub roster_broken : List Rule → Constraint → Bool
roster_broken rs c = any_of (λ a. reaches c.second a && not (within a.source c.list)) rs

unfoldable pub companion_broken : List Rule → Constraint → Bool
companion_broken rs c = not (any_of (λ a. reaches c.first a && touches a.source c.second) rs)

unfoldable pub broken : List Rule → Constraint → Bool
broken rs c =
    cond (eqb c.predicate 0) true
    (cond (eqb c.predicate 1) (separation_broken rs c) (cond (eqb c.predicate 2) (roster_broken rs c) (companion_broken rs c)))

unfoldable pub applies : Request → Constraint → Bool
applies a c = eqb c.class a.class && eqb c.action a.action

unfoldable pub inside : Request → Constraint → Bool
inside a c = within a.source c.first && within a.dest c.second

unfoldable pub fails : List Rule → Request → Constraint → Bool
fails rs a c = applies a c && inside a c && broken rs c

-- no rule covers: constraints play no part
unfoldable pub decision_of : Nearest → Option ℕ → Option ℕ → Decision
decision_of x None c = NotPermitted x
decision_of x (Some r) None = Permitted r
decision_of x (Some r) (Some c) = UnKnown r c

unfoldable pub judge : List Rule → List Constraint → Request → Decision
judge rs cs a = decision_of (nearest a rs) (first_at (covers a) 0 rs) (first_at (fails rs a) 0 cs)

unfoldable pub decide : Policy → Query → Decision
decide p q = judge (rules_of p q.switches) (constraints_of p) (request_of p q)

unfoldable pub query_fault : ℕ → Query → Option Refusal
query_fault g q = need (is_type g q.source) (refusal 8 0) or_else need (is_type g q.dest) (refusal 9 0)

unfoldable pub answer_fault : List ℕ → Query → Option Refusal
answer_fault l q = check l or_else query_fault (count_of l Groups) q

unfoldable pub answer : List ℕ → Query → Outcome Decision
answer l q = outcome (answer_fault l q) (decide (policy_of l) q)

abbrev pub query_of : ℕ → ℕ → ℕ → ℕ → ℕ → Query
query_of s d c a w = record { source = s; dest = d; class = c; action = a; switches = w }

abbrev pub Valid : List ℕ → Query → Type 0
Valid l q = (is_type (count_of l Groups) q.source ≡ true) × (is_type (count_of l Groups) q.dest ≡ true)
