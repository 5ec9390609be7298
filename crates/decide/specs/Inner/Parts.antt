-- What the deciding code reads of an accepted image, and what it relies on there.
--     groups_in l, rules_in l w  the records of the groups, and the rules under a switch word
--     rule_in l w at, constraint_in l at, request_in l q   the rule and the constraint that stand at a place, and a query
--     set_in l t, set_at l at, group_set l g   the set of a type, of the type in the field at a place, of a group
--     Part l from count        a part of the image holds members that rise
--     Spans l from count S     it holds those of a set
--     Placed l ps              a table has the place of each group
--     Known l ps               an accepted image, with its groups' places
--     Ready l ps s             and with its sections' starts
--     Surveyed l ps x          what the check gave: the sections' starts and the groups' places, or the refusal
--     TypeAt l at              a type field stands at a place; TypesAt l from n: n of them from a place on
--     RuleHere l at            a rule stands at a place
--     ConstraintHere l at      a constraint does; NthConstraint l n at: it is constraint n
use Rattle.std.specs.Prelude.{ℕ, ◌+◌, ◌*◌, ◌≤◌, ◌<◌, ◌≡◌, List, length, get_or}
use Rattle.format.specs.declared.Section.TheVariants.{Groups, Constraints}
use Rattle.format.specs.declared.Starts.{Starts}
use Rattle.format.specs.Bytes.{word_at}
use Rattle.format.specs.Format.{count_of}
use Rattle.format.specs.Policy.{policy_of, record_at, place_of}
use Rattle.format.specs.Check.{check, Accepted}
use Rattle.format.specs.Claims.{IsType}
use Rattle.format.specs.Answers.{outcome, starts, Outcome}
use Rattle.format.specs.Inner.Places.{words_at, Rising, RuleAt, ConstraintAt}
use Rattle.decision.specs.declared.Query.{Query}
use Rattle.decision.specs.Sets.{set_of}
use Rattle.decision.specs.Reading.{Rule, Constraint, Request, rule_of, constraint_of, request_of, rules_of}

abbrev pub groups_in : List ℕ → List (List ℕ)
groups_in l = (policy_of l).groups

abbrev pub rules_in : List ℕ → ℕ → List Rule
rules_in l w = rules_of (policy_of l) w

abbrev pub rule_in : List ℕ → ℕ → ℕ → Rule
rule_in l w at = rule_of (policy_of l) w (record_at l at)

abbrev pub constraint_in : List ℕ → ℕ → Constraint
constraint_in l at = constraint_of (policy_of l) (record_at l at)

abbrev pub request_in : List ℕ → Query → Request
request_in l q = request_of (policy_of l) q

abbrev pub set_in : List ℕ → ℕ → List ℕ
set_in l t = set_of (groups_in l) t

abbrev pub set_at : List ℕ → ℕ → List ℕ
set_at l at = set_in l (word_at l at)

abbrev pub group_set : List ℕ → ℕ → List ℕ
group_set l g = set_in l (32768 + g)

pub record Part (l : List ℕ) (from count : ℕ) : Type 0 where
  pub some : 0 < count
  pub room : from + 2 * count ≤ length l
  pub rising : Rising 0 (words_at l count from)

pub record Spans (l : List ℕ) (from count : ℕ) (S : List ℕ) : Type 0 where
  pub some : 0 < count
  pub room : from + 2 * count ≤ length l
  pub are : words_at l count from ≡ S
  pub rising : Rising 0 S

abbrev pub Placed : List ℕ → List ℕ → Type 0
Placed l ps = (g : ℕ) → g < count_of l Groups → get_or ps g 0 ≡ place_of l Groups g

pub record Known (l ps : List ℕ) : Type 0 where
  pub accepted : Accepted l
  pub placed : Placed l ps

pub record Ready (l ps : List ℕ) (s : Starts) : Type 0 where
  pub known : Known l ps
  pub starting : s ≡ starts l

pub record Surveyed (l ps : List ℕ) (x : Outcome Starts) : Type 0 where
  pub sections : x ≡ outcome (check l) (starts l)
  pub placed : Accepted l → Placed l ps

pub record TypeAt (l : List ℕ) (at : ℕ) : Type 0 where
  pub room : at + 1 < length l
  pub is : IsType (count_of l Groups) (word_at l at)

pub record TypesAt (l : List ℕ) (from n : ℕ) : Type 0 where
  pub room : from + 2 * n ≤ length l
  pub are : (i : ℕ) → i < n → IsType (count_of l Groups) (word_at l (from + 2 * i))

abbrev pub RuleHere : List ℕ → ℕ → Type 0
RuleHere l at = RuleAt l at (record_at l at)

abbrev pub ConstraintHere : List ℕ → ℕ → Type 0
ConstraintHere l at = ConstraintAt l at (record_at l at)

pub record NthConstraint (l : List ℕ) (n at : ℕ) : Type 0 where
  pub here : ConstraintHere l at
  pub few : n < 256
  pub place : at ≡ place_of l Constraints n
