-- The order rule (demand 3, on the terms of document 01 and, for switches, of request [6]), and totality.
--     height d              NotPermitted < Permitted < UnKnown
--     Holds rs₁ rs₂         document 01's "holds": each record of the first list is in the second, at any number
--     Keeps gs₁ gs₂         the second list has the first's groups, under their old numbers
--     Grows p₁ p₂           the second policy holds the first's rules and constraints, and has its groups under their old numbers
--     NoCompanion cs        no constraint of the list is a companion
--     SwitchedOn v w        every switch that is on in the first word is on in the second
--     Exempt p₁ q₁ p₂ q₂    with the terms' `policy`, both policies hold the same rules; and the words are equal
--     Extends p₁ q₁ p₂ q₂   the terms: a second policy and query extend a first
--     OrderRule             demand 3, on what the engine answers
--     QueryOrder            the paper's order preservation: on one policy, a query within another, of its class, action and
--                           word, is decided no lower
--     NonDecreasing         the paper's non-decreasing property: one query, groups kept, no companion in the first; more rules and
--                           constraints, no lower decision
--     Decided               totality: every valid query on an accepted image gets one of the three decisions
--     DecidedOnly           and nothing else does
use Rattle.std.specs.Prelude.{ℕ, ◌≤◌, ◌<◌, ◌≡◌, ◌⊎◌, true, length, get_or}
use mathlib.Core.List.{List, [], Memᴰ}
use Rattle.format.specs.Policy.{Policy, policy_of}
use Rattle.format.specs.Check.{Accepted}
use Rattle.std.specs.Prelude.{Ok}
use Rattle.decision.specs.declared.Query.{Query}
use Rattle.decision.specs.Sets.{set_of, within}
use Rattle.decision.specs.Conditions.{switch_on}
use Rattle.decision.specs.declared.Decision.{Decision}
use Rattle.decision.specs.declared.Decision.TheVariants.{NotPermitted, Permitted, UnKnown}
use Rattle.decision.specs.Decide.{answer, Valid}

unfoldable pub height : Decision → ℕ
height (NotPermitted x) = 0
height (Permitted r) = 1
height (UnKnown r c) = 2

abbrev pub Holds : List (List ℕ) → List (List ℕ) → Type 0
Holds rs₁ rs₂ = (r : List ℕ) → Memᴰ r rs₁ → Memᴰ r rs₂

pub record Keeps (gs₁ gs₂ : List (List ℕ)) : Type 0 where
  pub count : length gs₁ ≤ length gs₂
  pub same : (i : ℕ) → i < length gs₁ → get_or gs₁ i [] ≡ get_or gs₂ i []

pub record Grows (p₁ p₂ : Policy) : Type 0 where
  pub rules : Holds p₁.rules p₂.rules
  pub constraints : Holds p₁.constraints p₂.constraints
  pub groups : Keeps p₁.groups p₂.groups

abbrev pub NoCompanion : List (List ℕ) → Type 0
NoCompanion cs = (c : List ℕ) → Memᴰ c cs → get_or c 10 0 ≡ 3 → ⊥

-- "every switch of the first query also on in the second"
abbrev pub SwitchedOn : ℕ → ℕ → Type 0
SwitchedOn v w = (k : ℕ) → k < 32 → switch_on v k ≡ true → switch_on w k ≡ true

-- "its exemption for companion constraints needs equal words"
pub record Exempt (p₁ : Policy) (q₁ : Query) (p₂ : Policy) (q₂ : Query) : Type 0 where
  pub rules : Holds p₂.rules p₁.rules
  pub words : q₁.switches ≡ q₂.switches

pub record Extends (p₁ : Policy) (q₁ : Query) (p₂ : Policy) (q₂ : Query) : Type 0 where
  pub policy : Grows p₁ p₂
  pub class : q₁.class ≡ q₂.class
  pub action : q₁.action ≡ q₂.action
  pub source : within (set_of p₂.groups q₂.source) (set_of p₁.groups q₁.source) ≡ true
  pub dest : within (set_of p₂.groups q₂.dest) (set_of p₁.groups q₁.dest) ≡ true
  pub switches : SwitchedOn q₁.switches q₂.switches
  pub companions : NoCompanion p₁.constraints ⊎ Exempt p₁ q₁ p₂ q₂

abbrev pub OrderRule : Type 0
OrderRule =
    (l₁ l₂ : List ℕ) (q₁ q₂ : Query) (d₁ d₂ : Decision) → answer l₁ q₁ ≡ Ok d₁ → answer l₂ q₂ ≡ Ok d₂
    → Extends (policy_of l₁) q₁ (policy_of l₂) q₂ → height d₁ ≤ height d₂

abbrev pub QueryOrder : Type 0
QueryOrder =
    (l : List ℕ) (q₁ q₂ : Query) (d₁ d₂ : Decision) → answer l q₁ ≡ Ok d₁ → answer l q₂ ≡ Ok d₂
    → q₁.class ≡ q₂.class → q₁.action ≡ q₂.action → q₁.switches ≡ q₂.switches
    → within (set_of (policy_of l).groups q₂.source) (set_of (policy_of l).groups q₁.source) ≡ true
    → within (set_of (policy_of l).groups q₂.dest) (set_of (policy_of l).groups q₁.dest) ≡ true
    → height d₁ ≤ height d₂

abbrev pub NonDecreasing : Type 0
NonDecreasing =
    (l₁ l₂ : List ℕ) (q : Query) (d₁ d₂ : Decision) → answer l₁ q ≡ Ok d₁ → answer l₂ q ≡ Ok d₂
    → Grows (policy_of l₁) (policy_of l₂) → NoCompanion (policy_of l₁).constraints
    → height d₁ ≤ height d₂

abbrev pub Decided : Type 0
Decided = (l : List ℕ) (q : Query) → Accepted l → Valid l q → (d : Decision) × (answer l q ≡ Ok d)

abbrev pub DecidedOnly : Type 0
DecidedOnly = (l : List ℕ) (q : Query) (d : Decision) → answer l q ≡ Ok d → Accepted l × Valid l q
