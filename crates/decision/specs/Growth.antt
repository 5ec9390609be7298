-- What meets the order rule's terms: an accepted add, and the same rules in another order and number.
--     AddedGrows        every accepted add does: nothing that the policy held is lost, and groups keep their numbers
--     AddedOrder        so, after an accepted add, a query that had a decision has one that is no lower, if the policy has no companion
--                       or the record is no rule
--     DecidedAbove l q d   the query has a decision on l, and it is no lower than d; DecidedLevel: as high as d
--     SameRules         policies of the same groups that hold each other's rules and constraints decide equally high, companions or not
--     reordered p       the policy p with its rules in the opposite order and then in their own, so that each stands twice, and its
--                       constraints in the opposite order
--     RulesReordered    it is accepted where these are not too many, and decides equally high
--     MemberOrder       under one word, a query on a group is decided no higher than one on a member of it
use Rattle.std.specs.Prelude.{ℕ, ◌+◌, ◌≤◌, ◌<◌, ◌≡◌, ◌⊎◌, true, List, ◌++◌, reverse, length, get_or}
use Rattle.std.specs.Prelude.{None}
use Rattle.format.specs.declared.Section.TheVariants.{Rules}
use Rattle.format.specs.Bytes.{Bytes}
use Rattle.format.specs.Policy.{Policy, image_of, policy_of}
use Rattle.format.specs.Check.{Accepted, image_in}
use Rattle.std.specs.Prelude.{Ok}
use Rattle.extension.specs.Add.{section_of, add_fault, buffer_after}
use Rattle.decision.specs.declared.Query.{Query}
use Rattle.decision.specs.Sets.{is_in, set_of}
use Rattle.decision.specs.declared.Decision.{Decision}
use Rattle.decision.specs.Decide.{answer}
use Rattle.decision.specs.Order.{height, Holds, Grows, NoCompanion}

abbrev pub AddedGrows : Type 0
AddedGrows =
    (b r : List ℕ) → Bytes b → Bytes r → add_fault b r ≡ None
    → Grows (policy_of (image_in b)) (policy_of (image_in (buffer_after b r)))

-- a decision on an image, no lower than another
pub record DecidedAbove (l : List ℕ) (q : Query) (d : Decision) : Type 0 where
  pub now : Decision
  pub answered : answer l q ≡ Ok now
  pub above : height d ≤ height now

abbrev pub AddedOrder : Type 0
AddedOrder =
    (b r : List ℕ) → Bytes b → Bytes r → add_fault b r ≡ None
    → NoCompanion (policy_of (image_in b)).constraints ⊎ (section_of (get_or r 1 0) ≡ Rules → ⊥)
    → (q : Query) (d : Decision) → answer (image_in b) q ≡ Ok d
    → DecidedAbove (image_in (buffer_after b r)) q d

abbrev pub SameRules : Type 0
SameRules =
    (l₁ l₂ : List ℕ) (q : Query) (d₁ d₂ : Decision) → answer l₁ q ≡ Ok d₁ → answer l₂ q ≡ Ok d₂
    → (policy_of l₁).groups ≡ (policy_of l₂).groups → Holds (policy_of l₁).constraints (policy_of l₂).constraints
    → Holds (policy_of l₂).constraints (policy_of l₁).constraints
    → Holds (policy_of l₁).rules (policy_of l₂).rules → Holds (policy_of l₂).rules (policy_of l₁).rules
    → height d₁ ≡ height d₂

unfoldable pub reordered : Policy → Policy
reordered p =
    record { version = p.version; groups = p.groups; rules = reverse p.rules ++ p.rules; constraints = reverse p.constraints }

-- a decision on an image, as high as another
pub record DecidedLevel (l : List ℕ) (q : Query) (d : Decision) : Type 0 where
  pub now : Decision
  pub answered : answer l q ≡ Ok now
  pub level : height d ≡ height now

abbrev pub RulesReordered : Type 0
RulesReordered =
    (l : List ℕ) → Bytes l → Accepted l → length (policy_of l).rules + length (policy_of l).rules ≤ 1024
    → Accepted (image_of (reordered (policy_of l)))
    × ((q : Query) (d : Decision) → answer l q ≡ Ok d → DecidedLevel (image_of (reordered (policy_of l))) q d)

abbrev pub MemberOrder : Type 0
MemberOrder =
    (l : List ℕ) (q₁ q₂ : Query) (d₁ d₂ : Decision) → answer l q₁ ≡ Ok d₁ → answer l q₂ ≡ Ok d₂
    → q₁.class ≡ q₂.class → q₁.action ≡ q₂.action → q₁.switches ≡ q₂.switches → q₂.source < 1024 → q₂.dest < 1024
    → is_in q₂.source (set_of (policy_of l).groups q₁.source) ≡ true
    → is_in q₂.dest (set_of (policy_of l).groups q₁.dest) ≡ true
    → height d₁ ≤ height d₂
