-- Laws of what the deciding code reads of an image: the fields of a rule and of a constraint, and where sections start.
-- Assumes
-- nothing.
use Prim.Native.Nat.{ℕ, ◌+◌, ◌-◌, ◌/◌}
use mathlib.Core.Path.{◌≡◌, ap}
use mathlib.Core.List.{List}
use native.Mathlib.Omega.{arith}
use lib.ListN.{get_or}
use Rattle.format.specs.declared.Section.TheVariants.{Rules, Constraints}
use Rattle.format.specs.declared.Starts.{Starts}
use Rattle.format.specs.Policy.{start_of}
use Rattle.format.specs.Inner.Places.{RuleAt, ConstraintAt}
use Rattle.decide.specs.Inner.Parts.{Ready, TypeAt, TypesAt}

module _ (l : List ℕ) (at : ℕ) (r : List ℕ) where
  pub rule_source : RuleAt l at r → TypeAt l (at + 2)
  rule_source h = record { room = omega (arith, h.long, h.here.inside); is = h.source }

  pub rule_dest : RuleAt l at r → TypeAt l (at + 4)
  rule_dest h = record { room = omega (arith, h.long, h.here.inside); is = h.dest }

  pub constraint_first : ConstraintAt l at r → TypeAt l (at + 6)
  constraint_first h = record { room = omega (arith, h.long, h.here.inside); is = h.first }

  pub constraint_second : ConstraintAt l at r → TypeAt l (at + 8)
  constraint_second h = record { room = omega (arith, h.long, h.here.inside); is = h.second }

  pub constraint_types : ConstraintAt l at r → (n : ℕ) → n ≡ get_or l at 0 → TypesAt l (at + 11) ((n - 11) / 2)
  constraint_types h n e = record { room = omega (arith, h.long, h.here.size, h.here.inside, h.odd, e); are = rw e h.types }

module _ (l ps : List ℕ) (s : Starts) (k : Ready l ps s) where
  pub ready_rules : s.rules ≡ start_of l Rules
  ready_rules = ap (λ s. s.rules) k.starting

  pub ready_constraints : s.constraints ≡ start_of l Constraints
  ready_constraints = ap (λ s. s.constraints) k.starting
