-- `first_rule` meets its contract: the rules from the running one on answer as all do. Assumes nothing.
use Prim.Native.Nat.{ℕ, ◌+◌, ◌-◌, ◌*◌, ◌≤◌}
use mathlib.Core.Path.{◌≡◌}
use mathlib.Core.Bool.{Bool}
use mathlib.Core.List.{List}
use lib.ListN.{length}
use Rattle.format.specs.declared.Section.TheVariants.{Rules}
use Rattle.format.specs.Policy.{policy_of}
use Rattle.format.specs.Inner.Places.{words_at, Rising}
use Rattle.decision.specs.Reading.{rule_of}
use Rattle.decision.specs.Decide.{covers}
use Rattle.decide.specs.Inner.Parts.{request_in}
use Rattle.decide.specs.Inner.Marks.{tallied}
use Rattle.decide.specs.Inner.Kept.{Sides}
use Rattle.decide.specs.Inner.Rules.{first_rule}
use Rattle.decide.proofs.WalkLaws.{Turn, FirstOf}
use Rattle.decide.proofs.policy.Policy.first_rule.Given as goal

-- where the walk over the members of a destination stands: so many hits so far, and the rest from a place on
pub record Members (l : List ℕ) (ms : List Bool) (from count m left sum : ℕ) : Type 0 where
  pub room : m + 2 * left ≤ length l
  pub few : sum + left ≤ count
  pub rising : Rising 0 (words_at l left m)
  pub hits : tallied ms (words_at l count from) ≡ sum + tallied ms (words_at l left m)

abbrev pub invariant-members : goal.invariant-members
invariant-members l = Members l.self.image.now l.dest.marks.now l.initial.m l.initial.left l.m l.left l.hits

abbrev pub decreases-members : goal.decreases-members
decreases-members l = l.left

abbrev pub invariant-rules : goal.invariant-rules
invariant-rules l =
    Turn (FirstOf Rules (rule_of (policy_of l.self.image.now) l.q.switches) l.self.image.now (covers (request_in l.self.image.now l.q))
    (first_rule l.self.image.now l.q) l.count l.n l.at) (Sides l.self.image.now l.q l.source l.dest)

abbrev pub decreases-rules : goal.decreases-rules
decreases-rules l = l.count - l.n
