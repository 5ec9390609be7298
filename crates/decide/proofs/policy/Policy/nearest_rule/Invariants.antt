-- `nearest_rule` meets its contract: the nearest so far and the rules from the running one on give what all do. Assumes
-- nothing.
use Prim.Native.Nat.{◌-◌}
use Rattle.decide.specs.Inner.Kept.{Sides}
use Rattle.decide.specs.Inner.Nearer.{AtNearest}
use Rattle.decide.proofs.WalkLaws.{Turn}
use Rattle.decide.proofs.policy.Policy.nearest_rule.Given as goal

abbrev pub invariant-loop-next : goal.invariant-loop-next
invariant-loop-next l =
    Turn (AtNearest l.self.image.now l.q l.best l.count l.n l.at)
    (Sides l.self.image.now l.q l.source l.dest)

abbrev pub decreases-loop-next : goal.decreases-loop-next
decreases-loop-next l = l.count - l.n
