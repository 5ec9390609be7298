-- `next_nearer` meets its contract: a rule that comes no nearer is passed over. Assumes nothing.
use Prim.Native.Nat.{◌≤◌}
use Rattle.decide.specs.Inner.Kept.{Sides}
use Rattle.decide.specs.Inner.Nearer.{AtNearest}
use Rattle.decide.proofs.WalkLaws.{Turn}
use Rattle.decide.proofs.policy.Policy.next_nearer.Given as goal

abbrev pub invariant-loop-n : goal.invariant-loop-n
invariant-loop-n l =
    Turn (AtNearest l.self.image.now l.q l.best l.count l.n l.at)
    ((l.from ≤ l.n) × Sides l.self.image.now l.q l.source l.dest)
