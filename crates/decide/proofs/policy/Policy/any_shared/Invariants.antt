-- `any_shared` meets its contract: what is marked and the rules from the running one on give what all rules give. Assumes
-- nothing.
use Rattle.decide.specs.Inner.Sources.{Gathering, AtSource}
use Rattle.decide.proofs.WalkLaws.{Turn}
use Rattle.decide.proofs.policy.Policy.any_shared.Given as goal

abbrev pub invariant-loop-n : goal.invariant-loop-n
invariant-loop-n l =
    Turn (AtSource l.self.image.now l.switches l.first l.a l.count l._n l.at
    × AtSource l.self.image.now l.switches l.second l.b l.count l._n l.at)
    (Gathering l.self.image.now l.first l.kf l.a l.da × Gathering l.self.image.now l.second l.ks l.b l.db)
