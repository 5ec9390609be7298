-- `first_constraint` meets its contract: the constraints from the running one on answer as all do. Assumes nothing.
use Rattle.format.specs.declared.Section.TheVariants.{Constraints}
use Rattle.format.specs.Policy.{policy_of}
use Rattle.decision.specs.Reading.{constraint_of}
use Rattle.decision.specs.Decide.{fails}
use Rattle.decide.specs.Inner.Parts.{rules_in, request_in}
use Rattle.decide.specs.Inner.Kept.{Sides}
use Rattle.decide.specs.Inner.Verdicts.{Written}
use Rattle.decide.specs.Inner.Rules.{first_constraint}
use Rattle.decide.proofs.WalkLaws.{Turn, FirstOf}
use Rattle.decide.proofs.policy.Policy.first_constraint.Given as goal

abbrev pub invariant-loop-n : goal.invariant-loop-n
invariant-loop-n l =
    Turn (FirstOf Constraints (constraint_of (policy_of l.self.image.now)) l.self.image.now
    (fails (rules_in l.self.image.now l.q.switches) (request_in l.self.image.now l.q)) (first_constraint l.self.image.now l.q) l.count l.n l.at)
    (Sides l.self.image.now l.q l.source l.dest
    × Written l.self.image.now l.q.switches l.initial.verdicts l.verdicts)
