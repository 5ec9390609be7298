-- `any_rule` meets its contract: the rules from the running one on answer as all do. Assumes nothing.
use Rattle.format.specs.declared.Section.TheVariants.{Rules}
use Rattle.format.specs.Policy.{policy_of}
use Rattle.decision.specs.Sets.{any_of}
use Rattle.decision.specs.Reading.{rule_of}
use Rattle.decide.specs.Inner.Parts.{rules_in}
use Rattle.decide.specs.Inner.Marks.{any_is}
use Rattle.decide.specs.Inner.Kept.{KeptReach}
use Rattle.decide.specs.Inner.Rules.{reaching_from}
use Rattle.decide.proofs.WalkLaws.{Turn, AnyOf}
use Rattle.decide.proofs.policy.Policy.any_rule.Given as goal

abbrev pub invariant-loop-n : goal.invariant-loop-n
invariant-loop-n l =
    Turn (AnyOf Rules (rule_of (policy_of l.self.image.now) l.switches) l.self.image.now (reaching_from l.reach (any_is l.source l.value))
    (any_of (reaching_from l.reach (any_is l.source l.value)) (rules_in l.self.image.now l.switches)) l.count l._n l.at)
    (KeptReach l.self.image.now l.reach (any_is l.source l.value) l.kreach l.ksource)
