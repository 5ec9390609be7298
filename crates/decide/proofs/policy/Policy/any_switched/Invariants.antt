-- `any_switched` meets its contract: the rules from the running one on answer as all do. Assumes nothing.
use Rattle.format.specs.declared.Section.TheVariants.{Rules}
use Rattle.decide.specs.Inner.Verdicts.{names_switch, any_named}
use Rattle.decide.proofs.WalkLaws.{AnyOf}
use Rattle.decide.proofs.policy.Policy.any_switched.Given as goal

abbrev pub invariant-loop-n : goal.invariant-loop-n
invariant-loop-n l = AnyOf Rules (λ r. r) l.self.image.now names_switch (any_named l.self.image.now) l.count l._n l.at
