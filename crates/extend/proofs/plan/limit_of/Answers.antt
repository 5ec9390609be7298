-- `limit_of` meets its contract. Assumes nothing.
use Rattle.format.proofs.ByCase.{limit_groups, limit_rules, limit_constraints}
use Rattle.extend.proofs.plan.limit_of.Goals as goal

pub returns-in-Groups : goal.returns-in-Groups
returns-in-Groups c = simp (c.in-Groups.is, limit_groups)

pub returns-in-Rules : goal.returns-in-Rules
returns-in-Rules c = simp (c.in-Rules.is, limit_rules)

pub returns-in-Constraints : goal.returns-in-Constraints
returns-in-Constraints c = simp (c.in-Constraints.is, limit_constraints)
