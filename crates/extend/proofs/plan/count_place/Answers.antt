-- `count_place` meets its contract. Assumes nothing.
use native.Mathlib.Omega.{arith}
use Rattle.format.proofs.ByCase.{count_place_groups, count_place_rules, count_place_constraints}
use Rattle.extend.proofs.plan.count_place.Goals as goal

pub returns-in-Groups : goal.returns-in-Groups
returns-in-Groups c = (simp (c.in-Groups.is, count_place_groups), omega arith)

pub returns-in-Rules : goal.returns-in-Rules
returns-in-Rules c = (simp (c.in-Rules.is, count_place_rules), omega arith)

pub returns-in-Constraints : goal.returns-in-Constraints
returns-in-Constraints c = (simp (c.in-Constraints.is, count_place_constraints), omega arith)
