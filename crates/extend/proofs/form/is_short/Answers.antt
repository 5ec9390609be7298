-- `is_short` meets its contract. Assumes nothing.
use Rattle.std.proofs.Common.{rules}
use Rattle.extend.specs.Inner.Filled.{is_short}
use Rattle.extend.proofs.form.is_short.Goals as goal

pub returns-in-Predicate : goal.returns-in-Predicate
unfolding is_short
returns-in-Predicate c = search rules

pub returns-in_default : goal.returns-in_default
unfolding is_short
returns-in_default c = search rules
