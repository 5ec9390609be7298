-- `is_allow` meets its contract: kind 2 is an allow rule. Assumes nothing.
use mathlib.Core.Path.{refl}
use Rattle.decide.specs.Inner.Rules.{allow_at}
use Rattle.decide.proofs.rules.is_allow.Goals as goal

pub returns : goal.returns
unfolding allow_at
returns c = refl
