-- `keep_outside` meets its contract: a basic type is no group. Assumes nothing.
use mathlib.Core.Path.{refl}
use Rattle.decide.proofs.KeptLaws.{keep_basic, keep_group}
use Rattle.decide.proofs.kept.Side.keep_outside.Goals as goal

pub returns-then-t-lt32768 : goal.returns-then-t-lt32768
returns-then-t-lt32768 c = rw (keep_basic c.args.self.now.kept _ c.if-t-lt32768.true) refl

pub returns : goal.returns
returns c = rw (keep_group c.args.self.now.kept _ c.if-t-lt32768.false) refl
