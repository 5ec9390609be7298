-- `turn` meets its contract: the numbers before the running one are turned, the others as they were. Assumes nothing.
use native.Mathlib.Omega.{arith}
use mathlib.Core.Path.{refl}
use Rattle.decide.proofs.VerdictLaws.{turning_next}
use Rattle.decide.proofs.verdicts.turn.Goals as goal

pub loop-v-init : goal.loop-v-init
loop-v-init c = record { all = refl; done = λ j h. absurd (omega (arith, h)); rest = λ j h. refl }

pub loop-v-preserved : goal.loop-v-preserved
loop-v-preserved c = turning_next _ _ _ _ _ c.loop-v.invariant (omega (arith, c.told-verdicts)) c.turned.ensures

pub returns : goal.returns
returns c = let I = c.loop-v.invariant in λ n h. I.done n (omega (arith, h, c.loop-v-test.false))
