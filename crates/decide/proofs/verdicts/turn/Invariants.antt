-- `turn` meets its contract: the numbers before the running one are turned, the others as they were. Assumes nothing.
use Rattle.decide.proofs.VerdictLaws.{Turning}
use Rattle.decide.proofs.verdicts.turn.Given as goal

abbrev pub invariant-loop-v : goal.invariant-loop-v
invariant-loop-v l = Turning l.back l.initial.verdicts l.verdicts l.v-index
