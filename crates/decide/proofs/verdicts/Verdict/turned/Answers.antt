-- `turned` meets its contract: the remainder by 4 and the quotient change places. Assumes nothing.
use native.Mathlib.Omega.{arith}
use mathlib.Core.Path.{ap}
use Rattle.decide.specs.Inner.Verdicts.{said}
use Rattle.decide.proofs.VerdictLaws.{said_zero}
use Rattle.decide.proofs.verdicts.Verdict.turned.Goals as goal
use Rattle.decide.proofs.verdicts.Verdict.turned.Goals.{then-back, else-back}

pub returns : goal.returns
returns c = elim c.if-back.branch [
  | then-back w ↦ record {
    front = rw w.if-back.true (ap said (omega (arith, w.front-is)));
    behind = ap said (omega (arith, w.front-is));
  }
  | else-back w ↦ record {
    front = rw w.if-back.false (said_zero _ (omega (arith, w.front-is)));
    behind = ap said (omega (arith, w.front-is));
  }
]
