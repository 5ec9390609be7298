-- `with_front` meets its contract: 1 more than what is found is added. Assumes nothing.
use native.Mathlib.Omega.{arith}
use mathlib.Core.Path.{ap}
use Rattle.decide.specs.Inner.Verdicts.{said}
use Rattle.decide.proofs.VerdictLaws.{said_none, said_found, byte_most}
use Rattle.decide.proofs.verdicts.Verdict.with_front.Goals as goal

pub overflow_add-result : goal.overflow_add-result
overflow_add-result c = let z = said_none _ c.requires in omega (arith, z)

pub overflow_add-result-2 : goal.overflow_add-result-2
overflow_add-result-2 c = omega (arith, said_none _ c.requires, c.from.ensures, byte_most c.args.broken)

pub returns : goal.returns
returns c = (
  said_found _ c.args.broken (omega (arith, said_none _ c.requires, c.from.ensures, byte_most c.args.broken)),
  ap said (omega (arith, said_none _ c.requires, c.from.ensures, byte_most c.args.broken)),
)
