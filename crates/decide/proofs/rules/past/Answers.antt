-- `past` meets its contract: a rule's first byte is its length. Assumes nothing.
use native.Mathlib.Omega.{arith}
use Rattle.decide.proofs.rules.past.Goals as goal

pub overflow_add-result : goal.overflow_add-result
overflow_add-result c = let p = c.requires in omega (arith, p.0.here.inside, p.0.here.size, p.1 c.if-allow.true)

pub returns-then-allow : goal.returns-then-allow
returns-then-allow c = omega (arith, c.requires.1 c.if-allow.true)

pub bounds-image-at : goal.bounds-image-at
bounds-image-at c = let h = c.requires.0 in omega (arith, h.long, h.here.inside)

pub overflow_add-result-2 : goal.overflow_add-result-2
overflow_add-result-2 c = let h = c.requires.0 in omega (arith, h.here.inside, h.here.size, c.from.ensures)

pub returns : goal.returns
returns c = omega (arith, c.from.ensures)
