-- `half` meets its contract: the member in the middle decides. Assumes nothing.
use native.Mathlib.Omega.{arith}
use Prim.Native.Nat.{◌+◌, ◌*◌}
use borrow.Author.Tests.{le-leb, lt-leb}
use Rattle.format.specs.Bytes.{word_at}
use Rattle.decide.proofs.halves.half.Goals as goal

pub returns-then-word_in-x : goal.returns-then-word_in-x
returns-then-word_in-x c = let a = c.args in
    simp (le-leb (word_at a.image.now (a.at + 2 * a.many)) a.x (omega (arith, c.if-word_in-x.true, c.word_in.ensures.0)))

pub returns : goal.returns
returns c = let a = c.args in
    simp (lt-leb (word_at a.image.now (a.at + 2 * a.many)) a.x (omega (arith, c.if-word_in-x.false, c.word_in.ensures.0)))
