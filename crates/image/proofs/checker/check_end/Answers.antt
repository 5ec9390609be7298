-- `check_end` meets its contract. Assumes nothing.
use native.Mathlib.Omega.{arith}
use lib.ListN.{length}
use borrow.Author.Tests.{le-leb, lt-leb}
use Rattle.format.specs.Refusals.{need}
use Rattle.image.specs.Inner.Walk.{ends_of}
use Rattle.image.proofs.checker.check_end.Goals as goal

pub returns-then-place-image : goal.returns-then-place-image
unfolding ends_of need
returns-then-place-image c =
    let a = c.args in
    let e = c.from-place.ensures in
    rw (c.at.ensures, e) (simp (lt-leb (length a.image.now) a.end (omega (arith, e))))

pub returns : goal.returns
unfolding ends_of need
returns c =
    let a = c.args in
    rw (c.from.ensures, c.from-2.ensures)
    (simp (le-leb (length a.image.now) a.end (omega (arith, c.from-place.ensures))))
