-- `keep` meets its contract. Assumes nothing.
use mathlib.Core.Path.{refl}
use Rattle.decide.specs.Inner.Kept.{said}
use Rattle.decide.proofs.kept.keep.Goals as goal
use Rattle.decide.proofs.kept.keep.Goals.{then-found, else-found}

pub returns : goal.returns
unfolding said
returns c = (
  refl,
  elim c.if-found.branch [
    | then-found w ↦ rw (w.kept-is, w.if-found.true) refl
    | else-found w ↦ rw (w.kept-is, w.if-found.false) refl
  ],
)
