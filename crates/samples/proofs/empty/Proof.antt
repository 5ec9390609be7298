-- `empty` gives the definitions' bytes, one by one. Assumes nothing.
use mathlib.Core.Path.{refl}
use Rattle.format.specs.Sample.{empty}
use Rattle.samples.proofs.empty.Statement.{statement}
use Rattle.samples.proofs.empty.Tie as tie

returns : tie.Need-returns
unfolding empty
returns c = refl

pub empty_spec : {M : Type 1} → statement M
empty_spec = tie.close (tie.spec returns)
