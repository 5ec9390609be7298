-- `sample` gives the definitions' bytes, one by one. Assumes nothing.
use mathlib.Core.Path.{refl}
use Rattle.format.specs.Sample.{sample}
use Rattle.samples.proofs.sample.Statement.{statement}
use Rattle.samples.proofs.sample.Tie as tie

returns : tie.Need-returns
unfolding sample
returns c = refl

pub sample_spec : {M : Type 1} → statement M
sample_spec = tie.close (tie.spec returns)
