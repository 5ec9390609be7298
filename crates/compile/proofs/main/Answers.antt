-- The turns start from the empty policy.
use Rattle.std.proofs.Common.{arith}
use Rattle.compile.proofs.Reached.{starts_built}
use Rattle.compile.proofs.main.Goals as goal

pub run-done-requires : goal.run-done-requires
run-done-requires c = starts_built _ _ _ (omega arith) c.build.ensures
