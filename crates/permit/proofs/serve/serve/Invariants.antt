-- Fewer bytes than a query are kept from one read to the next.
use Rattle.std.proofs.Common.{◌<◌}
use Rattle.permit.proofs.serve.serve.Given as goal

abbrev pub invariant-loop : goal.invariant-loop
invariant-loop g l = l.kept < 12
