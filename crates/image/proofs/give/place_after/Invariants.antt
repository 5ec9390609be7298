-- `place_after` meets its contract: it has come past so many records, to a place that fits, and the part starts there. Assumes
-- nothing.
use Rattle.image.proofs.WalkLaws.{Hopped}
use Rattle.image.proofs.give.place_after.Given as goal

abbrev pub invariant-loop : goal.invariant-loop
invariant-loop l = Hopped l.image l.from l.counter l.at l.part
