-- Each read stands behind those before it, up to the end of the input or of the space.
use Rattle.std.proofs.Common.{◌≡◌, ◌-◌, ◌≤◌, length, take}
use Rattle.convert.specs.Inner.Due.{Gathered}
use Rattle.convert.proofs.source.read_input.Given as goal

abbrev pub invariant-loop-have : goal.invariant-loop-have
invariant-loop-have g l = record {
  few : l.have ≤ 65536;
  long : 65536 ≡ length l.space;
  gathered : Gathered (take l.have l.space);
}

abbrev pub decreases-loop-have : goal.decreases-loop-have
decreases-loop-have g l = 65536 - l.have
