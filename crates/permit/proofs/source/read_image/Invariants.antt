-- No more was read than the image takes, as far as its bytes tell.
use Rattle.std.proofs.Common.{◌≡◌, ◌-◌, ◌<◌, ◌≤◌, length, take}
use Rattle.lines.specs.Output.{image_size}
use Rattle.permit.proofs.source.read_image.Given as goal

abbrev pub invariant-loop-have : goal.invariant-loop-have
invariant-loop-have g l = record {
  few : l.have < 65536;
  long : 65536 ≡ length l.space;
  told : l.have ≤ image_size (take l.have l.space);
}

abbrev pub decreases-loop-have : goal.decreases-loop-have
decreases-loop-have g l = 65536 - l.have
