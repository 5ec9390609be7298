-- Where the program is before a turn. No place passes 64 bits.
use Rattle.std.proofs.Common.{◌≡◌, ◌+◌, ◌*◌, ◌≤◌, ◌<◌}
use Rattle.std.specs.Prelude.{None}
use Rattle.format.specs.Check.{check_front}
use Rattle.compile.specs.Inner.Turn.{reading_of}
use Rattle.compile.specs.Inner.Due.{Reached}
use Rattle.compile.proofs.run.read_rows.Given as goal

abbrev pub invariant-loop-turn : goal.invariant-loop-turn
invariant-loop-turn g l = record {
  accepted : check_front l.image ≡ None;
  few : l.p.kept < 65536;
  place : l.p.at ≤ 65536 * l.turn;
  row : l.p.row ≤ 65536 * l.turn + 1;
  reached : Reached (reading_of l.p l.input l.image);
}
