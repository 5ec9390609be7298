-- The lines of the numbers so far are put.
use Rattle.std.proofs.Common.{◌≡◌, ◌*◌, ◌/◌, ◌≤◌, length}
use Rattle.permit.proofs.Laws.{LinesTo}
use Rattle.permit.proofs.answers.put_answers.Given as goal

abbrev pub invariant-loop-number : goal.invariant-loop-number
invariant-loop-number l = record {
  whole : l.rows ≡ length l.input / 12;
  few : l.end ≤ 44 * l.number-index;
  put : LinesTo l.image l.input l.output l.number-index l.end;
}
