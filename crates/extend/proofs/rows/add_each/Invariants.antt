-- `add_each` meets its contract: what the rows left do, to what the rows before left, is what all do. Assumes nothing.
use Rattle.std.proofs.Common.{◌≡◌, ◌-◌, ◌≤◌, None, length}
use Rattle.format.specs.Check.{image_in, check_front}
use Rattle.format.specs.Answers.{starts}
use Rattle.extend.proofs.RowsLaws.{From}
use Rattle.extend.proofs.rows.add_each.Given as goal

abbrev pub invariant-loop-at : goal.invariant-loop-at
invariant-loop-at l =
    record {
      inside : l.at ≤ length l.text;
      same : From l.text 0 l.initial.buffer ≡ From l.text l.at l.buffer;
      accepted : check_front l.buffer ≡ None;
      places : l.starts ≡ starts (image_in l.buffer);
    }

abbrev pub decreases-loop-at : goal.decreases-loop-at
decreases-loop-at l = length l.text - l.at
