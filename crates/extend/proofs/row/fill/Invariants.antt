-- `fill` meets its contract: the bytes so far, and those of the words left, are those of all. Assumes nothing.
use Rattle.std.proofs.Common.{◌≡◌, ◌+◌, ◌*◌, ◌≤◌, length, take, drop}
use Rattle.text.specs.Words.{split}
use Rattle.text.specs.Inner.Parts.{run_of}
use Rattle.text.specs.Inner.Read.{row_of}
use Rattle.extend.specs.Inner.Filled.{fields_from}
use Rattle.extend.proofs.RowLaws.{Filling}
use Rattle.extend.proofs.row.fill.Given as goal

abbrev pub invariant-loop-i : goal.invariant-loop-i
invariant-loop-i l =
    record {
      inside : l.start ≤ length l.text;
      low : 2 ≤ l.at;
      few : l.at ≤ 2 + 2 * l.i;
      filling : Filling (fields_from l.kind 0 (split 32 (row_of (drop l.from l.text)))) l.kind l.i l.text l.start (drop 2 (take l.at l.part));
      same_row : l.from + run_of 10 (drop l.from l.text) ≡ l.start + run_of 10 (drop l.start l.text);
    }
