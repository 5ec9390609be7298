-- `digits` meets its contract: the digits left, from the number come to, give the number of all. Assumes nothing.
use Rattle.std.proofs.Common.{◌≡◌, ◌+◌, ◌≤◌, drop}
use Rattle.text.specs.Words.{digits_from}
use Rattle.text.specs.Inner.Read.{word_size, word_of}
use Rattle.extend.proofs.spell.digits.Given as goal

abbrev pub invariant-loop-size : goal.invariant-loop-size
invariant-loop-size l =
    record {
      few : l.number ≤ l.most;
      width : word_size l.text ≡ l.size + word_size (drop l.size l.text);
      left : digits_from 0 (word_of l.text) ≡ digits_from l.number (word_of (drop l.size l.text));
    }
