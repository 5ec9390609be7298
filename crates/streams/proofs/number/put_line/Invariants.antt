-- The letter and the numbers so far are put, and there is room for the rest.
use Rattle.std.proofs.Common.{◌≡◌, ◌+◌, ◌*◌, ◌≤◌, ◌∷◌, length, take}
use Rattle.std.specs.List.{flat_map}
use Rattle.lines.specs.Lines.{field}
use Rattle.streams.specs.Put.{placed}
use Rattle.streams.proofs.number.put_line.Given as goal

abbrev pub invariant-loop-n : goal.invariant-loop-n
invariant-loop-n l = record {
  room : l.at + (2 + 21 * length l.numbers) ≤ length l.fn.output;
  few : length (flat_map field (take l.n-index l.numbers)) ≤ 21 * l.n-index;
  ends : l.end ≡ l.at + length (l.letter ∷ flat_map field (take l.n-index l.numbers));
  put : l.output ≡ placed l.at (l.letter ∷ flat_map field (take l.n-index l.numbers)) l.fn.output;
}
