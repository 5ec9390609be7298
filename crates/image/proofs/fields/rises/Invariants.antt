-- The members so far rise, up to the last.
use Rattle.std.proofs.Common.{ℕ, ◌≡◌, ◌+◌, ◌*◌, ◌<◌}
use Rattle.format.specs.Bytes.{word_at}
use Rattle.image.proofs.fields.rises.Given as goal

abbrev pub invariant-loop-member : goal.invariant-loop-member
invariant-loop-member l = record {
  here : l.last ≡ word_at l.part (2 + 2 * l.member-index);
  rise : (k : ℕ) → k < l.member-index → word_at l.part (2 + 2 * k) < word_at l.part (2 + 2 * (k + 1));
}
