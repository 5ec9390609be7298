-- Those of the bytes so far are counted.
use Rattle.std.proofs.Common.{◌≡◌, ◌+◌, drop}
use Rattle.lines.specs.Compiled.{feeds}
use Rattle.compile.proofs.feeds.count_feeds.Given as goal

abbrev pub invariant-loop-byte : goal.invariant-loop-byte
invariant-loop-byte l = feeds l.bytes ≡ l.count + feeds (drop l.byte-index l.bytes)
