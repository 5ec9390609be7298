use Rattle.std.proofs.Common.{◌≡◌, ◌+◌, suc, get_or, drop, length-drop, ap, arith}
use Rattle.lines.specs.Compiled.{feeds}
use Rattle.lines.proofs.Feeds.{feeds_most, no_feeds, feeds_from}
use Rattle.compile.proofs.Laws.{feed_of}
use Rattle.compile.proofs.feeds.count_feeds.Goals as goal

pub overflow_add-count : goal.overflow_add-count
overflow_add-count c =
    let l = c.loop-byte in
    let bytes = c.args.bytes.now in
    let from = feeds_from bytes l.byte-index (omega arith) in
    let one = feed_of (get_or bytes l.byte-index 0) in
    record { fits = omega (arith, l.invariant, from, one, c.from-count.ensures, feeds_most bytes) }

pub loop-byte-preserved : goal.loop-byte-preserved
loop-byte-preserved c =
    let l = c.loop-byte in
    let bytes = c.args.bytes.now in
    let from = feeds_from bytes l.byte-index (omega arith) in
    let one = feed_of (get_or bytes l.byte-index 0) in
    let next : suc l.byte-index ≡ l.byte-index + 1 = omega arith in
    omega (arith, l.invariant, from, one, c.from-count.ensures, ap (λ k. feeds (drop k bytes)) next)

pub returns : goal.returns
returns c =
    let bytes = c.args.bytes.now in
    let none = no_feeds (drop c.loop-byte.byte-index bytes) (omega (arith, length-drop c.loop-byte.byte-index bytes)) in
    (omega (arith, none), omega (arith, none, feeds_most bytes))
