-- `pairs` meets its contract: two bytes are a member. Assumes nothing.
use Rattle.std.proofs.Common.{◌≡◌, ◌+◌, ◌-◌, ◌*◌, length, take, drop, ap, arith}
use Rattle.std.proofs.lemmas.List.{length-take-le, length-drop}
use Rattle.decide.proofs.MarkLaws.{pairs_are}
use Rattle.decide.proofs.word.pairs.Goals as goal

pub returns : goal.returns
returns c =
    let l = c.args.image.now in
    let rest = drop c.args.from l in
    let n : c.args.from + 2 * c.args.count - c.args.from ≡ 2 * c.args.count = omega arith in
    let long : length (take (2 * c.args.count) rest) ≡ 2 * c.args.count =
    length-take-le (2 * c.args.count) rest (omega (arith, length-drop c.args.from l)) in
    pairs_are l c.args.from c.args.count _ _ _ (omega (arith, long, ap (λ k. length (take k rest)) n)) (ap (λ k. take k rest) n)
    c.as_chunks.ensures.front
