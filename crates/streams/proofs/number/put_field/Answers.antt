-- There is room for a space and 20 digits, or nothing is put.
use Rattle.std.proofs.Common.{◌+◌, [], ◌∷◌, ◌∙◌, ap, arith}
use Rattle.lines.specs.Lines.{decimal}
use Rattle.streams.specs.Put.{placed}
use Rattle.streams.proofs.Puts.{placed_one, placed_then, puts_room}
use Rattle.streams.proofs.number.put_field.Goals as goal

pub returns : goal.returns
returns c =
    let put = c.put_number.ensures in
    puts_room _ _ _ _ _ _ (omega arith) (omega (arith, put.0))
    (put.1
    ∙ ap (placed (c.args.at + 1) (decimal c.args.n)) (placed_one c.args.output.now c.args.at 32 (omega arith))
    ∙ placed_then c.args.at (32 ∷ []) (decimal c.args.n) c.args.output.now (omega arith))
