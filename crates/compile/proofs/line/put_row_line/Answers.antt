use Rattle.std.proofs.Common.{subst, arith}
use Rattle.lines.specs.Compiled.{row_line}
use Rattle.streams.specs.Put.{Front}
use Rattle.streams.proofs.Puts.{front_three}
use Rattle.compile.proofs.line.put_row_line.Goals as goal

pub returns : goal.returns
returns c =
    let f = c.args.f in
    subst (λ n. Front c.put_line.new.output c.put_line.result (row_line (record { number = n; place = f.place; row = f.row }))) c.from.ensures
    (front_three 82 _ _ _ (omega arith) c.put_line.ensures)
