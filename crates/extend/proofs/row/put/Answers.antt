-- `put` meets its contract: one byte or two are written. Assumes nothing.
use Rattle.std.proofs.Common.{sym, ◌∙◌, arith}
use Rattle.extend.proofs.RowLaws.{put_short, put_long}
use Rattle.extend.proofs.row.put.Goals as goal

pub returns-then-is_short : goal.returns-then-is_short
returns-then-is_short c = let a = c.args in put_short a.part.now a.at a.field a.n (sym c.is_short.ensures ∙ c.if-is_short.true) (omega arith)

pub returns : goal.returns
returns c = let a = c.args in
    rw c.put_word.ensures (put_long a.part.now a.at a.field a.n (sym c.is_short.ensures ∙ c.if-is_short.false) (omega arith) (omega arith))
