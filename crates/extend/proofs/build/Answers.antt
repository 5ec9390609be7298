-- `build` meets its contract: the rows are added to the empty policy. Assumes nothing.
use native.Mathlib.Omega.{arith}
use mathlib.Core.Path.{sym, ap, ◌∙◌}
use Rattle.std.specs.Prelude.{Err}
use Rattle.text.specs.Words.{split}
use Rattle.text.specs.Build.{Made, rows_from}
use Rattle.text.proofs.Follow.{refused_short, built_long}
use Rattle.extend.proofs.RowsLaws.{empty_accepted, empty_starts}
use Rattle.extend.proofs.build.Goals as goal

pub returns-then-buffer-lt-SIZE : goal.returns-then-buffer-lt-SIZE
returns-then-buffer-lt-SIZE c = let a = c.args in let m = refused_short a.text.now a.buffer.now c.if-buffer-lt-SIZE.true in
    record { answer = ap Err c.at.ensures ∙ ap (λ (x : Made). x.answer) (sym m); buffer = ap (λ (x : Made). x.buffer) (sym m) }

pub add_each-requires : goal.add_each-requires
add_each-requires c = let b = c.args.buffer.now in let e = c.put_empty.ensures in (empty_accepted b e, empty_starts b e)

pub returns : goal.returns
returns c = let a = c.args in let e = c.put_empty.ensures in let d = c.add_each.ensures in
    let m = built_long a.text.now a.buffer.now (omega arith) ∙ ap (rows_from 0 (split 10 a.text.now)) (sym e) in
    record { answer = d.answer ∙ ap (λ (x : Made). x.answer) (sym m); buffer = d.buffer ∙ ap (λ (x : Made). x.buffer) (sym m) }
