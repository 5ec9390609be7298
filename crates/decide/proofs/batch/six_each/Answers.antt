-- `six_each` meets its contract: a product is divided instead, so that nothing overflows. Assumes nothing.
use native.Mathlib.Omega.{arith}
use Prim.Native.Nat.{◌*◌, ◌/◌, ◌%◌}
use mathlib.Core.Path.{sym, ◌∙◌}
use borrow.Author.Tests.{ne_eqb}
use Rattle.runs.proofs.Numbered.{same_test}
use Rattle.decide.proofs.batch.six_each.Goals as goal

pub returns-then-numbers-eq0 : goal.returns-then-numbers-eq0
returns-then-numbers-eq0 c = let a = c.args in
    same_test (a.numbers / 6) a.slots a.numbers (6 * a.slots) (λ e. omega (arith, e, c.if-numbers-eq0.true))
    (λ e. omega (arith, e, c.if-numbers-eq0.true))

pub returns-else-numbers-eq0 : goal.returns-else-numbers-eq0
returns-else-numbers-eq0 c = let a = c.args in
    ne_eqb (a.numbers % 6) 0 c.if-numbers-eq0.false
    ∙ sym (ne_eqb a.numbers (6 * a.slots) (λ e. c.if-numbers-eq0.false (omega (arith, e))))
