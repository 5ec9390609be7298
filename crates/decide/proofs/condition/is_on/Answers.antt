-- `is_on` meets its contract: a shift by k is the quotient by 2^k, and a mask of 1 its remainder by 2. Assumes nothing.
use native.Mathlib.Omega.{arith}
use Prim.Native.Nat.{◌+◌, ◌/◌, ◌%◌, ◌^◌}
use mathlib.Core.Path.{ap, ap₂, ◌∙◌}
use lib.Bits.{and_mask}
use lib.Dec.{eqb}
use Rattle.decide.proofs.ConditionLaws.{on_is, bit_is}
use Rattle.decide.proofs.condition.is_on.Goals as goal

pub returns-then-condition-eq1 : goal.returns-then-condition-eq1
returns-then-condition-eq1 c = on_is _ _ c.if-condition-eq1.true

pub returns : goal.returns
returns c =
    let a = c.args in
    ap (λ x. eqb x 1) (and_mask (c.from-2.result / 2 ^ ((c.from.result + 62) % 64)) 1)
    ∙ ap₂ (λ w b. eqb (w / 2 ^ ((b + 62) % 64) % 2) 1) c.from-2.ensures c.from.ensures
    ∙ bit_is a.switches a.condition (omega arith) (omega arith) c.if-condition-eq1.false
