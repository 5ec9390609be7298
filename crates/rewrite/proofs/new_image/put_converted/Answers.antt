-- `put_converted` meets its contract: it settles what becomes of the groups. Assumes nothing.
use native.Mathlib.Omega.{arith}
use Rattle.rewrite.proofs.AnswerLaws.{ready_for}
use Rattle.rewrite.proofs.new_image.put_converted.Goals as goal

pub put_new-requires : goal.put_new-requires
put_new-requires c =
    ready_for c.args.image.now c.args.sections _ _ _ c.requires.0 c.requires.1 c.requires.2 (λ i. omega (arith, c.type_inv.image i))
    c.word_at-groups.ensures.0 (omega arith) (omega arith) c.settle.ensures.groups c.settle.ensures.settled
