-- `settle` meets its contract: the groups before g are settled. Assumes nothing.
use native.Mathlib.Omega.{arith}
use mathlib.Core.Path.{refl, ◌∙◌}
use lib.ListN.{length-set}
use Rattle.rewrite.proofs.TwinLaws.{settled_none, twin_goes, first_stays}
use Rattle.rewrite.proofs.twins.settle.Goals.{then-first-g, else-first-g}
use Rattle.rewrite.proofs.twins.settle.Goals as goal

pub loop-g-init : goal.loop-g-init
loop-g-init c = (omega arith, refl, refl, λ gs w. settled_none gs 256 256)

pub loop-g-preserved : goal.loop-g-preserved
loop-g-preserved c = let L = c.loop-g in
    elim c.if-first-g.branch [
      | then-first-g w ↦ (
        omega arith,
        rw w.to-is (simp length-set L.invariant.1),
        rw w.keep-is L.invariant.2,
        λ gs a.
            let n = a.count in
            rw (w.to-is, w.keep-is, w.kept-is)
            (twin_goes gs L.g (omega arith) _ (c.from-first.ensures ∙ a.first L.g (omega arith)) L.to L.keep L.kept (L.invariant.3 gs a)
            (omega arith) (omega arith) w.if-first-g.true),
      )
      | else-first-g w ↦ (
        omega arith,
        rw w.to-is (simp length-set L.invariant.1),
        rw w.keep-is (simp length-set L.invariant.2),
        λ gs a.
            let n = a.count in
            rw (w.to-is, w.keep-is, w.kept-is)
            (first_stays gs L.g (omega arith) _ (c.from-first.ensures ∙ a.first L.g (omega arith)) L.to L.keep L.kept (L.invariant.3 gs a)
            (omega arith) (omega arith) w.if-first-g.false (omega arith)),
      )
    ]
