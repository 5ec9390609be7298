-- `kept_length` meets its contract: what is counted, and what the records left add to it. Assumes nothing.
use native.Mathlib.Omega.{arith}
use Prim.Native.Nat.{◌+◌, ◌-◌}
use mathlib.Core.Path.{◌≡◌, ap, ◌∙◌}
use lib.ListN.{length, drop, length-append}
use Rattle.rewrite.specs.Inner.Kept.{kept_of}
use Rattle.rewrite.proofs.KeptLaws.{lie_next, mark_stays, mark_goes}
use Rattle.rewrite.proofs.section.kept_length.Goals.{then-stays, else-stays}
use Rattle.rewrite.proofs.section.kept_length.Goals as goal

pub loop-stays-preserved : goal.loop-stays-preserved
loop-stays-preserved c = let L = c.loop-stays in
    let s = c.split_at.ensures in
    let left = lie_next 1 L.rest.now _ (length c.args.marks.now - (L.stays-index + 1)) (omega arith) L.invariant.0
    _ _ c.from.ensures s.back in
    let rest = kept_of c.split_at.result.1.now (drop (L.stays-index + 1) c.args.marks.now) in
    elim c.if-stays.branch [
      | then-stays w ↦
          let n : length (kept_of L.rest.now (drop L.stays-index c.args.marks.now)) ≡ length c.split_at.result.0.now + length rest =
          ap length (mark_stays _ _ L.stays-index (omega arith) _ _ c.from.ensures s.back _ s.front w.if-stays.true)
          ∙ length-append c.split_at.result.0.now rest in
          (left, omega arith, omega arith)
      | else-stays w ↦
          let n : length (kept_of L.rest.now (drop L.stays-index c.args.marks.now)) ≡ length rest =
          ap length (mark_goes _ _ L.stays-index (omega arith) _ _ c.from.ensures s.back w.if-stays.false) in
          (left, omega arith, omega arith)
    ]
