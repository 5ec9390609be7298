-- `put_kept` meets its contract: what is kept of the records left is still to come. Assumes nothing.
use native.Mathlib.Omega.{arith}
use Prim.Native.Nat.{◌+◌, ◌-◌}
use lib.ListN.{length}
use Rattle.rewrite.proofs.PutLaws.{writing_put, writing_end, writing_room}
use Rattle.rewrite.proofs.KeptLaws.{lie_next, mark_stays, mark_goes, marks_end}
use Rattle.rewrite.proofs.section.put_kept.Goals.{then-stays, else-stays}
use Rattle.rewrite.proofs.section.put_kept.Goals as goal

pub copy-next-requires : goal.copy-next-requires
copy-next-requires c = let L = c.loop-stays in
    let s = c.split_at.ensures in
    writing_room _ _ L.invariant.1
    (mark_stays _ _ L.stays-index (omega arith) _ _ c.from.ensures s.back _ s.front c.if-stays.true)

pub loop-stays-preserved : goal.loop-stays-preserved
loop-stays-preserved c = let L = c.loop-stays in
    let s = c.split_at.ensures in
    let left = lie_next 1 L.rest.now _ (length c.args.marks.now - (L.stays-index + 1)) (omega arith) L.invariant.0
    _ _ c.from.ensures s.back in
    elim c.if-stays.branch [
      | then-stays w ↦
          let e = mark_stays _ _ L.stays-index (omega arith) _ _ c.from.ensures s.back _ s.front w.if-stays.true in
          rw (w.buffer-is, w.next-is) (left, writing_put _ L.invariant.1 e w.copy-next.ensures)
      | else-stays w ↦
          let e = mark_goes _ _ L.stays-index (omega arith) _ _ c.from.ensures s.back w.if-stays.false in
          rw (w.buffer-is, w.next-is) (left, rw e at L.invariant.1)
    ]

pub returns : goal.returns
returns c = let L = c.loop-stays in
    writing_end L.invariant.1 (marks_end _ c.args.marks.now L.stays-index (omega arith))
