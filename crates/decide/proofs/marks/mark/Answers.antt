-- `mark` meets its contract: what is left to mark, on top of what is marked, is all. Assumes nothing.
use mathlib.Core.Path.{sym, ◌∙◌}
use lib.ListN.{length-set}
use Rattle.decide.proofs.MarkLaws.{pair_in, pair_is, pair_basic, pairs_end, mark_more, mark_done}
use Rattle.decide.proofs.marks.mark.Goals as goal

pub bounds-marks-word : goal.bounds-marks-word
bounds-marks-word c =
    pair_basic _ _ _ _ c.pairs-member-items.ensures c.loop-member.member-index c.loop-member-test.true _
    c.word.ensures c.requires.1

pub loop-member-preserved : goal.loop-member-preserved
loop-member-preserved c =
    let i = c.loop-member.member-index in
    let are = c.pairs-member-items.ensures in
    let e = c.word.ensures in
    let more = pair_in _ _ _ _ are i c.loop-member-test.true _ e in
    let is = pair_is _ _ _ _ are i c.loop-member-test.true _ e in
    (c.loop-member.invariant.0 ∙ mark_more _ i _ more _ is, simp length-set c.loop-member.invariant.1)

pub returns : goal.returns
returns c =
    let L = c.loop-member in
    sym (L.invariant.0 ∙ mark_done _ L.member-index _ (pairs_end _ _ _ _ c.pairs-member-items.ensures _ c.loop-member-test.false))
