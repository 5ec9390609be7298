-- `fully_marked` meets its contract: the hits so far and those among what is left are all hits. Assumes nothing.
use native.Mathlib.Omega.{arith}
use mathlib.Core.Path.{◌≡◌, ap}
use lib.Dec.{eqb}
use Rattle.format.specs.Inner.Places.{words_at}
use Rattle.decide.specs.Inner.Marks.{tallied, fully_marked}
use Rattle.decide.proofs.MarkLaws.{pair_in, pair_is, pair_basic, pairs_end, tally_hit, tally_miss, tally_done, hits_on, hits_off}
use Rattle.decide.proofs.marks.fully_marked.Goals as goal
use Rattle.decide.proofs.marks.fully_marked.Goals.{then-marks-word, else-marks-word}

pub bounds-marks-word : goal.bounds-marks-word
bounds-marks-word c =
    pair_basic _ _ _ _ c.pairs-member-items.ensures c.loop-member.member-index c.loop-member-test.true _
    c.word.ensures c.requires.1

pub loop-member-preserved : goal.loop-member-preserved
loop-member-preserved c =
    let i = c.loop-member.member-index in
    let are = c.pairs-member-items.ensures in
    let e = c.word.ensures in
    let more = pair_in _ _ _ _ are i c.loop-member-test.true _ e in
    let is = pair_is _ _ _ _ are i c.loop-member-test.true _ e in
    let L = c.loop-member in
    elim c.if-marks-word.branch [
      | then-marks-word w ↦ (
        hits_on L.hits _ _ L.invariant.0 (tally_hit _ i _ more _ is w.if-marks-word.true) w.hits-is,
        omega arith,
      )
      | else-marks-word w ↦ (
        hits_off L.hits _ _ L.invariant.0 (tally_miss _ i _ more _ is w.if-marks-word.false) w.hits-is,
        omega arith,
      )
    ]

pub returns : goal.returns
unfolding fully_marked
returns c =
    let a = c.args in
    let L = c.loop-member in
    let end = pairs_end _ _ _ _ c.pairs-member-items.ensures _ c.loop-member-test.false in
    let e : L.hits ≡ tallied a.marks.now (words_at a.image.now a.count a.from) =
    omega (arith, L.invariant.0, tally_done _ L.member-index a.marks.now end) in
    ap (λ n. eqb n a.size) e
