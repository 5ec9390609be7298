-- `mark_once` meets its contract: a basic type is its own set, and a group that was marked has its marks. Assumes nothing.
use native.Mathlib.Omega.{arith}
use Prim.Native.Nat.{◌-◌}
use mathlib.Core.Path.{◌≡◌, sym, ap, ◌∙◌}
use Rattle.decide.specs.Inner.Parts.{group_set, set_in, set_at}
use Rattle.decide.specs.Inner.Marks.{mark_all}
use Rattle.decide.proofs.TypeLaws.{type_basic, set_rising, group_number, group_few, group_is, span_rising}
use Rattle.decide.proofs.MarkedLaws.{rising_small, mark_basic}
use Rattle.decide.proofs.SourceLaws.{joins, joined_done, marking_more, marking_done}
use Rattle.decide.proofs.policy.Policy.mark_once.Goals as goal

pub bounds-marks-t : goal.bounds-marks-t
bounds-marks-t c = omega (arith, type_basic _ _ c.requires.0.is (omega (arith, c.word_in-t.ensures.0, c.if-t-lt32768.true)), c.word_in-t.ensures.0)

pub returns-then-t-lt32768 : goal.returns-then-t-lt32768
returns-then-t-lt32768 c = let l = c.args.self.image.now in
    let e = sym (mark_basic l _ c.if-t-lt32768.true _)
    ∙ ap (λ t. mark_all c.args.marks.now (set_in l t)) c.word_in-t.ensures.0 in
    let s = rising_small 0 _ (set_rising l _ c.args.self.ready.known.accepted c.requires.0.is) in
    (joins _ _ _ c.requires.1.all s e, marking_more _ _ _ c.requires.1.all s e l _ c.requires.1)

pub bounds-done-g : goal.bounds-done-g
bounds-done-g c = group_few _ _ _ _ c.args.self.ready.known c.requires.0 c.word_in-t.ensures.0 c.if-t-lt32768.false

pub returns-then-done-g : goal.returns-then-done-g
returns-then-done-g c =
    let same : group_set c.args.self.image.now (c.word_in-t.result - 32768) ≡ set_at c.args.self.image.now c.args.at =
    group_is _ _ _ _ c.args.self.ready.known c.requires.0 c.word_in-t.ensures.0 c.if-t-lt32768.false in
    (joined_done _ _ _ _ _ c.requires.1 c.if-done-g.true same, c.requires.1)

pub bounds-done-g-2 : goal.bounds-done-g-2
bounds-done-g-2 c = group_few _ _ _ _ c.args.self.ready.known c.requires.0 c.word_in-t.ensures.0 c.if-t-lt32768.false

pub group_span-s-requires : goal.group_span-s-requires
group_span-s-requires c =
    (c.args.self.ready.known, group_number _ _ _ _ c.args.self.ready.known c.requires.0 c.word_in-t.ensures.0 c.if-t-lt32768.false)

pub mark-requires : goal.mark-requires
mark-requires c = let s = c.group_span-s.ensures in (s.room, span_rising _ _ _ _ s)

pub returns : goal.returns
returns c =
    let same : group_set c.args.self.image.now (c.word_in-t.result - 32768) ≡ set_at c.args.self.image.now c.args.at =
    group_is _ _ _ _ c.args.self.ready.known c.requires.0 c.word_in-t.ensures.0 c.if-t-lt32768.false in
    let e = c.mark.ensures ∙ ap (mark_all _) (c.group_span-s.ensures.are ∙ same) in
    let s = rising_small 0 _ (set_rising _ _ c.args.self.ready.known.accepted c.requires.0.is) in
    (joins _ _ _ c.requires.1.all s e, marking_done _ _ _ c.requires.1.all s e _ _ c.requires.1 _ same)
