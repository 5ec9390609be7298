-- `mark_type` meets its contract: a basic type is its own set, and a group is marked where it lies. Assumes nothing.
use native.Mathlib.Omega.{arith}
use mathlib.Core.Path.{sym, ap, subst, ◌∙◌}
use Rattle.decide.specs.Inner.Parts.{Spans, set_in}
use Rattle.decide.specs.Inner.Marks.{mark_all}
use Rattle.decide.proofs.TypeLaws.{type_basic, type_group, group_again, span_rising}
use Rattle.decide.proofs.MarkedLaws.{mark_basic, size_basic, span_size}
use Rattle.decide.proofs.policy.Policy.mark_type.Goals as goal

pub bounds-marks-t : goal.bounds-marks-t
bounds-marks-t c = omega (arith, type_basic _ _ c.requires c.if-t-lt32768.true)

pub returns-then-t-lt32768 : goal.returns-then-t-lt32768
returns-then-t-lt32768 c = (sym (mark_basic _ _ c.if-t-lt32768.true _), sym (size_basic _ _ c.if-t-lt32768.true))

pub group_span-s-requires : goal.group_span-s-requires
group_span-s-requires c = (c.args.self.ready.known, type_group _ _ c.requires c.if-t-lt32768.false)

pub mark-requires : goal.mark-requires
mark-requires c =
    let spans : Spans c.args.self.image.now c.group_span-s.result.from c.group_span-s.result.count
    (set_in c.args.self.image.now c.args.t) = subst (Spans _ _ _) (group_again _ _ c.if-t-lt32768.false) c.group_span-s.ensures in
    let s = spans in (s.room, span_rising _ _ _ _ s)

pub returns : goal.returns
returns c =
    let spans : Spans c.args.self.image.now c.group_span-s.result.from c.group_span-s.result.count
    (set_in c.args.self.image.now c.args.t) = subst (Spans _ _ _) (group_again _ _ c.if-t-lt32768.false) c.group_span-s.ensures in
    let s = spans in (c.mark.ensures ∙ ap (mark_all _) s.are, span_size _ _ _ _ s)
