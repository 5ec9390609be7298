-- `is_listed` meets its contract: the walk comes to a group's place, and none before it has the record. Assumes nothing.
use Rattle.std.proofs.Common.{sym, refl, ap, ◌∙◌, arith}
use Rattle.format.specs.Twins.{same_bytes}
use Rattle.format.proofs.ByCase.{count_groups}
use Rattle.extend.proofs.PlanLaws.{header_inside, groups_start, group_byte, group_end, group_next, listed_here, listed_on, listed_end}
use Rattle.extend.proofs.plan.is_listed.Goals as goal

pub slice_bounds-rest-count : goal.slice_bounds-rest-count
slice_bounds-rest-count c = header_inside c.args.image.now c.args.part.now c.requires

pub slice_bounds-rest-start : goal.slice_bounds-rest-start
slice_bounds-rest-start c = header_inside c.args.image.now c.args.part.now c.requires

pub loop-k-init : goal.loop-k-init
loop-k-init c =
    let l = c.args.image.now in
    record { all = c.word_at-count.ensures.0 ∙ sym (count_groups l); left = groups_start l c.args.part.now c.requires; none = refl }

pub bounds-rest-0 : goal.bounds-rest-0
bounds-rest-0 c =
    let l = c.loop-k in
    group_byte c.args.image.now c.args.part.now c.requires l.k (omega (arith, l.invariant.all)) l.rest.now l.invariant.left

pub split_at-requires : goal.split_at-requires
split_at-requires c =
    let l = c.loop-k in
    group_end c.args.image.now c.args.part.now c.requires l.k (omega (arith, l.invariant.all)) l.rest.now l.invariant.left c.from.result c.from.ensures

pub returns-then-same_record : goal.returns-then-same_record
returns-then-same_record c =
    let l = c.loop-k in
    let part = c.args.part.now in
    let same = sym (ap (same_bytes part) c.split_at.ensures.front) ∙ sym c.same_record.ensures ∙ c.if-same_record.true in
    sym
    (l.invariant.none
    ∙ listed_here c.args.image.now part c.requires l.k (omega (arith, l.invariant.all)) l.rest.now l.invariant.left c.from.result c.from.ensures same)

pub loop-k-preserved : goal.loop-k-preserved
loop-k-preserved c =
    let l = c.loop-k in
    let part = c.args.part.now in
    let other = sym (ap (same_bytes part) c.split_at.ensures.front) ∙ sym c.same_record.ensures ∙ c.if-same_record.false in
    record {
      all = l.invariant.all;
      left =
          c.split_at.ensures.back
          ∙ group_next c.args.image.now part c.requires l.k (omega (arith, l.invariant.all)) l.rest.now l.invariant.left c.from.result c.from.ensures;
      none =
          l.invariant.none
          ∙ listed_on c.args.image.now part c.requires l.k (omega (arith, l.invariant.all)) l.rest.now l.invariant.left c.from.result c.from.ensures other;
    }

pub returns : goal.returns
returns c =
    let l = c.loop-k in
    sym (l.invariant.none ∙ listed_end c.args.image.now c.args.part.now c.requires l.k (omega (arith, l.invariant.all)))
