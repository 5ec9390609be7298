-- `mark_types` meets its contract: the sets that are left to mark, on top of what is marked, are all. Assumes nothing.
use lib.ListN.{drop}
use Prim.Native.Nat.{◌+◌, ◌<◌}
use native.Mathlib.Omega.{arith}
use mathlib.Core.Path.{sym, ap, subst, ◌∙◌}
use Rattle.format.specs.Claims.{IsType}
use Rattle.format.specs.Inner.Places.{words_at}
use Rattle.format.proofs.Places.{words_at_length, words_at_nth}
use Rattle.decision.specs.Sets.{union_of}
use Rattle.decide.specs.Inner.Parts.{groups_in}
use Rattle.decide.specs.Inner.Marks.{mark_all}
use Rattle.decide.proofs.MarkLaws.{pair_in, pair_is, pairs_end}
use Rattle.decide.proofs.MarkedLaws.{union_more, union_done}
use Rattle.decide.proofs.policy.Policy.mark_types.Goals as goal

pub mark_type-requires : goal.mark_type-requires
mark_type-requires c =
    let l = c.args.self.image.now in
    let i = c.loop-field.field-index in
    let are = c.pairs-field-items.ensures in
    let more = pair_in _ _ _ _ are i c.loop-field-test.true _ c.word.ensures in
    let few : i < c.args.count = omega (arith, more, words_at_length l c.args.count c.args.from) in
    let is = pair_is _ _ _ _ are i c.loop-field-test.true _ c.word.ensures ∙ words_at_nth l c.args.count c.args.from i few in
    subst (IsType _) (sym is) (c.requires.are i few)

pub loop-field-preserved : goal.loop-field-preserved
loop-field-preserved c =
    let l = c.args.self.image.now in
    let L = c.loop-field in
    let i = L.field-index in
    let are = c.pairs-field-items.ensures in
    let more = pair_in _ _ _ _ are i c.loop-field-test.true _ c.word.ensures in
    let is = pair_is _ _ _ _ are i c.loop-field-test.true _ c.word.ensures in
    L.invariant ∙ union_more (groups_in l) _ i L.marks _ more is
    ∙ ap (λ m. mark_all m (union_of (groups_in l) (drop (i + 1) (words_at l c.args.count c.args.from)))) (sym c.mark_type.ensures.0)

pub returns : goal.returns
returns c =
    let L = c.loop-field in
    sym (L.invariant ∙ union_done _ _ L.field-index L.marks (pairs_end _ _ _ _ c.pairs-field-items.ensures _ c.loop-field-test.false))
