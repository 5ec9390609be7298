-- `meet_each` meets its contract: what was found so far, or is found in what is left of a group, is kept of it. Assumes
-- nothing.
use native.Mathlib.Omega.{arith}
use Prim.Native.Nat.{suc, ◌-◌, ◌<◌}
use mathlib.Core.Path.{◌≡◌, sym, ap}
use Rattle.decide.specs.Inner.Parts.{group_set}
use Rattle.decide.specs.Inner.Marks.{any_marked}
use Rattle.decide.proofs.MarkLaws.{walk_small, walk_rest, found_end, found_yes, found_no}
use Rattle.decide.proofs.TypeLaws.{span_rising, group_number, group_few}
use Rattle.decide.proofs.KeptLaws.{kept_adds}
use Rattle.decide.proofs.policy.Policy.meet_each.Goals as goal
use Rattle.decide.proofs.policy.Policy.meet_each.Goals.{then-first-x, else-first-x, then-second-x, else-second-x}

pub bounds-kf-g : goal.bounds-kf-g
bounds-kf-g c =
    let few : c.word_in-t.result - 32768 < 256 = group_few _ _ _ _ c.args.self.ready.known c.requires.0 c.word_in-t.ensures.0 c.if-t-lt32768.false in
    few

pub group_span-s-requires : goal.group_span-s-requires
group_span-s-requires c =
    (c.args.self.ready.known, group_number _ _ _ _ c.args.self.ready.known c.requires.0 c.word_in-t.ensures.0 c.if-t-lt32768.false)

pub loop-left-init : goal.loop-left-init
loop-left-init c = let s = c.group_span-s.ensures in
    (s.room, span_rising _ _ _ _ s, ap (any_marked _) (sym s.are), ap (any_marked _) (sym s.are))

pub bounds-first-x : goal.bounds-first-x
bounds-first-x c = let L = c.loop-left in
    let e : L.left ≡ suc (L.left - 1) = omega arith in
    omega (arith, walk_small _ _ _ _ e L.invariant.1, c.word_in-x.ensures.0)

pub bounds-second-x : goal.bounds-second-x
bounds-second-x c = let L = c.loop-left in
    let e : L.left ≡ suc (L.left - 1) = omega arith in
    omega (arith, walk_small _ _ _ _ e L.invariant.1, c.word_in-x.ensures.0)

pub loop-left-preserved : goal.loop-left-preserved
loop-left-preserved c = let L = c.loop-left in
    let e : L.left ≡ suc (L.left - 1) = omega arith in
    let x = c.word_in-x.ensures.0 in (
      omega arith,
      walk_rest _ _ _ _ e L.invariant.1,
      elim c.if-first-x.branch [
        | then-first-x w ↦ found_yes _ _ _ _ L.a L.invariant.2 _ e _ x w.if-first-x.true w.a-is
        | else-first-x w ↦ found_no _ _ _ _ L.a L.invariant.2 _ e _ x w.if-first-x.false w.a-is
      ],
      elim c.if-second-x.branch [
        | then-second-x w ↦ found_yes _ _ _ _ L.b L.invariant.3 _ e _ x w.if-second-x.true w.b-is
        | else-second-x w ↦ found_no _ _ _ _ L.b L.invariant.3 _ e _ x w.if-second-x.false w.b-is
      ],
    )

pub keep-requires : goal.keep-requires
keep-requires c =
    let few : c.word_in-t.result - 32768 < 256 = group_few _ _ _ _ c.args.self.ready.known c.requires.0 c.word_in-t.ensures.0 c.if-t-lt32768.false in
    few

pub keep-requires-2 : goal.keep-requires-2
keep-requires-2 c =
    let few : c.word_in-t.result - 32768 < 256 = group_few _ _ _ _ c.args.self.ready.known c.requires.0 c.word_in-t.ensures.0 c.if-t-lt32768.false in
    few

pub returns : goal.returns
returns c = let L = c.loop-left in
    let n : L.left ≡ 0 = omega arith in
    let l = c.args.self.image.now in (
      rw c.keep.ensures.1 (kept_adds (λ g. any_marked c.args.first.now (group_set l g)) _ c.requires.1 _ _
          (sym (found_end _ _ _ _ _ L.invariant.2 n))),
      rw c.keep-2.ensures.1
          (kept_adds (λ g. any_marked c.args.second.now (group_set l g)) _ c.requires.2 _ _
          (sym (found_end _ _ _ _ _ L.invariant.3 n))),
    )
