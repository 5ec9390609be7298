-- `any_is` meets its contract: what is left to look at answers as all does. Assumes nothing.
use native.Mathlib.Omega.{arith}
use Prim.Native.Nat.{suc, ◌-◌}
use mathlib.Core.Path.{◌≡◌, refl, sym, ◌∙◌}
use Rattle.decide.proofs.MarkLaws.{walk_small, walk_rest, is_end, is_yes, is_no}
use Rattle.decide.proofs.marks.any_is.Goals as goal

pub loop-left-init : goal.loop-left-init
loop-left-init c = (c.requires.0, c.requires.1, refl)

pub bounds-marks-word_in : goal.bounds-marks-word_in
bounds-marks-word_in c = let L = c.loop-left in
    let e : L.left ≡ suc (L.left - 1) = omega arith in omega (arith, walk_small _ _ _ _ e L.invariant.1, c.word_in.ensures.0)

pub returns-then-marks-word_in : goal.returns-then-marks-word_in
returns-then-marks-word_in c = let L = c.loop-left in
    let e : L.left ≡ suc (L.left - 1) = omega arith in
    sym (L.invariant.2 ∙ is_yes _ _ _ _ _ e _ c.word_in.ensures.0 _ c.if-marks-word_in.true)

pub loop-left-preserved : goal.loop-left-preserved
loop-left-preserved c = let L = c.loop-left in
    let e : L.left ≡ suc (L.left - 1) = omega arith in (
      omega arith,
      walk_rest _ _ _ _ e L.invariant.1,
      L.invariant.2
          ∙ is_no _ _ _ _ _ e _ c.word_in.ensures.0 _ c.if-marks-word_in.false,
    )

pub returns : goal.returns
returns c = sym (c.loop-left.invariant.2 ∙ is_end _ _ _ _ _ (omega arith))
