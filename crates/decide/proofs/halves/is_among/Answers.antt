-- `is_among` meets its contract: the number is among the members left where it is among all. Assumes nothing.
use native.Mathlib.Omega.{arith}
use mathlib.Core.Path.{refl, sym, ap, ◌∙◌}
use lib.Dec.{eqb}
use Rattle.decide.proofs.HalfLaws.{among_next, among_one}
use Rattle.decide.proofs.halves.is_among.Goals as goal

pub loop-left-init : goal.loop-left-init
loop-left-init c = let p = c.requires in record { some = p.some; room = p.room; rising = p.rising; same = refl }

pub half-at-requires : goal.half-at-requires
half-at-requires c = omega (arith, c.loop-left.invariant.room)

pub loop-left-preserved : goal.loop-left-preserved
loop-left-preserved c = among_next _ _ _ _ _ _ _ _ _ c.loop-left.invariant (omega arith) refl refl c.half-at.ensures

pub word_in-requires : goal.word_in-requires
word_in-requires c = let I = c.loop-left.invariant in omega (arith, I.some, I.room)

pub returns : goal.returns
returns c = let L = c.loop-left in
    ap (λ v. eqb v c.args.x) c.word_in.ensures.0
    ∙ sym (L.invariant.same ∙ among_one _ _ _ _ (omega (arith, L.invariant.some)))
