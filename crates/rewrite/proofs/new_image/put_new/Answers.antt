-- `put_new` meets its contract: 13 where the new image does not fit; else the old image, where all groups stay, and the new one
-- otherwise. Assumes nothing.
use native.Mathlib.Omega.{arith}
use Prim.Native.Nat.{ℕ, ◌-◌}
use mathlib.Core.Path.{◌≡◌, refl, ap}
use mathlib.Core.Bool.{Bool}
use mathlib.Core.List.{List}
use lib.ListN.{length, take, drop}
use Rattle.std.proofs.lemmas.List.{take_rest}
use Rattle.rewrite.specs.Inner.Kept.{kept_of}
use Rattle.rewrite.proofs.AnswerLaws.{converts_short, converts_same, converts_whole}
use Rattle.rewrite.proofs.new_image.put_new.Goals as goal

-- what is counted, at the part of the image that is handed
counted :
    (l : List ℕ) (ms marks : List Bool) → ms ≡ marks
    → length (kept_of (take (length l - 9) (drop 9 l)) ms) ≡ length (kept_of (drop 9 l) marks)
counted l ms marks e = rw (e, take_rest l 9) refl

pub returns-then-buffer-size : goal.returns-then-buffer-size
returns-then-buffer-size c = rw c.at.ensures (converts_short _ _ c.requires.laid
    (omega (arith, counted c.args.image.now _ _ c.marks.ensures)))

pub returns-then-new : goal.returns-then-new
returns-then-new c = let e = c.requires.all c.if-new.true in
    converts_same _ _ _ _ c.requires.laid e
    (omega (arith, ap length e, counted c.args.image.now _ _ c.marks.ensures)) c.copy.ensures

pub returns : goal.returns
returns c =
    converts_whole _ _ _ _ c.requires.laid
    (omega (arith, counted c.args.image.now _ _ c.marks.ensures)) c.put_image.ensures
