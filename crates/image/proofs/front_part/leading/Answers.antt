-- `leading` meets its contract. Assumes nothing.
use native.Mathlib.Omega.{arith}
use mathlib.Core.Path.{refl, sym}
use native.Mathlib.Nat.{add-zero}
use lib.ListN.{length, take}
use lib.Seq.{length-take-le}
use mathlib.Core.Path.{◌≡◌, ap}
use Rattle.image.proofs.FrontLaws.{leading_tiny, leading_low, leading_past, leading_part, leads_whole}
use Rattle.image.proofs.front_part.leading.Goals as goal

pub returns-then-buffer-lt-SIZE : goal.returns-then-buffer-lt-SIZE
returns-then-buffer-lt-SIZE c = leads_whole _ (leading_tiny _ c.if-buffer-lt-SIZE.true)

pub returns-then-size-lt-SIZE : goal.returns-then-size-lt-SIZE
returns-then-size-lt-SIZE c = leads_whole _ (leading_low _ _ c.word_in-size.ensures.0 (omega arith) c.if-size-lt-SIZE.true)

pub returns-then-buffer-size : goal.returns-then-buffer-size
returns-then-buffer-size c = leads_whole _ (leading_past _ _ c.word_in-size.ensures.0 (omega arith) (omega arith) c.if-buffer-size.true)

pub slice_bounds-result-end : goal.slice_bounds-result-end
slice_bounds-result-end c = sym (length-take-le c.word_in-size.result c.args.buffer.now (omega arith))

pub returns : goal.returns
returns c = let b = c.args.buffer.now in
    let w = c.word_in-size.result in
    let n : length (take w b) ≡ w = length-take-le w b (omega arith) in
    record {
      bytes = sym (leading_part b w c.word_in-size.ensures.0 (omega arith) (omega arith) (omega arith));
      part = record { block = refl; offset = sym (add-zero _); inside = omega arith; bytes = ap (λ k. take k b) (sym n) };
    }
