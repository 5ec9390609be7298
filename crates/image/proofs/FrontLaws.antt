-- Laws of the leading bytes of a buffer, by the ways that the code goes. Assumes nothing.
use Prim.Native.Nat.{ℕ, ◌≤◌, ◌<◌}
use mathlib.Core.Path.{◌≡◌, refl, sym, ap, ◌∙◌}
use mathlib.Core.List.{List}
use Rattle.std.specs.Prelude.{Option, None, Some}
use native.Mathlib.Omega.{arith}
use native.Mathlib.Nat.{add-zero}
use denote.Ref.{Bor}
use lib.ListN.{length, take}
use lib.Seq.{take-length}
use borrow.Author.Tests.{le-leb, lt-leb}
use Rattle.format.specs.declared.Refusal.{Refusal}
use Rattle.format.specs.Bytes.{word_at}
use Rattle.format.specs.Check.{check, image_in, check_front, leading}
use Rattle.format.specs.Give.{Leads}
use Rattle.format.specs.Answers.{outcome, starts}
use Rattle.format.proofs.Front.{leading_check, leading_image}

module _ (b : List ℕ) where
  pub leading_tiny : length b < 9 → leading b ≡ b
  unfolding leading
  leading_tiny h = simp (lt-leb 9 (length b) h)

  module _ (w : ℕ) (is : w ≡ word_at b 1) (long : 9 ≤ length b) where
    pub leading_low : w < 9 → leading b ≡ b
    unfolding leading
    leading_low h = simp (le-leb 9 (length b) long, lt-leb 9 (word_at b 1) (omega arith))

    pub leading_past : 9 ≤ w → length b < w → leading b ≡ b
    unfolding leading
    leading_past h k = simp (le-leb 9 (length b) long, le-leb 9 (word_at b 1) (omega arith), lt-leb (word_at b 1) (length b) (omega arith))

    pub leading_part : 9 ≤ w → w ≤ length b → leading b ≡ take w b
    unfolding leading image_in
    leading_part h k =
        rw is (simp (le-leb 9 (length b) long, le-leb 9 (word_at b 1) (omega arith), le-leb (word_at b 1) (length b) (omega arith)))

-- a buffer is a part of itself
pub leads_whole : (b : Bor (List ℕ)) → leading b.now ≡ b.now → Leads b b
leads_whole b e =
    record {
      bytes = sym e;
      part = record { block = refl; offset = sym (add-zero _); inside = omega arith; bytes = sym (take-length b.now) };
    }

pub front_outcome : (b : List ℕ) → outcome (check (leading b)) (starts (leading b)) ≡ outcome (check_front b) (starts (image_in b))
front_outcome b = ap (λ f. outcome f (starts (leading b))) (leading_check b) ∙ go (check_front b) refl
  where
    go : (f : Option Refusal) → check_front b ≡ f → outcome f (starts (leading b)) ≡ outcome f (starts (image_in b))
    go None e = ap (λ l. outcome None (starts l)) (leading_image b e)
    go (Some f) e = refl
