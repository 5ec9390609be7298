-- The buffer that is converted into, and the call's refusals. Claims TwinsFound, PastStays, RefusedStays, ConvertNumbers. Assumes nothing.
--     fault_parts          what it says that nothing is refused: 1 to 7 pass, and the new image fits
--     buffer_written       then the new image stands at the front, and past it the buffer is as it was
--     buffer_refused       and else all of it
--     convert_refused      a refusal is the image's, or 13
use Prim.Native.Nat.{ℕ, ◌≤◌}
use native.Mathlib.Omega.{arith}
use mathlib.Core.Path.{◌≡◌, refl, ap, ◌∙◌}
use mathlib.Core.Logic.{◌⊎◌, inl, inr}
use Rattle.std.specs.Prelude.{None, Some}
use mathlib.Core.List.{List, ◌++◌}
use lib.ListN.{length, take, drop, length-append, length-drop}
use lib.Seq.{take-append_seam, drop-append_seam}
use lib.Dec.{leb}
use borrow.Author.Tests.{leb-true, le-leb, lt-leb}
use Rattle.format.specs.declared.Refusal.{Refusal}
use Rattle.format.specs.Refusals.{refusal, need}
use Rattle.format.specs.Check.{layout_fault, LaidOut}
use Rattle.format.proofs.Chain.{or_else_split, or_else_none, or_else_next, or_else_first, need_true, need_none, need_some}
use Rattle.format.proofs.Chain.{or_else_refuses, need_refuses, unless_accepted, unless_refused_lem}
use Rattle.format.proofs.Accepted.{check_split, twin_fault_some}
use Rattle.extension.specs.Add.{overwrite}
use Rattle.extension.proofs.Trip.{overwrite_is}
use Rattle.conversion.specs.Convert.{converted_image, convert_fault, buffer_converted}
use Rattle.conversion.specs.Claims.{TwinsFound, PastStays, RefusedStays, ConvertNumbers}

pub twins_found : TwinsFound
twins_found =
    record {
      image_first = λ l f e. check_split l ∙ or_else_first _ e;
      found = λ l n e t. check_split l ∙ or_else_next _ e ∙ twin_fault_some l n t;
    }

pub convert_numbers : ConvertNumbers
unfolding convert_fault
convert_numbers =
    record {
      image = λ l n f e. or_else_first _ e;
      short = λ l n e h. or_else_next _ e ∙ need_some _ (lt-leb (length (converted_image l)) n h);
      fits = λ l n e h. or_else_none e (need_none _ (le-leb (length (converted_image l)) n h));
    }

pub fault_parts : (l : List ℕ) (n : ℕ) → convert_fault l n ≡ None → LaidOut l × (length (converted_image l) ≤ n)
unfolding convert_fault
fault_parts l n e =
    let q = or_else_split (layout_fault l) (need (leb (length (converted_image l)) n) (refusal 13 0)) e in
    (q.0, leb-true (length (converted_image l)) n (need_true _ _ q.1))

pub buffer_written :
    (l b : List ℕ) → convert_fault l (length b) ≡ None → buffer_converted l b ≡ converted_image l ++ drop (length (converted_image l)) b
unfolding buffer_converted
buffer_written l b e = unless_accepted (overwrite (converted_image l) b) b e ∙ overwrite_is (converted_image l) b

pub buffer_refused : (l b : List ℕ) (f : Refusal) → convert_fault l (length b) ≡ Some f → buffer_converted l b ≡ b
unfolding buffer_converted
buffer_refused l b f e = unless_refused_lem (overwrite (converted_image l) b) b e

pub refused_stays : RefusedStays
refused_stays = buffer_refused

pub past_stays : PastStays
past_stays l b e =
    let new : List ℕ = converted_image l in
    let w : buffer_converted l b ≡ new ++ drop (length new) b = buffer_written l b e in
    let h = (fault_parts l (length b) e).1 in (
      ap (take (length new)) w ∙ take-append_seam new (drop (length new) b),
      ap (drop (length new)) w ∙ drop-append_seam new (drop (length new) b),
      omega (arith, ap length w, length-append new (drop (length new) b), length-drop (length new) b),
    )

pub convert_refused : (l : List ℕ) (n : ℕ) (f : Refusal) → convert_fault l n ≡ Some f → (layout_fault l ≡ Some f) ⊎ (f ≡ refusal 13 0)
unfolding convert_fault
convert_refused l n =
    or_else_refuses (λ f. (layout_fault l ≡ Some f) ⊎ (f ≡ refusal 13 0)) (layout_fault l) _ (λ f e. inl e)
    (λ _. need_refuses (λ f. (layout_fault l ≡ Some f) ⊎ (f ≡ refusal 13 0)) (leb (length (converted_image l)) n) (refusal 13 0) (inr refl))
