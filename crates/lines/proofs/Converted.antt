-- What the program `convert` writes. Claims AnyConverted, OldWritten, AcceptedWritten, RefusedWritten and OneWritten. Assumes
-- nothing.
--     output_new, output_refused   what is written for an input that the space holds
--     gathers_on, gathers_full, gathers_ended   a read, a full space, and the end of the input
use Prim.Native.Nat.{ℕ, ◌≤◌, ◌<◌}
use native.Mathlib.Omega.{arith}
use mathlib.Core.Path.{◌≡◌, refl, sym, ap, ◌∙◌}
use mathlib.Core.Logic.{◌⊎◌, inl, inr}
use mathlib.Core.Bool.{Bool, true, false}
use Rattle.std.specs.Prelude.{Option, None, Some}
use mathlib.Core.List.{List, [], ◌∷◌, ◌++◌, append_assoc, append-nil, flatten}
use lib.ListN.{length, get_or, take}
use lib.Seq.{get_or-take, length-take-le, take_all, take-append-le, take-take}
use lib.Dec.{leb, ltb}
use borrow.Author.Tests.{leb-true, leb-false, ltb-true, ltb-false, lt-ltb, le-ltb}
use Rattle.format.specs.declared.Refusal.{Refusal}
use Rattle.format.specs.Bytes.{Bytes}
use Rattle.format.specs.Refusals.{refusal, need, ◌or_else◌}
use Rattle.format.specs.Format.{known_version}
use Rattle.format.specs.Check.{layout_fault}
use Rattle.std.specs.Prelude.{Err}
use Rattle.format.specs.Policy.{policy_of}
use Rattle.format.proofs.Accepted.{laid_length, accepted_laid}
use Rattle.format.proofs.Bytes.{bytes_take, word_small}
use Rattle.format.proofs.Misfit.{misfit_refused}
use Rattle.format.proofs.Images.{image_length}
use Rattle.conversion.specs.Convert.{converted, converted_image, convert_fault}
use Rattle.conversion.proofs.Convert.{image_is, converted_accepted, converted_bytes}
use Rattle.conversion.proofs.Buffers.{convert_numbers}
use Rattle.lines.specs.Lines.{line}
use Rattle.lines.specs.Converted.{input_space, image_or_line, convert_output, gathers}
use Rattle.lines.specs.Converted.{AnyConverted, OldWritten, AcceptedWritten, RefusedWritten, OneWritten}

-- ---- an input that the space holds

module _ (i : List ℕ) (short : length i ≤ input_space) where
  output_is : convert_output i ≡ image_or_line (convert_fault i input_space) (converted_image i)
  unfolding convert_output
  output_is = ap (λ (x : List ℕ). image_or_line (convert_fault x input_space) (converted_image x)) (take_all input_space i short)

  pub output_new : convert_fault i input_space ≡ None → convert_output i ≡ record { output = converted_image i; errors = [] }
  unfolding image_or_line
  output_new e = output_is ∙ ap (λ (f : Option Refusal). image_or_line f (converted_image i)) e

  pub output_refused :
      (f : Refusal) → convert_fault i input_space ≡ Some f → convert_output i ≡ record { output = []; errors = line (Err f) }
  unfolding image_or_line
  output_refused f e = output_is ∙ ap (λ (x : Option Refusal). image_or_line x (converted_image i)) e

pub old_written_lem : OldWritten
old_written_lem i b e =
    let n : length i ≤ input_space = omega (arith, laid_length i e, word_small i b 1) in
    output_new i n (convert_numbers.fits i input_space e (omega (arith, n, (converted_accepted i b e).shorter)))

pub accepted_written : AcceptedWritten
accepted_written i b e =
    old_written_lem i b (accepted_laid i e) ∙ ap (λ (x : List ℕ). record { output = x; errors = [] }) (converted_bytes i b e)

-- ---- one that is longer: no length field says so

cut_same : (i : List ℕ) → Bytes i → input_space < length i → layout_fault (take input_space i) ≡ layout_fault i
cut_same i b h =
    let n : length (take input_space i) ≡ input_space = length-take-le input_space i (omega arith) in
    let w = word_small (take input_space i) (bytes_take input_space i b) 1 in
    misfit_refused (take input_space i) (omega (arith, n)) (λ e. omega (arith, n, w, e))
    ∙ ap (λ (v : ℕ). need (known_version v) (refusal 2 0) or_else Some (refusal 3 0)) (get_or-take input_space i 0 0 (omega arith))
    ∙ sym (misfit_refused i (omega arith) (λ e. omega (arith, word_small i b 1, e)))

output_cut : (i : List ℕ) → convert_output (take input_space i) ≡ convert_output i
unfolding convert_output
output_cut i =
    ap (λ (x : List ℕ). image_or_line (convert_fault x input_space) (converted_image x))
    (take-take input_space input_space i (omega arith))

pub refused_written : RefusedWritten
refused_written i f b e = go (leb (length i) input_space) refl
  where
    go : (x : Bool) → leb (length i) input_space ≡ x → convert_output i ≡ record { output = []; errors = line (Err f) }
    go true q = output_refused i (leb-true _ _ q) f (convert_numbers.image i input_space f e)
    go false q =
        let h = leb-false (length i) input_space q in
        let j : List ℕ = take input_space i in
        let n : length (take input_space i) ≤ input_space = omega (arith, length-take-le input_space i (omega arith)) in
        sym (output_cut i) ∙ output_refused j n f (convert_numbers.image j input_space f (cut_same i b h ∙ e))

-- whichever it is
one_of :
    (f : Option Refusal) (l : List ℕ) → 9 ≤ length l
    → ((9 ≤ length (image_or_line f l).output) × ((image_or_line f l).errors ≡ []))
    ⊎ (((image_or_line f l).output ≡ []) × (get_or (image_or_line f l).errors 0 0 ≡ 82))
unfolding image_or_line
one_of None l h = inl (h, refl)
one_of (Some f) l h = inr (refl, refl)

pub one_written : OneWritten
unfolding convert_output
one_written i =
    let l : List ℕ = take input_space i in
    let n = ap length (image_is l) ∙ image_length (converted (policy_of l)) in
    one_of (convert_fault l input_space) (converted_image l) (omega (arith, n))

-- ---- one read after the other

module _ (kept : List ℕ) where
  pub gathers_ended : gathers kept [] ≡ convert_output kept
  unfolding gathers
  gathers_ended = refl

  pub gathers_on :
      (c : List ℕ) (cs : List (List ℕ)) → length kept < input_space → gathers kept (c ∷ cs) ≡ gathers (kept ++ c) cs
  unfolding gathers
  gathers_on c cs h = rw (lt-ltb (length kept) input_space h) refl

  pub gathers_full : (cs : List (List ℕ)) → input_space ≤ length kept → gathers kept cs ≡ convert_output kept
  unfolding gathers
  gathers_full [] h = refl
  gathers_full (c ∷ cs) h = rw (le-ltb (length kept) input_space h) refl

  -- no more than the space tells
  full_same : (t : List ℕ) → input_space ≤ length kept → convert_output kept ≡ convert_output (kept ++ t)
  unfolding convert_output
  full_same t h =
      ap (λ (x : List ℕ). image_or_line (convert_fault x input_space) (converted_image x)) (sym (take-append-le input_space kept t h))

gathers_all : (kept : List ℕ) (cs : List (List ℕ)) → gathers kept cs ≡ convert_output (kept ++ flatten cs)
unfolding flatten
gathers_all kept [] = gathers_ended kept ∙ ap convert_output (sym (append-nil kept))
gathers_all kept (c ∷ cs) = go (ltb (length kept) input_space) refl (gathers_all (kept ++ c) cs)
  where
    go :
        (x : Bool) → ltb (length kept) input_space ≡ x → gathers (kept ++ c) cs ≡ convert_output ((kept ++ c) ++ flatten cs)
        → gathers kept (c ∷ cs) ≡ convert_output (kept ++ (c ++ flatten cs))
    go true e next = gathers_on kept c cs (ltb-true _ _ e) ∙ next ∙ ap convert_output (append_assoc kept c (flatten cs))
    go false e next =
        let h = ltb-false _ _ e in gathers_full kept (c ∷ cs) h ∙ full_same kept (c ++ flatten cs) h

pub any_converted : AnyConverted
any_converted i cs e = gathers_all [] cs ∙ ap convert_output e
