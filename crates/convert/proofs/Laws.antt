-- What the reads have brought, and what is due for it. Assumes nothing.
--     gathered_first, gathered_read, gathered_more   no byte; a read that leaves those that were there; and one that brings more
--     due_ended, due_full             the end of the input, and a full space
--     due_line, due_image             what the conversion answered
--     new_fits                        the new image stands at the front of its buffer
use Prim.Native.Nat.{ℕ, ◌+◌, ◌≤◌, ◌<◌}
use native.Mathlib.Omega.{arith}
use mathlib.Core.Path.{◌≡◌, refl, sym, subst, ap, ◌∙◌}
use Rattle.std.specs.Prelude.{None, Ok, Err}
use mathlib.Core.List.{List, [], ◌∷◌, ◌++◌, append_assoc, append-nil}
use lib.ListN.{length, take, drop}
use lib.Seq.{take-add, length-take-le}
use Rattle.format.specs.declared.Refusal.{Refusal}
use Rattle.format.proofs.Chain.{outcome_gives, outcome_refused}
use Rattle.conversion.specs.Convert.{converted_image, convert_fault, Converts}
use Rattle.conversion.proofs.Buffers.{fault_parts, past_stays}
use Rattle.lines.specs.Lines.{line}
use Rattle.lines.specs.Converted.{input_space, convert_output, gathers}
use Rattle.lines.proofs.Converted.{output_new, output_refused, gathers_ended, gathers_on, gathers_full}
use Rattle.convert.specs.Inner.Due.{Due, DueOutput, DueErrors, Gathered}
use Rattle.format.specs.Answers.{Outcome}

-- ---- reads

pub gathered_first : (space : List ℕ) → Gathered (take 0 space)
gathered_first space = record { brought = []; onward = λ more. refl }

-- a read that leaves what was there
pub gathered_read :
    (before space : List ℕ) (have : ℕ) → take have space ≡ take have before → Gathered (take have before)
    → Gathered (take have space)
gathered_read before space have same g = subst Gathered (sym same) g

-- a read from a place of the space on: what stood before it stays
pub gathered_more :
    (before space : List ℕ) (have n : ℕ) → have < input_space → have ≤ length before → take have space ≡ take have before
    → Gathered (take have before) → Gathered (take (have + n) space)
gathered_more before space have n h long same g =
    let c : List ℕ = take n (drop have space) in
    let few : length (take have before) < input_space = omega (arith, length-take-le have before long) in
    let bytes : take have before ++ c ≡ take (have + n) space
    = ap (λ (x : List ℕ). x ++ c) (sym same) ∙ sym (take-add have n space) in
    record {
      brought = g.brought ++ (c ∷ []);
      onward = λ more.
          ap (gathers []) (append_assoc g.brought (c ∷ []) more)
          ∙ g.onward (c ∷ more)
          ∙ gathers_on (take have before) c more few
          ∙ ap (λ (x : List ℕ). gathers x more) bytes;
    }

module _ (kept : List ℕ) (g : Gathered kept) where
  pub due_ended : Due (convert_output kept)
  due_ended =
      Due.ended g.brought (ap (gathers []) (sym (append-nil g.brought)) ∙ g.onward [] ∙ gathers_ended kept)

  pub due_full : input_space ≤ length kept → Due (convert_output kept)
  due_full h = Due.full g.brought (λ more. g.onward more ∙ gathers_full kept more h)

-- ---- what the conversion answered

module _ {i b after : List ℕ} {r : Outcome ℕ} (a : Converts i b r after) (h : (length i ≤ input_space) × (input_space ≡ length b)) where
  pub due_line : (f : Refusal) → r ≡ Err f → Due (convert_output i) → DueErrors (line (Err f))
  due_line f e d =
      let x : convert_fault i (length b) ≡ _
      = outcome_refused (convert_fault i (length b)) (length (converted_image i)) (sym e ∙ a.answer) in
      subst Due (output_refused i h.0 f (ap (convert_fault i) h.1 ∙ x)) d

  module _ (n : ℕ) (e : r ≡ Ok n) where
    gives_new : (convert_fault i (length b) ≡ None) × (n ≡ length (converted_image i))
    gives_new = outcome_gives (convert_fault i (length b)) (length (converted_image i)) (sym e ∙ a.answer)

    new_front : take n after ≡ converted_image i
    new_front =
        ap (λ (k : ℕ). take k after) gives_new.1
        ∙ ap (take (length (converted_image i))) a.buffer
        ∙ (past_stays i b gives_new.0).0

    pub new_fits : n ≤ length after
    new_fits =
        let whole = (past_stays i b gives_new.0).2 in
        omega (arith, gives_new.1, (fault_parts i (length b) gives_new.0).1, ap length a.buffer, whole)

    pub due_image : Due (convert_output i) → DueOutput (take n after)
    due_image d =
        subst Due (output_new i h.0 (ap (convert_fault i) h.1 ∙ gives_new.0)
        ∙ ap (λ (x : List ℕ). record { output = x; errors = [] }) (sym new_front)) d
