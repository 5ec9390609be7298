-- A text that is added piece by piece, to a front that is accepted. Assumes nothing.
--     added_refused           a front that is refused is left as it was
--     added_front             the rows are added to what the buffer starts with
--     built_added             a text is built by adding its rows to the empty policy
--     added_accepted          what is left is accepted, of bytes, and as long as it was
--     added_behind, added_next   a piece behind another and a line feed: what it does to what the first left, its places further
--     added_stops             behind a refused piece nothing is read
--     added_place             a refusal's place lies within the text
use Prim.Native.Nat.{ℕ, suc, ◌+◌, ◌≤◌, ◌<◌}
use mathlib.Core.Path.{◌≡◌, sym, subst, ap, ◌∙◌}
use Rattle.std.specs.Prelude.{None, Some}
use mathlib.Core.List.{List, ◌∷◌, ◌++◌}
use native.Mathlib.Omega.{arith}
use lib.ListN.{length}
use Rattle.format.specs.declared.Refusal.{Refusal}
use Rattle.format.specs.Bytes.{Bytes}
use Rattle.format.specs.Check.{check_front}
use Rattle.std.specs.Prelude.{Ok, Err}
use Rattle.format.specs.Sample.{empty}
use Rattle.extension.specs.Add.{overwrite}
use Rattle.text.specs.Words.{split}
use Rattle.text.specs.Build.{Made, onward, rows_from, built, rows_added}
use Rattle.text.specs.Inner.Moves.{made_by}
use Rattle.text.proofs.Rows.{answer_of, rows_chain_gives, rows_chain_refused, rows_moved}
use Rattle.text.proofs.Follow.{built_long, rows_place}
use Rattle.text.proofs.Buffers.{imaged_accepted, imaged_empty, rows_accepted}

pub added_refused : (text b : List ℕ) {f : Refusal} → check_front b ≡ Some f → rows_added text b ≡ record { answer = Err f; buffer = b }
unfolding rows_added onward
added_refused text b e = rw e

pub added_front : (text b : List ℕ) → check_front b ≡ None → rows_added text b ≡ rows_from 0 (split 10 text) b
unfolding rows_added onward
added_front text b e = rw e

pub built_added : (text b : List ℕ) → 9 ≤ length b → built text b ≡ rows_added text (overwrite empty b)
built_added text b h =
    built_long text b h ∙ sym (added_front text (overwrite empty b) (imaged_accepted b (overwrite empty b) (imaged_empty b h)))

module _ (b : List ℕ) (e : check_front b ≡ None) where
  pub added_accepted :
      Bytes b → (text : List ℕ)
      → (check_front (rows_added text b).buffer ≡ None) × Bytes (rows_added text b).buffer × (length (rows_added text b).buffer ≡ length b)
  added_accepted by text =
      subst (λ (m : Made). (check_front m.buffer ≡ None) × Bytes m.buffer × (length m.buffer ≡ length b))
      (sym (added_front text b e)) (rows_accepted b e by 0 (split 10 text))

  module _ (text more : List ℕ) (n : ℕ) (h : (rows_added text b).answer ≡ Ok n) where
    pub added_behind : rows_added (text ++ (10 ∷ more)) b ≡ rows_from (0 + suc (length text)) (split 10 more) (rows_added text b).buffer
    added_behind =
        let q = added_front text b e in
        added_front (text ++ (10 ∷ more)) b e
        ∙ rows_chain_gives 0 text more b n (sym (ap answer_of q) ∙ h)
        ∙ ap (λ (m : Made). rows_from (0 + suc (length text)) (split 10 more) m.buffer) (sym q)

    pub added_next :
        check_front (rows_added text b).buffer ≡ None
        → rows_added (text ++ (10 ∷ more)) b ≡ made_by (suc (length text)) (rows_added more (rows_added text b).buffer)
    added_next a =
        let after : List ℕ = (rows_added text b).buffer in
        let place : 0 + suc (length text) ≡ suc (length text) + 0 = omega arith in
        added_behind
        ∙ ap (λ (k : ℕ). rows_from k (split 10 more) after) place
        ∙ rows_moved (suc (length text)) 0 (split 10 more) after
        ∙ ap (made_by (suc (length text))) (sym (added_front more after a))

  pub added_stops :
      (text more : List ℕ) (f : Refusal) → (rows_added text b).answer ≡ Err f → rows_added (text ++ (10 ∷ more)) b ≡ rows_added text b
  added_stops text more f h =
      let q = added_front text b e in
      added_front (text ++ (10 ∷ more)) b e ∙ rows_chain_refused 0 text more b f (sym (ap answer_of q) ∙ h) ∙ sym q

  pub added_place : (text : List ℕ) (f : Refusal) → (rows_added text b).answer ≡ Err f → f.place < length text
  added_place text f h =
      let k = rows_place 0 text b f (sym (ap answer_of (added_front text b e)) ∙ h) in
      omega (arith, k.1)
