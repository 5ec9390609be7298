-- Laws of the lines. Assumes nothing.
use Prim.Native.Nat.{ℕ, suc, ◌+◌, ◌-◌, ◌*◌, ◌/◌, ◌%◌, ◌≤◌, ◌<◌}
use native.Mathlib.Omega.{arith}
use mathlib.Core.Path.{◌≡◌, refl, sym, subst, ap, ◌∙◌}
use mathlib.Core.List.{List, ◌++◌, append_assoc, append-nil}
use lib.ListN.{length, take, drop}
use lib.Seq.{length-take-le}
use borrow.Author.Tests.{eq-eqb, ne_eqb}
use Rattle.format.specs.Refusals.{refusal}
use Rattle.format.specs.Check.{Accepted}
use Rattle.std.specs.Prelude.{Err}
use Rattle.format.specs.Answers.{Outcome}
use Rattle.decision.specs.declared.Decision.{Decision}
use Rattle.decision.specs.Decide.{answer}
use Rattle.decision.specs.Numbers.{decision_code, host_decision}
use Rattle.decision.specs.Rows.{query_at}
use Rattle.decision.proofs.Numbers.{accepted_read}
use Rattle.lines.specs.Lines.{line, lines_from, lines}
use Rattle.lines.specs.Output.{rest_of, ending}
use Rattle.streams.specs.Put.{kept_rest, Put, Front}
use Rattle.streams.proofs.Rests.{kept_bytes}

pub put_said : {l l' : List ℕ} {at to : ℕ} {o o' : Outcome Decision} → o ≡ o' → Put l l' at to (line o') → Put l l' at to (line o)
put_said {l} {l'} {at} {to} e p = subst (λ x. Put l l' at to (line x)) (sym e) p

-- the bytes past the last whole query, once they were moved to the front
pub rest_front :
    (l l' : List ℕ) (have rest : ℕ) → have ≤ length l → rest ≡ have % 12 → rest ≤ length l' → l' ≡ kept_rest (have - rest) have l
    → Front l' rest (rest_of (take have l))
unfolding rest_of
rest_front l l' have rest h e f is =
    let from : 12 * (length (take have l) / 12) ≡ have - rest = omega (arith, length-take-le have l h, e) in
    let size : rest ≡ have - (have - rest) = omega arith in
    record {
      fits = f;
      bytes = ap (λ k. take k l') size
          ∙ kept_bytes l (have - rest) have l' (omega arith) h is
          ∙ ap (λ k. drop k (take have l)) (sym from);
    }

-- ---- the lines of queries: those of k rows are put, up to `end`

module _ (l b : List ℕ) where
  abbrev pub LinesTo : List ℕ → ℕ → ℕ → Type 0
  LinesTo out k end = lines l b ≡ take end out ++ lines_from l b (length b / 12 - k) (12 * k)

  pub lines_start : (out : List ℕ) → LinesTo out 0 0
  unfolding lines
  lines_start out = let e : length b / 12 ≡ length b / 12 - 0 = omega arith in ap (λ k. lines_from l b k 0) e

  lines_more : (k at : ℕ) → lines_from l b (suc k) at ≡ line (answer l (query_at b at)) ++ lines_from l b k (at + 12)
  unfolding lines_from
  lines_more k at = refl

  pub lines_next :
      (out out' : List ℕ) (k end to n : ℕ) → Accepted l → k < length b / 12 → n ≡ decision_code (answer l (query_at b (12 * k)))
      → Put out out' end to (line (host_decision n)) → LinesTo out k end → LinesTo out' (k + 1) to
  lines_next out out' k end to n a h e p is =
      let m = length b / 12 - (k + 1) in
      let left : length b / 12 - k ≡ suc (length b / 12 - (k + 1)) = omega arith in
      let at : 12 * k + 12 ≡ 12 * (k + 1) = omega arith in
      let said : answer l (query_at b (12 * k)) ≡ host_decision n = sym (ap host_decision e ∙ accepted_read l a (query_at b (12 * k))) in
      is
      ∙ ap (λ x. take end out ++ lines_from l b x (12 * k)) left
      ∙ ap (λ x. take end out ++ x) (lines_more m (12 * k) ∙ ap (λ x. line x ++ lines_from l b m (12 * k + 12)) said)
      ∙ sym (append_assoc (take end out) (line (host_decision n)) (lines_from l b m (12 * k + 12)))
      ∙ ap (λ x. x ++ lines_from l b m (12 * k + 12)) (sym p.bytes)
      ∙ ap (λ x. take to out' ++ lines_from l b m x) at

  pub lines_end : (out : List ℕ) (k end : ℕ) → k ≡ length b / 12 → LinesTo out k end → take end out ≡ lines l b
  unfolding lines_from
  lines_end out k end h is =
      let z : length b / 12 - k ≡ 0 = omega arith in
      sym (is ∙ ap (λ x. take end out ++ lines_from l b x (12 * k)) z ∙ append-nil (take end out))

-- ---- the last line

module _ (b : List ℕ) where
  pub ending_none : (out : List ℕ) → length b % 12 ≡ 0 → Front out 0 (ending b)
  unfolding ending
  ending_none out h = record { fits = omega arith; bytes = rw (eq-eqb (length b % 12) 0 h) refl }

  pub ending_some : (out : List ℕ) (n : ℕ) → (length b % 12 ≡ 0 → ⊥) → Front out n (line (Err (refusal 15 0))) → Front out n (ending b)
  unfolding ending
  ending_some out n h f = rw (ne_eqb (length b % 12) 0 h) f
