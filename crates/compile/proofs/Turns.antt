-- A turn and the end of the input, for each way that they go. Assumes nothing.
--     rests_kept                            the bytes behind the last line feed
--     fault_inside, turn_told, turn_rests   a turn
--     last_inside, ends_told                the end of the input
use Prim.Native.Nat.{ℕ, ◌+◌, ◌-◌, ◌≤◌, ◌<◌}
use native.Mathlib.Omega.{arith}
use mathlib.Core.Path.{◌≡◌, sym, subst, ap, ◌∙◌}
use Rattle.std.specs.Prelude.{None, Some, Ok, Err, Result, MatchResult, IsOk, IsErrAnd}
use mathlib.Core.List.{List, []}
use lib.ListN.{length, take, drop, length-drop}
use lib.Seq.{length-take-le}
use Rattle.format.specs.declared.Refusal.{Refusal}
use Rattle.format.specs.Bytes.{Bytes, word_at}
use Rattle.format.specs.Check.{check_front}
use Rattle.format.proofs.Front.{front_fits}
use Rattle.text.specs.Build.{AddsRows, rows_added}
use Rattle.text.proofs.Chunks.{added_accepted, added_place}
use Rattle.lines.specs.declared.RowRefusal.{RowRefusal}
use Rattle.lines.specs.Compiled.{feeds, refused_row, row_line, cut, turn_fault}
use Rattle.lines.proofs.Compiled.{turn_faulty, turn_full, turn_goes, turned_is, reads_refused, reads_image}
use Rattle.compile.specs.declared.turn.Place.{Place}
use Rattle.compile.specs.Inner.Turn.{reading_of, Kept, Rests, Turned, Ended}
use Rattle.format.specs.Answers.{Outcome}

-- ---- the bytes behind the last line feed

module _ (p : Place) (input : List ℕ) (have end n : ℕ) (long : have ≤ length input) (at : end ≡ cut (take have input)) (count : n ≡ feeds (take have input)) where
  l : List ℕ
  l = take have input

  rest_long : length (drop (cut l) l) ≡ have - end
  unfolding l
  rest_long = length-drop (cut l) l ∙ omega (arith, length-take-le have input long, at)

  pub rests_kept :
      (after : List ℕ) → have ≤ 65536 → (have - end ≡ 65536 → ⊥) → take (have - end) after ≡ drop end (take have input)
      → Kept p (take have input) (record { at = p.at + end; row = p.row + n; kept = have - end }) after
  unfolding l rest_long
  rests_kept after few h e =
      record {
        few = omega (arith, rest_long, h);
        place = ap (λ k. record { at = p.at + k; row = p.row + n; kept = have - end }) at
            ∙ ap (λ k. record { at = p.at + cut l; row = p.row + k; kept = have - end }) count
            ∙ ap (λ k. record { at = p.at + cut l; row = p.row + feeds l; kept = k }) (sym rest_long);
        bytes = e ∙ ap (λ k. drop k l) at;
      }

-- ---- a turn

module _ (p : Place) (input image after l : List ℕ) (end : ℕ) (at : end ≡ cut l) where
  -- the whole rows
  rows : take end l ≡ take (cut l) l
  rows = ap (λ k. take k l) at

  pub fault_inside :
      {r : Outcome ℕ} (f : Refusal) → check_front image ≡ None → end ≤ length l → AddsRows (take end l) image r after → r ≡ Err f
      → f.place ≤ length l
  fault_inside f front most a e =
      omega (arith, added_place image front (take end l) f (sym a.answer ∙ e), length-take-le end l most)

  -- the refusal of a row is told for the whole text
  pub turn_told :
      {P : Refusal → Type 0} (r : Outcome ℕ) (g : RowRefusal) → AddsRows (take end l) image r after
      → ((f : Refusal) → P f → g ≡ refused_row p.at p.row l f) → MatchResult r (λ n. ◌≡◌ {A = Result ℕ RowRefusal} (Err g) (Ok n)) P
      → turn_fault (reading_of p input image) l ≡ Some g
  turn_told (Ok n) g a told h = let z : ◌≡◌ {A = ℕ} 0 1 = cc in absurd (omega arith)
  turn_told (Err f) g a told h =
      turn_faulty (reading_of p input image) l f (ap (λ x. (rows_added x image).answer) (sym rows) ∙ sym a.answer) ∙ ap Some (sym (told f h))

  pub turn_rests :
      (r : Outcome ℕ) (q : Result Place RowRefusal) (input' : List ℕ) → check_front image ≡ None → Bytes image → IsOk r
      → AddsRows (take end l) image r after → Rests p l q input' → Turned (reading_of p input image) l q input' after
  turn_rests (Err f) q input' front bytes ok a k = let z : ◌≡◌ {A = ℕ} 0 1 = cc in absurd (omega arith)
  turn_rests (Ok n) (Err f) input' front bytes ok a k =
      let adds = ap (λ x. (rows_added x image).answer) (sym rows) ∙ sym a.answer in
      turn_full (reading_of p input image) l n adds k.full ∙ ap Some (sym k.is)
  turn_rests (Ok n) (Ok q) input' front bytes ok a k =
      let adds = ap (λ x. (rows_added x image).answer) (sym rows) ∙ sym a.answer in
      let same : (rows_added (take (cut l) l) image).buffer ≡ after = ap (λ x. (rows_added x image).buffer) (sym rows) ∙ sym a.buffer in
      record {
        none_refused = turn_goes (reading_of p input image) l n adds k.few;
        accepted = ap check_front a.buffer ∙ (added_accepted image front bytes (take end l)).0;
        few = omega (arith, ap (λ (x : Place). x.kept) k.place, k.few);
        next = turned_is (reading_of p input image) l
            ∙ ap (λ (x : Place). record { at = x.at; row = x.row; kept = drop (cut l) l; buffer = (rows_added (take (cut l) l) image).buffer }) (sym k.place)
            ∙ ap (λ x. record { at = q.at; row = q.row; kept = x; buffer = (rows_added (take (cut l) l) image).buffer }) (sym k.bytes)
            ∙ ap (λ x. record { at = q.at; row = q.row; kept = take q.kept input'; buffer = x }) same;
      }

-- ---- the end of the input

module _ (p : Place) (input image after : List ℕ) (front : check_front image ≡ None) where
  pub last_inside : {r : Outcome ℕ} (f : Refusal) → AddsRows (take p.kept input) image r after → r ≡ Err f → f.place < length (take p.kept input)
  last_inside f a e = added_place image front (take p.kept input) f (sym a.answer ∙ e)

  -- the refusal of the last row is told for the whole text
  pub ends_told :
      {P : Refusal → RowRefusal → Type 0} (r : Outcome ℕ) (q : Result ℕ RowRefusal) → Bytes image
      → AddsRows (take p.kept input) image r after → ((f : Refusal) (g : RowRefusal) → P f g → g ≡ refused_row p.at p.row (take p.kept input) f)
      → MatchResult r (λ n. q ≡ Ok n) (λ f. IsErrAnd q (P f)) → Ended (reading_of p input image) q after
  ends_told (Ok n) q bytes a told h =
      let t = take p.kept input in
      let reading = reads_image (reading_of p input image) n front (sym a.answer) in
      let size : n ≡ word_at after 1 = reading.0 ∙ ap (λ x. word_at x 1) (sym a.buffer) in
      let accepted : check_front after ≡ None = ap check_front a.buffer ∙ (added_accepted image front bytes t).0 in
      subst (λ x. Ended (reading_of p input image) x after) (sym h)
      (record {
        fits = omega (arith, size, front_fits after accepted);
        is = reading.1 ∙ ap (λ x. record { output = take n x; errors = [] }) (sym a.buffer);
      })
  ends_told (Err f) (Ok n) bytes a told h = absurd h
  ends_told (Err f) (Err g) bytes a told h =
      reads_refused (reading_of p input image) f (sym a.answer) ∙ ap (λ x. record { output = []; errors = row_line x }) (sym (told f g h))
