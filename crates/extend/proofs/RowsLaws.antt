-- Laws of the walk over rows. Assumes nothing.
--     rows_past            nothing is left
--     rows_feed            a line feed is an empty row
--     rows_outside, rows_refused, rows_added_lem   a row, by what comes of it
use Prim.Native.Nat.{ℕ, suc, ◌+◌, ◌≤◌, ◌<◌}
use mathlib.Core.Path.{◌≡◌, refl, sym, ap, ap₂, ◌∙◌}
use mathlib.Core.Bool.{Bool, true, false}
use mathlib.Core.List.{List, [], ◌∷◌}
use native.Mathlib.Omega.{arith}
use lib.ListN.{length, get_or, take, drop, drop_of_length-le, length-drop}
use lib.Seq.{length-take-le, drop-drop, drop-cons, get_or-drop}
use lib.Dec.{ltb}
use borrow.Author.Tests.{ltb-true, ltb-false}
use Rattle.format.specs.declared.Refusal.{Refusal}
use Rattle.format.specs.declared.Starts.{Starts}
use Rattle.format.specs.Refusals.{refusal}
use Rattle.format.specs.Sample.{empty}
use Rattle.format.specs.Check.{image_in, check_front}
use Rattle.format.specs.Answers.{starts, Outcome}
use Rattle.format.proofs.Chain.{outcome_gives, outcome_refused}
use Rattle.format.proofs.Front.{front_of, image_in_of}
use Rattle.format.proofs.Sample.{sample_accepted, empty_sections}
use Rattle.extension.specs.Add.{add_fault, buffer_after, overwrite}
use Rattle.text.specs.Words.{split_step, split}
use Rattle.text.specs.Build.{Made, moved_to, record_fault, after_record, row_fault, after_row, onward, rows_from}
use Rattle.text.specs.Claims.{complete}
use Rattle.text.specs.Inner.Parts.{run_of, rest}
use Rattle.text.specs.Inner.Read.{row_of}
use Rattle.text.proofs.Parts.{run_most, split_run, rest_end, rest_more, run_next, run_stop}
use Rattle.text.proofs.Rows.{row_record, rows_kept, rows_first_added, rows_first_refused}
use Rattle.std.specs.Prelude.{None, Some, Ok, Err}
use Rattle.extend.specs.declared.row.Row.{Row}
use Rattle.extend.specs.Inner.Filled.{record_of_part, Records}
use Rattle.extend.specs.Inner.Grow.{Grows}

-- what the rows from a place on do to a buffer
abbrev pub From : List ℕ → ℕ → List ℕ → Made
From text at b = rows_from at (split 10 (drop at text)) b

pub rows_past : (text : List ℕ) (at : ℕ) (b : List ℕ) → length text ≤ at → From text at b ≡ complete b
unfolding rows_from row_fault after_row onward split
rows_past text at b h = rw (drop_of_length-le text h)

empty_row : (at : ℕ) (rows : List (List ℕ)) (b : List ℕ) → rows_from at ([] ∷ rows) b ≡ rows_from (at + 1) rows b
unfolding rows_from row_fault after_row onward
empty_row at rows b = refl

pub rows_feed : (text : List ℕ) (at : ℕ) (b : List ℕ) → at < length text → get_or text at 0 ≡ 10 → From text at b ≡ From text (at + 1) b
unfolding split split_step
rows_feed text at b h e =
    let q : suc at ≡ at + 1 = omega arith in
    let d : drop at text ≡ 10 ∷ drop (at + 1) text =
    drop-cons text at 0 h ∙ ap₂ (λ (c : ℕ) (n : ℕ). c ∷ drop n text) e q in
    ap (λ (l : List ℕ). rows_from at (split 10 l) b) d ∙ empty_row at (split 10 (drop (at + 1) text)) b

module _ (text : List ℕ) (at : ℕ) (b : List ℕ) where
  module _ (h : at < length text) (no_feed : get_or text at 0 ≡ 10 → ⊥) where
    abbrev row : List ℕ
    row = row_of (drop at text)

    size : length row ≡ run_of 10 (drop at text)
    unfolding row_of
    size = length-take-le (run_of 10 (drop at text)) (drop at text) (run_most 10 (drop at text))

    pub some_bytes : 0 < run_of 10 (drop at text)
    some_bytes = omega (arith, run_next 10 text at h no_feed)

    rows_are : split 10 (drop at text) ≡ row ∷ rest 10 (drop at text)
    unfolding row_of
    rows_are = split_run 10 (drop at text)

    pub rows_outside : (part : List ℕ) → Records text at None part → From text at b ≡ record { answer = Err (refusal 18 at); buffer = b }
    unfolding record_of_part record_fault
    rows_outside part s =
        rw rows_are
        (rows_first_refused at row (rest 10 (drop at text)) b (row_record at row b None (omega (arith, size, some_bytes)) s.bytes).0)

    module _ (r : Row) (part : List ℕ) (s : Records text at (Some r) part) where
      whole : (row_fault at row b ≡ moved_to at (add_fault b (take r.length part))) × (after_row row b ≡ buffer_after b (take r.length part))
      unfolding record_of_part record_fault after_record
      whole = row_record at row b (Some (take r.length part)) (omega (arith, size, some_bytes)) s.bytes

      pub rows_refused :
          {f : Refusal} {g : Outcome Starts} {after : List ℕ} → g ≡ Err f → Grows at b (take r.length part) g after
          → From text at b ≡ record { answer = Err f; buffer = after }
      rows_refused {f} {g} {after} e q =
          let x = outcome_refused (moved_to at (add_fault b (take r.length part))) _ (sym e ∙ q.answer) in
          let y : row_fault at row b ≡ Some f = whole.0 ∙ x in
          let z : after ≡ b = q.buffer ∙ sym whole.1 ∙ rows_kept at row b f y in
          rw (rows_are, z) (rows_first_refused at row (rest 10 (drop at text)) b y)

      module _ {y : Starts} {g : Outcome Starts} {after : List ℕ} (e : g ≡ Ok y) (q : Grows at b (take r.length part) g after) where
        passed : (moved_to at (add_fault b (take r.length part)) ≡ None) × (y ≡ starts (image_in after))
        passed = outcome_gives (moved_to at (add_fault b (take r.length part))) _ (sym e ∙ q.answer)

        pub rows_starts : y ≡ starts (image_in after)
        rows_starts = passed.1

        pub rows_ahead : (at < r.end) × (r.end ≤ length text)
        rows_ahead = (omega (arith, s.ends.end, some_bytes), omega (arith, s.ends.end, run_most 10 (drop at text), length-drop at text))

        one_row : From text at b ≡ rows_from (r.end + 1) (rest 10 (drop at text)) after
        one_row =
            let n : at + suc (length row) ≡ r.end + 1 = omega (arith, s.ends.end, size) in
            rw rows_are
            (rows_first_added at row (rest 10 (drop at text)) b (whole.0 ∙ passed.0)
            ∙ ap (λ (x : ℕ). rows_from x (rest 10 (drop at text)) (after_row row b)) n
            ∙ ap (rows_from (r.end + 1) (rest 10 (drop at text))) (whole.1 ∙ sym q.buffer))

        at_end : length text ≤ r.end → From text at b ≡ From text r.end after
        unfolding rows_from
        at_end m =
            let x : rest 10 (drop at text) ≡ [] = rest_end 10 (drop at text) (omega (arith, s.ends.end, length-drop at text)) in
            one_row ∙ ap (λ (rows : List (List ℕ)). rows_from (r.end + 1) rows after) x ∙ sym (rows_past text r.end after m)

        at_feed : r.end < length text → From text at b ≡ From text r.end after
        at_feed m =
            let room : run_of 10 (drop at text) < length (drop at text) = omega (arith, s.ends.end, length-drop at text) in
            let place : at + suc (run_of 10 (drop at text)) ≡ r.end + 1 = omega (arith, s.ends.end) in
            let behind : drop (suc (run_of 10 (drop at text))) (drop at text) ≡ drop (r.end + 1) text =
            drop-drop (suc (run_of 10 (drop at text))) at text ∙ ap (λ (x : ℕ). drop x text) place in
            let x : rest 10 (drop at text) ≡ split 10 (drop (r.end + 1) text) = rest_more 10 (drop at text) room ∙ ap (split 10) behind in
            let feed : get_or text r.end 0 ≡ 10 =
            ap (λ (n : ℕ). get_or text n 0) (s.ends.end) ∙ sym (get_or-drop at text (run_of 10 (drop at text)) 0) ∙ run_stop 10 (drop at text) room in
            one_row ∙ ap (λ (rows : List (List ℕ)). rows_from (r.end + 1) rows after) x ∙ sym (rows_feed text r.end after m feed)

        pub rows_added_lem : From text at b ≡ From text r.end after
        rows_added_lem = step (ltb r.end (length text)) refl where
          step : (t : Bool) → ltb r.end (length text) ≡ t → From text at b ≡ From text r.end after
          step true m = at_feed (ltb-true r.end (length text) m)
          step false m = at_end (ltb-false r.end (length text) m)

-- ---- the empty policy

pub empty_accepted : (b : List ℕ) {b₀ : List ℕ} → b₀ ≡ overwrite empty b → check_front b₀ ≡ None
unfolding overwrite
empty_accepted b e = rw e (front_of empty (drop (length empty) b) sample_accepted.empty_passes)

pub empty_starts : (b : List ℕ) {b₀ : List ℕ} → b₀ ≡ overwrite empty b → ◌≡◌ {A = Starts} (record { rules = 9; constraints = 9 }) (starts (image_in b₀))
unfolding overwrite
empty_starts b e = rw (e, image_in_of empty (drop (length empty) b) sample_accepted.empty_passes) (sym empty_sections)
