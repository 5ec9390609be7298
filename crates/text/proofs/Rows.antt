-- Laws of one row, and of rows one after the other. Assumes nothing.
--     row_fault_place, row_fault_some   a row's refusal has the row's place, and an empty row has none
--     row_record                  a row that is not empty, by its record
--     RowAdded, row_added         what it says that such a row is not refused
--     row_long                    a row of more than 460 bytes is refused with 18
--     rows_kept                   a refused row leaves the buffer
--     rows_first_added, rows_first_refused, rows_first   the first of several rows, and which of the two it is
--     rows_complete               rows that are not refused answer the length of the image that they leave
--     rows_append_gives, rows_append_refused   rows behind other rows
--     rows_chain_gives, rows_chain_refused     a text behind another and a line feed
--     row_moved, rows_moved       rows further behind in their text
use Prim.Native.Nat.{ℕ, suc, ◌+◌, ◌<◌}
use mathlib.Core.Path.{◌≡◌, refl, sym, ap, ◌∙◌}
use Rattle.std.specs.Prelude.{Option, None, Some}
use mathlib.Core.List.{List, [], ◌∷◌, ◌++◌}
use native.Mathlib.Omega.{arith}
use lib.ListN.{length}
use Rattle.format.specs.declared.Refusal.{Refusal}
use Rattle.format.specs.Refusals.{refusal}
use Rattle.std.specs.Prelude.{Ok, Err}
use Rattle.format.specs.Answers.{Outcome}
use Rattle.format.proofs.Chain.{some_not_none}
use Rattle.extension.specs.Add.{add_fault, buffer_after}
use Rattle.extension.proofs.Adds.{buffer_refused}
use Rattle.text.specs.Words.{split}
use Rattle.text.specs.Rows.{record_of_row}
use Rattle.text.specs.Build.{Made, moved_to, record_fault, after_record, row_fault, after_row, onward, rows_from}
use Rattle.text.specs.Claims.{complete}
use Rattle.text.specs.Inner.Parts.{width}
use Rattle.text.specs.Inner.Moves.{fault_by, answer_by, made_by}
use Rattle.text.proofs.Parts.{split_append, width_split}
use Rattle.text.proofs.Records.{record_row_short}

abbrev pub answer_of : Made → Outcome ℕ
answer_of m = m.answer

pub gives_not_refused : {C : Type 0} {n : ℕ} {f : Refusal} → Ok n ≡ Err f → C
gives_not_refused e = let z : ◌≡◌ {A = ℕ} 0 1 = cc in absurd (omega arith)

-- ---- one row

moved_place : (at : ℕ) (o : Option Refusal) (f : Refusal) → moved_to at o ≡ Some f → f.place ≡ at
unfolding moved_to
moved_place at None f e = some_not_none (sym e)
moved_place at (Some g) f e = let h : refusal g.number at ≡ f = cc in ap (λ (x : Refusal). x.place) (sym h)

pub row_fault_place : (at : ℕ) (row b : List ℕ) (f : Refusal) → row_fault at row b ≡ Some f → f.place ≡ at
unfolding row_fault record_fault
row_fault_place at [] b f e = some_not_none (sym e)
row_fault_place at (c ∷ row) b f e = step (record_of_row (c ∷ row)) e where
  step : (o : Option (List ℕ)) → record_fault at o b ≡ Some f → f.place ≡ at
  step None e = let h : refusal 18 at ≡ f = cc in ap (λ (x : Refusal). x.place) (sym h)
  step (Some r) e = moved_place at (add_fault b r) f e

pub row_fault_some : (at : ℕ) (row b : List ℕ) (f : Refusal) → row_fault at row b ≡ Some f → 0 < length row
unfolding row_fault
row_fault_some at [] b f e = some_not_none (sym e)
row_fault_some at (c ∷ row) b f e = omega arith

pub row_record :
    (at : ℕ) (row b : List ℕ) (o : Option (List ℕ)) → 0 < length row → record_of_row row ≡ o
    → (row_fault at row b ≡ record_fault at o b) × (after_row row b ≡ after_record o b)
unfolding row_fault after_row
row_record at [] b o h e = absurd (omega arith)
row_record at (c ∷ row) b o h e = rw e (refl, refl)

-- what it says that a row is not refused
pub record RowAdded (row b : List ℕ) : Type 0 where
  pub stands : List ℕ
  pub from_row : record_of_row row ≡ Some stands
  pub passes : add_fault b stands ≡ None
  pub after : after_row row b ≡ buffer_after b stands

moved_none : (at : ℕ) (o : Option Refusal) → moved_to at o ≡ None → o ≡ None
unfolding moved_to
moved_none at None e = refl
moved_none at (Some f) e = some_not_none e

pub row_added : (at : ℕ) (row b : List ℕ) → 0 < length row → row_fault at row b ≡ None → RowAdded row b
unfolding record_fault after_record
row_added at row b h e = step (record_of_row row) refl where
  step : (o : Option (List ℕ)) → record_of_row row ≡ o → RowAdded row b
  step None k = some_not_none (sym (row_record at row b None h k).0 ∙ e)
  step (Some r) k =
      let q = row_record at row b (Some r) h k in
      record { stands = r; from_row = k; passes = moved_none at (add_fault b r) (sym q.0 ∙ e); after = q.1 }

pub row_long : (at : ℕ) (row b : List ℕ) → 460 < length row → row_fault at row b ≡ Some (refusal 18 at)
unfolding row_fault record_fault
row_long at [] b h = absurd (omega arith)
row_long at (c ∷ row) b h = step (record_of_row (c ∷ row)) refl where
  step : (o : Option (List ℕ)) → record_of_row (c ∷ row) ≡ o → record_fault at (record_of_row (c ∷ row)) b ≡ Some (refusal 18 at)
  step None e = rw e
  step (Some r) e = absurd (omega (arith, record_row_short (c ∷ row) r e))

pub rows_kept : (at : ℕ) (row b : List ℕ) (f : Refusal) → row_fault at row b ≡ Some f → after_row row b ≡ b
unfolding row_fault after_row record_fault after_record moved_to
rows_kept at [] b f e = refl
rows_kept at (c ∷ row) b f e = step (record_of_row (c ∷ row)) e where
  kept : (r : List ℕ) (o : Option Refusal) → add_fault b r ≡ o → moved_to at o ≡ Some f → buffer_after b r ≡ b
  kept r None k q = some_not_none (sym q)
  kept r (Some g) k q = buffer_refused b r g k

  step : (o : Option (List ℕ)) → record_fault at o b ≡ Some f → after_record o b ≡ b
  step None q = refl
  step (Some r) q = kept r (add_fault b r) refl q

-- ---- rows one after the other

module _ (at : ℕ) (row : List ℕ) (rows : List (List ℕ)) (b : List ℕ) where
  pub rows_first_added : row_fault at row b ≡ None → rows_from at (row ∷ rows) b ≡ rows_from (at + suc (length row)) rows (after_row row b)
  unfolding rows_from onward
  rows_first_added e = rw e

  pub rows_first_refused : {f : Refusal} → row_fault at row b ≡ Some f → rows_from at (row ∷ rows) b ≡ record { answer = Err f; buffer = b }
  unfolding rows_from onward
  rows_first_refused e = rw e

  -- by the first row
  pub rows_first :
      {C : Type 0}
      → (row_fault at row b ≡ None → rows_from at (row ∷ rows) b ≡ rows_from (at + suc (length row)) rows (after_row row b) → C)
      → ((f : Refusal) → row_fault at row b ≡ Some f → rows_from at (row ∷ rows) b ≡ record { answer = Err f; buffer = b } → C)
      → C
  rows_first {C} g h = step (row_fault at row b) refl where
    step : (o : Option Refusal) → row_fault at row b ≡ o → C
    step None e = g e (rows_first_added e)
    step (Some f) e = h f e (rows_first_refused e)

pub rows_complete :
    (at : ℕ) (rows : List (List ℕ)) (b : List ℕ) (n : ℕ) → (rows_from at rows b).answer ≡ Ok n
    → rows_from at rows b ≡ complete (rows_from at rows b).buffer
unfolding rows_from
rows_complete at [] b n e = refl
rows_complete at (x ∷ xs) b n e =
    rows_first at x xs b
    (λ h q.
    q ∙ rows_complete (at + suc (length x)) xs (after_row x b) n (sym (ap answer_of q) ∙ e)
    ∙ ap (λ (m : Made). complete m.buffer) (sym q))
    (λ f h q. gives_not_refused (sym e ∙ ap answer_of q))

pub rows_append_gives :
    (at : ℕ) (xs ys : List (List ℕ)) (b : List ℕ) (n : ℕ) → (rows_from at xs b).answer ≡ Ok n
    → rows_from at (xs ++ ys) b ≡ rows_from (at + width xs) ys (rows_from at xs b).buffer
unfolding rows_from width
rows_append_gives at [] ys b n e = ap (λ (k : ℕ). rows_from k ys b) (omega arith)
rows_append_gives at (x ∷ xs) ys b n e =
    rows_first at x xs b
    (λ h q.
    let i : at + suc (length x) + width xs ≡ at + (suc (length x) + width xs) = omega arith in
    rows_first_added at x (xs ++ ys) b h ∙ rows_append_gives (at + suc (length x)) xs ys (after_row x b) n (sym (ap answer_of q) ∙ e)
    ∙ ap (λ (k : ℕ). rows_from k ys (rows_from (at + suc (length x)) xs (after_row x b)).buffer) i
    ∙ ap (λ (m : Made). rows_from (at + (suc (length x) + width xs)) ys m.buffer) (sym q))
    (λ f h q. gives_not_refused (sym e ∙ ap answer_of q))

pub rows_append_refused :
    (at : ℕ) (xs ys : List (List ℕ)) (b : List ℕ) (f : Refusal) → (rows_from at xs b).answer ≡ Err f
    → rows_from at (xs ++ ys) b ≡ rows_from at xs b
unfolding rows_from
rows_append_refused at [] ys b f e = gives_not_refused e
rows_append_refused at (x ∷ xs) ys b f e =
    rows_first at x xs b
    (λ h q. rows_first_added at x (xs ++ ys) b h ∙ rows_append_refused (at + suc (length x)) xs ys (after_row x b) f (sym (ap answer_of q) ∙ e) ∙ sym q)
    (λ g h q. rows_first_refused at x (xs ++ ys) b h ∙ sym q)

module _ (at : ℕ) (t u b : List ℕ) where
  pub rows_chain_gives :
      (n : ℕ) → (rows_from at (split 10 t) b).answer ≡ Ok n
      → rows_from at (split 10 (t ++ (10 ∷ u))) b ≡ rows_from (at + suc (length t)) (split 10 u) (rows_from at (split 10 t) b).buffer
  rows_chain_gives n e =
      ap (λ (rows : List (List ℕ)). rows_from at rows b) (split_append 10 t u)
      ∙ rows_append_gives at (split 10 t) (split 10 u) b n e
      ∙ ap (λ (k : ℕ). rows_from (at + k) (split 10 u) (rows_from at (split 10 t) b).buffer) (width_split 10 t)

  pub rows_chain_refused :
      (f : Refusal) → (rows_from at (split 10 t) b).answer ≡ Err f
      → rows_from at (split 10 (t ++ (10 ∷ u))) b ≡ rows_from at (split 10 t) b
  rows_chain_refused f e =
      ap (λ (rows : List (List ℕ)). rows_from at rows b) (split_append 10 t u) ∙ rows_append_refused at (split 10 t) (split 10 u) b f e

-- ---- further behind in the text

module _ (k at : ℕ) where
  pub row_moved : (row b : List ℕ) → row_fault (k + at) row b ≡ fault_by k (row_fault at row b)
  unfolding row_fault record_fault moved_to fault_by
  row_moved [] b = refl
  row_moved (c ∷ row) b = step (record_of_row (c ∷ row)) where
    moved : (o : Option Refusal) → moved_to (k + at) o ≡ fault_by k (moved_to at o)
    moved None = refl
    moved (Some f) = refl

    step : (o : Option (List ℕ)) → record_fault (k + at) o b ≡ fault_by k (record_fault at o b)
    step None = refl
    step (Some r) = moved (add_fault b r)

pub rows_moved : (k at : ℕ) (rows : List (List ℕ)) (b : List ℕ) → rows_from (k + at) rows b ≡ made_by k (rows_from at rows b)
unfolding rows_from made_by answer_by fault_by
rows_moved k at [] b = refl
rows_moved k at (x ∷ xs) b =
    rows_first at x xs b
    (λ h q.
    let i : k + at + suc (length x) ≡ k + (at + suc (length x)) = omega arith in
    rows_first_added (k + at) x xs b (row_moved k at x b ∙ ap (fault_by k) h)
    ∙ ap (λ (j : ℕ). rows_from j xs (after_row x b)) i
    ∙ rows_moved k (at + suc (length x)) xs (after_row x b)
    ∙ ap (made_by k) (sym q))
    (λ f h q. rows_first_refused (k + at) x xs b (row_moved k at x b ∙ ap (fault_by k) h) ∙ ap (made_by k) (sym q))
