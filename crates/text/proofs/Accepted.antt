-- Claims BuiltAccepted, EachRowAdded, LastRowCounts, OwnNumbers: what a text leaves is accepted, with a record for each row,
-- and what can be refused then. Assumes nothing.
--     built_imaged              what a text leaves: the image of a sound policy with the old bytes behind it
--     RowsAdded, rows_added_lem     rows that are not refused, and the records that they add
--     OwnNumber, row_numbers    the numbers of a row's refusals
use Prim.Native.Nat.{ℕ, suc, ◌+◌, ◌≤◌, ◌<◌}
use mathlib.Core.Path.{◌≡◌, refl, sym, subst, ap, ◌∙◌}
use mathlib.Core.Bool.{true, ◌||◌}
use Rattle.std.specs.Prelude.{Option, None, Some}
use mathlib.Core.List.{List, [], ◌∷◌, ◌++◌}
use native.Mathlib.Omega.{arith}
use lib.ListN.{length}
use lib.Dec.{eqb}
use Rattle.format.specs.declared.Refusal.{Refusal}
use Rattle.format.specs.Bytes.{word_at}
use Rattle.format.specs.Refusals.{refusal}
use Rattle.format.specs.Format.{shape_ok}
use Rattle.format.specs.Check.{check_front}
use Rattle.std.specs.Prelude.{Ok, Err}
use Rattle.format.specs.Answers.{Outcome}
use Rattle.format.specs.Sample.{empty}
use Rattle.format.proofs.Chain.{some_not_none}
use Rattle.format.specs.Policy.{image_of}
use Rattle.format.proofs.Images.{regular_well_formed}
use Rattle.format.proofs.Front.{front_length}
use Rattle.extension.specs.Add.{add_fault, buffer_after, overwrite}
use Rattle.extension.specs.Claims.{add_all}
use Rattle.extension.proofs.Causes.{formed_refused}
use Rattle.extension.proofs.Trip.{overwrite_is, add_all_none, add_all_next}
use Rattle.text.specs.Words.{split}
use Rattle.text.specs.Rows.{record_of_row}
use Rattle.text.specs.Build.{Made, moved_to, record_fault, row_fault, after_row, onward, rows_from, built}
use Rattle.text.specs.Claims.{with_first, records_in, record_count, complete, all_added, OneMore, Leaves}
use Rattle.text.specs.Claims.{BuiltAccepted, EachRowAdded, LastRowCounts, OwnNumbers}
use Rattle.text.proofs.Records.{record_bytes, record_shape}
use Rattle.text.proofs.Rows.{answer_of, gives_not_refused, RowAdded, row_added, row_record, row_fault_some, rows_first}
use Rattle.text.proofs.Follow.{refused_short, built_long, by_length, next_rows, refused_stops, built_complete, rows_none}
use Rattle.text.proofs.Buffers.{Imaged, imaged_accepted, imaged_length, imaged_empty, imaged_row, imaged_rows, add_one, count_empty}

-- ---- the image that a text leaves

pub built_imaged : (text b : List ℕ) → 9 ≤ length b → Imaged b (built text b).buffer
built_imaged text b h =
    subst (λ (m : Made). Imaged b m.buffer) (sym (built_long text b h)) (imaged_rows b (split 10 text) 0 (overwrite empty b) (imaged_empty b h))

leaves : (b after : List ℕ) → Imaged b after → Leaves b after
leaves b after k =
    record {
      policy = k.policy;
      well_formed = regular_well_formed k.policy k.sound.regular;
      twins = k.sound.twins;
      image = k.image ∙ sym (overwrite_is (image_of k.policy) b);
      accepted = imaged_accepted b after k;
      same_length = imaged_length b after k;
    }

pub built_accepted : BuiltAccepted
built_accepted text b h = leaves b (built text b).buffer (built_imaged text b h)

-- ---- each row added

record RowsAdded (rows : List (List ℕ)) (at : ℕ) (b : List ℕ) : Type 0 where
  records : List (List ℕ)
  from_rows : records_in rows ≡ Some records
  none_refused : all_added b records
  buffer : (rows_from at rows b).buffer ≡ add_all b records
  count : record_count (rows_from at rows b).buffer ≡ record_count b + length records

module _ (b₀ : List ℕ) where
  -- a first row that is not empty, and the rows behind it
  first_added :
      (c : ℕ) (row : List ℕ) (rows : List (List ℕ)) (at : ℕ) (b : List ℕ) → Imaged b₀ b → (a : RowAdded (c ∷ row) b)
      → rows_from at ((c ∷ row) ∷ rows) b ≡ rows_from (at + suc (suc (length row))) rows (buffer_after b a.stands)
      → RowsAdded rows (at + suc (suc (length row))) (buffer_after b a.stands) → RowsAdded ((c ∷ row) ∷ rows) at b
  unfolding records_in with_first all_added
  first_added c row rows at b k a q m =
      let one = add_one b₀ b a.stands k (record_bytes (c ∷ row) a.stands a.from_row) a.passes in
      record {
        records = a.stands ∷ m.records;
        from_rows = rw (a.from_row, m.from_rows);
        none_refused = (a.passes, m.none_refused);
        buffer = ap (λ (x : Made). x.buffer) q ∙ m.buffer ∙ sym (add_all_next b a.stands m.records);
        count = ap (λ (x : Made). record_count x.buffer) q ∙ m.count ∙ omega (arith, one.count);
      }

  rows_added_lem :
      (rows : List (List ℕ)) (at n : ℕ) (b : List ℕ) → Imaged b₀ b → (rows_from at rows b).answer ≡ Ok n → RowsAdded rows at b
  unfolding rows_from records_in all_added row_fault after_row onward
  rows_added_lem [] at n b k e = record { records = []; from_rows = refl; none_refused = tt; buffer = sym (add_all_none b); count = omega arith }
  rows_added_lem ([] ∷ rows) at n b k e =
      let m = rows_added_lem rows (at + 1) n b k e in
      record { records = m.records; from_rows = m.from_rows; none_refused = m.none_refused; buffer = m.buffer; count = m.count }
  rows_added_lem ((c ∷ row) ∷ rows) at n b k e =
      rows_first at (c ∷ row) rows b
      (λ h q.
      let a = row_added at (c ∷ row) b (omega arith) h in
      let s = add_one b₀ b a.stands k (record_bytes (c ∷ row) a.stands a.from_row) a.passes in
      let q' = q ∙ ap (λ (x : List ℕ). rows_from (at + suc (suc (length row))) rows x) a.after in
      first_added c row rows at b k a q' (rows_added_lem rows (at + suc (suc (length row))) n (buffer_after b a.stands) s.image (sym (ap answer_of q') ∙ e)))
      (λ f h q. gives_not_refused (sym e ∙ ap answer_of q))

pub each_row_added : EachRowAdded
each_row_added text b n e =
    by_length b (λ h. gives_not_refused (sym e ∙ ap answer_of (refused_short text b h)))
    (λ h.
    let q = built_long text b h in
    let m = rows_added_lem b (split 10 text) 0 n (overwrite empty b) (imaged_empty b h) (sym (ap answer_of q) ∙ e) in
    let k = built_imaged text b h in
    let w : Ok n ≡ Ok (word_at (built text b).buffer 1) = sym e ∙ ap answer_of (built_complete text b n e) in
    let i : n ≡ word_at (built text b).buffer 1 = cc in
    record {
      records = m.records;
      from_rows = m.from_rows;
      none_refused = m.none_refused;
      buffer = ap (λ (x : Made). x.buffer) q ∙ m.buffer;
      image_length = i ∙ sym (front_length (built text b).buffer (imaged_accepted b (built text b).buffer k));
      count = ap (λ (x : Made). record_count x.buffer) q ∙ m.count ∙ omega (arith, count_empty b h);
    })

-- ---- the last row

last_row :
    (b₀ : List ℕ) (at : ℕ) (row b : List ℕ) (n : ℕ) → Imaged b₀ b → 0 < length row → (rows_from at (row ∷ []) b).answer ≡ Ok n
    → record_count (rows_from at (row ∷ []) b).buffer ≡ suc (record_count b)
unfolding rows_from
last_row b₀ at row b n k h e =
    rows_first at row [] b
    (λ p q.
    let a = row_added at row b h p in
    ap (λ (x : Made). record_count x.buffer) q ∙ ap (λ (x : List ℕ). record_count x) a.after
    ∙ (add_one b₀ b a.stands k (record_bytes row a.stands a.from_row) a.passes).count)
    (λ f p q. gives_not_refused (sym e ∙ ap answer_of q))

module _ (row b : List ℕ) (alone : split 10 row ≡ row ∷ []) (some_bytes : 0 < length row) where
  only_row : OneMore (built [] b) (built row b)
  only_row n e =
      by_length b (λ h. gives_not_refused (sym e ∙ ap answer_of (refused_short row b h)))
      (λ h.
      let w : List ℕ = overwrite empty b in
      let q : built row b ≡ rows_from 0 (row ∷ []) w = built_long row b h ∙ ap (λ (x : List (List ℕ)). rows_from 0 x w) alone in
      let z : built [] b ≡ complete w = built_long [] b h ∙ rows_none 0 w in
      ap (λ (x : Made). record_count x.buffer) q
      ∙ last_row b 0 row w n (imaged_empty b h) some_bytes (sym (ap answer_of q) ∙ e)
      ∙ ap (λ (x : Made). suc (record_count x.buffer)) (sym z))

  row_behind : (text : List ℕ) (n : ℕ) → (built (text ++ (10 ∷ row)) b).answer ≡ Ok n → 9 ≤ length b → (o : Outcome ℕ) → (built text b).answer ≡ o
      → record_count (built (text ++ (10 ∷ row)) b).buffer ≡ suc (record_count (built text b).buffer)
  row_behind text n e h (Err f) k = gives_not_refused (sym e ∙ ap answer_of (refused_stops text row b f k) ∙ k)
  row_behind text n e h (Ok m) k =
      let w : List ℕ = (built text b).buffer in
      let q : built (text ++ (10 ∷ row)) b ≡ rows_from (suc (length text)) (row ∷ []) w =
      next_rows text row b m k ∙ ap (λ (x : List (List ℕ)). rows_from (suc (length text)) x w) alone in
      ap (λ (x : Made). record_count x.buffer) q
      ∙ last_row b (suc (length text)) row w n (built_imaged text b h) some_bytes (sym (ap answer_of q) ∙ e)

  behind_rows : (text : List ℕ) → OneMore (built text b) (built (text ++ (10 ∷ row)) b)
  behind_rows text n e =
      by_length b (λ h. gives_not_refused (sym e ∙ ap answer_of (refused_short (text ++ (10 ∷ row)) b h)))
      (λ h. row_behind text n e h (built text b).answer refl)

pub last_row_counts : LastRowCounts
last_row_counts row b alone some_bytes = (only_row row b alone some_bytes, behind_rows row b alone some_bytes)

-- ---- the numbers of refusals

abbrev pub OwnNumber : ℕ → Type 0
OwnNumber n = (eqb n 11 || eqb n 12 || eqb n 13 || eqb n 18 || eqb n 20) ≡ true

add_number : (b r : List ℕ) → check_front b ≡ None → shape_ok r ≡ true → (f : Refusal) → add_fault b r ≡ Some f → OwnNumber f.number
add_number b r ok shape f e = formed_refused b r ok OwnNumber refl refl refl refl shape f e

moved_number :
    (at : ℕ) (o : Option Refusal) (f : Refusal) → ((g : Refusal) → o ≡ Some g → OwnNumber g.number) → moved_to at o ≡ Some f
    → OwnNumber f.number
unfolding moved_to
moved_number at None f h e = some_not_none (sym e)
moved_number at (Some g) f h e = let z : refusal g.number at ≡ f = cc in subst (λ (x : Refusal). OwnNumber x.number) z (h g refl)

pub row_numbers : (at : ℕ) (row b : List ℕ) (f : Refusal) → check_front b ≡ None → row_fault at row b ≡ Some f → OwnNumber f.number
unfolding record_fault
row_numbers at row b f ok e = step (record_of_row row) refl where
  step : (o : Option (List ℕ)) → record_of_row row ≡ o → OwnNumber f.number
  step None k =
      let q = (row_record at row b None (row_fault_some at row b f e) k).0 in
      let z : refusal 18 at ≡ f = (let y : Some (refusal 18 at) ≡ Some f = sym q ∙ e in cc) in
      subst (λ (x : Refusal). OwnNumber x.number) z refl
  step (Some r) k =
      let q = (row_record at row b (Some r) (row_fault_some at row b f e) k).0 in
      moved_number at (add_fault b r) f (add_number b r ok (record_shape row r k)) (sym q ∙ e)

module _ (b₀ : List ℕ) where
  rows_numbers : (rows : List (List ℕ)) (at : ℕ) (b : List ℕ) (f : Refusal) → Imaged b₀ b → (rows_from at rows b).answer ≡ Err f → OwnNumber f.number
  unfolding rows_from
  rows_numbers [] at b f k e = gives_not_refused e
  rows_numbers (row ∷ rows) at b f k e =
      rows_first at row rows b
      (λ h q. rows_numbers rows (at + suc (length row)) (after_row row b) f (imaged_row b₀ row b k) (sym (ap answer_of q) ∙ e))
      (λ g h q.
      let y : Err g ≡ Err f = sym (ap answer_of q) ∙ e in
      let z : g ≡ f = cc in
      subst (λ (x : Refusal). OwnNumber x.number) z (row_numbers at row b g (imaged_accepted b₀ b k) h))

pub own_numbers : OwnNumbers
own_numbers text b f e =
    by_length b
    (λ h.
    let y : Err (refusal 13 0) ≡ Err f = sym (ap answer_of (refused_short text b h)) ∙ e in
    let z : refusal 13 0 ≡ f = cc in
    subst (λ (x : Refusal). OwnNumber x.number) z refl)
    (λ h. rows_numbers b (split 10 text) 0 (overwrite empty b) f (imaged_empty b h) (sym (ap answer_of (built_long text b h)) ∙ e))
