-- Claims LastLineFeed, NextRows, RefusedStops, RefusedShort, RefusedKeeps, RowsEnough: how rows follow one another in a
-- text, and where a refused text stops. Assumes nothing.
--     built_long              a buffer that holds a header gets the empty policy, and then the rows
--     by_length               whether it does
--     built_complete          a text that is not refused answers the length of the image that it leaves
--     rows_none               the text without a byte
--     Stopped, rows_stopped   the place of a refused row, and what the rows before it leave
--     rows_place              that place lies within the rows
--     rows_all                rows whose records are added without a refusal are not refused
use Prim.Native.Nat.{ℕ, zero, suc, ◌+◌, ◌≤◌, ◌<◌}
use mathlib.Core.Path.{◌≡◌, refl, sym, subst, ap, ap₂, ◌∙◌}
use mathlib.Core.Bool.{Bool, true, false}
use Rattle.std.specs.Prelude.{Option, None, Some}
use mathlib.Core.List.{List, [], ◌∷◌, ◌++◌, append_assoc}
use native.Mathlib.Omega.{arith}
use lib.ListN.{length, take, drop, length-append, length-drop}
use lib.Seq.{length-take-le, take-append-add, drop-drop}
use lib.Dec.{ltb}
use borrow.Author.Tests.{lt-ltb, le-ltb, ltb-true, ltb-false}
use Rattle.format.specs.declared.Refusal.{Refusal}
use Rattle.std.specs.Prelude.{Ok, Err}
use Rattle.format.specs.Answers.{Outcome}
use Rattle.format.specs.Sample.{empty}
use Rattle.format.proofs.Chain.{some_not_none}
use Rattle.format.specs.Refusals.{refusal}
use Rattle.extension.specs.Add.{add_fault, buffer_after, overwrite}
use Rattle.extension.specs.Claims.{add_all}
use Rattle.extension.proofs.Trip.{add_all_none, add_all_next}
use Rattle.text.specs.Words.{split}
use Rattle.text.specs.Rows.{record_of_row}
use Rattle.text.specs.Build.{Made, moved_to, record_fault, after_record, row_fault, after_row, onward, rows_from, built}
use Rattle.text.specs.Claims.{with_first, records_in, complete, all_added, RowAt, first, behind, Cause, outside, not_added}
use Rattle.text.specs.Claims.{LastLineFeed, NextRows, RefusedStops, RefusedShort, RefusedKeeps, RowsEnough}
use Rattle.text.specs.Inner.Parts.{run_of, rest}
use Rattle.text.proofs.Parts.{run_most, split_run, rest_end, rest_more, split_append, run_part, run_alone}
use Rattle.text.proofs.Rows.{answer_of, gives_not_refused, row_fault_place, row_fault_some, row_record, rows_complete, rows_chain_gives, rows_chain_refused}

-- ---- a buffer that holds a header, and one that does not

pub refused_short : RefusedShort
unfolding built
refused_short text b h = rw (lt-ltb (length b) 9 h)

pub built_long : (text b : List ℕ) → 9 ≤ length b → built text b ≡ rows_from 0 (split 10 text) (overwrite empty b)
unfolding built
built_long text b h = rw (le-ltb (length b) 9 h)

pub by_length : {C : Type 0} (b : List ℕ) → (length b < 9 → C) → (9 ≤ length b → C) → C
by_length {C} b f g = step (ltb (length b) 9) refl where
  step : (t : Bool) → ltb (length b) 9 ≡ t → C
  step true e = f (ltb-true (length b) 9 e)
  step false e = g (ltb-false (length b) 9 e)

-- ---- what follows a line feed

pub next_rows : NextRows
next_rows text more b n e =
    by_length b (λ h. gives_not_refused (sym e ∙ ap answer_of (refused_short text b h)))
    (λ h.
    let q = built_long text b h in
    let w = overwrite empty b in
    let i : 0 + suc (length text) ≡ suc (length text) = omega arith in
    built_long (text ++ (10 ∷ more)) b h
    ∙ rows_chain_gives 0 text more w n (sym (ap answer_of q) ∙ e)
    ∙ ap (λ (k : ℕ). rows_from k (split 10 more) (rows_from 0 (split 10 text) w).buffer) i
    ∙ ap (λ (m : Made). rows_from (suc (length text)) (split 10 more) m.buffer) (sym q))

pub refused_stops : RefusedStops
refused_stops text more b f e =
    by_length b (λ h. refused_short (text ++ (10 ∷ more)) b h ∙ sym (refused_short text b h))
    (λ h.
    let q = built_long text b h in
    built_long (text ++ (10 ∷ more)) b h ∙ rows_chain_refused 0 text more (overwrite empty b) f (sym (ap answer_of q) ∙ e) ∙ sym q)

pub built_complete : (text b : List ℕ) (n : ℕ) → (built text b).answer ≡ Ok n → built text b ≡ complete (built text b).buffer
built_complete text b n e =
    by_length b (λ h. gives_not_refused (sym e ∙ ap answer_of (refused_short text b h)))
    (λ h.
    let q = built_long text b h in
    q ∙ rows_complete 0 (split 10 text) (overwrite empty b) n (sym (ap answer_of q) ∙ e) ∙ ap (λ (m : Made). complete m.buffer) (sym q))

pub rows_none : (at : ℕ) (b : List ℕ) → rows_from at (split 10 []) b ≡ complete b
unfolding split rows_from row_fault after_row onward
rows_none at b = refl

pub last_line_feed : LastLineFeed
last_line_feed text b = step (built text b).answer refl where
  step : (o : Outcome ℕ) → (built text b).answer ≡ o → built (text ++ (10 ∷ [])) b ≡ built text b
  step (Err f) e = refused_stops text [] b f e
  step (Ok n) e = next_rows text [] b n e ∙ rows_none (suc (length text)) (built text b).buffer ∙ sym (built_complete text b n e)

-- ---- each record added

record WithFirst (o : Option (List ℕ)) (p : Option (List (List ℕ))) (rs : List (List ℕ)) : Type 0 where
  head : List ℕ
  tail : List (List ℕ)
  head_is : o ≡ Some head
  tail_is : p ≡ Some tail
  whole : head ∷ tail ≡ rs

with_first_lem : (o : Option (List ℕ)) (p : Option (List (List ℕ))) (rs : List (List ℕ)) → with_first o p ≡ Some rs → WithFirst o p rs
unfolding with_first
with_first_lem None p rs e = some_not_none (sym e)
with_first_lem (Some r) None rs e = some_not_none (sym e)
with_first_lem (Some r) (Some qs) rs e = let i : r ∷ qs ≡ rs = cc in record { head = r; tail = qs; head_is = refl; tail_is = refl; whole = i }

pub rows_all :
    (rows : List (List ℕ)) (at : ℕ) (b : List ℕ) (rs : List (List ℕ)) → records_in rows ≡ Some rs → all_added b rs
    → rows_from at rows b ≡ complete (add_all b rs)
unfolding records_in rows_from all_added row_fault after_row onward record_fault after_record moved_to
rows_all [] at b rs e a =
    let h : [] ≡ rs = cc in ap complete (sym (add_all_none b)) ∙ ap (λ (x : List (List ℕ)). complete (add_all b x)) h
rows_all ([] ∷ rows) at b rs e a = rows_all rows (at + 1) b rs e a
rows_all ((c ∷ row) ∷ rows) at b rs e a =
    let q = with_first_lem (record_of_row (c ∷ row)) (records_in rows) rs e in
    let i : all_added b (q.head ∷ q.tail) = subst (all_added b) (sym q.whole) a in
    let m = rows_all rows (at + suc (suc (length row))) (buffer_after b q.head) q.tail q.tail_is i.1 in
    rw (q.head_is, i.0)
    (m ∙ ap complete (sym (add_all_next b q.head q.tail)) ∙ ap (λ (x : List (List ℕ)). complete (add_all b x)) q.whole)

pub rows_enough : RowsEnough
rows_enough text b rs h e a = built_long text b h ∙ rows_all (split 10 text) 0 (overwrite empty b) rs e a

-- ---- a refused text

-- a text up to a place behind its first row is that row and what follows it, up to the same place
take_rows :
    (l : List ℕ) (k : ℕ) → run_of 10 l < length l
    → split 10 (take (suc (run_of 10 l) + k) l) ≡ take (run_of 10 l) l ∷ split 10 (take k (drop (suc (run_of 10 l)) l))
take_rows l k h =
    let row : List ℕ = take (run_of 10 l) l in
    let more : List ℕ = drop (suc (run_of 10 l)) l in
    let n : length row ≡ run_of 10 l = length-take-le (run_of 10 l) l (run_most 10 l) in
    let i : suc (run_of 10 l) + k ≡ length row + suc k = omega arith in
    ap (λ (x : List ℕ). split 10 (take (suc (run_of 10 l) + k) x)) (run_part 10 l h)
    ∙ ap (λ (m : ℕ). split 10 (take m (row ++ (10 ∷ more)))) i
    ∙ ap (split 10) (take-append-add row (10 ∷ more) (suc k))
    ∙ split_append 10 row (take k more)
    ∙ ap (λ (x : List (List ℕ)). x ++ split 10 (take k more)) (run_alone 10 l)

pub record Stopped (at : ℕ) (l b : List ℕ) (f : Refusal) : Type 0 where
  pub ahead : ℕ
  pub place : f.place ≡ at + ahead
  pub inside : ahead < length l
  pub row : RowAt l ahead
  pub kept : rows_from at (split 10 (take ahead l)) b ≡ complete (rows_from at (split 10 l) b).buffer
  pub own : List ℕ
  pub later : List (List ℕ)
  pub rows : split 10 (drop ahead l) ≡ own ∷ later
  pub fault : row_fault f.place own (rows_from at (split 10 l) b).buffer ≡ Some f

module _ (l b : List ℕ) (at : ℕ) (f : Refusal) where
  row : List ℕ
  row = take (run_of 10 l) l

  more : List ℕ
  more = drop (suc (run_of 10 l)) l

  next : ℕ
  next = at + suc (length (take (run_of 10 l) l))

  stop_here : (g : Refusal) → row_fault at row b ≡ Some g → (rows_from at (split 10 l) b).answer ≡ Err f → Stopped at l b f
  unfolding rows_from onward split row_fault row after_row
  stop_here g p e =
      let m : rows_from at (split 10 l) b ≡ record { answer = Err g; buffer = b } = rw (split_run 10 l, p) in
      let k : Err g ≡ Err f = sym (ap answer_of m) ∙ e in
      let i : g ≡ f = cc in
      let at_row : f.place ≡ at = ap (λ (x : Refusal). x.place) (sym i) ∙ row_fault_place at row b g p in
      record {
        ahead = 0;
        place = at_row ∙ omega arith;
        inside = omega (arith, row_fault_some at row b g p, length-take-le (run_of 10 l) l (run_most 10 l), run_most 10 l);
        row = first refl;
        kept = ap (λ (x : Made). complete x.buffer) (sym m);
        own = row;
        later = rest 10 l;
        rows = split_run 10 l;
        fault = ap₂ (λ (n : ℕ) (x : List ℕ). row_fault n row x) at_row (ap (λ (x : Made). x.buffer) m) ∙ p ∙ ap Some i;
      }

  -- a place behind the first row
  row_later : (k : ℕ) → l ≡ row ++ (10 ∷ more) → length row ≡ run_of 10 l → RowAt more k → RowAt l (suc (run_of 10 l) + k)
  row_later k p n (first e) = behind row more p (omega arith)
  row_later k p n (behind before rest h e) =
      behind (row ++ (10 ∷ before)) rest
      (p ∙ ap (λ (x : List ℕ). row ++ (10 ∷ x)) h ∙ sym (append_assoc row (10 ∷ before) (10 ∷ rest)))
      (omega (arith, length-append row (10 ∷ before)))

  stop_with :
      run_of 10 l < length l → row_fault at row b ≡ None → rows_from at (split 10 l) b ≡ rows_from next (split 10 more) (after_row row b)
      → Stopped next more (after_row row b) f → Stopped at l b f
  unfolding rows_from onward row more next
  stop_with d p m s =
      let n : length row ≡ run_of 10 l = length-take-le (run_of 10 l) l (run_most 10 l) in
      record {
        ahead = suc (run_of 10 l) + s.ahead;
        place = s.place ∙ omega arith;
        inside = omega (arith, s.inside, length-drop (suc (run_of 10 l)) l);
        row = row_later s.ahead (run_part 10 l d) n s.row;
        kept = rw (take_rows l s.ahead d, p) (s.kept ∙ ap (λ (x : Made). complete x.buffer) (sym m));
        own = s.own;
        later = s.later;
        rows = ap (split 10) (sym (drop-drop s.ahead (suc (run_of 10 l)) l)) ∙ s.rows;
        fault = ap (λ (x : Made). row_fault f.place s.own x.buffer) m ∙ s.fault;
      }

  stop_later :
      row_fault at row b ≡ None
      → (run_of 10 l < length l → (rows_from next (split 10 more) (after_row row b)).answer ≡ Err f → Stopped next more (after_row row b) f)
      → (rows_from at (split 10 l) b).answer ≡ Err f → (t : Bool) → ltb (run_of 10 l) (length l) ≡ t → Stopped at l b f
  unfolding rows_from onward row more next
  stop_later p ih e false h =
      let m : rows_from at (split 10 l) b ≡ complete (after_row row b) = rw (split_run 10 l, p, rest_end 10 l (ltb-false _ _ h)) in
      gives_not_refused (sym (ap answer_of m) ∙ e)
  stop_later p ih e true h =
      let d : run_of 10 l < length l = ltb-true _ _ h in
      let m : rows_from at (split 10 l) b ≡ rows_from next (split 10 more) (after_row row b) = rw (split_run 10 l, p, rest_more 10 l d) in
      stop_with d p m (ih d (sym (ap answer_of m) ∙ e))

  stop_row :
      (run_of 10 l < length l → (rows_from next (split 10 more) (after_row row b)).answer ≡ Err f → Stopped next more (after_row row b) f)
      → (rows_from at (split 10 l) b).answer ≡ Err f → (o : Option Refusal) → row_fault at row b ≡ o → Stopped at l b f
  stop_row ih e (Some g) p = stop_here g p e
  stop_row ih e None p = stop_later p ih e (ltb (run_of 10 l) (length l)) refl

stops : (n : ℕ) (l b : List ℕ) (at : ℕ) (f : Refusal) → length l ≤ n → (rows_from at (split 10 l) b).answer ≡ Err f → Stopped at l b f
unfolding row more next
stops zero l b at f size e = stop_row l b at f (λ h k. absurd (omega arith)) e (row_fault at (row l b at f) b) refl
stops (suc n) l b at f size e =
    stop_row l b at f
    (λ h k. stops n (more l b at f) (after_row (row l b at f) b) (next l b at f) f (omega (arith, length-drop (suc (run_of 10 l)) l)) k)
    e (row_fault at (row l b at f) b) refl

pub rows_stopped : (at : ℕ) (l b : List ℕ) (f : Refusal) → (rows_from at (split 10 l) b).answer ≡ Err f → Stopped at l b f
rows_stopped at l b f e = stops (length l) l b at f (omega arith) e

pub rows_place : (at : ℕ) (l b : List ℕ) (f : Refusal) → (rows_from at (split 10 l) b).answer ≡ Err f → (at ≤ f.place) × (f.place < at + length l)
rows_place at l b f e = let s = rows_stopped at l b f e in (omega (arith, s.place), omega (arith, s.place, s.inside))

-- why a row is refused
row_cause : (at : ℕ) (row b : List ℕ) (f : Refusal) → row_fault at row b ≡ Some f → Cause row b f.number
unfolding record_fault moved_to
row_cause at row b f e = step (record_of_row row) refl where
  added : (r : List ℕ) → record_of_row row ≡ Some r → (o : Option Refusal) → add_fault b r ≡ o → moved_to at o ≡ Some f → Cause row b f.number
  added r k None p q = some_not_none (sym q)
  added r k (Some g) p q =
      let z : refusal g.number at ≡ f = cc in not_added r g k p (ap (λ (x : Refusal). x.number) (sym z))

  step : (o : Option (List ℕ)) → record_of_row row ≡ o → Cause row b f.number
  step None k =
      let z : Some (refusal 18 at) ≡ Some f = sym (row_record at row b None (row_fault_some at row b f e) k).0 ∙ e in
      let y : refusal 18 at ≡ f = cc in
      outside k (ap (λ (x : Refusal). x.number) (sym y))
  step (Some r) k = added r k (add_fault b r) refl (sym (row_record at row b (Some r) (row_fault_some at row b f e) k).0 ∙ e)

pub refused_keeps : RefusedKeeps
refused_keeps text b f long e =
    let q = built_long text b long in
    let s : Stopped 0 text (overwrite empty b) f = rows_stopped 0 text (overwrite empty b) f (sym (ap answer_of q) ∙ e) in
    let k : s.ahead ≡ f.place = sym (s.place ∙ (omega arith)) in
    let h : row_fault f.place s.own (built text b).buffer ≡ Some f = ap (λ (x : Made). row_fault f.place s.own x.buffer) q ∙ s.fault in
    record {
      row = subst (RowAt text) k s.row;
      inside = omega (arith, s.inside, k);
      before =
          ap (λ (n : ℕ). built (take n text) b) (sym k) ∙ built_long (take s.ahead text) b long ∙ s.kept
          ∙ ap (λ (x : Made). complete x.buffer) (sym q);
      own = s.own;
      later = s.later;
      rows = ap (λ (n : ℕ). split 10 (drop n text)) (sym k) ∙ s.rows;
      not_empty = row_fault_some f.place s.own (built text b).buffer f h;
      cause = row_cause f.place s.own (built text b).buffer f h;
    }
