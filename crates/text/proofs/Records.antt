-- Laws of the record that a row stands for. Assumes nothing.
--     RecordBy f w ws r       r is the record of a row of the form f, with the first word w and the words ws behind it
--     record_cases            one of the four forms
--     record_shape            the record is whole, of a known kind, and of a length of its kind
--     record_bytes            each of its elements is a byte
--     record_row_short        its row has at most 460 bytes
use Prim.Native.Nat.{ℕ, zero, suc, ◌+◌, ◌*◌, ◌≤◌, ◌<◌}
use mathlib.Core.Path.{◌≡◌, refl, sym, subst, ap, ◌∙◌}
use mathlib.Core.Bool.{Bool, true, false, cond}
use Rattle.std.specs.Prelude.{Option, None, Some}
use mathlib.Core.List.{List, [], ◌∷◌, ◌++◌}
use native.Mathlib.Omega.{arith}
use lib.ListN.{length, replicate, take, length-append}
use Rattle.format.specs.Bytes.{Bytes}
use Rattle.format.specs.Format.{length_ok, shape_ok}
use Rattle.format.proofs.Chain.{some_not_none, or_else_refuses}
use Rattle.format.proofs.Bytes.{bytes_nil, bytes_cons, bytes_append, bytes_word, put_word_lem}
use Rattle.format.proofs.Shapes.{shape_most, shape_of, long_group_lem, long_allow, long_transition, long_constraint_lem}
use Rattle.text.specs.declared.Field.{Field}
use Rattle.text.specs.declared.Field.TheVariants.{Member, AnyType, Number, Predicate, Condition}
use Rattle.text.specs.Words.{ascii, same, number_to, lettered}
use Rattle.text.specs.Rows.{value_of, field_bytes, Form, group, allow, transition, constraint, forms}
use Rattle.text.specs.Rows.{as_bytes, joined, fields_of, headed, record_by, record_of_words, record_of_row}
use Rattle.text.specs.Inner.Parts.{run_of, rest, width}
use Rattle.text.proofs.Parts.{split_run, width_split}
use Rattle.text.proofs.Words.{same_equal, number_most, number_short, lettered_most, lettered_short, named_is}

-- ---- one field

-- the most that a field says, and the bytes that it takes
unfoldable pub value_most : Field → ℕ
value_most Member = 32767
value_most AnyType = 65535
value_most Number = 65535
value_most Predicate = 255
value_most Condition = 33

field_length : Field → ℕ
field_length Member = 2
field_length AnyType = 2
field_length Number = 2
field_length Predicate = 1
field_length Condition = 1

record Says (bound : ℕ) (w : List ℕ) (n : ℕ) : Type 0 where
  most : n ≤ bound
  short : length w ≤ 6

off_short : length (ascii "off") ≤ 6
unfolding ascii
off_short = omega arith

on_short : length (ascii "on") ≤ 6
unfolding ascii
on_short = omega arith

value_says : (f : Field) (w : List ℕ) (n : ℕ) → value_of f w ≡ Some n → Says (value_most f) w n
unfolding value_of value_most
value_says Member w n e = record { most = number_most 32767 w n e; short = omega (arith, number_short 32767 w n e (omega arith)) }
value_says AnyType w n e =
    or_else_refuses (Says 65535 w) (number_to 32767 w) (lettered 103 32768 32767 w)
    (λ x h. record { most = omega (arith, number_most 32767 w x h); short = omega (arith, number_short 32767 w x h (omega arith)) })
    (λ _ x h. record { most = omega (arith, lettered_most 103 32768 32767 w x h); short = lettered_short 103 32768 32767 w x (omega arith) h })
    n e
value_says Number w n e = record { most = number_most 65535 w n e; short = omega (arith, number_short 65535 w n e (omega arith)) }
value_says Predicate w n e = record { most = number_most 255 w n e; short = omega (arith, number_short 255 w n e (omega arith)) }
value_says Condition w n e =
    or_else_refuses (Says 33 w) _ _ (λ x h. says_named (named_is _ _ w x h) off_short (omega arith))
    (λ _. or_else_refuses (Says 33 w) _ _ (λ x h. says_named (named_is _ _ w x h) on_short (omega arith))
    (λ _ x h. record { most = omega (arith, lettered_most _ _ _ w x h); short = lettered_short _ _ _ w x (omega arith) h }))
    n e
  where
    says_named : {word : List ℕ} {v x : ℕ} → (w ≡ word) × (x ≡ v) → length word ≤ 6 → v ≤ 33 → Says 33 w x
    says_named q k m = record { most = omega (arith, q.1); short = omega (arith, ap length q.0) }

pub value_most_lem : (f : Field) (w : List ℕ) (n : ℕ) → value_of f w ≡ Some n → n ≤ value_most f
value_most_lem f w n e = (value_says f w n e).most

field_length_lem : (f : Field) (n : ℕ) → length (field_bytes f n) ≡ field_length f
unfolding field_bytes field_length
field_length_lem Member n = ap length (put_word_lem n [])
field_length_lem AnyType n = ap length (put_word_lem n [])
field_length_lem Number n = ap length (put_word_lem n [])
field_length_lem Predicate n = refl
field_length_lem Condition n = refl

field_bytes_lem : (f : Field) (n : ℕ) → n ≤ value_most f → Bytes (field_bytes f n)
unfolding field_bytes value_most
field_bytes_lem Member n h = bytes_word n [] (omega arith) bytes_nil
field_bytes_lem AnyType n h = bytes_word n [] (omega arith) bytes_nil
field_bytes_lem Number n h = bytes_word n [] (omega arith) bytes_nil
field_bytes_lem Predicate n h = bytes_cons n [] (omega arith) bytes_nil
field_bytes_lem Condition n h = bytes_cons n [] (omega arith) bytes_nil

-- the bytes of a word in its field, with those of the words behind it
record First (f : Field) (w : List ℕ) (o : Option (List ℕ)) (l : List ℕ) : Type 0 where
  back : List ℕ
  more : o ≡ Some back
  size : length l ≡ field_length f + length back
  bytes : Bytes back → Bytes l
  short : length w ≤ 6

first_field : (f : Field) (w : List ℕ) (o : Option (List ℕ)) (l : List ℕ) → joined (as_bytes f (value_of f w)) o ≡ Some l → First f w o l
unfolding joined as_bytes
first_field f w o l e = step (value_of f w) o refl refl e where
  step : (v : Option ℕ) (p : Option (List ℕ)) → value_of f w ≡ v → o ≡ p → joined (as_bytes f v) p ≡ Some l → First f w o l
  step None p h k q = some_not_none (sym q)
  step (Some n) None h k q = some_not_none (sym q)
  step (Some n) (Some back) h k q =
      let i : field_bytes f n ++ back ≡ l = cc in
      let s = value_says f w n h in
      record {
        back = back;
        more = k;
        size = ap length (sym i) ∙ length-append (field_bytes f n) back ∙ ap (λ (x : ℕ). x + length back) (field_length_lem f n);
        bytes = λ h. subst Bytes i (bytes_append (field_bytes f n) back (field_bytes_lem f n s.most) h);
        short = s.short;
      }

-- ---- the words of a row

lengths : List Field → ℕ
lengths [] = 0
lengths (f ∷ fs) = field_length f + lengths fs

record Fields (fs more : List Field) (ws : List (List ℕ)) (l : List ℕ) : Type 0 where
  extra : ℕ
  few : extra ≤ length more
  size : length l ≡ lengths fs + lengths (take extra more)
  bytes : Bytes l
  narrow : width ws ≤ 7 * (length fs + length more)

fields_are : (fs more : List Field) (ws : List (List ℕ)) (l : List ℕ) → fields_of fs more ws ≡ Some l → Fields fs more ws l
unfolding fields_of width lengths
fields_are [] more [] l e =
    let h : [] ≡ l = cc in
    record { extra = 0; few = omega arith; size = ap length (sym h); bytes = subst Bytes h bytes_nil; narrow = omega arith }
fields_are [] [] (w ∷ ws) l e = some_not_none (sym e)
fields_are [] (f ∷ more) (w ∷ ws) l e =
    let a = first_field f w (fields_of [] more ws) l e in
    let b = fields_are [] more ws a.back a.more in
    record {
      extra = suc b.extra;
      few = omega (arith, b.few);
      size = omega (arith, a.size, b.size);
      bytes = a.bytes b.bytes;
      narrow = omega (arith, a.short, b.narrow);
    }
fields_are (f ∷ fs) more [] l e = some_not_none (sym e)
fields_are (f ∷ fs) more (w ∷ ws) l e =
    let a = first_field f w (fields_of fs more ws) l e in
    let b = fields_are fs more ws a.back a.more in
    record {
      extra = b.extra;
      few = b.few;
      size = omega (arith, a.size, b.size);
      bytes = a.bytes b.bytes;
      narrow = omega (arith, a.short, b.narrow);
    }

lengths_more : (f : Field) (n k : ℕ) → k ≤ n → lengths (take k (replicate n f)) ≡ k * field_length f
unfolding lengths
lengths_more f n zero h = omega arith
lengths_more f zero (suc k) h = absurd (omega arith)
lengths_more f (suc n) (suc k) h = let i = lengths_more f n k (omega arith) in omega arith

-- ---- one of the four forms

pub record RecordBy (f : Form) (w : List ℕ) (ws : List (List ℕ)) (r : List ℕ) : Type 0 where
  pub word : w ≡ f.word
  pub fields : List ℕ
  pub from_words : fields_of f.fields f.more ws ≡ Some fields
  pub is : r ≡ (2 + length fields) ∷ f.kind ∷ fields

form_here : (f : Form) (w : List ℕ) (ws : List (List ℕ)) (r : List ℕ) (o : Option (List ℕ)) → w ≡ f.word → fields_of f.fields f.more ws ≡ o
    → headed f.kind o ≡ Some r → RecordBy f w ws r
unfolding headed
form_here f w ws r None h k e = some_not_none (sym e)
form_here f w ws r (Some l) h k e =
    let i : (2 + length l) ∷ f.kind ∷ l ≡ r = cc in
    record { word = h; fields = l; from_words = k; is = sym i }

form_next :
    {C : Type 0} (f : Form) (fs : List Form) (w : List ℕ) (ws : List (List ℕ)) (r : List ℕ) → record_by (f ∷ fs) w ws ≡ Some r
    → (RecordBy f w ws r → C) → (record_by fs w ws ≡ Some r → C) → C
unfolding record_by
form_next {C} f fs w ws r e g h = step (same w f.word) refl e where
  step : (t : Bool) → same w f.word ≡ t → cond t (headed f.kind (fields_of f.fields f.more ws)) (record_by fs w ws) ≡ Some r → C
  step true k q = g (form_here f w ws r (fields_of f.fields f.more ws) (same_equal w f.word k) refl q)
  step false k q = h q

pub record_cases :
    {C : Type 0} (w : List ℕ) (ws : List (List ℕ)) (r : List ℕ) → record_of_words (w ∷ ws) ≡ Some r
    → (RecordBy group w ws r → C) → (RecordBy allow w ws r → C) → (RecordBy transition w ws r → C) → (RecordBy constraint w ws r → C) → C
unfolding record_of_words forms record_by
record_cases w ws r e f₁ f₂ f₃ f₄ =
    form_next group (allow ∷ transition ∷ constraint ∷ []) w ws r e f₁
    (λ e₂. form_next allow (transition ∷ constraint ∷ []) w ws r e₂ f₂
    (λ e₃. form_next transition (constraint ∷ []) w ws r e₃ f₃
    (λ e₄. form_next constraint [] w ws r e₄ f₄ (λ e₅. some_not_none (sym e₅)))))

-- ---- the record and its row

-- what holds of the record of a form, and of its row
record RowRecord (w : List ℕ) (ws : List (List ℕ)) (r : List ℕ) : Type 0 where
  shape : shape_ok r ≡ true
  bytes : Bytes r
  narrow : width (w ∷ ws) ≤ 461

form_record :
    (f : Form) (w : List ℕ) (ws : List (List ℕ)) (r : List ℕ) (b : RecordBy f w ws r) → f.kind < 256 → length f.word ≡ 5
    → length f.fields + length f.more ≤ 64 → length_ok f.kind (2 + length b.fields) ≡ true → RowRecord w ws r
unfolding width
form_record f w ws r b kind word most long =
    let l : List ℕ = b.fields in
    let q = fields_are f.fields f.more ws l b.from_words in
    let s : shape_ok r ≡ true = rw b.is (shape_of f.kind l long) in
    let n = shape_most r s in
    record {
      shape = s;
      bytes =
          subst Bytes (sym b.is)
          (bytes_cons (2 + length l) (f.kind ∷ l) (omega (arith, ap length b.is)) (bytes_cons f.kind l kind q.bytes));
      narrow = omega (arith, q.narrow, ap length b.word);
    }

module _ (w : List ℕ) (ws : List (List ℕ)) (r : List ℕ) where
  of_group : RecordBy group w ws r → RowRecord w ws r
  unfolding group ascii lengths field_length
  of_group b =
      let q = fields_are group.fields group.more ws b.fields b.from_words in
      let k : q.extra ≤ 63 = q.few in
      let m = lengths_more Member 63 q.extra k in
      let n : 2 + length b.fields ≡ 4 + 2 * q.extra = omega (arith, q.size, m) in
      form_record group w ws r b (omega arith) refl (omega arith) (long_group_lem (2 + length b.fields) (omega arith) (omega arith) (omega arith))

  of_allow : RecordBy allow w ws r → RowRecord w ws r
  unfolding allow ascii lengths field_length
  of_allow b =
      let q = fields_are allow.fields allow.more ws b.fields b.from_words in
      let m = lengths_more Member 0 q.extra q.few in
      form_record allow w ws r b (omega arith) refl (omega arith) (long_allow (2 + length b.fields) (omega (arith, q.size, q.few, m)))

  of_transition : RecordBy transition w ws r → RowRecord w ws r
  unfolding transition ascii lengths field_length
  of_transition b =
      let q = fields_are transition.fields transition.more ws b.fields b.from_words in
      let m = lengths_more Member 0 q.extra q.few in
      form_record transition w ws r b (omega arith) refl (omega arith) (long_transition (2 + length b.fields) (omega (arith, q.size, q.few, m)))

  of_constraint : RecordBy constraint w ws r → RowRecord w ws r
  unfolding constraint ascii lengths field_length
  of_constraint b =
      let q = fields_are constraint.fields constraint.more ws b.fields b.from_words in
      let k : q.extra ≤ 16 = q.few in
      let m = lengths_more AnyType 16 q.extra k in
      let n : 2 + length b.fields ≡ 11 + 2 * q.extra = omega (arith, q.size, m) in
      form_record constraint w ws r b (omega arith) refl (omega arith) (long_constraint_lem (2 + length b.fields) (omega arith) (omega arith) (omega arith))

words_made : (w : List ℕ) (ws : List (List ℕ)) (r : List ℕ) → record_of_words (w ∷ ws) ≡ Some r → RowRecord w ws r
words_made w ws r e = record_cases w ws r e (of_group w ws r) (of_allow w ws r) (of_transition w ws r) (of_constraint w ws r)

row_made : (row r : List ℕ) → record_of_row row ≡ Some r → RowRecord (take (run_of 32 row) row) (rest 32 row) r
unfolding record_of_row
row_made row r e = words_made (take (run_of 32 row) row) (rest 32 row) r (rw (split_run 32 row) at e)

pub record_shape : (row r : List ℕ) → record_of_row row ≡ Some r → shape_ok r ≡ true
record_shape row r e = (row_made row r e).shape

pub record_bytes : (row r : List ℕ) → record_of_row row ≡ Some r → Bytes r
record_bytes row r e = (row_made row r e).bytes

pub record_row_short : (row r : List ℕ) → record_of_row row ≡ Some r → length row ≤ 460
record_row_short row r e = omega (arith, (row_made row r e).narrow, ap width (split_run 32 row), width_split 32 row)
