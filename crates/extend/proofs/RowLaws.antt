-- Laws of the record of a row, as it is filled word by word. Assumes nothing.
--     put-..          a word's number put into the record
--     next-.., fields-..   the fields of a form, from a place on
--     fill-..         the words of a row, from a place of the text on
--     Spelled, spelled-..   what is known where a word of the text says something
--     Turn, turn_made   what is known where a word has been put; filling_on, row_on, filled-.. are what follows from it
--     kind-..         the kind that a first word names, and its number
--     record-..       the whole record
use Prim.Native.Nat.{ℕ, zero, suc, ◌+◌, ◌-◌, ◌/◌, ◌%◌, ◌≤◌, ◌<◌}
use mathlib.Core.Path.{◌≡◌, refl, sym, ap, ◌∙◌}
use mathlib.Core.Bool.{Bool, true, false, cond}
use mathlib.Core.List.{List, [], ◌∷◌, ◌++◌, append-nil, append_assoc}
use native.Mathlib.Omega.{arith}
use native.Mathlib.Nat.{sub-zero}
use lib.ListN.{length, length-set, get_or, take, drop, set, length-append, length-take, length-drop, drop_of_length-le}
use lib.Seq.{take-suc-set, length-take-le, drop-append-le, drop-drop, drop-cons, get_or-drop}
use lib.Dec.{ltb}
use borrow.Author.Tests.{lt-ltb, le-ltb, ltb-true, ltb-false}
use denote.Enum.Declared.{tag_of}
use Rattle.extend.specs.contracts.form.Kind.{the_type}
use Rattle.std.specs.Prelude.{Option, Some, None}
use Rattle.format.proofs.Bytes.{put_word_lem}
use Rattle.extension.specs.Inner.Splice.{put_word_at}
use Rattle.text.specs.declared.Field.{Field}
use Rattle.text.specs.declared.Field.TheVariants.{Member, AnyType, Number, Predicate, Condition}
use Rattle.text.specs.Words.{split, same}
use Rattle.text.specs.Rows.{value_of, field_bytes, group, allow, transition, constraint, forms}
use Rattle.text.specs.Rows.{as_bytes, joined, fields_of, headed, record_by, record_of_words, record_of_row}
use Rattle.text.specs.Inner.Parts.{run_of}
use Rattle.text.specs.Inner.Read.{row_of, word_size, word_of}
use Rattle.text.proofs.Records.{value_most, value_most_lem}
use Rattle.text.proofs.Read.{word_stop, words_more, words_last, words_first}
use Rattle.extend.specs.declared.form.Kind.{Kind}
use Rattle.extend.specs.declared.form.Kind.TheVariants.{Group, Allow, Transition, Constraint}
use Rattle.extend.specs.declared.spell.Word.{Word}
use Rattle.extend.specs.declared.row.Row.{Row}
use Rattle.extend.proofs.WordLaws.{part_is, end_inside, said_none, said_some, word_is}
use Rattle.extend.specs.Inner.Filled.{said, kind_of, form_of, fields_in, is_short, fields_from, fields_of_part, record_of_part, Fills, Records}

-- ---- a word's number put into the record

bytes_short : (f : Field) (n : ℕ) → is_short f ≡ true → field_bytes f n ≡ n ∷ []
unfolding is_short field_bytes
bytes_short Member n e = absurd (cc)
bytes_short AnyType n e = absurd (cc)
bytes_short Number n e = absurd (cc)
bytes_short Predicate n e = refl
bytes_short Condition n e = refl

bytes_long : (f : Field) (n : ℕ) → is_short f ≡ false → field_bytes f n ≡ (n / 256) ∷ (n % 256) ∷ []
unfolding is_short field_bytes
bytes_long Member n e = put_word_lem n []
bytes_long AnyType n e = put_word_lem n []
bytes_long Number n e = put_word_lem n []
bytes_long Predicate n e = absurd (cc)
bytes_long Condition n e = absurd (cc)

module _ (l : List ℕ) (at : ℕ) (f : Field) (n : ℕ) where
  pub put_short :
      is_short f ≡ true → at < length l → (take (at + 1) (set l at n) ≡ take at l ++ field_bytes f n) × (at + 1 ≡ at + length (field_bytes f n))
  put_short e k = let s : at + 1 ≡ suc at = omega arith in rw (bytes_short f n e) (rw s (take-suc-set l at n k), omega arith)

  pub put_long :
      is_short f ≡ false → n < 65536 → at + 2 ≤ length l
      → (take (at + 2) (put_word_at l at n) ≡ take at l ++ field_bytes f n) × (at + 2 ≡ at + length (field_bytes f n))
  unfolding put_word_at
  put_long e small room =
      let s : at + 2 ≡ suc (at + 1) = omega arith in
      let t : at + 1 ≡ suc at = omega arith in
      let m : at + 1 < length (set l at (n / 256)) = simp length-set (omega arith) in
      let q : take (at + 2) (set (set l at (n / 256)) (at + 1) (n % 256)) ≡ take at l ++ (n / 256 ∷ n % 256 ∷ []) =
      ap (λ (i : ℕ). take i (set (set l at (n / 256)) (at + 1) (n % 256))) s ∙ take-suc-set (set l at (n / 256)) (at + 1) (n % 256) m
      ∙ ap (λ (i : ℕ). take i (set l at (n / 256)) ++ (n % 256 ∷ [])) t ∙ ap (λ (y : List ℕ). y ++ (n % 256 ∷ [])) (take-suc-set l at (n / 256) (omega arith))
      ∙ append_assoc (take at l) (n / 256 ∷ []) (n % 256 ∷ []) in
      rw (bytes_long f n e) (q, omega arith)

pub bytes_few : (f : Field) (n : ℕ) → length (field_bytes f n) ≤ 2
unfolding field_bytes
bytes_few Member n = omega (arith, ap length (put_word_lem n []))
bytes_few AnyType n = omega (arith, ap length (put_word_lem n []))
bytes_few Number n = omega (arith, ap length (put_word_lem n []))
bytes_few Predicate n = omega arith
bytes_few Condition n = omega arith

-- ---- the fields of a form, from a place on

pub fields_few : (k : Kind) → length (fields_in (form_of k)) ≤ 64
unfolding form_of fields_in group allow transition constraint
fields_few Group = omega arith
fields_few Allow = omega arith
fields_few Transition = omega arith
fields_few Constraint = omega arith

drop_none : (i : ℕ) → ◌≡◌ {A = List Field} (drop i []) []
drop_none zero = refl
drop_none (suc i) = refl

next_more :
    (ms : List Field) (i : ℕ) (w : List ℕ) (ws : List (List ℕ)) → i < length ms
    → fields_of [] (drop i ms) (w ∷ ws) ≡ joined (as_bytes (get_or ms i Member) (value_of (get_or ms i Member) w)) (fields_of [] (drop (suc i) ms) ws)
unfolding fields_of
next_more [] i w ws h = absurd (omega arith)
next_more (m ∷ ms) zero w ws h = refl
next_more (m ∷ ms) (suc i) w ws h = next_more ms i w ws (omega arith)

next_field :
    (fs ms : List Field) (i : ℕ) (w : List ℕ) (ws : List (List ℕ)) → i < length (fs ++ ms)
    → fields_of (drop i fs) (drop (i - length fs) ms) (w ∷ ws)
    ≡ joined (as_bytes (get_or (fs ++ ms) i Member) (value_of (get_or (fs ++ ms) i Member) w)) (fields_of (drop (suc i) fs) (drop (suc i - length fs) ms) ws)
unfolding fields_of
next_field [] ms i w ws h = rw (drop_none i, sub-zero i, sub-zero (suc i)) (next_more ms i w ws h)
next_field (f ∷ fs) ms zero w ws h =
    let a : 0 - suc (length fs) ≡ 0 = omega arith in
    let b : 1 - suc (length fs) ≡ 0 = omega arith in
    rw (a, b)
next_field (f ∷ fs) ms (suc i) w ws h =
    let a : suc i - suc (length fs) ≡ i - length fs = omega arith in
    let b : suc (suc i) - suc (length fs) ≡ suc i - length fs = omega arith in
    rw (a, b) (next_field fs ms i w ws (omega arith))

module _ (k : Kind) (i : ℕ) where
  fields_next :
      (w : List ℕ) (ws : List (List ℕ)) → i < length (fields_in (form_of k))
      → fields_from k i (w ∷ ws)
      ≡ joined (as_bytes (get_or (fields_in (form_of k)) i Member) (value_of (get_or (fields_in (form_of k)) i Member) w)) (fields_from k (suc i) ws)
  unfolding fields_from fields_in
  fields_next w ws h = next_field (form_of k).fields (form_of k).more i w ws h

  fields_past : (w : List ℕ) (ws : List (List ℕ)) → length (fields_in (form_of k)) ≤ i → fields_from k i (w ∷ ws) ≡ None
  unfolding fields_from fields_in fields_of
  fields_past w ws h =
      let n = length-append (form_of k).fields (form_of k).more in
      let a : length (form_of k).fields ≤ i = omega arith in
      let b : length (form_of k).more ≤ i - length (form_of k).fields = omega arith in
      rw (drop_of_length-le (form_of k).fields a, drop_of_length-le (form_of k).more b)

  pub fields_end : fields_from k i [] ≡ cond (ltb i (length (form_of k).fields)) None (Some [])
  unfolding fields_from fields_of
  fields_end = step (ltb i (length (form_of k).fields)) refl where
    step :
        (t : Bool) → ltb i (length (form_of k).fields) ≡ t
        → fields_of (drop i (form_of k).fields) (drop (i - length (form_of k).fields) (form_of k).more) [] ≡ cond t None (Some [])
    step true e = rw (drop-cons (form_of k).fields i Member (ltb-true i (length (form_of k).fields) e))
    step false e = rw (drop_of_length-le (form_of k).fields (ltb-false i (length (form_of k).fields) e))

-- ---- joined bytes

join_nothing : (o : Option (List ℕ)) → joined (Some []) o ≡ o
unfolding joined
join_nothing None = refl
join_nothing (Some x) = refl

join_more : (p b : List ℕ) (o : Option (List ℕ)) → joined (Some p) (joined (Some b) o) ≡ joined (Some (p ++ b)) o
unfolding joined
join_more p b None = refl
join_more p b (Some x) = ap Some (sym (append_assoc p b x))

-- ---- the words of a row

-- F is what all words of the row give, p the bytes of i words so far; l is the part of the text that is left
module _ (F : Option (List ℕ)) (k : Kind) (i : ℕ) (p l : List ℕ) (h : F ≡ joined (Some p) (fields_from k i (split 32 (row_of l)))) where
  pub fill_past : length (fields_in (form_of k)) ≤ i → F ≡ None
  unfolding joined
  fill_past n = let q = words_first l in h ∙ rw (q.1, fields_past k i (word_of l) q.0 n)

  module _ (few : i < length (fields_in (form_of k))) (f : Field) (e : f ≡ get_or (fields_in (form_of k)) i Member) where
    pub fill_outside : value_of f (word_of l) ≡ None → F ≡ None
    unfolding joined as_bytes
    fill_outside n = let q = words_first l in h ∙ rw (q.1, fields_next k i (word_of l) q.0 few, ← e, n)

    module _ (n : ℕ) (v : value_of f (word_of l) ≡ Some n) where
      word_put : (ws : List (List ℕ)) → split 32 (row_of l) ≡ word_of l ∷ ws → F ≡ joined (Some (p ++ field_bytes f n)) (fields_from k (suc i) ws)
      unfolding as_bytes
      word_put ws q = h ∙ rw (q, fields_next k i (word_of l) ws few, ← e, v) (join_more p (field_bytes f n) (fields_from k (suc i) ws))

      fill_more :
          word_size l < length l → get_or l (word_size l) 0 ≡ 32
          → F ≡ joined (Some (p ++ field_bytes f n)) (fields_from k (suc i) (split 32 (row_of (drop (suc (word_size l)) l))))
      fill_more s c = word_put (split 32 (row_of (drop (suc (word_size l)) l))) (words_more l s c).0

      fill_last :
          (word_size l < length l → get_or l (word_size l) 0 ≡ 10)
          → F ≡ joined (Some (p ++ field_bytes f n)) (cond (ltb (suc i) (length (form_of k).fields)) None (Some []))
      fill_last c = word_put [] (words_last l c).0 ∙ ap (joined (Some (p ++ field_bytes f n))) (fields_end k (suc i))

-- ---- the word at a place of the text

-- what is known where a word says something
pub record Spelled (f : Field) (text : List ℕ) (start : ℕ) (w : Word) : Type 0 where
  pub value : value_of f (word_of (drop start text)) ≡ Some w.number
  pub size : w.size ≡ word_size (drop start text)
  pub small : w.number < 65536
  pub short : is_short f ≡ true → w.number < 256

value_small : (f : Field) → value_most f < 65536
unfolding value_most
value_small Member = omega arith
value_small AnyType = omega arith
value_small Number = omega arith
value_small Predicate = omega arith
value_small Condition = omega arith

value_short : (f : Field) → is_short f ≡ true → value_most f < 256
unfolding value_most is_short
value_short Member e = absurd (cc)
value_short AnyType e = absurd (cc)
value_short Number e = absurd (cc)
value_short Predicate e = omega arith
value_short Condition e = omega arith

-- what `value` answered of the part of the text from a place on
module _ (f : Field) (text : List ℕ) (start : ℕ) {r : Option Word}
    (e : r ≡ said (value_of f (word_of (take (length text - start) (drop start text)))) (take (length text - start) (drop start text))) where
  of_text : {s : Option Word} → r ≡ s → said (value_of f (word_of (drop start text))) (drop start text) ≡ s
  of_text q = rw (part_is text start) at (sym e ∙ q)

  pub spelled : (w : Word) → r ≡ Some w → Spelled f text start w
  spelled w h =
      let q = said_some _ (drop start text) w (of_text h) in
      let m = value_most_lem f (word_of (drop start text)) w.number q.0 in
      record { value = q.0; size = q.1; small = omega (arith, value_small f); short = λ s. omega (arith, value_short f s) }

  pub spelled_inside : (w : Word) → r ≡ Some w → start ≤ length text → start + w.size ≤ length text
  spelled_inside w h inside = omega (arith, (spelled w h).size, end_inside text start inside)

  pub not_spelled : r ≡ None → value_of f (word_of (drop start text)) ≡ None
  not_spelled h = said_none _ (drop start text) (of_text h)

-- ---- one word more

-- what all words of the row give, where the first i are in the part, and the text goes on from `start`
abbrev pub Filling : Option (List ℕ) → Kind → ℕ → List ℕ → ℕ → List ℕ → Type 0
Filling F k i text start p = F ≡ joined (Some p) (fields_from k i (split 32 (row_of (drop start text))))

-- what is known where the word i of a row has been put
pub record Turn (F : Option (List ℕ)) (k : Kind) (i : ℕ) (text part part' : List ℕ) (start at next : ℕ) (f : Field) (w : Word) : Type 0 where
  pub filling : Filling F k i text start (drop 2 (take at part))
  pub few : i < length (fields_in (form_of k))
  pub field : f ≡ get_or (fields_in (form_of k)) i Member
  pub word : Spelled f text start w
  pub inside : start ≤ length text
  pub low : 2 ≤ at
  pub fits : at ≤ length part
  pub put : take next part' ≡ take at part ++ field_bytes f w.number

pub turn_made :
    {F : Option (List ℕ)} (k : Kind) (i : ℕ) (text part part' : List ℕ) (start at next : ℕ) (w : Word) {fs : List Field} {r : Option Word}
    → fs ≡ fields_in (form_of k) → i < length fs
    → r ≡ said (value_of (get_or fs i Member) (word_of (take (length text - start) (drop start text)))) (take (length text - start) (drop start text))
    → r ≡ Some w → Filling F k i text start (drop 2 (take at part)) → start ≤ length text → 2 ≤ at → at ≤ length part
    → take next part' ≡ take at part ++ field_bytes (get_or fs i Member) w.number
    → Turn F k i text part part' start at next (get_or fs i Member) w
turn_made k i text part part' start at next w {fs} e few v h filling inside low fits put =
    record {
      filling = filling;
      few = omega (arith, ap length e);
      field = ap (λ (l : List Field). get_or l i Member) e;
      word = spelled (get_or fs i Member) text start v w h;
      inside = inside;
      low = low;
      fits = fits;
      put = put;
    }

module _ {F : Option (List ℕ)} {k : Kind} {i : ℕ} {text part part' : List ℕ} {start at next : ℕ} {f : Field} {w : Word}
    (t : Turn F k i text part part' start at next f w) where
  -- the place past the word
  abbrev end : ℕ
  end = start + w.size

  left : List ℕ
  left = drop start text

  bytes_are : drop 2 (take at part) ++ field_bytes f w.number ≡ drop 2 (take next part')
  bytes_are =
      let two : 2 ≤ length (take at part) = omega (arith, length-take-le at part t.fits) in
      sym (drop-append-le 2 (take at part) (field_bytes f w.number) two) ∙ ap (drop 2) (sym t.put)

  byte_is : get_or left (word_size left) 0 ≡ get_or text end 0
  unfolding left
  byte_is = get_or-drop start text (word_size left) 0 ∙ ap (λ (x : ℕ). get_or text x 0) (ap (λ (x : ℕ). start + x) (sym t.word.size))

  behind : drop (suc (word_size left)) left ≡ drop (end + 1) text
  unfolding left
  behind =
      let q : start + suc (word_size left) ≡ end + 1 = omega (arith, t.word.size) in
      drop-drop (suc (word_size left)) start text ∙ ap (λ (x : ℕ). drop x text) q

  size_is : length left ≡ length text - start
  unfolding left
  size_is = length-drop start text

  module _ (h : (end < length text) × (get_or text end 0 ≡ 10 → ⊥)) where
    room : word_size left < length left
    unfolding left
    room = omega (arith, size_is, t.word.size)

    space : get_or left (word_size left) 0 ≡ 32
    space = word_stop left room (λ x. h.1 (sym byte_is ∙ x))

    pub filling_on : Filling F k (i + 1) text (end + 1) (drop 2 (take next part'))
    unfolding left
    filling_on =
        let one : suc i ≡ i + 1 = omega arith in
        fill_more F k i (drop 2 (take at part)) left t.filling t.few f t.field w.number t.word.value room space
        ∙ ap (λ (x : List ℕ). joined (Some x) (fields_from k (suc i) (split 32 (row_of (drop (suc (word_size left)) left))))) bytes_are
        ∙ ap (λ (x : List ℕ). joined (Some (drop 2 (take next part'))) (fields_from k (suc i) (split 32 (row_of x)))) behind
        ∙ ap (λ (x : ℕ). joined (Some (drop 2 (take next part'))) (fields_from k x (split 32 (row_of (drop (end + 1) text))))) one

    pub row_on : start + run_of 10 (drop start text) ≡ end + 1 + run_of 10 (drop (end + 1) text)
    unfolding left
    row_on =
        let q = (words_more left room space).1 in
        let b : run_of 10 (drop (suc (word_size left)) left) ≡ run_of 10 (drop (end + 1) text) = ap (run_of 10) behind in
        omega (arith, q, b, t.word.size)

  module _ (last : end < length text → get_or text end 0 ≡ 10) where
    ended : word_size left < length left → get_or left (word_size left) 0 ≡ 10
    unfolding left
    ended m = byte_is ∙ last (omega (arith, m, size_is, t.word.size))

    row_ends : start + run_of 10 (drop start text) ≡ end
    unfolding left
    row_ends = omega (arith, (words_last left ended).1, t.word.size)

    put_all : F ≡ joined (Some (drop 2 (take next part'))) (cond (ltb (i + 1) (length (form_of k).fields)) None (Some []))
    unfolding left
    put_all =
        let one : suc i ≡ i + 1 = omega arith in
        fill_last F k i (drop 2 (take at part)) left t.filling t.few f t.field w.number t.word.value ended
        ∙ ap (λ (x : List ℕ). joined (Some x) (cond (ltb (suc i) (length (form_of k).fields)) None (Some []))) bytes_are
        ∙ ap (λ (x : ℕ). joined (Some (drop 2 (take next part'))) (cond (ltb x (length (form_of k).fields)) None (Some []))) one

    pub filled_few : i + 1 < length (form_of k).fields → F ≡ None
    unfolding joined
    filled_few h = put_all ∙ rw (lt-ltb (i + 1) (length (form_of k).fields) h)

    pub filled :
        (from : ℕ) → F ≡ fields_from k 0 (split 32 (row_of (drop from text)))
        → from + run_of 10 (drop from text) ≡ start + run_of 10 (drop start text) → length (form_of k).fields ≤ i + 1 → 2 ≤ next → next ≤ 130
        → Fills k text from (Some (record { length = next; end = start + w.size })) part'
    unfolding fields_of_part joined
    filled from is same_row enough two most =
        record {
          fields = sym is ∙ put_all ∙ rw (le-ltb (i + 1) (length (form_of k).fields) enough, append-nil (drop 2 (take next part')));
          ends = record { least = two; few = most; end = omega (arith, row_ends, same_row) };
        }

pub not_filled :
    {F : Option (List ℕ)} (k : Kind) (text : List ℕ) (from : ℕ) (part : List ℕ) → F ≡ fields_from k 0 (split 32 (row_of (drop from text))) → F ≡ None
    → Fills k text from None part
unfolding fields_of_part
not_filled k text from part is h = record { fields = sym is ∙ h; ends = tt }

pub filling_start :
    (k : Kind) (text : List ℕ) (from : ℕ) (part : List ℕ)
    → Filling (fields_from k 0 (split 32 (row_of (drop from text)))) k 0 text from (drop 2 (take 2 part))
filling_start k text from part =
    let n : length (take 2 part) ≤ 2 = omega (arith, length-take 2 part) in
    let o : Option (List ℕ) = fields_from k 0 (split 32 (row_of (drop from text))) in
    sym (ap (λ (x : List ℕ). joined (Some x) o) (drop_of_length-le (take 2 part) n) ∙ join_nothing o)

-- ---- the whole record

module _ (w : List ℕ) (ws : List (List ℕ)) where
  kind_none : kind_of w ≡ None → record_by forms w ws ≡ None
  unfolding record_by forms kind_of
  kind_none e = step (same w group.word) (same w allow.word) (same w transition.word) (same w constraint.word) e where
    step :
        (a b c d : Bool) → ◌≡◌ {A = Option Kind} (cond a (Some Group) (cond b (Some Allow) (cond c (Some Transition) (cond d (Some Constraint) None)))) None
        → cond a (headed group.kind (fields_of group.fields group.more ws))
        (cond b (headed allow.kind (fields_of allow.fields allow.more ws))
        (cond c (headed transition.kind (fields_of transition.fields transition.more ws))
        (cond d (headed constraint.kind (fields_of constraint.fields constraint.more ws)) None)))
        ≡ None
    step true b c d q = absurd (cc)
    step false true c d q = absurd (cc)
    step false false true d q = absurd (cc)
    step false false false true q = absurd (cc)
    step false false false false q = refl

  all_fields : (k : Kind) → fields_of (form_of k).fields (form_of k).more ws ≡ fields_from k 0 ws
  unfolding fields_from form_of group allow transition constraint
  all_fields Group = refl
  all_fields Allow = refl
  all_fields Transition = refl
  all_fields Constraint = refl

  kind_some : (k : Kind) → kind_of w ≡ Some k → record_by forms w ws ≡ headed (form_of k).kind (fields_from k 0 ws)
  unfolding record_by forms kind_of fields_from form_of group allow transition constraint
  kind_some k e = step (same w group.word) (same w allow.word) (same w transition.word) (same w constraint.word) e where
    is : (f : Kind) → f ≡ k → headed (form_of f).kind (fields_of (form_of f).fields (form_of f).more ws) ≡ headed (form_of k).kind (fields_from k 0 ws)
    is f q = rw (q, all_fields k)

    step :
        (a b c d : Bool) → ◌≡◌ {A = Option Kind} (cond a (Some Group) (cond b (Some Allow) (cond c (Some Transition) (cond d (Some Constraint) None)))) (Some k)
        → cond a (headed 1 (fields_of group.fields group.more ws))
        (cond b (headed 2 (fields_of allow.fields allow.more ws))
        (cond c (headed 3 (fields_of transition.fields transition.more ws)) (cond d (headed 4 (fields_of constraint.fields constraint.more ws)) None)))
        ≡ headed (form_of k).kind (fields_from k 0 ws)
    step true b c d q = is Group (cc)
    step false true c d q = is Allow (cc)
    step false false true d q = is Transition (cc)
    step false false false true q = is Constraint (cc)
    step false false false false q = absurd (cc)

-- no form has a first word alone
word_alone : (w : List ℕ) → record_by forms w [] ≡ None
unfolding record_by forms group allow transition constraint fields_of headed
word_alone w = step (same w group.word) (same w allow.word) (same w transition.word) (same w constraint.word) where
  step : (a b c d : Bool) → ◌≡◌ {A = Option (List ℕ)} (cond a None (cond b None (cond c None (cond d None None)))) None
  step true b c d = refl
  step false true c d = refl
  step false false true d = refl
  step false false false true = refl
  step false false false false = refl

record_nothing : (text : List ℕ) (at : ℕ) (part : List ℕ) → record_of_row (row_of (drop at text)) ≡ None → Records text at None part
unfolding record_of_part
record_nothing text at part h = record { bytes = h; ends = tt }

-- a kind's number, as the code has it
pub kind_number : (k : Kind) → tag_of the_type k + 1 ≡ (form_of k).kind
unfolding form_of group allow transition constraint
kind_number Group = refl
kind_number Allow = refl
kind_number Transition = refl
kind_number Constraint = refl

made : (n k : ℕ) (l : List ℕ) → 2 ≤ n → n ≤ length l → headed k (Some (drop 2 (take n l))) ≡ Some (take n (set (set l 0 n) 1 k))
unfolding headed
made zero k l h j = absurd (omega arith)
made (suc zero) k l h j = absurd (omega arith)
made (suc (suc m)) k [] h j = absurd (omega arith)
made (suc (suc m)) k (x ∷ []) h j = absurd (omega arith)
made (suc (suc m)) k (x ∷ y ∷ t) h j =
    let n : 2 + length (take m t) ≡ suc (suc m) = omega (arith, length-take-le m t (omega arith)) in ap (λ (z : ℕ). Some (z ∷ k ∷ take m t)) n

module _ (text : List ℕ) (at size : ℕ) (inside : at ≤ length text) (is : size ≡ word_size (take (length text - at) (drop at text))) where
  -- the place past the first word
  abbrev past : ℕ
  past = at + size

  past_is : past ≡ at + word_size (drop at text)
  past_is = ap (λ (x : ℕ). at + x) (rw (part_is text at) at is)

  pub first_inside : at + size ≤ length text
  first_inside = omega (arith, past_is, end_inside text at inside)

  abbrev line : List ℕ
  line = drop at text

  abbrev word : List ℕ
  word = take (past - at) (drop at text)

  byte_at : get_or line (word_size line) 0 ≡ get_or text past 0
  byte_at = get_or-drop at text (word_size line) 0 ∙ ap (λ (x : ℕ). get_or text x 0) (sym past_is)

  pub record_unknown : kind_of word ≡ None → (part : List ℕ) → Records text at None part
  unfolding record_of_row record_of_words
  record_unknown h part =
      let q = words_first line in
      record_nothing text at part (rw q.1 (kind_none (word_of line) q.0 (ap kind_of (sym (word_is text at past past_is)) ∙ h)))

  pub record_alone : (past < length text → get_or text past 0 ≡ 10) → (part : List ℕ) → Records text at None part
  unfolding record_of_row record_of_words
  record_alone h part =
      let q = (words_last line (λ m. byte_at ∙ h (omega (arith, m, past_is, length-drop at text)))).0 in
      record_nothing text at part (rw q (word_alone (word_of line)))

  module _ (k : Kind) (known : kind_of word ≡ Some k) (more : past < length text) (no_feed : get_or text past 0 ≡ 10 → ⊥) (part : List ℕ) where
    room_behind : word_size line < length line
    room_behind = omega (arith, past_is, length-drop at text)

    space_at : get_or line (word_size line) 0 ≡ 32
    space_at = word_stop line room_behind (λ x. no_feed (sym byte_at ∙ x))

    rest_is : drop (suc (word_size line)) line ≡ drop (past + 1) text
    rest_is =
        let q : at + suc (word_size line) ≡ past + 1 = omega (arith, past_is) in
        drop-drop (suc (word_size line)) at text ∙ ap (λ (x : ℕ). drop x text) q

    record_is : (r : Option Row) → Fills k text (past + 1) r part → record_of_row (row_of line) ≡ headed (form_of k).kind (fields_of_part r part)
    unfolding record_of_row record_of_words
    record_is r fills =
        let q = (words_more line room_behind space_at).0 in
        rw (q, rest_is)
        (kind_some (word_of line) (split 32 (row_of (drop (past + 1) text))) k (ap kind_of (sym (word_is text at past past_is)) ∙ known)
        ∙ ap (headed (form_of k).kind) fills.fields)

    row_is : at + run_of 10 (drop at text) ≡ past + 1 + run_of 10 (drop (past + 1) text)
    row_is =
        let q = (words_more line room_behind space_at).1 in
        omega (arith, q, past_is, ap (run_of 10) rest_is)

    pub record_outside : Fills k text (past + 1) None part → Records text at None part
    unfolding fields_of_part record_of_part headed
    record_outside fills = record { bytes = record_is None fills; ends = tt }

    pub record_made :
        (r : Row) → Fills k text (past + 1) (Some r) part → 130 ≤ length part
        → Records text at (Some r) (set (set part 0 r.length) 1 (form_of k).kind)
    unfolding fields_of_part record_of_part
    record_made r fills long =
        let q = fills.ends in
        record {
          bytes = record_is (Some r) fills ∙ made r.length (form_of k).kind part q.least (omega (arith, q.few));
          ends = record { least = q.least; few = q.few; end = q.end ∙ sym row_is };
        }
