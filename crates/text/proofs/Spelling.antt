-- Claim OneSpelling, form by form. Assumes nothing.
use Prim.Native.Nat.{ℕ, ◌+◌, ◌-◌, ◌*◌, ◌/◌, ◌%◌, ◌≤◌}
use mathlib.Core.Path.{◌≡◌, refl, sym, subst, subst₂, ap, ap₂, ◌∙◌}
use mathlib.Core.Bool.{true}
use Rattle.std.specs.Prelude.{Some}
use mathlib.Core.List.Memᴰ
use mathlib.Core.List.{List, [], ◌∷◌, ◌++◌, map, Memᴰ}
use mathlib.Core.Logic.{⊎_elim}
use native.Mathlib.Omega.{arith}
use lib.ListN.{length, get_or, replicate, take, drop, length-drop, drop_of_length-le}
use lib.Seq.{drop-cons}
use Rattle.format.specs.Bytes.{Bytes, word_at, words, put_word, put_words}
use Rattle.format.specs.Format.{shape_ok}
use Rattle.format.proofs.Bytes.{bytes_drop, put_word_lem, word_small}
use Rattle.format.proofs.Bytes.{words_next, words_end, words_put, length_words, put_words_lem}
use Rattle.format.proofs.Shapes.{length_cases, length_least, shape_length, shape_kind}
use Rattle.text.specs.declared.Field.{Field}
use Rattle.text.specs.declared.Field.TheVariants.{Member, AnyType}
use Rattle.text.specs.Words.{ascii}
use Rattle.text.specs.Rows.{field_bytes, Form, group, allow, transition, constraint, fields_of, record_of_row}
use Rattle.text.specs.Spelling.{number_word, spaced, group_row, allow_row, transition_row, constraint_row, spelling}
use Rattle.text.specs.Spelling.{Spellable, OneSpelling}
use Rattle.text.specs.Inner.Parts.{run_of, rest}
use Rattle.text.proofs.Parts.{split_run, words_joined}
use Rattle.text.proofs.Records.{value_most, RecordBy, record_cases, record_shape, record_bytes}
use Rattle.text.proofs.Put.{word_here, words_more, word_front, put_none}
use Rattle.text.proofs.Fields.{word_for, Wide, Sayable, Values, words_for, bytes_for, fields_read, Written, fields_written}
use Rattle.text.proofs.Fields.{ByWord, group_word, allow_word, transition_word, constraint_word, form_read}

member_wide : Wide Member
unfolding field_bytes
member_wide n = refl

type_wide : Wide AnyType
unfolding field_bytes
type_wide n = refl

-- ---- only the spelling

-- a row is its record's spelling, whose members and condition have it
record Spelt (row r : List ℕ) : Type 0 where
  members : get_or r 1 0 ≡ 1 → (m : ℕ) → Memᴰ m (words (drop 2 r)) → m ≤ 32767
  condition : get_or r 1 0 ≡ 2 → get_or r 10 0 ≤ 33
  is : row ≡ spelling r

-- the record of a form, of values and of further ones, and its row
bytes_in : (f : Form) → Values f.fields → List ℕ → List ℕ
bytes_in f v ns = bytes_for f.fields v (put_words ns)

record_in : (f : Form) → Values f.fields → List ℕ → List ℕ
record_in f v ns = (2 + length (bytes_in f v ns)) ∷ f.kind ∷ bytes_in f v ns

row_in : (f : Form) (g : Field) → Values f.fields → List ℕ → List ℕ
row_in f g v ns = f.word ++ spaced (words_for f.fields v (map (word_for g) ns))

by_values :
    (f : Form) (g : Field) (k : ℕ) → Wide g → f.more ≡ replicate k g
    → ((v : Values f.fields) (ns : List ℕ) → length ns ≤ k → Sayable g ns → Spelt (row_in f g v ns) (record_in f v ns))
    → (w : List ℕ) (ws : List (List ℕ)) (r : List ℕ) → RecordBy f w ws r → Spelt (w ++ spaced ws) r
unfolding bytes_in record_in row_in
by_values f g k wide more spells w ws r b =
    let same_more = ap (λ (x : List Field). fields_of f.fields x ws) (sym more) in
    let q = fields_read f.fields g k ws b.fields wide (same_more ∙ b.from_words) in
    let said : w ++ spaced ws ≡ row_in f g q.values q.more =
    ap₂ (λ (x : List ℕ) (y : List (List ℕ)). x ++ spaced y) b.word q.words in
    let is : r ≡ record_in f q.values q.more = b.is ∙ ap (λ (x : List ℕ). (2 + length x) ∷ f.kind ∷ x) q.bytes in
    subst₂ Spelt (sym said) (sym is) (spells q.values q.more q.few q.most)

group_spells :
    (v : Values group.fields) (ns : List ℕ) → length ns ≤ 63 → Sayable Member ns
    → Spelt (row_in group Member v ns) (record_in group v ns)
unfolding bytes_in record_in row_in group value_most field_bytes spelling group_row
group_spells v ns h m =
    let all : (x : ℕ) → Memᴰ x (v.0 ∷ ns) → x ≤ 32767 =
    λ x i. ⊎_elim (λ e. omega (arith, e, v.1)) (m x) (Memᴰ.cases_cons i) in
    let is : words (drop 2 (record_in group v ns)) ≡ v.0 ∷ ns =
    words_more v.0 (put_words ns) ∙ ap (λ (x : List ℕ). v.0 ∷ x) (words_put ns) in
    record {
      members = λ e x i. all x (subst (Memᴰ x) is i);
      condition = λ e. absurd (omega (arith, e));
      is = ap (λ (x : List ℕ). ascii "group" ++ spaced (map number_word x)) (sym is);
    }

allow_spells :
    (v : Values allow.fields) (ns : List ℕ) → length ns ≤ 0 → Sayable Member ns
    → Spelt (row_in allow Member v ns) (record_in allow v ns)
unfolding bytes_in record_in row_in allow value_most field_bytes spelling allow_row
allow_spells v (n ∷ ns) h m = absurd (omega arith)
allow_spells v [] h m =
    rw (put_word_lem v.0, put_word_lem v.2.0, put_word_lem v.2.2.0, put_word_lem v.2.2.2.0, put_none)
    record {
      members = λ e. absurd (omega (arith, e));
      condition = λ e. omega (arith, v.2.2.2.2.1);
      is = rw (
        word_here _ 2 v.0 refl refl,
        word_here _ 4 v.2.0 refl refl,
        word_here _ 6 v.2.2.0 refl refl,
        word_here _ 8 v.2.2.2.0 refl refl,
      ) refl;
    }

transition_spells :
    (v : Values transition.fields) (ns : List ℕ) → length ns ≤ 0 → Sayable Member ns
    → Spelt (row_in transition Member v ns) (record_in transition v ns)
unfolding bytes_in record_in row_in transition value_most field_bytes spelling transition_row
transition_spells v (n ∷ ns) h m = absurd (omega arith)
transition_spells v [] h m =
    rw (put_word_lem v.0, put_word_lem v.2.0, put_word_lem v.2.2.0, put_none)
    record {
      members = λ e. absurd (omega (arith, e));
      condition = λ e. absurd (omega (arith, e));
      is = rw (word_here _ 2 v.0 refl refl, word_here _ 4 v.2.0 refl refl, word_here _ 6 v.2.2.0 refl refl) refl;
    }

constraint_spells :
    (v : Values constraint.fields) (ns : List ℕ) → length ns ≤ 16 → Sayable AnyType ns
    → Spelt (row_in constraint AnyType v ns) (record_in constraint v ns)
unfolding bytes_in record_in row_in constraint value_most field_bytes spelling constraint_row
constraint_spells v ns h m =
    rw (put_word_lem v.0, put_word_lem v.2.0, put_word_lem v.2.2.0, put_word_lem v.2.2.2.0)
    record {
      members = λ e. absurd (omega (arith, e));
      condition = λ e. absurd (omega (arith, e));
      is = rw (
        word_here _ 2 v.0 refl refl,
        word_here _ 4 v.2.0 refl refl,
        word_here _ 6 v.2.2.0 refl refl,
        word_here _ 8 v.2.2.2.0 refl refl,
        words_put ns,
      ) refl;
    }

row_spelt : (row r : List ℕ) → record_of_row row ≡ Some r → Spelt row r
unfolding record_of_row group allow transition constraint
row_spelt row r e =
    let w : List ℕ = take (run_of 32 row) row in
    let ws : List (List ℕ) = rest 32 row in
    subst (λ (x : List ℕ). Spelt x r) (sym (words_joined row))
    (record_cases w ws r (rw (split_run 32 row) at e) (by_values group Member 63 member_wide refl group_spells w ws r)
    (by_values allow Member 0 member_wide refl allow_spells w ws r)
    (by_values transition Member 0 member_wide refl transition_spells w ws r)
    (by_values constraint AnyType 16 type_wide refl constraint_spells w ws r))

only_spelling : (row r : List ℕ) → record_of_row row ≡ Some r → Spellable r × (row ≡ spelling r)
only_spelling row r e =
    let q = row_spelt row r e in
    let s : Spellable r =
    record { shape = record_shape row r e; bytes = record_bytes row r e; members = q.members; condition = q.condition } in
    (s, q.is)

-- ---- and the spelling

words_small : (l : List ℕ) → Bytes l → (n : ℕ) → Memᴰ n (words l) → n ≤ 65535
words_small [] b n m = absurd (Memᴰ.not-nil (subst (Memᴰ n) (words_end [] 0 (omega arith)) m))
words_small (x ∷ []) b n m = absurd (Memᴰ.not-nil (subst (Memᴰ n) (words_end (x ∷ []) 0 (omega arith)) m))
words_small (x ∷ y ∷ l) b n m =
    ⊎_elim (λ e. omega (arith, e, word_small (x ∷ y ∷ l) b 0)) (words_small l (bytes_drop 2 (x ∷ y ∷ l) b) n)
    (Memᴰ.cases_cons (subst (Memᴰ n) (words_next (x ∷ y ∷ l) 0 (omega arith)) m))

record_whole : (r l : List ℕ) (k : ℕ) → shape_ok r ≡ true → get_or r 1 0 ≡ k → drop 2 r ≡ l → (2 + length l) ∷ k ∷ l ≡ r
record_whole [] l k s e d = absurd (omega (arith, length_least _ _ (shape_kind [] s)))
record_whole (a ∷ []) l k s e d = absurd (omega (arith, length_least _ _ (shape_kind (a ∷ []) s)))
record_whole (a ∷ b ∷ t) l k s e d =
    let i : 2 + length l ≡ a = omega (arith, ap length d, shape_length (a ∷ b ∷ t) s) in
    rw (i, e, d) refl

module _ (r : List ℕ) (s : Spellable r) where
  spelled_by :
      (f : Form) (g : Field) (k : ℕ) → Wide g → f.more ≡ replicate k g
      → ByWord f → get_or r 1 0 ≡ f.kind → (v : Values f.fields) (ns : List ℕ) → length ns ≤ k → Sayable g ns
      → drop 2 r ≡ bytes_in f v ns → record_of_row (row_in f g v ns) ≡ Some r
  unfolding bytes_in row_in
  spelled_by f g k wide more word kind v ns few most d =
      let ws : List (List ℕ) = words_for f.fields v (map (word_for g) ns) in
      let q : Written f.fields f.more ws (bytes_in f v ns) =
      subst (λ (x : List Field). Written f.fields x ws (bytes_in f v ns)) (sym more)
      (fields_written f.fields g k v ns wide few most) in
      form_read f ws (bytes_in f v ns) word q ∙ ap Some (record_whole r (bytes_in f v ns) f.kind s.shape kind d)

  small : (at : ℕ) → word_at r at ≤ 65535
  small at = omega (arith, word_small r s.bytes at)

  front : (at : ℕ) (l : List ℕ) → at + 2 ≤ length r → drop (at + 2) r ≡ l → drop at r ≡ put_word (word_at r at) [] ++ l
  front at l h e = word_front r s.bytes at h ∙ ap (λ (x : List ℕ). put_word (word_at r at) [] ++ x) e

  rest_words : (at n : ℕ) → length r ≡ at + 2 * n → drop at r ≡ put_words (words (drop at r))
  rest_words at n h = sym (put_words_lem (drop at r) n (omega (arith, length-drop at r)) (bytes_drop at r s.bytes))

  as_group : get_or r 1 0 ≡ 1 → 4 ≤ length r → length r ≤ 130 → length r % 2 ≡ 0 → record_of_row (spelling r) ≡ Some r
  unfolding bytes_in row_in group value_most field_bytes spelling group_row
  as_group e low high even =
      let ns : List ℕ = words (drop 4 r) in
      let next : words (drop 2 r) ≡ word_at r 2 ∷ ns = words_next r 2 (omega arith) in
      let all : (x : ℕ) → Memᴰ x (word_at r 2 ∷ ns) → x ≤ 32767 = λ x i. s.members e x (subst (Memᴰ x) (sym next) i) in
      let half : length r ≡ 4 + 2 * ((length r - 4) / 2) = omega arith in
      rw e (ap (λ (x : List ℕ). record_of_row (ascii "group" ++ spaced (map number_word x))) next
      ∙ spelled_by group Member 63 member_wide refl group_word e (word_at r 2, all (word_at r 2) (Memᴰ.head refl), tt) ns
      (omega (arith, length_words (drop 4 r), length-drop 4 r)) (λ x i. all x (Memᴰ.tail i))
      (front 2 (put_words ns) (omega arith) (rest_words 4 ((length r - 4) / 2) half)))

  as_allow : get_or r 1 0 ≡ 2 → length r ≡ 11 → record_of_row (spelling r) ≡ Some r
  unfolding bytes_in row_in allow value_most field_bytes spelling allow_row
  as_allow e long =
      let v : Values allow.fields = (
        word_at r 2,
        small 2,
        (
          word_at r 4,
          small 4,
          (
            word_at r 6,
            small 6,
            (
              word_at r 8,
              small 8,
              (get_or r 10 0, s.condition e, tt),
            ),
          ),
        ),
      ) in
      rw e (spelled_by allow Member 0 member_wide refl allow_word e v [] (omega arith)
      (λ x i. absurd (Memᴰ.not-nil i))
      (front 2 _ (omega arith) (front 4 _ (omega arith) (front 6 _ (omega arith) (front 8 _ (omega arith)
      (drop-cons r 10 0 (omega arith)
      ∙ ap (λ (x : List ℕ). get_or r 10 0 ∷ x) (drop_of_length-le r {i = 11} (omega arith) ∙ sym put_none)))))))

  as_transition : get_or r 1 0 ≡ 3 → length r ≡ 8 → record_of_row (spelling r) ≡ Some r
  unfolding bytes_in row_in transition value_most field_bytes spelling transition_row
  as_transition e long =
      let v : Values transition.fields = (word_at r 2, small 2, (word_at r 4, small 4, (word_at r 6, small 6, tt))) in
      rw e (spelled_by transition Member 0 member_wide refl transition_word e v [] (omega arith)
      (λ x i. absurd (Memᴰ.not-nil i))
      (front 2 _ (omega arith) (front 4 _ (omega arith) (front 6 _ (omega arith)
      (drop_of_length-le r {i = 8} (omega arith) ∙ sym put_none)))))

  as_constraint : get_or r 1 0 ≡ 4 → 11 ≤ length r → length r ≤ 43 → length r % 2 ≡ 1 → record_of_row (spelling r) ≡ Some r
  unfolding bytes_in row_in constraint value_most field_bytes spelling constraint_row
  as_constraint e low high odd =
      let ns : List ℕ = words (drop 11 r) in
      let half : length r ≡ 11 + 2 * ((length r - 11) / 2) = omega arith in
      let v : Values constraint.fields = (
        word_at r 2,
        small 2,
        (
          word_at r 4,
          small 4,
          (
            word_at r 6,
            small 6,
            (
              word_at r 8,
              small 8,
              (get_or r 10 0, omega (arith, s.bytes 10), tt),
            ),
          ),
        ),
      ) in
      rw e (spelled_by constraint AnyType 16 type_wide refl constraint_word e v ns
      (omega (arith, length_words (drop 11 r), length-drop 11 r))
      (words_small (drop 11 r) (bytes_drop 11 r s.bytes))
      (front 2 _ (omega arith) (front 4 _ (omega arith) (front 6 _ (omega arith) (front 8 _ (omega arith)
      (drop-cons r 10 0 (omega arith)
      ∙ ap (λ (x : List ℕ). get_or r 10 0 ∷ x) (rest_words 11 ((length r - 11) / 2) half)))))))

  each_spelling : record_of_row (spelling r) ≡ Some r
  each_spelling = length_cases (get_or r 1 0) (length r) (shape_kind r s.shape) as_group as_allow as_transition as_constraint

pub one_spelling : OneSpelling
one_spelling = record { only = only_spelling; each = each_spelling }
