-- Laws of a row's words and the bytes that they are in the record, both ways. Assumes nothing.
--     word_for f n                  the word by which a field says n
--     value_word, word_says         a word that says n in a field is that word, and that word says n
--     Values fs, words_for, bytes_for   a value for each of several fields, and its words and bytes
--     Read, fields_read             words in fields, and as many as there are in further fields of one kind
--     Written, fields_written       the same, from values to words
--     ByWord, form_read             the record of a row of a form, which its first word says
use Prim.Native.Nat.{ℕ, zero, suc, ◌+◌, ◌-◌, ◌≤◌, ◌<◌}
use mathlib.Core.Path.{◌≡◌, refl, sym, subst, ap, ap₂, ◌∙◌}
use mathlib.Core.Bool.{Bool, true, false}
use Rattle.std.specs.Prelude.{Option, None, Some}
use mathlib.Core.List.Memᴰ
use mathlib.Core.List.{List, [], ◌∷◌, ◌++◌, map, Memᴰ}
use mathlib.Core.Logic.{⊎_elim}
use native.Mathlib.Omega.{arith}
use lib.ListN.{length, replicate}
use lib.Dec.{ltb}
use borrow.Author.Tests.{lt-ltb, le-ltb, ne_eqb, ltb-true, ltb-false}
use Rattle.format.specs.Bytes.{put_word, put_words}
use Rattle.format.proofs.Chain.{some_not_none, or_else_first, or_else_next, or_else_refuses}
use Rattle.text.specs.declared.Field.{Field}
use Rattle.text.specs.declared.Field.TheVariants.{Member, AnyType, Number, Predicate, Condition}
use Rattle.text.specs.Words.{ascii, split_step, split, same}
use Rattle.text.specs.Rows.{value_of, field_bytes, Form, group, allow, transition, constraint, forms}
use Rattle.text.specs.Rows.{as_bytes, joined, fields_of, headed, record_by, record_of_words, record_of_row}
use Rattle.text.specs.Claims.{condition_word}
use Rattle.text.specs.Spelling.{number_word, type_word, spaced}
use Rattle.text.proofs.Parts.{Solid, words_split}
use Rattle.text.proofs.Words.{number_most}
use Rattle.text.proofs.Conditions.{condition_words}
use Rattle.text.proofs.Digits.{switch_spelled, number_word_solid, number_spelled, word_number}
use Rattle.text.proofs.Digits.{letter_no_number, lettered_word, word_lettered}
use Rattle.text.proofs.Records.{value_most, value_most_lem}
use Rattle.text.proofs.Put.{put_none, put_more}

-- ---- one field

abbrev pub word_for : Field → ℕ → List ℕ
word_for Member n = number_word n
word_for AnyType n = type_word n
word_for Number n = number_word n
word_for Predicate n = number_word n
word_for Condition n = condition_word n

type_basic : (t : ℕ) → t < 32768 → type_word t ≡ number_word t
unfolding type_word
type_basic t h = rw (lt-ltb t 32768 h)

type_group : (t k : ℕ) → t ≡ 32768 + k → type_word t ≡ 103 ∷ number_word k
unfolding type_word ascii
type_group t k e = let i : t - 32768 ≡ k = omega arith in rw (le-ltb t 32768 (omega arith), i)

pub value_word : (f : Field) (w : List ℕ) (n : ℕ) → value_of f w ≡ Some n → w ≡ word_for f n
unfolding value_of
value_word Member w n e = number_spelled _ w n (omega arith) e
value_word AnyType w n e =
    or_else_refuses (λ (x : ℕ). w ≡ type_word x) _ _
    (λ x h. number_spelled _ w x (omega arith) h ∙ sym (type_basic x (omega (arith, number_most _ w x h))))
    (λ _ x h.
    let q = lettered_word _ _ _ (omega arith) w x h in
    q.word ∙ sym (type_group x q.number (omega (arith, q.value))))
    n e
value_word Number w n e = number_spelled _ w n (omega arith) e
value_word Predicate w n e = number_spelled _ w n (omega arith) e
value_word Condition w n e = (condition_words.only w n e).1

-- a type is below 32768 or not
type_cases : {C : Type 0} (t : ℕ) → (t < 32768 → C) → ((k : ℕ) → t ≡ 32768 + k → C) → C
type_cases {C} t f g = step (ltb t 32768) refl where
  step : (x : Bool) → ltb t 32768 ≡ x → C
  step true e = f (ltb-true t 32768 e)
  step false e = g (t - 32768) (omega (arith, ltb-false t 32768 e))

type_says : (t : ℕ) → t ≤ 65535 → value_of AnyType (type_word t) ≡ Some t
unfolding value_of
type_says t h =
    type_cases t (λ k. rw (type_basic t k) (or_else_first _ (word_number _ t (omega arith) (omega arith))))
    (λ k e.
    rw (type_group t k e)
    (or_else_next _ (letter_no_number _ 103 (number_word k) (omega arith))
    ∙ word_lettered 103 _ _ (omega arith) k (omega arith) ∙ ap Some (omega arith)))

pub word_says : (f : Field) (n : ℕ) → n ≤ value_most f → value_of f (word_for f n) ≡ Some n
unfolding value_most value_of
word_says Member n h = word_number _ n (omega arith) (omega arith)
word_says AnyType n h = type_says n h
word_says Number n h = word_number _ n (omega arith) (omega arith)
word_says Predicate n h = word_number _ n (omega arith) (omega arith)
word_says Condition n h = condition_words.each n h

-- no word has a space
letter_solid : (c n : ℕ) → 33 ≤ c → n < 100000 → split 32 (c ∷ number_word n) ≡ (c ∷ number_word n) ∷ []
unfolding split split_step
letter_solid c n h k = rw (ne_eqb c 32 (λ e. omega (arith, e)), number_word_solid n k)

condition_solid : (n : ℕ) → n ≤ 33 → split 32 (condition_word n) ≡ condition_word n ∷ []
unfolding condition_word ascii split split_step
condition_solid zero h = refl
condition_solid (suc zero) h = refl
condition_solid (suc (suc k)) h =
    subst (λ (x : List ℕ). split 32 (115 ∷ x) ≡ (115 ∷ x) ∷ []) (switch_spelled k (omega arith))
    (letter_solid 115 k (omega arith) (omega arith))

word_solid : (f : Field) (n : ℕ) → n ≤ value_most f → split 32 (word_for f n) ≡ word_for f n ∷ []
unfolding value_most
word_solid Member n h = number_word_solid n (omega arith)
word_solid AnyType n h =
    type_cases n (λ k. rw (type_basic n k) (number_word_solid n (omega arith)))
    (λ k e. rw (type_group n k e) (letter_solid 103 k (omega arith) (omega arith)))
word_solid Number n h = number_word_solid n (omega arith)
word_solid Predicate n h = number_word_solid n (omega arith)
word_solid Condition n h = condition_solid n h

-- ---- the words of a row, read

-- a word in its field, and what stands behind it
record First (f : Field) (w : List ℕ) (o : Option (List ℕ)) (l : List ℕ) : Type 0 where
  value : ℕ
  most : value ≤ value_most f
  word : w ≡ word_for f value
  back : List ℕ
  rest : o ≡ Some back
  bytes : l ≡ field_bytes f value ++ back

first_field :
    (f : Field) (w : List ℕ) (o : Option (List ℕ)) (l : List ℕ) → joined (as_bytes f (value_of f w)) o ≡ Some l
    → First f w o l
unfolding joined as_bytes
first_field f w o l e = step (value_of f w) o refl refl e where
  step : (v : Option ℕ) (p : Option (List ℕ)) → value_of f w ≡ v → o ≡ p → joined (as_bytes f v) p ≡ Some l → First f w o l
  step None p h k q = some_not_none (sym q)
  step (Some n) None h k q = some_not_none (sym q)
  step (Some n) (Some back) h k q =
      let i : field_bytes f n ++ back ≡ l = cc in
      record { value = n; most = value_most_lem f w n h; word = value_word f w n h; back = back; rest = k; bytes = sym i }

-- fields of two bytes
abbrev pub Wide : Field → Type 0
Wide f = (n : ℕ) → field_bytes f n ≡ put_word n []

-- values that a field can say
abbrev pub Sayable : Field → List ℕ → Type 0
Sayable f ns = (n : ℕ) → Memᴰ n ns → n ≤ value_most f

value_small : (f : Field) → value_most f < 65536
unfolding value_most
value_small Member = omega arith
value_small AnyType = omega arith
value_small Number = omega arith
value_small Predicate = omega arith
value_small Condition = omega arith

sayable_small : (f : Field) (ns : List ℕ) → Sayable f ns → (n : ℕ) → Memᴰ n ns → n < 65536
sayable_small f ns h n m = omega (arith, h n m, value_small f)

-- a value for each field, and the words and bytes of these before others
abbrev pub Values : List Field → Type 0
Values [] = Unit
Values (f ∷ fs) = (n : ℕ) × (n ≤ value_most f) × Values fs

abbrev pub words_for : (fs : List Field) → Values fs → List (List ℕ) → List (List ℕ)
words_for [] v t = t
words_for (f ∷ fs) v t = word_for f v.0 ∷ words_for fs v.2 t

abbrev pub bytes_for : (fs : List Field) → Values fs → List ℕ → List ℕ
bytes_for [] v t = t
bytes_for (f ∷ fs) v t = field_bytes f v.0 ++ bytes_for fs v.2 t

pub record Read (fs : List Field) (f : Field) (k : ℕ) (ws : List (List ℕ)) (l : List ℕ) : Type 0 where
  pub values : Values fs
  pub more : List ℕ
  pub few : length more ≤ k
  pub most : Sayable f more
  pub words : ws ≡ words_for fs values (map (word_for f) more)
  pub bytes : l ≡ bytes_for fs values (put_words more)

pub fields_read :
    (fs : List Field) (f : Field) (k : ℕ) (ws : List (List ℕ)) (l : List ℕ) → Wide f
    → fields_of fs (replicate k f) ws ≡ Some l
    → Read fs f k ws l
unfolding fields_of
fields_read [] f k [] l wide e =
    let h : [] ≡ l = cc in
    record {
      values = tt;
      more = [];
      few = omega arith;
      most = λ n m. absurd (Memᴰ.not-nil m);
      words = refl;
      bytes = sym h ∙ sym put_none;
    }
fields_read [] f zero (w ∷ ws) l wide e = some_not_none (sym e)
fields_read [] f (suc k) (w ∷ ws) l wide e =
    let a = first_field f w (fields_of [] (replicate k f) ws) l e in
    let b = fields_read [] f k ws a.back wide a.rest in
    let most : Sayable f (a.value ∷ b.more) =
    λ n m. ⊎_elim (λ i. omega (arith, i, a.most)) (b.most n) (Memᴰ.cases_cons m) in
    record {
      values = tt;
      more = a.value ∷ b.more;
      few = omega (arith, b.few);
      most = most;
      words = ap₂ ◌∷◌ a.word b.words;
      bytes = a.bytes ∙ ap₂ ◌++◌ (wide a.value) b.bytes ∙ sym (put_more a.value b.more (sayable_small f _ most));
    }
fields_read (g ∷ fs) f k [] l wide e = some_not_none (sym e)
fields_read (g ∷ fs) f k (w ∷ ws) l wide e =
    let a = first_field g w (fields_of fs (replicate k f) ws) l e in
    let b = fields_read fs f k ws a.back wide a.rest in
    record {
      values = (a.value, a.most, b.values);
      more = b.more;
      few = b.few;
      most = b.most;
      words = ap₂ ◌∷◌ a.word b.words;
      bytes = a.bytes ∙ ap (λ (x : List ℕ). field_bytes g a.value ++ x) b.bytes;
    }

-- ---- and written

pub record Written (fs more : List Field) (ws : List (List ℕ)) (l : List ℕ) : Type 0 where
  pub fields : fields_of fs more ws ≡ Some l
  pub solid : Solid ws

pub fields_written :
    (fs : List Field) (f : Field) (k : ℕ) (v : Values fs) (ns : List ℕ) → Wide f → length ns ≤ k → Sayable f ns
    → Written fs (replicate k f) (words_for fs v (map (word_for f) ns)) (bytes_for fs v (put_words ns))
unfolding fields_of joined as_bytes
fields_written [] f k v [] wide h m = record { fields = ap Some (sym put_none); solid = tt }
fields_written [] f zero v (n ∷ ns) wide h m = absurd (omega arith)
fields_written [] f (suc k) v (n ∷ ns) wide h m =
    let r = fields_written [] f k v ns wide (omega arith) (λ x i. m x (Memᴰ.tail i)) in
    let b = m n (Memᴰ.head refl) in
    record {
      fields = rw (word_says f n b, r.fields, wide n) (ap Some (sym (put_more n ns (sayable_small f (n ∷ ns) m))));
      solid = (word_solid f n b, r.solid);
    }
fields_written (g ∷ fs) f k v ns wide h m =
    let r = fields_written fs f k v.2 ns wide h m in
    record { fields = rw (word_says g v.0 v.1, r.fields); solid = (word_solid g v.0 v.1, r.solid) }

-- ---- a row's first word says its form

pub record ByWord (f : Form) : Type 0 where
  pub by : (ws : List (List ℕ)) → record_of_words (f.word ∷ ws) ≡ headed f.kind (fields_of f.fields f.more ws)
  pub solid : split 32 f.word ≡ f.word ∷ []

pub group_word : ByWord group
unfolding ascii split_step split same record_of_words record_by forms group
group_word = record { by = λ ws. refl; solid = refl }

pub allow_word : ByWord allow
unfolding ascii split_step split same record_of_words record_by forms group allow
allow_word = record { by = λ ws. refl; solid = refl }

pub transition_word : ByWord transition
unfolding ascii split_step split same record_of_words record_by forms group allow transition
transition_word = record { by = λ ws. refl; solid = refl }

pub constraint_word : ByWord constraint
unfolding ascii split_step split same record_of_words record_by forms group allow transition constraint
constraint_word = record { by = λ ws. refl; solid = refl }

pub form_read :
    (f : Form) (ws : List (List ℕ)) (l : List ℕ) → ByWord f → Written f.fields f.more ws l
    → record_of_row (f.word ++ spaced ws) ≡ Some ((2 + length l) ∷ f.kind ∷ l)
unfolding record_of_row headed
form_read f ws l b r = ap record_of_words (words_split f.word ws (b.solid, r.solid)) ∙ b.by ws ∙ ap (headed f.kind) r.fields
