-- Laws of what a word says. Assumes nothing.
--     part_is           the part of a list from a place to the end
--     word_found, end_inside   where a word ends: at the first byte that ends one, and within the text
--     word_is           the bytes up to the place past a word are that word
--     same_as           `==` of two words
--     digit-.., digits-..   the number of a word's digits, from the number come to
--     upto-..           a number in its range
--     said-..           what the code has of what a word says; said_or, said_or_or of the first of two or three that says something
--     number-..         a number, from what its digits write
--     letter-.., name-..   a number behind a letter, and the word of a name
use Prim.Native.Nat.{ℕ, zero, suc, min, ◌+◌, ◌-◌, ◌*◌, ◌≤◌, ◌<◌}
use mathlib.Core.Path.{◌≡◌, refl, sym, ap, ◌∙◌}
use mathlib.Core.Bool.{Bool, true, false, cond, ◌&&◌, ◌||◌}
use mathlib.Core.List.{List, [], ◌∷◌}
use mathlib.Core.Logic.{◌⊎◌, inl, inr}
use native.Mathlib.Omega.{arith}
use lib.ListN.{length, get_or, take, drop, length-drop}
use lib.Seq.{drop-cons, take-length, length-take-le, get_or-take}
use lib.Dec.{ltb, eqb}
use borrow.Author.Tests.{le-leb, lt-leb, ltb-true, ltb-false, eq-eqb, ne_eqb}
use Rattle.format.specs.Refusals.{◌or_else◌}
use Rattle.format.proofs.Chain.{or_else_next, or_else_first}
use Rattle.std.specs.Prelude.{Option, Some, None, MatchOption, unwrap_or}
use Rattle.std.proofs.Math.Nat.{min-le_left, min-eq_left, min-eq_right}
use Rattle.std.specs.List.{position_or_len}
use Rattle.std.specs.Cmp.Lexicographic.{pointwise}
use Rattle.std.proofs.lemmas.Bool.Decides.{nat_tests}
use Rattle.std.proofs.lemmas.List.Recursion.{is_position_or_len}
use Rattle.text.specs.Words.{same, is_digit, digits_from, number_of, up_to, number_to, named, above, lettered}
use Rattle.text.specs.Inner.Read.{word_size, word_of}
use Rattle.text.proofs.Words.{number_most}
use Rattle.text.proofs.Read.{word_most, word_next, word_byte, word_empty}
use Rattle.extend.specs.declared.spell.Word.{Word}
use Rattle.extend.specs.Inner.Filled.{said}

-- the part from a place to the end
pub part_is : (l : List ℕ) (i : ℕ) → take (length l - i) (drop i l) ≡ drop i l
part_is l i = ap (λ (n : ℕ). take n (drop i l)) (sym (length-drop i l)) ∙ take-length (drop i l)

-- ---- the place past a word

abbrev pub ends_word : ℕ → Bool
ends_word c = eqb c 32 || eqb c 10

word_size_is : (l : List ℕ) → word_size l ≡ position_or_len ends_word l
unfolding word_size
word_size_is l = is_position_or_len word_size ends_word refl (λ c l. ap (cond (ends_word c) 0) (omega arith)) l

pub word_found :
    (l : List ℕ) (r : Option ℕ) → r ≡ cond (ltb (position_or_len ends_word l) (length l)) (Some (position_or_len ends_word l)) None
    → unwrap_or r (length l) ≡ word_size l
word_found l r f = step (ltb (word_size l) (length l)) refl (rw (← word_size_is l) at f) where
  step : (t : Bool) → ltb (word_size l) (length l) ≡ t → r ≡ cond t (Some (word_size l)) None → unwrap_or r (length l) ≡ word_size l
  step true k e = rw e
  step false k e = rw e (omega (arith, ltb-false (word_size l) (length l) k, word_most l))

pub end_inside : (l : List ℕ) (i : ℕ) → i ≤ length l → i + word_size (drop i l) ≤ length l
end_inside l i h = omega (arith, word_most (drop i l), length-drop i l)

pub word_is : (text : List ℕ) (from end : ℕ) → end ≡ from + word_size (drop from text) → take (end - from) (drop from text) ≡ word_of (drop from text)
unfolding word_of
word_is text from end e = let n : end - from ≡ word_size (drop from text) = omega arith in ap (λ (k : ℕ). take k (drop from text)) n

-- ---- two words

same_is : (a b : List ℕ) → pointwise eqb a b ≡ same a b
unfolding same
same_is [] [] = refl
same_is [] (y ∷ b) = refl
same_is (x ∷ a) [] = refl
same_is (x ∷ a) (y ∷ b) = ap (λ (t : Bool). eqb x y && t) (same_is a b)

-- what `==` answered of a word and a part with these bytes
pub same_as : (w : List ℕ) {a b : List ℕ} {r t : Bool} → a ≡ b → r ≡ pointwise eqb w a → r ≡ t → same w b ≡ t
same_as w {a} {b} q h e = sym (same_is w b) ∙ sym (ap (pointwise eqb w) q) ∙ sym h ∙ e

-- ---- digits

module _ (l : List ℕ) (i n : ℕ) (h : i < length l) where
  digit_is : is_digit (get_or l i 0) ≡ true → (48 ≤ get_or l i 0) × (get_or l i 0 ≤ 57)
  unfolding is_digit
  digit_is e = (grind (arith, nat_tests), grind (arith, nat_tests))

  ends_not : (b : ℕ) → ends_word b ≡ true → ends_word (get_or l i 0) ≡ false → get_or l i 0 ≡ b → ⊥
  ends_not b t f x = absurd (let z : ◌≡◌ {A = Bool} true false = sym t ∙ sym (ap ends_word x) ∙ f in cc)

  digit_none : is_digit (get_or l i 0) ≡ false → ends_word (get_or l i 0) ≡ false → digits_from n (word_of (drop i l)) ≡ None
  unfolding digits_from
  digit_none e f = rw (word_byte l i h (ends_not 32 refl f) (ends_not 10 refl f), e)

  digit_ends : ends_word (get_or l i 0) ≡ true → word_size (drop i l) ≡ 0
  unfolding word_size
  digit_ends f = rw (drop-cons l i 0 h, f)

  module _ (d : ℕ) (q : d ≡ get_or l i 0 - 48) (e : is_digit (get_or l i 0) ≡ true) where
    pub digit_size : word_size (drop i l) ≡ 1 + word_size (drop (i + 1) l)
    digit_size =
        let s : suc i ≡ i + 1 = omega arith in
        let b = digit_is e in
        let n = word_next l i h (λ x. absurd (omega arith)) (λ x. absurd (omega arith)) in
        omega (arith, n, ap (λ (x : ℕ). word_size (drop x l)) s)

    pub digit_next : digits_from n (word_of (drop i l)) ≡ digits_from (n * 10 + d) (word_of (drop (i + 1) l))
    unfolding digits_from
    digit_next =
        let s : suc i ≡ i + 1 = omega arith in
        let b = digit_is e in
        rw (word_byte l i h (λ x. absurd (omega arith)) (λ x. absurd (omega arith)), e, q, s)

pub digit_end : (l : List ℕ) (n : ℕ) → word_size l ≡ 0 → digits_from n (word_of l) ≡ Some n
unfolding digits_from
digit_end l n e = rw (word_empty l e)

-- digits never make a number smaller
pub upto_over : (most n : ℕ) (w : List ℕ) → most < n → up_to most (digits_from n w) ≡ None
unfolding digits_from up_to
upto_over most n [] h = rw (lt-leb n most h)
upto_over most n (c ∷ w) h = step (is_digit c) (upto_over most (n * 10 + (c - 48)) w (omega arith)) where
  step : (t : Bool) → up_to most (digits_from (n * 10 + (c - 48)) w) ≡ None → up_to most (cond t (digits_from (n * 10 + (c - 48)) w) None) ≡ None
  step true k = k
  step false k = refl

upto_none : (most : ℕ) {o : Option ℕ} → o ≡ None → up_to most o ≡ None
unfolding up_to
upto_none most e = rw e

upto_some : (most n : ℕ) {o : Option ℕ} → o ≡ Some n → n ≤ most → up_to most o ≡ Some n
unfolding up_to
upto_some most n e h = rw (e, le-leb n most h)

-- where the word ends: the number come to
module _ (l : List ℕ) (most i n : ℕ) where
  pub digits_all :
      {size : ℕ} → n ≤ most → digits_from 0 (word_of l) ≡ digits_from n (word_of (drop i l)) → word_size (drop i l) ≡ 0 → size ≡ word_size l
      → said (up_to most (digits_from 0 (word_of l))) l ≡ Some (record { number = n; size = size })
  unfolding said
  digits_all few left e is = rw (upto_some most n (left ∙ digit_end (drop i l) n e) few, is)

  pub digit_last :
      (t : Bool) → i < length l → n ≤ most → word_size l ≡ i + word_size (drop i l) → digits_from 0 (word_of l) ≡ digits_from n (word_of (drop i l))
      → is_digit (get_or l i 0) ≡ false → t ≡ ends_word (get_or l i 0)
      → cond t (Some (record { number = n; size = i })) None ≡ said (up_to most (digits_from 0 (word_of l))) l
  unfolding said
  digit_last true h few width left e q =
      let z = digit_ends l i n h (sym q) in
      sym (digits_all few left z (omega (arith, width, z)))
  digit_last false h few width left e q = rw (upto_none most (left ∙ digit_none l i n h e (sym q)))

-- ---- decimal numbers

-- a number without leading zeros is the digits' where there is one
module _ (most : ℕ) where
  number_empty : (w : List ℕ) → length w < 1 → number_to most w ≡ None
  unfolding number_to number_of up_to
  number_empty [] h = refl
  number_empty (c ∷ w) h = absurd (omega arith)

  number_zero : (w : List ℕ) → 2 ≤ length w → get_or w 0 0 ≡ 48 → number_to most w ≡ None
  unfolding number_to number_of up_to
  number_zero [] h e = absurd (omega arith)
  number_zero (c ∷ []) h e = absurd (omega arith)
  number_zero (c ∷ d ∷ w) h e = rw (eq-eqb c 48 e)

  number_digits : (w : List ℕ) → 1 ≤ length w → (2 ≤ length w → get_or w 0 0 ≡ 48 → ⊥) → number_to most w ≡ up_to most (digits_from 0 w)
  unfolding number_to number_of
  number_digits [] h e = absurd (omega arith)
  number_digits (c ∷ []) h e = refl
  number_digits (c ∷ d ∷ w) h e = rw (ne_eqb c 48 (e (omega arith)))

  number_over : (w : List ℕ) → up_to most (digits_from 0 w) ≡ None → number_to most w ≡ None
  unfolding number_to number_of up_to
  number_over [] e = refl
  number_over (c ∷ []) e = e
  number_over (c ∷ d ∷ w) e = step (eqb c 48) where
    step : (t : Bool) → up_to most (cond t None (digits_from 0 (c ∷ d ∷ w))) ≡ None
    step true = refl
    step false = e

-- ---- what a word says

pub said_none : (o : Option ℕ) (l : List ℕ) → said o l ≡ None → o ≡ None
unfolding said
said_none None l e = refl
said_none (Some n) l e = absurd (cc)

pub said_some : (o : Option ℕ) (l : List ℕ) (w : Word) → said o l ≡ Some w → (o ≡ Some w.number) × (w.size ≡ word_size l)
unfolding said
said_some None l w e = absurd (cc)
said_some (Some m) l w e =
    let q : ◌≡◌ {A = Word} (record { number = m; size = word_size l }) w = cc in
    (ap (λ (v : Word). Some v.number) q, sym (ap (λ (v : Word). v.size) q))

pub said_or :
    (a b : Option ℕ) (l : List ℕ) (r s : Option Word) → r ≡ said a l → MatchOption r (s ≡ said b l) (λ w. s ≡ Some w)
    → s ≡ said (a or_else b) l
unfolding said
said_or None b l r s e h = rw (or_else_next b refl) (rw e at h)
said_or (Some n) b l r s e h = rw (or_else_first {x = n} b refl) (rw e at h)

or_assoc : (a b d : Option ℕ) → (a or_else b) or_else d ≡ a or_else (b or_else d)
or_assoc None b d = ap (λ (o : Option ℕ). o or_else d) (or_else_next b refl) ∙ sym (or_else_next (b or_else d) refl)
or_assoc (Some n) b d = or_else_first {x = n} d (or_else_first b refl) ∙ sym (or_else_first (b or_else d) refl)

pub said_or_or :
    (a b d : Option ℕ) (l : List ℕ) (r s t : Option Word) → r ≡ said a l → MatchOption r (s ≡ said b l) (λ w. s ≡ Some w)
    → MatchOption s (t ≡ said d l) (λ w. t ≡ Some w) → t ≡ said (a or_else (b or_else d)) l
said_or_or a b d l r s t e f g = said_or (a or_else b) d l s t (said_or a b l r s e f) g ∙ ap (λ (o : Option ℕ). said o l) (or_assoc a b d)

module _ (l : List ℕ) where
  size : length (word_of l) ≡ word_size l
  unfolding word_of
  size = length-take-le (word_size l) l (word_most l)

  first : 0 < word_size l → get_or (word_of l) 0 0 ≡ get_or l 0 0
  unfolding word_of
  first h = get_or-take (word_size l) l 0 0 h

  module _ (most : ℕ) where
    pub number_none : said (up_to most (digits_from 0 (word_of l))) l ≡ None → said (number_to most (word_of l)) l ≡ None
    unfolding said
    number_none e = rw (number_over most (word_of l) (said_none _ l e))

    module _ (w : Word) (e : said (up_to most (digits_from 0 (word_of l))) l ≡ Some w) where
      of_size : w.size ≡ length (word_of l)
      of_size = (said_some _ l w e).1 ∙ sym size

      pub number_inside : w.size ≤ length l
      number_inside = omega (arith, (said_some _ l w e).1, word_most l)

      pub number_no_digit : w.size ≡ 0 → said (number_to most (word_of l)) l ≡ None
      unfolding said
      number_no_digit h = let q = of_size in rw (number_empty most (word_of l) (omega arith))

      pub number_leading : 1 < w.size → get_or l 0 0 ≡ 48 → said (number_to most (word_of l)) l ≡ None
      unfolding said
      number_leading h z =
          let q = of_size in
          rw (number_zero most (word_of l) (omega arith) (first (omega (arith, size)) ∙ z))

      pub number_some : (w.size ≡ 0 → ⊥) → (1 < w.size → get_or l 0 0 ≡ 48 → ⊥) → said (number_to most (word_of l)) l ≡ Some w
      number_some h z =
          let q = of_size in
          rw (number_digits most (word_of l) (omega arith) (λ k x. z (omega arith) (sym (first (omega (arith, size))) ∙ x))) e

-- a number behind a letter
module _ (letter base most : ℕ) (high : 32 < letter) where
  pub letter_other : (l : List ℕ) → (0 < length l → get_or l 0 0 ≡ letter → ⊥) → said (lettered letter base most (word_of l)) l ≡ None
  unfolding said lettered word_of word_size
  letter_other [] h = refl
  letter_other (c ∷ l) h = step (ends_word c) where
    step : (t : Bool) → said (lettered letter base most (take (cond t 0 (suc (word_size l))) (c ∷ l))) (c ∷ l) ≡ None
    step true = refl
    step false = rw (ne_eqb c letter (h (omega arith)))

  module _ (l : List ℕ) (some_byte : 0 < length l) (e : get_or l 0 0 ≡ letter) where
    letter_word : word_of l ≡ letter ∷ word_of (drop 1 l)
    letter_word = word_byte l 0 some_byte (λ x. absurd (omega arith)) (λ x. absurd (omega arith)) ∙ rw e

    letter_size : word_size l ≡ 1 + word_size (drop 1 l)
    letter_size = let n = word_next l 0 some_byte (λ x. absurd (omega arith)) (λ x. absurd (omega arith)) in omega arith

    letter_is : lettered letter base most (word_of l) ≡ above base (number_to most (word_of (drop 1 l)))
    unfolding lettered
    letter_is = rw (letter_word, eq-eqb letter letter refl)

    pub letter_none : said (number_to most (word_of (drop 1 l))) (drop 1 l) ≡ None → said (lettered letter base most (word_of l)) l ≡ None
    unfolding said above
    letter_none h = rw (letter_is, said_none _ (drop 1 l) h)

    pub letter_some :
        (w : Word) → said (number_to most (word_of (drop 1 l))) (drop 1 l) ≡ Some w
        → (said (lettered letter base most (word_of l)) l ≡ Some (record { number = base + w.number; size = 1 + w.size }))
        × (w.number ≤ most) × (1 + w.size ≤ length l)
    unfolding said above
    letter_some w h =
        let q = said_some _ (drop 1 l) w h in
        (rw (letter_is, q.0, q.1, letter_size), number_most most (word_of (drop 1 l)) w.number q.0, omega (arith, q.1, letter_size, word_most l))

-- the word of a name, of which only what tells is read: no more bytes than the name has, and one
cut_short : (l : List ℕ) (m : ℕ) → word_size l ≤ m → word_size (take m l) ≡ word_size l
unfolding word_size
cut_short [] zero h = refl
cut_short [] (suc m) h = refl
cut_short (c ∷ l) zero h = omega (arith, h)
cut_short (c ∷ l) (suc m) h = step (ends_word c) h (cut_short l m) where
  step :
      (t : Bool) → cond t 0 (suc (word_size l)) ≤ suc m → (word_size l ≤ m → word_size (take m l) ≡ word_size l)
      → cond t 0 (suc (word_size (take m l))) ≡ cond t 0 (suc (word_size l))
  step true h g = refl
  step false h g = ap suc (g (omega arith))

cut_long : (l : List ℕ) (m : ℕ) → m ≤ word_size l → word_size (take m l) ≡ m
unfolding word_size
cut_long l zero h = refl
cut_long [] (suc m) h = absurd (omega (arith, h))
cut_long (c ∷ l) (suc m) h = step (ends_word c) h (cut_long l m) where
  step :
      (t : Bool) → suc m ≤ cond t 0 (suc (word_size l)) → (m ≤ word_size l → word_size (take m l) ≡ m)
      → cond t 0 (suc (word_size (take m l))) ≡ suc m
  step true h g = absurd (omega arith)
  step false h g = ap suc (g (omega arith))

same_long : (a b : List ℕ) → same a b ≡ true → length a ≡ length b
unfolding same
same_long [] [] e = refl
same_long [] (y ∷ b) e = absurd (cc)
same_long (x ∷ a) [] e = absurd (cc)
same_long (x ∷ a) (y ∷ b) e = step (eqb x y) (same_long a b) e where
  step : (t : Bool) → (same a b ≡ true → length a ≡ length b) → (t && same a b) ≡ true → suc (length a) ≡ suc (length b)
  step true g e = ap suc (g e)
  step false g e = absurd (cc)

module _ (l name : List ℕ) (n near size : ℕ) (most : near ≡ min (length l) (length name + 1)) (is : size ≡ word_size (take near l)) where
  pub near_inside : size ≤ length l
  near_inside = omega (arith, is, word_most (take near l), length-take-le near l (omega (arith, most, min-le_left (length l) (length name + 1))))

  near_or : length l ≤ near ⊎ length name + 1 ≤ near
  near_or = step (ltb (length l) (length name + 1)) refl where
    step : (t : Bool) → ltb (length l) (length name + 1) ≡ t → length l ≤ near ⊎ length name + 1 ≤ near
    step true k = inl (omega (arith, ltb-true _ _ k, most ∙ min-eq_left (omega (arith, ltb-true _ _ k))))
    step false k = inr (omega (arith, most ∙ min-eq_right (ltb-false _ _ k)))

  -- a word that is no longer than the name is read whole
  whole : word_size l ≤ length name → size ≡ word_size l
  whole h = is ∙ cut_short l near (step near_or) where
    step : length l ≤ near ⊎ length name + 1 ≤ near → word_size l ≤ near
    step (inl k) = omega (arith, k, word_most l)
    step (inr k) = omega (arith, k, h)

  -- of a longer one as much as tells
  longer : length name < word_size l → size ≡ length name + 1
  longer h =
      let all : near ≡ length name + 1 = most ∙ min-eq_right (omega (arith, h, word_most l)) in
      is ∙ cut_long l near (omega (arith, all, h)) ∙ all

  pub name_is : pointwise eqb (take size l) name ≡ true → said (named name n (word_of l)) l ≡ Some (record { number = n; size = size })
  unfolding said named word_of
  name_is e =
      let like : same (take size l) name ≡ true = sym (same_is (take size l) name) ∙ e in
      let long = same_long _ _ like in
      let cut = length-take-le size l near_inside in
      let q = whole (step (ltb (length name) (word_size l)) refl (omega (arith, long, cut))) in
      rw (← q, like, q) where
        step : (t : Bool) → ltb (length name) (word_size l) ≡ t → size ≡ length name → word_size l ≤ length name
        step true k h = absurd (omega (arith, h, longer (ltb-true _ _ k)))
        step false k h = ltb-false _ _ k

  pub name_other : pointwise eqb (take size l) name ≡ false → said (named name n (word_of l)) l ≡ None
  unfolding said named word_of
  name_other e = step (ltb (length name) (word_size l)) refl where
    other : (t : Bool) → same (take (word_size l) l) name ≡ t → length name < word_size l → t ≡ false
    other true e h = absurd (omega (arith, h, same_long _ _ e, length-take-le (word_size l) l (word_most l)))
    other false e h = refl

    step : (t : Bool) → ltb (length name) (word_size l) ≡ t → said (named name n (word_of l)) l ≡ None
    step true k = rw (other _ refl (ltb-true _ _ k))
    step false k = let q = whole (ltb-false _ _ k) in rw (← q, sym (same_is (take size l) name) ∙ e)
