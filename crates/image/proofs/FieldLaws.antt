-- Laws of a record's fields, one for each way that a turn of a walk over them goes. Assumes nothing.
use Prim.Native.Nat.{ℕ, zero, suc, ◌+◌, ◌-◌, ◌*◌, ◌/◌, ◌%◌, ◌≤◌, ◌<◌}
use mathlib.Core.Path.{◌≡◌, refl, sym, ap, ◌∙◌}
use mathlib.Core.Bool.{Bool, true, false, ◌&&◌}
use Rattle.std.specs.Prelude.{Option, None, Some, Ok, Err}
use mathlib.Core.List.{List, [], ◌∷◌}
use native.Mathlib.Omega.{arith}
use native.Mathlib.Numerals.{add-one}
use Rattle.std.proofs.Math.Nat.{add_comm}
use lib.ListN.{length, get_or, take, drop, length-drop}
use lib.Seq.{take_all, length-take-le, drop-drop, get_or-take, get_or-drop}
use lib.Dec.{ltb}
use borrow.Author.Tests.{lt-ltb, le-ltb, le-leb, lt-leb, ltb-true, ltb-false}
use Rattle.std.specs.Prelude.{fold}
use Rattle.std.specs.List.{zip}
use Rattle.std.proofs.lemmas.Slice.Zip.{length-zip, get_or-zip}
use Rattle.std.specs.Simd.{first_chunks}
use Rattle.format.specs.declared.Misread.TheVariants.{BadField}
use Rattle.format.specs.Bytes.{word_at, words}
use Rattle.format.specs.Refusals.{need, ◌or_else◌}
use Rattle.format.specs.Format.{is_type, bad_member, bad_type, bad_group}
use Rattle.format.specs.Check.{read_fields}
use Rattle.format.proofs.Tests.{false_not_true}
use Rattle.format.proofs.Bytes.{words_next, words_end}
use Rattle.image.proofs.WalkLaws.{part_from}

-- a negated test of what a call answered, said of the definition that the answer equals
pub told_false : {r x : Bool} → r ≡ x → r ≡ false → x ≡ false
told_false e h = sym e ∙ h

pub told_true : {r x : Bool} → r ≡ x → r ≡ true → x ≡ true
told_true e h = sym e ∙ h

pub read_bad : (n : ℕ) {i : ℕ} {f : Option ℕ} → f ≡ Some i → Err (BadField i) ≡ read_fields f n
unfolding read_fields
read_bad n e = rw e

pub read_good : (n : ℕ) {f : Option ℕ} → f ≡ None → Ok n ≡ read_fields f n
unfolding read_fields
read_good n e = rw e

-- ---- the bytes from a place on, cut into pairs

-- the number in a pair
abbrev pub pair_word : List ℕ → ℕ
pair_word pair = get_or pair 0 0 * 256 + get_or pair 1 0

pair_at : (n i : ℕ) (l d : List ℕ) → i < n → get_or (first_chunks 2 n l) i d ≡ take 2 (drop (2 * i) l)
pair_at zero i l d h = absurd (omega arith)
pair_at (suc n) zero l d h = refl
pair_at (suc n) (suc i) l d h =
    pair_at n i (drop 2 l) d (omega arith) ∙ ap (take 2) (drop-drop (2 * i) 2 l ∙ ap (λ (k : ℕ). drop k l) (omega arith))

-- the pairs that `as_chunks` gives of a part from a place on
pub record Pairs (p : List ℕ) (from : ℕ) (pairs : List (List ℕ)) : Type 0 where
  pub cut : pairs ≡ first_chunks 2 (length (drop from p) / 2) (drop from p)
  pub many : length pairs ≡ length (drop from p) / 2

pub pairs_of :
    (p : List ℕ) (from : ℕ) (pairs : List (List ℕ))
    → pairs ≡ first_chunks 2 (length (take (length p - from) (drop from p)) / 2) (take (length p - from) (drop from p))
    → length pairs ≡ length (take (length p - from) (drop from p)) / 2 → Pairs p from pairs
pairs_of p from pairs e n =
    record {
      cut = e ∙ ap (λ (l : List ℕ). first_chunks 2 (length l / 2) l) (part_from p from);
      many = n ∙ ap (λ (l : List ℕ). length l / 2) (part_from p from);
    }

module _ (p : List ℕ) (from : ℕ) (pairs : List (List ℕ)) (cut : Pairs p from pairs) where
  pub pairs_inside : (i : ℕ) → i < length pairs → from + 2 * i + 1 < length p
  pairs_inside i h = omega (arith, cut.many, length-drop from p)

  pub pairs_past : from ≤ length p → length p ≤ from + 2 * length pairs + 1
  pairs_past h = omega (arith, cut.many, length-drop from p)

  pub pairs_word : (i : ℕ) (d : List ℕ) → i < length pairs → pair_word (get_or pairs i d) ≡ word_at p (from + 2 * i)
  unfolding word_at
  pairs_word i d h =
      let l : List ℕ = drop from p in
      let e : get_or pairs i d ≡ take 2 (drop (2 * i) l) = ap (λ (x : List (List ℕ)). get_or x i d) cut.cut ∙ pair_at _ i l d (omega (arith, cut.many)) in
      let q : take 2 (drop (2 * i) l) ≡ take 2 (drop (from + 2 * i) p) = ap (take 2) (drop-drop (2 * i) from p) in
      let k : List ℕ = drop (from + 2 * i) p in
      let high : get_or (take 2 k) 0 0 ≡ get_or p (from + 2 * i) 0 = byte 0 (omega arith) ∙ ap (λ (x : ℕ). get_or p x 0) (omega arith) in
      let low : get_or (take 2 k) 1 0 ≡ get_or p (from + 2 * i + 1) 0 = byte 1 (omega arith) in
      ap pair_word (e ∙ q) ∙ rw (high, low) refl
    where
      byte : (j : ℕ) → j < 2 → get_or (take 2 (drop (from + 2 * i) p)) j 0 ≡ get_or p (from + 2 * i + j) 0
      byte j m = get_or-take 2 (drop (from + 2 * i) p) j 0 m ∙ get_or-drop (from + 2 * i) p j 0

module _ (p : List ℕ) (at low : ℕ) where
  pub members_end : length p ≤ at + 1 → bad_member at low (words (drop at p)) ≡ None
  unfolding bad_member
  members_end h = rw (words_end p at h)

  module _ (m : ℕ) (is : m ≡ word_at p at) (h : at + 1 < length p) where
    pub members_low : m < low → bad_member at low (words (drop at p)) ≡ Some at
    unfolding bad_member need ◌or_else◌
    members_low k = rw (words_next p at h) (simp (lt-leb low (word_at p at) (omega arith)))

    pub members_high : low ≤ m → 1024 ≤ m → bad_member at low (words (drop at p)) ≡ Some at
    unfolding bad_member need ◌or_else◌
    members_high k j = rw (words_next p at h) (simp (le-leb low (word_at p at) (omega arith), le-ltb (word_at p at) 1024 (omega arith)))

    pub members_next : low ≤ m → m < 1024 → bad_member at low (words (drop at p)) ≡ bad_member (at + 2) (m + 1) (words (drop (at + 2) p))
    unfolding bad_member need ◌or_else◌
    members_next k j =
        rw (words_next p at h, is, add-one) (simp (le-leb low (word_at p at) (omega arith), lt-ltb (word_at p at) 1024 (omega arith)))

-- the member m at a place is a basic type, and those behind it rise
pub record Good (p : List ℕ) (at m : ℕ) : Type 0 where
  pub is : m ≡ word_at p at
  pub room : at + 1 < length p
  pub basic : m < 1024
  pub rest : bad_member at m (words (drop at p)) ≡ None

module _ (p : List ℕ) (at m : ℕ) where
  pub good_last : m ≡ word_at p at → at + 2 ≡ length p → m < 1024 → Good p at m
  good_last is end h =
      record {
        is = is;
        room = omega arith;
        basic = h;
        rest = members_next p at m m is (omega arith) (omega arith) h ∙ members_end p (at + 2) (m + 1) (omega arith);
      }

  module _ (g : Good p at m) where
    lower : (k : ℕ) → k ≤ m → bad_member at k (words (drop at p)) ≡ None
    lower k h =
        members_next p at k m g.is g.room h g.basic ∙ sym (members_next p at m m g.is g.room (omega arith) g.basic) ∙ g.rest

    pub good_before : (a k : ℕ) → a + 2 ≡ at → k ≡ word_at p a → k < m → Good p a k
    good_before a k e is h =
        record {
          is = is;
          room = omega (arith, g.room);
          basic = omega (arith, g.basic);
          rest = members_next p a k k is (omega (arith, g.room)) (omega arith) (omega (arith, g.basic)) ∙ rw e (lower (k + 1) (omega arith));
        }

    pub good_group : at ≡ 2 → bad_group p ≡ None
    unfolding bad_group
    good_group e = rw e at (lower 0 (omega arith))

-- ---- a group's members

-- a fold that asks each of the list and found each so
fold_false : {X : Type 0} (t : X → Bool) (xs : List X) → fold (λ (r : Bool) (x : X). r && t x) false xs ≡ false
fold_false t [] = refl
fold_false t (x ∷ xs) = fold_false t xs

fold_each :
    {X : Type 0} (t : X → Bool) (xs : List X) → fold (λ (r : Bool) (x : X). r && t x) true xs ≡ true
    → (k : ℕ) (d : X) → k < length xs → t (get_or xs k d) ≡ true
fold_each t [] e k d h = absurd (omega arith)
fold_each {X} t (x ∷ xs) e k d h = go (fold_each t xs) (t x) refl k h
  where
    go : (fold (λ (r : Bool) (x : X). r && t x) true xs ≡ true → (k : ℕ) (d : X) → k < length xs → t (get_or xs k d) ≡ true)
        → (b : Bool) → t x ≡ b → (k : ℕ) → k < length (x ∷ xs) → t (get_or (x ∷ xs) k d) ≡ true
    go each true is zero h = is
    go each true is (suc k) h = each (ap (λ (r : Bool). fold (λ (r : Bool) (x : X). r && t x) r xs) (sym is) ∙ e) k d (omega arith)
    go each false is k h = absurd (false_not_true (sym (fold_false t xs) ∙ ap (λ (r : Bool). fold (λ (r : Bool) (x : X). r && t x) r xs) (sym is) ∙ e))

-- whether the number in the first of two pairs is below that in the second
abbrev pub pair_below : List ℕ × List ℕ → Bool
pair_below p = ltb (pair_word p.0) (pair_word p.1)

-- each member of a group is below the next
module _ (p : List ℕ) (pairs : List (List ℕ)) (cut : Pairs p 2 pairs) where
  abbrev pub Rises : Type 0
  Rises = (k : ℕ) → k + 1 < length pairs → word_at p (2 + 2 * k) < word_at p (2 + 2 * (k + 1))

  -- so said of a pair and of the next
  next_above : (k : ℕ) → k + 1 < length pairs → pair_word (get_or pairs k []) < pair_word (get_or pairs (k + 1) []) → word_at p (2 + 2 * k) < word_at p (2 + 2 * (k + 1))
  next_above k h below = omega (arith, below, pairs_word p 2 pairs cut k [] (omega arith), pairs_word p 2 pairs cut (k + 1) [] h)

  -- many at a time
  pub folded_rise : fold (λ (r : Bool) (p : List ℕ × List ℕ). r && pair_below p) true (zip pairs (take (length pairs - 1) (drop 1 pairs))) ≡ true → Rises
  folded_rise rise k h =
      let rest : List (List ℕ) = drop 1 pairs in
      let long : length rest ≡ length pairs - 1 = length-drop 1 pairs in
      let all : fold (λ (r : Bool) (p : List ℕ × List ℕ). r && pair_below p) true (zip pairs rest) ≡ true =
      rw (sym (take_all (length pairs - 1) rest (omega arith))) rise in
      let each = fold_each pair_below (zip pairs rest) all k ([], []) (omega (arith, length-zip pairs rest)) in
      let here = ltb-true _ _ (rw (get_or-zip pairs rest k ([], []) (omega arith) (omega arith)) at each) in
      let next = ap pair_word (get_or-drop 1 pairs k []) ∙ ap (λ (i : ℕ). pair_word (get_or pairs i [])) (add_comm 1 k) in
      next_above k h (omega (arith, here, next))

  -- one after the other: the first, those behind it, and how many these are
  pub first_word : 0 < length pairs → pair_word (get_or pairs 0 []) ≡ word_at p 2
  first_word h = pairs_word p 2 pairs cut 0 [] h

  pub next_many : length (take (length pairs - 1) (drop 1 pairs)) ≡ length pairs - 1
  next_many = length-take-le (length pairs - 1) (drop 1 pairs) (omega (arith, length-drop 1 pairs))

  pub next_word : (k : ℕ) → k + 1 < length pairs → pair_word (get_or (take (length pairs - 1) (drop 1 pairs)) k []) ≡ word_at p (2 + 2 * (k + 1))
  next_word k h =
      ap (λ (l : List (List ℕ)). pair_word (get_or l k [])) (take_all (length pairs - 1) (drop 1 pairs) (omega (arith, length-drop 1 pairs)))
      ∙ ap pair_word (get_or-drop 1 pairs k [])
      ∙ ap (λ (i : ℕ). pair_word (get_or pairs i [])) (add_comm 1 k)
      ∙ pairs_word p 2 pairs cut (k + 1) [] h

-- the members up to a place rise, and the next one is above the last of them
pub rise_more :
    (p : List ℕ) (i last next : ℕ) → last ≡ word_at p (2 + 2 * i) → next ≡ word_at p (2 + 2 * (i + 1)) → last < next
    → ((k : ℕ) → k < i → word_at p (2 + 2 * k) < word_at p (2 + 2 * (k + 1)))
    → (k : ℕ) → k < i + 1 → word_at p (2 + 2 * k) < word_at p (2 + 2 * (k + 1))
rise_more p i last next here is above rise k h = step (ltb k i) refl where
  step : (t : Bool) → ltb k i ≡ t → word_at p (2 + 2 * k) < word_at p (2 + 2 * (k + 1))
  step true e = rise k (ltb-true _ _ e)
  step false e = let same : k ≡ i = omega (arith, ltb-false _ _ e) in rw same (omega (arith, here, is, above))

-- members that rise, of which the last is below 1,024
module _ (p : List ℕ) (pairs : List (List ℕ)) (cut : Pairs p 2 pairs) (even : length p % 2 ≡ 0) (Some : 4 ≤ length p)
    (basic : word_at p (length p - 2) < 1024) (rises : Rises p pairs cut) where
  many : 2 + 2 * length pairs ≡ length p
  many = omega (arith, cut.many, length-drop 2 p)

  good_from : (t k : ℕ) → t + k + 1 ≡ length pairs → Good p (2 + 2 * k) (word_at p (2 + 2 * k))
  good_from zero k e =
      let m = many in
      let last : 2 + 2 * k ≡ length p - 2 = omega arith in
      good_last p (2 + 2 * k) _ refl (omega arith) (rw last basic)
  good_from (suc t) k e =
      good_before p (2 + 2 * (k + 1)) _ (good_from t (k + 1) (omega arith)) (2 + 2 * k) _ (omega arith) refl (rises k (omega arith))

  pub rising_group : bad_group p ≡ None
  rising_group = let m = many in good_group p 2 _ (good_from (length pairs - 1) 0 (omega arith)) refl

module _ (p : List ℕ) (g at : ℕ) where
  pub types_end : length p ≤ at + 1 → bad_type g at (words (drop at p)) ≡ None
  unfolding bad_type
  types_end h = rw (words_end p at h)

  pub types_bad : at + 1 < length p → is_type g (word_at p at) ≡ false → bad_type g at (words (drop at p)) ≡ Some at
  unfolding bad_type need ◌or_else◌
  types_bad h e = rw (words_next p at h) (simp e)

  pub types_next : at + 1 < length p → is_type g (word_at p at) ≡ true → bad_type g at (words (drop at p)) ≡ bad_type g (at + 2) (words (drop (at + 2) p))
  unfolding bad_type need ◌or_else◌
  types_next h e = rw (words_next p at h) (simp e)
