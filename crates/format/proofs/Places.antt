-- What stands at the places of an accepted image, for code that reads there. Assumes nothing.
--     words_at_none, words_at_next, words_at_one, words_at_length, words_at_nth   words from a place on
--     group_at, rule_at, constraint_at   each record of an accepted image is so
use Prim.Native.Nat.{ℕ, zero, suc, ◌+◌, ◌-◌, ◌*◌, ◌/◌, ◌<◌}
use mathlib.Core.Path.{◌≡◌, refl, sym, subst, ap, ◌∙◌}
use mathlib.Core.Logic.{◌⊎◌, inl, inr}
use mathlib.Core.List.{List, [], ◌∷◌}
use native.Mathlib.Omega.{arith}
use native.Mathlib.Nat.{add_assoc}
use lib.ListN.{length, get_or, drop, length-drop}
use lib.Seq.{ext_get_or}
use Rattle.format.specs.declared.Section.TheVariants.{Groups, Rules, Constraints}
use Rattle.format.specs.Bytes.{word_at, words}
use Rattle.format.specs.Format.{count_of}
use Rattle.format.specs.Policy.{record_at, place_of}
use Rattle.format.specs.Check.{Accepted}
use Rattle.format.specs.Claims.{IsType, IsAllow, IsTransition, IsRecord}
use Rattle.format.proofs.Bytes.{length_words, words_nth}
use Rattle.format.specs.Inner.Places.{Stands, words_at, GroupAt, RuleAt, ConstraintAt}
use Rattle.format.proofs.Shapes.{stands_word}
use Rattle.format.proofs.Fields.{steps_rising, formed_is}
use Rattle.format.proofs.Accepted.{record_formed, record_stands}

module _ (l : List ℕ) (n at : ℕ) where
  pub words_at_none : n ≡ 0 → words_at l n at ≡ []
  unfolding words_at
  words_at_none e = rw e

  pub words_at_next : (k : ℕ) → n ≡ suc k → words_at l n at ≡ word_at l at ∷ words_at l k (at + 2)
  unfolding words_at
  words_at_next k e = rw e

pub words_at_one : (l : List ℕ) (at : ℕ) → words_at l 1 at ≡ word_at l at ∷ []
unfolding words_at
words_at_one l at = refl

pub words_at_length : (l : List ℕ) (n at : ℕ) → length (words_at l n at) ≡ n
unfolding words_at
words_at_length l zero at = refl
words_at_length l (suc n) at = ap suc (words_at_length l n (at + 2))

pub words_at_nth : (l : List ℕ) (n at i : ℕ) → i < n → get_or (words_at l n at) i 0 ≡ word_at l (at + 2 * i)
unfolding words_at
words_at_nth l zero at i h = absurd (omega arith)
words_at_nth l (suc n) at zero h = ap (word_at l) (omega arith)
words_at_nth l (suc n) at (suc i) h = words_at_nth l n (at + 2) i (omega arith) ∙ ap (word_at l) (omega arith)

-- the words of a record from a field on, read in the image
pub record_words : (l : List ℕ) (at k n : ℕ) (r : List ℕ) → Stands l at r → length r ≡ k + 2 * n → words (drop k r) ≡ words_at l n (at + k)
record_words l at k n r s e =
    let m : length (words (drop k r)) ≡ n = length_words (drop k r) ∙ omega (arith, length-drop k r) in
    ext_get_or 0 (words (drop k r)) (words_at l n (at + k)) (m ∙ sym (words_at_length l n (at + k)))
    (λ i h. let j : i < n = omega arith in
    words_nth r k i h ∙ stands_word l at r (k + 2 * i) s (omega arith) ∙ ap (word_at l) (omega arith) ∙ sym (words_at_nth l n (at + k) i j))

module _ (l : List ℕ) (e : Accepted l) (n : ℕ) where
  pub group_at : n < count_of l Groups → GroupAt l (place_of l Groups n) (record_at l (place_of l Groups n))
  unfolding IsRecord
  group_at h =
      let at : ℕ = place_of l Groups n in
      let r : List ℕ = record_at l at in
      let s = record_stands l e Groups n h in
      let q = formed_is (count_of l Groups) r Groups (record_formed l e Groups n h) in
      let f = q.1 in
      let len = f.size.1 in
      let z = s.size in
      let k : (get_or l at 0 - 2) / 2 ≡ q.0 = omega arith in
      let ms : List ℕ = words (drop 2 r) in
      let m : length ms ≡ q.0 = length_words (drop 2 r) ∙ omega (arith, length-drop 2 r) in
      record {
        here = s;
        even = omega arith;
        members = record_words l at 2 q.0 r s len ∙ ap (λ (x : ℕ). words_at l x (at + 2)) (sym k);
        rising = steps_rising 0 ms (λ i j. rw (words_nth r 2 i j) (f.basic i (omega arith)))
            (λ i j. let p : i < length ms = omega arith in rw (words_nth r 2 i p, words_nth r 2 (suc i) j) (f.rising i (omega arith))) (λ j. omega arith);
      }

  rule_by : (r : List ℕ) → Stands l (place_of l Rules n) r → IsAllow (count_of l Groups) r ⊎ IsTransition (count_of l Groups) r → RuleAt l (place_of l Rules n) r
  rule_by r s (inl f) =
      let len = f.size.1 in
      let at : ℕ = place_of l Rules n in
      record {
        here = s;
        long = omega arith;
        kind = inl (sym (s.field 1 (omega arith)) ∙ f.kind, len);
        condition = λ _. omega (arith, s.field 10 (omega arith), f.condition);
        source = subst (IsType (count_of l Groups)) (stands_word l at r 2 s (omega arith)) f.source;
        dest = subst (IsType (count_of l Groups)) (stands_word l at r 4 s (omega arith)) f.dest;
      }
  rule_by r s (inr f) =
      let len = f.size.1 in
      let at : ℕ = place_of l Rules n in
      record {
        here = s;
        long = omega arith;
        kind = inr (sym (s.field 1 (omega arith)) ∙ f.kind);
        condition = λ k. absurd (omega (arith, k, s.field 1 (omega arith), f.kind));
        source = subst (IsType (count_of l Groups)) (stands_word l at r 2 s (omega arith)) f.source;
        dest = subst (IsType (count_of l Groups)) (stands_word l at r 4 s (omega arith)) f.dest;
      }

  pub rule_at : n < count_of l Rules → RuleAt l (place_of l Rules n) (record_at l (place_of l Rules n))
  unfolding IsRecord
  rule_at h =
      rule_by (record_at l (place_of l Rules n)) (record_stands l e Rules n h) (formed_is (count_of l Groups) (record_at l (place_of l Rules n)) Rules (record_formed l e Rules n h))

  pub constraint_at : n < count_of l Constraints → ConstraintAt l (place_of l Constraints n) (record_at l (place_of l Constraints n))
  unfolding IsRecord
  constraint_at h =
      let at : ℕ = place_of l Constraints n in
      let r : List ℕ = record_at l at in
      let s = record_stands l e Constraints n h in
      let q = formed_is (count_of l Groups) r Constraints (record_formed l e Constraints n h) in
      let f = q.1 in
      let len = f.size.1 in
      let z = s.size in
      let k : (get_or l at 0 - 11) / 2 ≡ q.0 = omega arith in
      record {
        here = s;
        long = omega arith;
        first = subst (IsType (count_of l Groups)) (stands_word l at r 6 s (omega arith)) f.first;
        second = subst (IsType (count_of l Groups)) (stands_word l at r 8 s (omega arith)) f.second;
        predicate = rw (s.field 10 (omega arith)) at f.predicate;
        list = record_words l at 11 q.0 r s len ∙ ap (λ (x : ℕ). words_at l x (at + 11)) (sym k);
        types = λ i j.
            (let b : i < q.0 = omega arith in
            subst (IsType (count_of l Groups)) (stands_word l at r (11 + 2 * i) s (omega arith) ∙ ap (word_at l) (sym (add_assoc at 11 (2 * i)))) (f.list i b));
        odd = omega arith;
      }
