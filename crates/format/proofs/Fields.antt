-- The check's tests of a record, and the same in plain numbers (`IsRecord`), both ways. Assumes nothing.
--     type_is, is_type_lem          is_type and IsType
--     rising_nil, rising_cons, rising_one, rising_parts   a rising list, by its first element
--     members_rising, rising_members    bad_member finds none in such a list, and in no other
--     formed_is, is_formed      Formed and IsRecord
--     record_rule, record_constraint    IsRecord, of a rule and of a constraint
--     field_inside              a bad field lies within its record
--     formed_more               a record stays one where there are more groups
--     group_record, constraint_record   a group's record and a constraint's, from their parts
use Prim.Native.Nat.{ℕ, zero, suc, ◌+◌, ◌-◌, ◌*◌, ◌/◌, ◌%◌, ◌≤◌, ◌<◌}
use mathlib.Core.Path.{◌≡◌, refl, sym, ap, ◌∙◌}
use mathlib.Core.Logic.{◌⊎◌, inl, inr}
use mathlib.Core.Bool.{Bool, true, false, ◌&&◌, cond}
use Rattle.std.specs.Prelude.{Option, None, Some}
use mathlib.Core.List.{List, [], ◌∷◌}
use native.Mathlib.Omega.{arith}
use lib.ListN.{length, get_or, drop, length-drop}
use lib.Dec.{leb, ltb, eqb}
use borrow.Author.Tests.{leb-true, ltb-true, eqb-true, eqb-false, le-leb, lt-ltb, le-ltb, eq-eqb}
use Rattle.format.specs.declared.Section.{Section}
use Rattle.format.specs.declared.Section.TheVariants.{Groups, Rules, Constraints}
use Rattle.format.specs.Bytes.{word_at, words}
use Rattle.format.specs.Refusals.{need, ◌or_else◌}
use Rattle.format.specs.Format.{kind_in, length_ok, is_type, is_condition, list_ok, shape_ok, bad_member, bad_type, bad_group, bad_allow, bad_transition, bad_constraint, bad_field}
use Rattle.format.specs.Inner.Places.{Rising}
use Rattle.format.specs.Claims.{IsType, IsGroup, IsAllow, IsTransition, IsConstraint, IsRecord}
use Rattle.format.proofs.Tests.{both, and_true, either, choose}
use Rattle.format.proofs.Chain.{or_else_split, or_else_none, need_true, need_none}
use Rattle.format.proofs.Bytes.{length_words, words_nth}
use Rattle.format.proofs.Shapes.{Formed, length_cases, shape_length, shape_kind}

-- ---- types

pub type_is : (g t : ℕ) → is_type g t ≡ true → IsType g t
unfolding is_type
type_is g t e =
    either (ltb t 1024) (leb 32768 t && ltb (t - 32768) g) e
    (λ h. inl (ltb-true t 1024 h))
    (λ h. let q = both (leb 32768 t) (ltb (t - 32768) g) h in
    let low = leb-true 32768 t q.0 in
    inr (t - 32768, ltb-true (t - 32768) g q.1, omega arith))

pub is_type_lem : (g t : ℕ) → IsType g t → is_type g t ≡ true
unfolding is_type
is_type_lem g t (inl h) = simp (lt-ltb t 1024 h)
is_type_lem g t (inr q) =
    let e = q.2 in
    simp (le-ltb t 1024 (omega arith), le-leb 32768 t (omega arith), lt-ltb (t - 32768) g (omega (arith, q.1)))

module _ (g : ℕ) where
  pub types_hold : (at : ℕ) (ts : List ℕ) → bad_type g at ts ≡ None → (i : ℕ) → i < length ts → is_type g (get_or ts i 0) ≡ true
  unfolding bad_type
  types_hold at [] e i h = absurd (omega arith)
  types_hold at (t ∷ ts) e zero h = need_true _ _ (or_else_split (need (is_type g t) at) _ e).0
  types_hold at (t ∷ ts) e (suc i) h = types_hold (at + 2) ts (or_else_split (need (is_type g t) at) _ e).1 i (omega arith)

  pub hold_types : (at : ℕ) (ts : List ℕ) → ((i : ℕ) → i < length ts → is_type g (get_or ts i 0) ≡ true) → bad_type g at ts ≡ None
  unfolding bad_type
  hold_types at [] h = refl
  hold_types at (t ∷ ts) h = or_else_none (need_none _ (h 0 (omega arith))) (hold_types (at + 2) ts (λ i k. h (suc i) (omega arith)))

-- ---- members

pub rising_nil : (low : ℕ) → Rising low []
unfolding Rising
rising_nil low = tt

module _ (low m : ℕ) (ms : List ℕ) where
  pub rising_parts : Rising low (m ∷ ms) → (low ≤ m) × (m < 1024) × Rising (suc m) ms
  unfolding Rising
  rising_parts r = r

  pub rising_cons : low ≤ m → m < 1024 → Rising (suc m) ms → Rising low (m ∷ ms)
  unfolding Rising
  rising_cons h k r = (h, k, r)

pub rising_one : (m : ℕ) → m < 1024 → Rising 0 (m ∷ [])
rising_one m h = rising_cons 0 m [] (omega arith) h (rising_nil (suc m))

pub members_rising : (at low : ℕ) (ms : List ℕ) → bad_member at low ms ≡ None → Rising low ms
unfolding bad_member Rising
members_rising at low [] e = tt
members_rising at low (m ∷ ms) e =
    let q = or_else_split (need (leb low m && ltb m 1024) at) _ e in
    let t = both (leb low m) (ltb m 1024) (need_true _ _ q.0) in
    (leb-true low m t.0, ltb-true m 1024 t.1, members_rising (at + 2) (suc m) ms q.1)

pub rising_members : (at low : ℕ) (ms : List ℕ) → Rising low ms → bad_member at low ms ≡ None
unfolding bad_member Rising
rising_members at low [] r = refl
rising_members at low (m ∷ ms) r =
    or_else_none (need_none _ (and_true (le-leb low m r.0) (lt-ltb m 1024 r.1))) (rising_members (at + 2) (suc m) ms r.2)

pub rising_basic : (low : ℕ) (ms : List ℕ) → Rising low ms → (i : ℕ) → i < length ms → get_or ms i 0 < 1024
unfolding Rising
rising_basic low [] r i h = absurd (omega arith)
rising_basic low (m ∷ ms) r zero h = r.1
rising_basic low (m ∷ ms) r (suc i) h = rising_basic (suc m) ms r.2 i (omega arith)

rising_first : (low : ℕ) (ms : List ℕ) → Rising low ms → 0 < length ms → low ≤ get_or ms 0 0
unfolding Rising
rising_first low [] r h = absurd (omega arith)
rising_first low (m ∷ ms) r h = r.0

pub rising_steps : (low : ℕ) (ms : List ℕ) → Rising low ms → (i : ℕ) → suc i < length ms → get_or ms i 0 < get_or ms (suc i) 0
unfolding Rising
rising_steps low [] r i h = absurd (omega arith)
rising_steps low (m ∷ ms) r zero h = omega (arith, rising_first (suc m) ms r.2 (omega arith))
rising_steps low (m ∷ ms) r (suc i) h = rising_steps (suc m) ms r.2 i (omega arith)

pub steps_rising :
    (low : ℕ) (ms : List ℕ) → ((i : ℕ) → i < length ms → get_or ms i 0 < 1024) → ((i : ℕ) → suc i < length ms → get_or ms i 0 < get_or ms (suc i) 0)
    → (0 < length ms → low ≤ get_or ms 0 0)
    → Rising low ms
unfolding Rising
steps_rising low [] b s f = tt
steps_rising low (m ∷ ms) b s f = (
  f (omega arith),
  b 0 (omega arith),
  steps_rising (suc m) ms (λ i h. b (suc i) (omega arith)) (λ i h. s (suc i) (omega arith)) (λ h. let k = s 0 (omega arith) in omega arith),
)

-- ---- records, by their kind

module _ (g : ℕ) (r : List ℕ) where
  pub field_group : get_or r 1 0 ≡ 1 → bad_field g r ≡ bad_group r
  unfolding bad_field
  field_group k = rw k

  pub field_allow : get_or r 1 0 ≡ 2 → bad_field g r ≡ bad_allow g r
  unfolding bad_field
  field_allow k = rw k

  pub field_transition : get_or r 1 0 ≡ 3 → bad_field g r ≡ bad_transition g r
  unfolding bad_field
  field_transition k = rw k

  pub field_constraint : get_or r 1 0 ≡ 4 → bad_field g r ≡ bad_constraint g r
  unfolding bad_field
  field_constraint k = rw k

  shape_is : (k : ℕ) → get_or r 1 0 ≡ k → get_or r 0 0 ≡ length r → length_ok k (length r) ≡ true → shape_ok r ≡ true
  unfolding shape_ok
  shape_is k e s h = and_true (eq-eqb (length r) (get_or r 0 0) (sym s)) (rw e h)

module _ (r : List ℕ) where
  group_is : bad_group r ≡ None → get_or r 0 0 ≡ length r → get_or r 1 0 ≡ 1 → 4 ≤ length r → length r ≤ 130 → length r % 2 ≡ 0 → IsGroup r ((length r - 2) / 2)
  unfolding bad_group
  group_is e s k low high even =
      let ms : List ℕ = words (drop 2 r) in
      let n : length ms ≡ (length r - 2) / 2 = length_words (drop 2 r) ∙ ap (λ (m : ℕ). m / 2) (length-drop 2 r) in
      let up = members_rising 2 0 ms e in
      record {
        size = (s, omega arith);
        kind = k;
        some = omega arith;
        most = omega arith;
        basic = λ i h. let q : i < length ms = omega arith in rw (words_nth r 2 i q) at (rising_basic 0 ms up i q);
        rising = λ i h.
            (let q : suc i < length ms = omega arith in
            let p : i < length ms = omega arith in
            rw (words_nth r 2 i p, words_nth r 2 (suc i) q) at (rising_steps 0 ms up i q));
      }

  is_group : (n : ℕ) → IsGroup r n → bad_group r ≡ None
  unfolding bad_group
  is_group n f =
      let ms : List ℕ = words (drop 2 r) in
      let len = f.size.1 in
      let m : length ms ≡ n = length_words (drop 2 r) ∙ omega (arith, length-drop 2 r) in
      rising_members 2 0 ms
      (steps_rising 0 ms
      (λ i h. rw (words_nth r 2 i h) (f.basic i (omega arith)))
      (λ i h. let p : i < length ms = omega arith in rw (words_nth r 2 i p, words_nth r 2 (suc i) h) (f.rising i (omega arith)))
      (λ h. omega arith))

list_cases : (p n : ℕ) → list_ok p n ≡ true → (p ≤ 3) × (p ≡ 2 → 1 ≤ n) × ((p ≡ 2 → ⊥) → n ≡ 0)
unfolding list_ok
list_cases p n e =
    choose p 2 _ _ e
    (λ h q. let k = ltb-true 0 n q in (omega arith, λ _. k, λ no. absurd (no h)))
    (λ q. let b = both (leb p 3) (eqb n 0) q in (leb-true p 3 b.0, no b, λ _. eqb-true n 0 b.1))
  where
    no : (leb p 3 ≡ true) × (eqb n 0 ≡ true) → p ≡ 2 → 1 ≤ n
    no b h = let k : ltb 0 n ≡ true = rw h at e in ltb-true 0 n k

cases_list : (p n : ℕ) → p ≤ 3 → (p ≡ 2 → 1 ≤ n) → ((p ≡ 2 → ⊥) → n ≡ 0) → list_ok p n ≡ true
unfolding list_ok
cases_list p n h f g = go (eqb p 2) refl
  where
    go : (b : Bool) → eqb p 2 ≡ b → cond (eqb p 2) (ltb 0 n) (leb p 3 && eqb n 0) ≡ true
    go true e = simp (e, lt-ltb 0 n (f (eqb-true p 2 e)))
    go false e = simp (e, le-leb p 3 h, eq-eqb n 0 (g (eqb-false p 2 e)))

module _ (g : ℕ) (r : List ℕ) where
  allow_is : bad_allow g r ≡ None → get_or r 0 0 ≡ length r → get_or r 1 0 ≡ 2 → length r ≡ 11 → IsAllow g r
  unfolding bad_allow is_condition
  allow_is e s k n =
      let a = or_else_split (need (is_type g (word_at r 2)) 2) _ e in
      let b = or_else_split (need (is_type g (word_at r 4)) 4) _ a.1 in
      record {
        size = (s, n);
        kind = k;
        source = type_is g _ (need_true _ _ a.0);
        dest = type_is g _ (need_true _ _ b.0);
        condition = leb-true (get_or r 10 0) 33 (need_true _ _ b.1);
      }

  is_allow : IsAllow g r → bad_allow g r ≡ None
  unfolding bad_allow is_condition
  is_allow f =
      or_else_none (need_none _ (is_type_lem g _ f.source))
      (or_else_none (need_none _ (is_type_lem g _ f.dest)) (need_none _ (le-leb (get_or r 10 0) 33 f.condition)))

  transition_is : bad_transition g r ≡ None → get_or r 0 0 ≡ length r → get_or r 1 0 ≡ 3 → length r ≡ 8 → IsTransition g r
  unfolding bad_transition
  transition_is e s k n =
      let a = or_else_split (need (is_type g (word_at r 2)) 2) _ e in
      record { size = (s, n); kind = k; source = type_is g _ (need_true _ _ a.0); dest = type_is g _ (need_true _ _ a.1) }

  is_transition : IsTransition g r → bad_transition g r ≡ None
  unfolding bad_transition
  is_transition f = or_else_none (need_none _ (is_type_lem g _ f.source)) (need_none _ (is_type_lem g _ f.dest))

  constraint_is :
      bad_constraint g r ≡ None → get_or r 0 0 ≡ length r → get_or r 1 0 ≡ 4 → 11 ≤ length r → length r ≤ 43 → length r % 2 ≡ 1
      → IsConstraint g r ((length r - 11) / 2)
  unfolding bad_constraint
  constraint_is e s k low high odd =
      let ts : List ℕ = words (drop 11 r) in
      let n : length ts ≡ (length r - 11) / 2 = length_words (drop 11 r) ∙ ap (λ (m : ℕ). m / 2) (length-drop 11 r) in
      let a = or_else_split (need (is_type g (word_at r 6)) 6) _ e in
      let b = or_else_split (need (is_type g (word_at r 8)) 8) _ a.1 in
      let c = or_else_split (need (list_ok (get_or r 10 0) (length ts)) 10) _ b.1 in
      let p = list_cases (get_or r 10 0) (length ts) (need_true _ _ c.0) in
      record {
        size = (s, omega arith);
        kind = k;
        first = type_is g _ (need_true _ _ a.0);
        second = type_is g _ (need_true _ _ b.0);
        predicate = p.0;
        listed = λ h. omega (arith, p.1 h);
        unlisted = λ h. omega (arith, p.2 h);
        most = omega arith;
        list = λ i h. let q : i < length ts = omega arith in type_is g _ (rw (words_nth r 11 i q) at (types_hold g 11 ts c.1 i q));
      }

  is_constraint : (n : ℕ) → IsConstraint g r n → bad_constraint g r ≡ None
  unfolding bad_constraint
  is_constraint n f =
      let ts : List ℕ = words (drop 11 r) in
      let len = f.size.1 in
      let m : length ts ≡ n = length_words (drop 11 r) ∙ omega (arith, length-drop 11 r) in
      or_else_none (need_none _ (is_type_lem g _ f.first))
      (or_else_none (need_none _ (is_type_lem g _ f.second))
      (or_else_none (need_none _ (cases_list (get_or r 10 0) (length ts) f.predicate (λ h. omega (arith, f.listed h)) (λ h. omega (arith, f.unlisted h))))
      (hold_types g 11 ts (λ i h. rw (words_nth r 11 i h) (is_type_lem g _ (f.list i (omega arith)))))))

-- ---- a record of a section

module _ (g : ℕ) (r : List ℕ) where
  pub formed_is : (s : Section) → Formed s g r → IsRecord s g r
  unfolding IsRecord kind_in
  formed_is Groups f =
      let k = eqb-true (get_or r 1 0) 1 f.kind in
      length_cases (get_or r 1 0) (length r) (shape_kind r f.shape)
      (λ _ low high even. (_, group_is r (sym (field_group g r k) ∙ f.fields) (sym (shape_length r f.shape)) k low high even))
      (λ j _. absurd (omega arith)) (λ j _. absurd (omega arith)) (λ j _ _ _. absurd (omega arith))
  formed_is Rules f =
      let b = both (leb 2 (get_or r 1 0)) (leb (get_or r 1 0) 3) f.kind in
      let low = leb-true 2 (get_or r 1 0) b.0 in
      let high = leb-true (get_or r 1 0) 3 b.1 in
      let s = sym (shape_length r f.shape) in
      length_cases (get_or r 1 0) (length r) (shape_kind r f.shape)
      (λ j _ _ _. absurd (omega arith))
      (λ j n. inl (allow_is g r (sym (field_allow g r j) ∙ f.fields) s j n))
      (λ j n. inr (transition_is g r (sym (field_transition g r j) ∙ f.fields) s j n))
      (λ j _ _ _. absurd (omega arith))
  formed_is Constraints f =
      let k = eqb-true (get_or r 1 0) 4 f.kind in
      length_cases (get_or r 1 0) (length r) (shape_kind r f.shape)
      (λ j _ _ _. absurd (omega arith)) (λ j _. absurd (omega arith)) (λ j _. absurd (omega arith))
      (λ _ low high odd. (_, constraint_is g r (sym (field_constraint g r k) ∙ f.fields) (sym (shape_length r f.shape)) k low high odd))

  allow_formed : IsAllow g r → Formed Rules g r
  unfolding kind_in length_ok
  allow_formed f =
      record {
        shape = shape_is g r 2 f.kind f.size.0 (eq-eqb (length r) 11 f.size.1);
        kind = rw f.kind refl;
        fields = field_allow g r f.kind ∙ is_allow g r f;
      }

  transition_formed : IsTransition g r → Formed Rules g r
  unfolding kind_in length_ok
  transition_formed f =
      record {
        shape = shape_is g r 3 f.kind f.size.0 (eq-eqb (length r) 8 f.size.1);
        kind = rw f.kind refl;
        fields = field_transition g r f.kind ∙ is_transition g r f;
      }

  pub is_formed : (s : Section) → IsRecord s g r → Formed s g r
  unfolding IsRecord kind_in length_ok
  is_formed Groups q =
      let f = q.1 in
      let len = f.size.1 in
      let low = f.some in
      let high = f.most in
      record {
        shape = shape_is g r 1 f.kind f.size.0
            (and_true (and_true (le-leb 4 (length r) (omega arith)) (le-leb (length r) 130 (omega arith))) (eq-eqb (length r % 2) 0 (omega arith)));
        kind = eq-eqb (get_or r 1 0) 1 f.kind;
        fields = field_group g r f.kind ∙ is_group r q.0 f;
      }
  is_formed Rules (inl f) = allow_formed f
  is_formed Rules (inr f) = transition_formed f
  is_formed Constraints q =
      let f = q.1 in
      let len = f.size.1 in
      let high = f.most in
      record {
        shape = shape_is g r 4 f.kind f.size.0
            (and_true (and_true (le-leb 11 (length r) (omega arith)) (le-leb (length r) 43 (omega arith))) (eq-eqb (length r % 2) 1 (omega arith)));
        kind = eq-eqb (get_or r 1 0) 4 f.kind;
        fields = field_constraint g r f.kind ∙ is_constraint g r q.0 f;
      }

module _ (g : ℕ) (r : List ℕ) where
  pub record_group : IsRecord Groups g r → (n : ℕ) × IsGroup r n
  unfolding IsRecord
  record_group f = f

  pub record_rule : IsRecord Rules g r → IsAllow g r ⊎ IsTransition g r
  unfolding IsRecord
  record_rule f = f

  pub rule_record : IsAllow g r ⊎ IsTransition g r → IsRecord Rules g r
  unfolding IsRecord
  rule_record f = f

  pub record_constraint : IsRecord Constraints g r → (n : ℕ) × IsConstraint g r n
  unfolding IsRecord
  record_constraint f = f

-- ---- a bad field's place lies within its record

abbrev pub Below : Option ℕ → ℕ → Type 0
Below None n = Unit
Below (Some i) n = i < n

below_need : (t : Bool) (i n : ℕ) → i < n → Below (need t i) n
unfolding need
below_need true i n h = tt
below_need false i n h = h

below_or_else : (a b : Option ℕ) (n : ℕ) → Below a n → Below b n → Below (a or_else b) n
unfolding ◌or_else◌
below_or_else None b n h k = k
below_or_else (Some i) b n h k = h

below_member : (at low n : ℕ) (ms : List ℕ) → at + 2 * length ms ≤ n → Below (bad_member at low ms) n
unfolding bad_member
below_member at low n [] h = tt
below_member at low n (m ∷ ms) h =
    below_or_else (need (leb low m && ltb m 1024) at) (bad_member (at + 2) (suc m) ms) n
    (below_need (leb low m && ltb m 1024) at n (omega arith)) (below_member (at + 2) (suc m) n ms (omega arith))

below_type : (g at n : ℕ) (ts : List ℕ) → at + 2 * length ts ≤ n → Below (bad_type g at ts) n
unfolding bad_type
below_type g at n [] h = tt
below_type g at n (t ∷ ts) h =
    below_or_else (need (is_type g t) at) (bad_type g (at + 2) ts) n (below_need (is_type g t) at n (omega arith)) (below_type g (at + 2) n ts (omega arith))

module _ (g : ℕ) (r : List ℕ) where
  below_group : 2 ≤ length r → Below (bad_group r) (length r)
  unfolding bad_group
  below_group h = below_member 2 0 (length r) (words (drop 2 r)) (omega (arith, length_words (drop 2 r), length-drop 2 r))

  below_allow : 11 ≤ length r → Below (bad_allow g r) (length r)
  unfolding bad_allow
  below_allow h =
      below_or_else (need (is_type g (word_at r 2)) 2) _ (length r) (below_need (is_type g (word_at r 2)) 2 (length r) (omega arith))
      (below_or_else (need (is_type g (word_at r 4)) 4) _ (length r) (below_need (is_type g (word_at r 4)) 4 (length r) (omega arith))
      (below_need (is_condition (get_or r 10 0)) 10 (length r) (omega arith)))

  below_transition : 8 ≤ length r → Below (bad_transition g r) (length r)
  unfolding bad_transition
  below_transition h =
      below_or_else (need (is_type g (word_at r 2)) 2) _ (length r) (below_need (is_type g (word_at r 2)) 2 (length r) (omega arith))
      (below_need (is_type g (word_at r 4)) 4 (length r) (omega arith))

  below_constraint : 11 ≤ length r → Below (bad_constraint g r) (length r)
  unfolding bad_constraint
  below_constraint h =
      below_or_else (need (is_type g (word_at r 6)) 6) _ (length r) (below_need (is_type g (word_at r 6)) 6 (length r) (omega arith))
      (below_or_else (need (is_type g (word_at r 8)) 8) _ (length r) (below_need (is_type g (word_at r 8)) 8 (length r) (omega arith))
      (below_or_else (need (list_ok (get_or r 10 0) (length (words (drop 11 r)))) 10) _ (length r)
      (below_need (list_ok (get_or r 10 0) (length (words (drop 11 r)))) 10 (length r) (omega arith))
      (below_type g 11 (length r) (words (drop 11 r)) (omega (arith, length_words (drop 11 r), length-drop 11 r)))))

  below_field : shape_ok r ≡ true → Below (bad_field g r) (length r)
  below_field e =
      length_cases (get_or r 1 0) (length r) (shape_kind r e)
      (λ k h _ _. rw (field_group g r k) (below_group (omega arith)))
      (λ k h. rw (field_allow g r k) (below_allow (omega arith)))
      (λ k h. rw (field_transition g r k) (below_transition (omega arith)))
      (λ k h _ _. rw (field_constraint g r k) (below_constraint h))

  pub field_inside : (i : ℕ) → shape_ok r ≡ true → bad_field g r ≡ Some i → i < length r
  field_inside i e q = rw q at (below_field e)

-- ---- what is a record where there are g groups is one where there are more

type_more : (g g' t : ℕ) → g ≤ g' → IsType g t → IsType g' t
type_more g g' t h (inl k) = inl k
type_more g g' t h (inr q) = inr (q.0, omega (arith, q.1), q.2)

record_more : (g g' : ℕ) (r : List ℕ) → g ≤ g' → (s : Section) → IsRecord s g r → IsRecord s g' r
unfolding IsRecord
record_more g g' r h Groups q = q
record_more g g' r h Rules (inl f) =
    inl (record { size = f.size; kind = f.kind; source = type_more g g' _ h f.source; dest = type_more g g' _ h f.dest; condition = f.condition })
record_more g g' r h Rules (inr f) =
    inr (record { size = f.size; kind = f.kind; source = type_more g g' _ h f.source; dest = type_more g g' _ h f.dest })
record_more g g' r h Constraints q =
    let f = q.1 in (
      q.0,
      record {
        size = f.size;
        kind = f.kind;
        first = type_more g g' _ h f.first;
        second = type_more g g' _ h f.second;
        predicate = f.predicate;
        listed = f.listed;
        unlisted = f.unlisted;
        most = f.most;
        list = λ i k. type_more g g' _ h (f.list i k);
      },
    )

pub formed_more : (g g' : ℕ) (r : List ℕ) (s : Section) → g ≤ g' → Formed s g r → Formed s g' r
formed_more g g' r s h f = is_formed g' r s (record_more g g' r h s (formed_is g r s f))

-- a group names no group
pub group_any : (g g' : ℕ) (r : List ℕ) → Formed Groups g r → Formed Groups g' r
unfolding IsRecord
group_any g g' r f = is_formed g' r Groups (formed_is g r Groups f)

-- ---- a record from its parts

module _ (g : ℕ) (r : List ℕ) where
  pub group_record : (n : ℕ) × IsGroup r n → IsRecord Groups g r
  unfolding IsRecord
  group_record f = f

  pub constraint_record : (n : ℕ) × IsConstraint g r n → IsRecord Constraints g r
  unfolding IsRecord
  constraint_record f = f
