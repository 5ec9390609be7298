-- Laws of one record: its length by its kind, its bytes in the image, and what reading it says. Assumes nothing.
--     Formed s g r        the record r passes the check's tests for a section, where there are g groups
--     length_cases        the four kinds, with their lengths
--     shape_most          no record is longer than 130 bytes
--     first_whole         a record whose length byte is its length is the one that it starts with
--     read_whole, whole_read   the reader finds a whole record where the record is formed, and nowhere else
--     read_malformed, read_bad_field   what the other answers say
use Prim.Native.Nat.{ℕ, ◌+◌, ◌%◌, ◌≤◌, ◌<◌}
use mathlib.Core.Path.{◌≡◌, refl, sym, ap, ◌∙◌}
use mathlib.Core.Bool.{Bool, true, false, ◌&&◌, cond}
use Rattle.std.specs.Prelude.{Option, None, Some, Ok, Err}
use mathlib.Core.List.{List, ◌∷◌}
use native.Mathlib.Omega.{arith}
use native.Mathlib.Nat.{add-zero, add_assoc}
use lib.ListN.{length, get_or, take, drop, length-take, length-drop}
use lib.Seq.{get_or-take, get_or-drop, take-length}
use lib.Dec.{eqb, leb}
use borrow.Author.Tests.{eqb-true, leb-true, eq-eqb, le-leb}
use Rattle.format.specs.declared.Section.{Section}
use Rattle.format.specs.Check.{Read}
use Rattle.format.specs.declared.Misread.TheVariants.{Malformed, BadField}
use Rattle.format.specs.Bytes.{word_at}
use Rattle.format.specs.Format.{kind_in, length_ok, first_record, shape_ok, bad_field}
use Rattle.format.specs.Policy.{record_at}
use Rattle.format.specs.Check.{read_fields, read_of, read_fault}
use Rattle.format.specs.Inner.Places.{Stands}
use Rattle.format.proofs.Tests.{both, choose, false_not_true, and_true}
use Rattle.format.proofs.Chain.{some_not_none}

pub record Formed (s : Section) (g : ℕ) (r : List ℕ) : Type 0 where
  pub shape : shape_ok r ≡ true
  pub kind : kind_in s (get_or r 1 0) ≡ true
  pub fields : bad_field g r ≡ None

pub length_cases :
    {C : Type 0} (k n : ℕ) → length_ok k n ≡ true
    → (k ≡ 1 → 4 ≤ n → n ≤ 130 → n % 2 ≡ 0 → C)
    → (k ≡ 2 → n ≡ 11 → C)
    → (k ≡ 3 → n ≡ 8 → C)
    → (k ≡ 4 → 11 ≤ n → n ≤ 43 → n % 2 ≡ 1 → C)
    → C
unfolding length_ok
length_cases {C} k n e f₁ f₂ f₃ f₄ =
    choose k 1 _ _ e
    (λ h q. let a = both (leb 4 n && leb n 130) (eqb (n % 2) 0) q in let b = both (leb 4 n) (leb n 130) a.0 in
    f₁ h (leb-true 4 n b.0) (leb-true n 130 b.1) (eqb-true (n % 2) 0 a.1))
    (λ e₂. choose k 2 _ _ e₂ (λ h q. f₂ h (eqb-true n 11 q))
    (λ e₃. choose k 3 _ _ e₃ (λ h q. f₃ h (eqb-true n 8 q))
    (λ e₄. choose k 4 _ _ e₄
    (λ h q. let a = both (leb 11 n && leb n 43) (eqb (n % 2) 1) q in let b = both (leb 11 n) (leb n 43) a.0 in
    f₄ h (leb-true 11 n b.0) (leb-true n 43 b.1) (eqb-true (n % 2) 1 a.1))
    (λ e₅. false_not_true e₅))))

pub length_least : (k n : ℕ) → length_ok k n ≡ true → 4 ≤ n
length_least k n e = length_cases k n e (λ _ a _ _. a) (λ _ a. omega arith) (λ _ a. omega arith) (λ _ a _ _. omega arith)

pub shape_length : (r : List ℕ) → shape_ok r ≡ true → length r ≡ get_or r 0 0
unfolding shape_ok
shape_length r e = eqb-true (length r) (get_or r 0 0) (both (eqb (length r) (get_or r 0 0)) (length_ok (get_or r 1 0) (length r)) e).0

pub shape_kind : (r : List ℕ) → shape_ok r ≡ true → length_ok (get_or r 1 0) (length r) ≡ true
unfolding shape_ok
shape_kind r e = (both (eqb (length r) (get_or r 0 0)) (length_ok (get_or r 1 0) (length r)) e).1

pub shape_most : (r : List ℕ) → shape_ok r ≡ true → length r ≤ 130
shape_most r e =
    length_cases (get_or r 1 0) (length r) (shape_kind r e) (λ _ _ h _. h) (λ _ h. omega arith) (λ _ h. omega arith) (λ _ _ h _. omega arith)

pub first_whole : (r : List ℕ) → get_or r 0 0 ≡ length r → first_record r ≡ r
unfolding first_record
first_whole r e = ap (λ (n : ℕ). take n r) e ∙ take-length r

pub stands : (l : List ℕ) (at : ℕ) → shape_ok (record_at l at) ≡ true → Stands l at (record_at l at)
unfolding record_at first_record
stands l at e =
    let s : List ℕ = drop at l in
    let n : ℕ = get_or s 0 0 in
    let r : List ℕ = take n s in
    let low = length_least (get_or r 1 0) (length r) (shape_kind r e) in
    let m = length-take n s in
    let f : get_or r 0 0 ≡ n = get_or-take n s 0 0 (omega arith) in
    let q : length r ≡ get_or r 0 0 = shape_length r e in
    let d = length-drop at l in
    let k : get_or s 0 0 ≡ get_or l at 0 = get_or-drop at l 0 0 ∙ ap (λ (i : ℕ). get_or l i 0) (add-zero at) in
    record {
      size = q ∙ f ∙ k;
      some = low;
      inside = omega arith;
      field = λ i h. get_or-take n s i 0 (omega arith) ∙ get_or-drop at l i 0;
    }

-- the record is the part of the image from its place on, as long as it is
pub record_part : (l : List ℕ) (at : ℕ) → Stands l at (record_at l at) → record_at l at ≡ take (length (record_at l at)) (drop at l)
unfolding record_at first_record
record_part l at s =
    let k : get_or (drop at l) 0 0 ≡ get_or l at 0 = get_or-drop at l 0 0 ∙ ap (λ (i : ℕ). get_or l i 0) (add-zero at) in
    ap (λ (n : ℕ). take n (drop at l)) (k ∙ sym s.size)

pub stands_word : (l : List ℕ) (at : ℕ) (r : List ℕ) (i : ℕ) → Stands l at r → i + 1 < length r → word_at r i ≡ word_at l (at + i)
unfolding word_at
stands_word l at r i s h = rw (s.field i (omega arith), s.field (i + 1) h, add_assoc)

fields_whole : (f : Option ℕ) (n m : ℕ) → read_fields f n ≡ Ok m → (f ≡ None) × (n ≡ m)
unfolding read_fields
fields_whole None n m e = (refl, cc)
fields_whole (Some i) n m e = let z : ◌≡◌ {A = ℕ} 0 1 = cc in absurd (omega arith)

pub read_whole : (s : Section) (g n : ℕ) (part : List ℕ) → read_of s g part ≡ Ok n → Formed s g (first_record part) × (length (first_record part) ≡ n)
unfolding read_of
read_whole s g n part e = go (shape_ok r && kind_in s (get_or r 1 0)) refl e
  where
    r : List ℕ
    r = first_record part

    go : (b : Bool) → (shape_ok r && kind_in s (get_or r 1 0)) ≡ b → cond b (read_fields (bad_field g r) (length r)) (Err Malformed) ≡ Ok n → Formed s g r × (length r ≡ n)
    go true h q =
        let a = both (shape_ok r) (kind_in s (get_or r 1 0)) h in
        let b = fields_whole (bad_field g r) (length r) n q in
        (record { shape = a.0; kind = a.1; fields = b.0 }, b.1)
    go false h q = let z : ◌≡◌ {A = ℕ} 0 1 = cc in absurd (omega arith)

pub whole_read : (s : Section) (g : ℕ) (part : List ℕ) → Formed s g (first_record part) → read_of s g part ≡ Ok (length (first_record part))
unfolding read_of read_fields
whole_read s g part f = simp (f.shape, f.kind, f.fields)

pub read_fault_none : (at : ℕ) (r : Read) → read_fault at r ≡ None → (n : ℕ) × (r ≡ Ok n)
unfolding read_fault
read_fault_none at (Ok n) e = (n, refl)
read_fault_none at (Err Malformed) e = some_not_none e
read_fault_none at (Err (BadField i)) e = some_not_none e

fields_bad : (f : Option ℕ) (n i : ℕ) → read_fields f n ≡ Err (BadField i) → f ≡ Some i
unfolding read_fields
fields_bad None n i e = let z : ◌≡◌ {A = ℕ} 0 1 = cc in absurd (omega arith)
fields_bad (Some j) n i e = cc

pub read_bad_field :
    (s : Section) (g i : ℕ) (part : List ℕ) → read_of s g part ≡ Err (BadField i)
    → (shape_ok (first_record part) ≡ true)
    × (bad_field g (first_record part) ≡ Some i)
    × (kind_in s (get_or (first_record part) 1 0) ≡ true)
unfolding read_of
read_bad_field s g i part e = go (shape_ok r && kind_in s (get_or r 1 0)) refl e
  where
    r : List ℕ
    r = first_record part

    go : (b : Bool) → (shape_ok r && kind_in s (get_or r 1 0)) ≡ b → cond b (read_fields (bad_field g r) (length r)) (Err Malformed) ≡ Err (BadField i)
        → (shape_ok r ≡ true) × (bad_field g r ≡ Some i) × (kind_in s (get_or r 1 0) ≡ true)
    go true h q = let a = both (shape_ok r) (kind_in s (get_or r 1 0)) h in (a.0, fields_bad (bad_field g r) (length r) i q, a.1)
    go false h q = let z : ◌≡◌ {A = ℕ} 0 1 = cc in absurd (omega arith)

fields_formed : (f : Option ℕ) (n : ℕ) → read_fields f n ≡ Err Malformed → ⊥
unfolding read_fields
fields_formed None n e = (let z : ◌≡◌ {A = ℕ} 0 1 = cc in omega arith)
fields_formed (Some i) n e = (let z : ◌≡◌ {A = ℕ} 0 1 = cc in omega arith)

pub read_malformed :
    (s : Section) (g : ℕ) (part : List ℕ) → read_of s g part ≡ Err Malformed → shape_ok (first_record part) ≡ true → kind_in s (get_or (first_record part) 1 0) ≡ true → ⊥
unfolding read_of
read_malformed s g part e h k = fields_formed (bad_field g (first_record part)) (length (first_record part)) (simp (h, k) at e)

-- ---- records that have their shape

-- of a length byte, a kind and fields
pub shape_of : (k : ℕ) (l : List ℕ) → length_ok k (2 + length l) ≡ true → shape_ok ((2 + length l) ∷ k ∷ l) ≡ true
unfolding shape_ok
shape_of k l h =
    let n : length ((2 + length l) ∷ k ∷ l) ≡ 2 + length l = omega arith in
    and_true (eq-eqb (length ((2 + length l) ∷ k ∷ l)) (2 + length l) n) (ap (length_ok k) n ∙ h)

-- the length of a record, by its kind
pub long_group_lem : (n : ℕ) → 4 ≤ n → n ≤ 130 → n % 2 ≡ 0 → length_ok 1 n ≡ true
unfolding length_ok
long_group_lem n a b c = and_true (and_true (le-leb 4 n a) (le-leb n 130 b)) (eq-eqb (n % 2) 0 c)

pub long_allow : (n : ℕ) → n ≡ 11 → length_ok 2 n ≡ true
unfolding length_ok
long_allow n a = eq-eqb n 11 a

pub long_transition : (n : ℕ) → n ≡ 8 → length_ok 3 n ≡ true
unfolding length_ok
long_transition n a = eq-eqb n 8 a

pub long_constraint_lem : (n : ℕ) → 11 ≤ n → n ≤ 43 → n % 2 ≡ 1 → length_ok 4 n ≡ true
unfolding length_ok
long_constraint_lem n a b c = and_true (and_true (le-leb 11 n a) (le-leb n 43 b)) (eq-eqb (n % 2) 1 c)
