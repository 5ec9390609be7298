-- Laws of the record reader, one for each way that it goes: what the record at the front of a part is, by the tests that
-- the reader makes in turn. n is the part's first byte. Assumes nothing.
use Prim.Native.Nat.{ℕ, ◌≤◌, ◌<◌, ◌%◌}
use mathlib.Core.Path.{◌≡◌, refl, sym, ap, ◌∙◌}
use mathlib.Core.Bool.{Bool, true, false}
use Rattle.std.specs.Prelude.{Option, Err}
use mathlib.Core.List.{List}
use native.Mathlib.Omega.{arith}
use lib.ListN.{length, get_or, take, length-take}
use lib.Seq.{get_or-take, length-take-le}
use borrow.Author.Tests.{eq-eqb}
use Rattle.format.specs.declared.Section.{Section}
use Rattle.format.specs.declared.Misread.TheVariants.{Malformed}
use Rattle.format.specs.Format.{kind_in, length_ok, first_record, shape_ok, bad_field}
use Rattle.format.specs.Check.{read_fields, read_of}
use Rattle.format.proofs.Tests.{and_true, false_not_true}
use Rattle.format.proofs.Shapes.{length_least, length_cases, shape_length, shape_kind}

-- a record that cannot have its shape is none
no_shape : (s : Section) (g : ℕ) (p : List ℕ) → (shape_ok (first_record p) ≡ true → read_of s g p ≡ Err Malformed) → read_of s g p ≡ Err Malformed
unfolding read_of
no_shape s g p f = go (shape_ok (first_record p)) refl
  where
    go : (b : Bool) → shape_ok (first_record p) ≡ b → read_of s g p ≡ Err Malformed
    go true e = f e
    go false e = simp e

-- what is known of the first record where it has its shape
record Front (p : List ℕ) : Type 0 where
  long : 4 ≤ length (first_record p)
  within : length (first_record p) ≤ length p
  size : length (first_record p) ≡ get_or p 0 0
  kind : get_or (first_record p) 1 0 ≡ get_or p 1 0
  fits : length_ok (get_or p 1 0) (get_or p 0 0) ≡ true

front : (p : List ℕ) → shape_ok (first_record p) ≡ true → Front p
unfolding first_record
front p e =
    let r : List ℕ = take (get_or p 0 0) p in
    let long = length_least (get_or r 1 0) (length r) (shape_kind r e) in
    let m = length-take (get_or p 0 0) p in
    let first : get_or r 0 0 ≡ get_or p 0 0 = get_or-take (get_or p 0 0) p 0 0 (omega arith) in
    let kind : get_or r 1 0 ≡ get_or p 1 0 = get_or-take (get_or p 0 0) p 1 0 (omega arith) in
    let size : length r ≡ get_or p 0 0 = shape_length r e ∙ first in
    record { long = long; within = omega arith; size = size; kind = kind; fits = rw (kind, size) at (shape_kind r e) }

module _ (s : Section) (g : ℕ) (p : List ℕ) (n : ℕ) (is : n ≡ get_or p 0 0) where
  pub read_tiny : length p < 2 → read_of s g p ≡ Err Malformed
  read_tiny h = no_shape s g p (λ e. let f = front p e in absurd (omega (arith, f.long, f.within)))

  pub read_past : length p < n → read_of s g p ≡ Err Malformed
  read_past h = no_shape s g p (λ e. let f = front p e in absurd (omega (arith, f.within, f.size)))

  pub read_kind : kind_in s (get_or p 1 0) ≡ false → read_of s g p ≡ Err Malformed
  unfolding read_of
  read_kind h = no_shape s g p (λ e. simp (e, ap (kind_in s) (front p e).kind ∙ h))

  pub read_length : length_ok (get_or p 1 0) n ≡ false → read_of s g p ≡ Err Malformed
  read_length h = no_shape s g p (λ e. false_not_true (sym (rw is at h) ∙ (front p e).fits))

  -- the record has its shape, and its fields are left
  module _ (fits : n ≤ length p) (kind : kind_in s (get_or p 1 0) ≡ true) (ok : length_ok (get_or p 1 0) n ≡ true) where
    pub whole_size : length (take n p) ≡ n
    whole_size = length-take-le n p fits

    pub whole_kind : get_or (take n p) 1 0 ≡ get_or p 1 0
    whole_kind = get_or-take n p 1 0 (omega (arith, length_least (get_or p 1 0) n ok))

    whole_first : get_or (take n p) 0 0 ≡ n
    whole_first = get_or-take n p 0 0 (omega (arith, length_least (get_or p 1 0) n ok)) ∙ sym is

    whole_shape : shape_ok (take n p) ≡ true
    unfolding shape_ok
    whole_shape = and_true (eq-eqb (length (take n p)) (get_or (take n p) 0 0) (whole_size ∙ sym whole_first)) (rw (whole_kind, whole_size) ok)

    first_is : first_record p ≡ take n p
    unfolding first_record
    first_is = ap (λ (k : ℕ). take k p) (sym is)

    pub read_fields_lem : (f : Option ℕ) → bad_field g (take n p) ≡ f → read_of s g p ≡ read_fields f (length (take n p))
    unfolding read_of
    read_fields_lem f e = rw first_is (simp (whole_shape, ap (kind_in s) whole_kind ∙ kind, e))

    -- the lengths that each kind has at least
    pub least_group : get_or p 1 0 ≡ 1 → (4 ≤ length (take n p)) × (length (take n p) % 2 ≡ 0)
    least_group k =
        rw whole_size
        (length_cases (get_or p 1 0) n ok (λ _ h _ even. (h, even)) (λ j _. absurd (omega arith)) (λ j _. absurd (omega arith)) (λ j _ _ _. absurd (omega arith)))

    pub least_allow : get_or p 1 0 ≡ 2 → 11 ≤ length (take n p)
    least_allow k =
        rw whole_size
        (length_cases (get_or p 1 0) n ok (λ j _ _ _. absurd (omega arith)) (λ _ h. omega arith) (λ j _. absurd (omega arith)) (λ _ h _ _. h))

    pub least_transition : get_or p 1 0 ≡ 3 → 8 ≤ length (take n p)
    least_transition k =
        rw whole_size
        (length_cases (get_or p 1 0) n ok (λ j _ _ _. absurd (omega arith)) (λ j _. absurd (omega arith)) (λ _ h. omega arith) (λ j _ _ _. absurd (omega arith)))

    pub rest_constraint : (get_or p 1 0 ≡ 1 → ⊥) → (get_or p 1 0 ≡ 2 → ⊥) → (get_or p 1 0 ≡ 3 → ⊥) → get_or p 1 0 ≡ 4
    rest_constraint a b c = length_cases (get_or p 1 0) n ok (λ j _ _ _. absurd (a j)) (λ j _. absurd (b j)) (λ j _. absurd (c j)) (λ j _ _ _. j)

    pub least_constraint : get_or p 1 0 ≡ 4 → 11 ≤ length (take n p)
    least_constraint k =
        rw whole_size
        (length_cases (get_or p 1 0) n ok (λ j _ _ _. absurd (omega arith)) (λ j _. absurd (omega arith)) (λ j _. absurd (omega arith)) (λ _ h _ _. h))
