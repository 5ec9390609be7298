-- Laws of the nearest: the greatest number that an element has, and the first element that has it. Assumes nothing.
--     greatest_le, greatest_attained   no element has more, and one has it
--     nearest_says      what the nearest says of the list
--     most_nearest      and nothing else says it; most_lowest: the element is the lowest with its number
--     nearest_from_lem      it is found in one pass
--     nearest_same      two functions that agree on the list
use Prim.Native.Nat.{ℕ, zero, suc, ◌+◌, ◌≤◌, ◌<◌, max}
use native.Mathlib.Omega.{arith}
use native.Mathlib.Nat.{le-max_left, le-max_right, max-le, max-eq_left, max-eq_right}
use mathlib.Core.Path.{◌≡◌, refl, sym, subst, ap, ◌∙◌}
use mathlib.Core.Logic.{⊎_elim}
use mathlib.Core.Bool.{Bool, false, cond}
use Rattle.std.specs.Prelude.{Option, None, Some}
use mathlib.Core.List.Memᴰ
use mathlib.Core.List.{List, [], ◌∷◌, Memᴰ}
use lib.ListN.{take}
use lib.Dec.{ltb, leb, eqb}
use borrow.Author.Tests.{leb-true, leb-false, le-leb, lt-leb, eqb-true, eqb-false, eq-eqb, ne_eqb, ltb-true, ltb-false, le-ltb}
use Rattle.format.proofs.Tests.{true_not_false}
use Rattle.decision.specs.Sets.{any_of}
use Rattle.decision.specs.Decide.{first_at, greatest, nearest_of, nearest_by, near, Nearest}
use Rattle.decision.specs.Lowest.{Lowest, Most}
use Rattle.decision.specs.Inner.OnePass.{nearer, nearest_from}
use Rattle.decision.proofs.Search.{by_test, any_of_intro, any_of_elim, any_of_none, any_of_none_intro, first_at_any, first_at_none, first_at_some, first_at_some_intro, is_found}

-- ---- the greatest

module _ {A : Type 0} (f : A → ℕ) where
  pub greatest_le : (xs : List A) (x : A) → Memᴰ x xs → f x ≤ greatest f xs
  unfolding greatest
  greatest_le [] x m = absurd (Memᴰ.not-nil m)
  greatest_le (y ∷ xs) x m =
      ⊎_elim
      (λ e. subst (λ z. f z ≤ max (f y) (greatest f xs)) (sym e) (le-max_left (f y) (greatest f xs)))
      (λ k. let a = greatest_le xs x k in let b = le-max_right (f y) (greatest f xs) in omega arith)
      (Memᴰ.cases_cons m)

  pub greatest_attained : (x : A) (xs : List A) → (z : A) × Memᴰ z (x ∷ xs) × (f z ≡ greatest f (x ∷ xs))
  unfolding greatest
  greatest_attained x [] = (x, Memᴰ.head refl, sym (max-eq_left (omega arith)))
  greatest_attained x (y ∷ ys) =
      by_test (leb (f x) (greatest f (y ∷ ys)))
      (λ h. let r = greatest_attained y ys in (r.0, Memᴰ.tail r.1, r.2 ∙ sym (max-eq_right (leb-true (f x) (greatest f (y ∷ ys)) h))))
      (λ h. let k = leb-false (f x) (greatest f (y ∷ ys)) h in (x, Memᴰ.head refl, sym (max-eq_left (omega arith))))

  greatest_least : (s : ℕ) (xs : List A) → ((x : A) → Memᴰ x xs → f x ≤ s) → greatest f xs ≤ s
  unfolding greatest
  greatest_least s [] h = omega arith
  greatest_least s (x ∷ xs) h = max-le (h x (Memᴰ.head refl)) (greatest_least s xs (λ z m. h z (Memᴰ.tail m)))

  none_attains : (xs : List A) → any_of (λ x. eqb (f x) (greatest f xs)) xs ≡ false → xs ≡ []
  none_attains [] e = refl
  none_attains (x ∷ xs) e =
      let r = greatest_attained x xs in
      true_not_false (sym (any_of_intro (λ y. eqb (f y) (greatest f (x ∷ xs))) r.1 (eq-eqb _ _ r.2)) ∙ e)

-- ---- what the nearest says

abbrev pub Says : {A : Type 0} → (A → ℕ) → List A → Nearest → Type 0
Says f xs None = xs ≡ []
Says f xs (Some x) = Most f xs x.steps x.rule

module _ {A : Type 0} (f : A → ℕ) (xs : List A) where
  abbrev top : ℕ
  top = greatest f xs

  abbrev has : A → Bool
  has x = eqb (f x) top

  first_most : (n : ℕ) → Lowest has xs n → Most f xs top n
  first_most n h =
      record {
        here = h.here;
        most = any_of_none_intro (λ x. ltb top (f x)) xs (λ x m. le-ltb top (f x) (greatest_le f xs x m));
        before = any_of_none_intro (λ x. leb top (f x)) (take n xs) (λ x m. below x (eqb-false (f x) top (any_of_none has h.before m)) (greatest_le f xs x (from_take n xs m)));
      }
    where
      below : (x : A) → (f x ≡ top → ⊥) → f x ≤ top → leb top (f x) ≡ false
      below x ne le = lt-leb top (f x) (omega arith)

      from_take : (k : ℕ) (ys : List A) {x : A} → Memᴰ x (take k ys) → Memᴰ x ys
      from_take zero ys m = absurd (Memᴰ.not-nil m)
      from_take (suc k) [] m = absurd (Memᴰ.not-nil m)
      from_take (suc k) (y ∷ ys) m = ⊎_elim (λ e. Memᴰ.head e) (λ t. Memᴰ.tail (from_take k ys t)) (Memᴰ.cases_cons m)

  says : (o : Option ℕ) → first_at has 0 xs ≡ o → Says f xs (nearest_of top o)
  unfolding nearest_of
  says None e = none_attains f xs (first_at_none has 0 xs e)
  says (Some n) e =
      let x = first_at_some has 0 n xs e in
      let z : x.0 ≡ n = omega (arith, x.1) in
      first_most n (subst (Lowest has xs) z x.2)

  pub nearest_says : Says f xs (nearest_by f xs)
  unfolding nearest_by
  nearest_says = says (first_at has 0 xs) refl

  module _ (s n : ℕ) (h : Most f xs s n) where
    pub most_lowest : Lowest (λ x. eqb (f x) s) xs n
    most_lowest =
        record {
          here = h.here;
          before = any_of_none_intro (λ x. eqb (f x) s) (take n xs) (λ x m. let k = leb-false s (f x) (any_of_none (λ y. leb s (f y)) h.before m) in ne_eqb (f x) s (λ e. absurd (omega arith)));
        }

    first_is : first_at (λ x. eqb (f x) s) 0 xs ≡ Some n
    first_is = let z : 0 + n ≡ n = omega arith in first_at_some_intro (λ x. eqb (f x) s) 0 n xs most_lowest ∙ ap Some z

    top_is : top ≡ s
    unfolding is_found
    top_is =
        let r = any_of_elim (λ x. eqb (f x) s) xs (sym (first_at_any (λ x. eqb (f x) s) 0 xs) ∙ ap is_found first_is) in
        let a = greatest_le f xs r.0 r.1 in
        let b = eqb-true (f r.0) s r.2 in
        let c = greatest_least f s xs (λ x m. ltb-false s (f x) (any_of_none (λ y. ltb s (f y)) h.most m)) in
        omega arith

    pub most_nearest : nearest_by f xs ≡ Some (near s n)
    unfolding nearest_by nearest_of
    most_nearest = ap (λ t. nearest_of t (first_at (λ x. eqb (f x) t) 0 xs)) top_is ∙ ap (nearest_of s) first_is

-- ---- in one pass

-- a nearest of t steps so far, then an element of s, then others of g at most
module _ (t s g : ℕ) (A B x : Nearest) where
  merge_over : t < s → cond (leb g s) B x ≡ cond (leb (max s g) t) A (cond (leb g s) B x)
  merge_over h = let k = le-max_left s g in simp (lt-leb (max s g) t (omega arith))

  merge_under : s ≤ t → cond (leb g t) A x ≡ cond (leb (max s g) t) A (cond (leb g s) B x)
  merge_under h =
      by_test (leb g t)
      (λ k. simp (k, le-leb (max s g) t (max-le h (leb-true g t k))))
      (λ k. let l = leb-false g t k in let u = le-max_right s g in
      simp (k, lt-leb (max s g) t (omega arith), lt-leb g s (omega arith)))

module _ {A : Type 0} (f : A → ℕ) where
  -- the nearest of elements that are counted from n
  abbrev those : ℕ → List A → Nearest
  those n xs = nearest_of (greatest f xs) (first_at (λ x. eqb (f x) (greatest f xs)) n xs)

  -- of an element and those after it, it is the nearest where none of them has more
  those_next : (n : ℕ) (x : A) (xs : List A) → those n (x ∷ xs) ≡ cond (leb (greatest f xs) (f x)) (Some (near (f x) n)) (those (suc n) xs)
  unfolding nearest_of first_at greatest
  those_next n x xs =
      by_test (leb (greatest f xs) (f x))
      (λ h. let e = max-eq_left (leb-true (greatest f xs) (f x) h) in simp (h, e, eq-eqb (f x) (f x) refl))
      (λ h. let k = leb-false (greatest f xs) (f x) h in
      let low : f x ≤ greatest f xs = omega arith in
      let e : max (f x) (greatest f xs) ≡ greatest f xs = max-eq_right low in
      ap (λ (m : ℕ). nearest_of m (cond (eqb (f x) m) (Some n) (first_at (λ y. eqb (f y) m) (suc n) xs))) e
      ∙ simp (h, ne_eqb (f x) (greatest f xs) (λ z. omega arith)))

  -- after a nearest so far, the elements left count where they have more
  from_near : (t m n : ℕ) (xs : List A) → nearest_from f (Some (near t m)) n xs ≡ cond (leb (greatest f xs) t) (Some (near t m)) (those n xs)
  unfolding nearest_from greatest nearer
  from_near t m n [] = simp (le-leb 0 t (omega arith))
  from_near t m n (x ∷ xs) =
      let s : ℕ = f x in
      by_test (ltb t s)
      (λ h. simp h (from_near s n (suc n) xs ∙ merge_over t s (greatest f xs) (Some (near t m)) (Some (near s n)) (those (suc n) xs) (ltb-true t s h)))
      (λ h. simp h (from_near t m (suc n) xs ∙ merge_under t s (greatest f xs) (Some (near t m)) (Some (near s n)) (those (suc n) xs) (ltb-false t s h)))
      ∙ ap (cond (leb (greatest f (x ∷ xs)) t) (Some (near t m))) (sym (those_next n x xs))

  pub nearest_from_lem : (xs : List A) → nearest_from f None 0 xs ≡ nearest_by f xs
  unfolding nearest_from nearer nearest_by nearest_of first_at
  nearest_from_lem [] = refl
  nearest_from_lem (x ∷ xs) = from_near (f x) 0 1 xs ∙ sym (those_next 0 x xs)

  module _ (g : A → ℕ) where
    from_same : (x : Nearest) (n : ℕ) (xs : List A) → ((y : A) → Memᴰ y xs → f y ≡ g y) → nearest_from f x n xs ≡ nearest_from g x n xs
    unfolding nearest_from
    from_same x n [] h = refl
    from_same x n (y ∷ xs) h =
        from_same (nearer x (f y) n) (suc n) xs (λ z m. h z (Memᴰ.tail m)) ∙ ap (λ s. nearest_from g (nearer x s n) (suc n) xs) (h y (Memᴰ.head refl))

    pub nearest_same : (xs : List A) → ((y : A) → Memᴰ y xs → f y ≡ g y) → nearest_by f xs ≡ nearest_from g None 0 xs
    nearest_same xs h = sym (nearest_from_lem xs) ∙ from_same None 0 xs h
