-- Laws of searching a list: whether some element passes a test, whether each does, which is the first. Assumes nothing.
--     any_of_intro, any_of_elim     some element passes: both ways
--     any_of_none, any_of_none_intro   none passes: both ways
--     all_of_intro, all_of_elim     each passes: both ways
--     first_at_some, first_at_some_intro   the first is the lowest: both ways
--     lowest_inside, lowest_at, lowest_intro   the lowest is one of the list, and passes: by its place, both ways
--     none_at, none_intro         none of the first n passes: by their places, both ways
--     first_at_nil, first_at_next   the first of none, and of one element more
--     or_now o i b                 what is found, where it was o before and the element i passes or not
--     first_at_any                 there is a first where some element passes
--     first_at_none, first_at_none_intro   there is no first: both ways
--     any_of_map, first_at_map      over a map
--     any_of_same, first_at_same    two tests that agree
--     by_test                     by what a test says
--     member_at                   element n is one of the list
use Prim.Native.Nat.{ℕ, zero, suc, ◌+◌, ◌<◌}
use native.Mathlib.Omega.{arith}
use mathlib.Core.Path.{◌≡◌, refl, sym, subst, ap, ◌∙◌}
use mathlib.Core.Bool.{Bool, true, false, ◌||◌, cond}
use Rattle.std.specs.Prelude.{Option, None, Some}
use mathlib.Core.List.{List, [], ◌∷◌, map, Memᴰ}
use native.Mathlib.Nat.{not-suc-le-zero, le_of_suc-le-suc}
use lib.ListN.{length, get_or, take}
use Rattle.format.proofs.Chain.{some_not_none}
use Rattle.format.proofs.Tests.{both, and_true, either, neither, or_left, or_right, false_not_true, true_not_false}
use Rattle.decision.specs.Sets.{any_of, all_of}
use Rattle.decision.specs.Decide.{first_at}
use Rattle.decision.specs.Lowest.{Lowest}

unfoldable pub is_found : Option ℕ → Bool
is_found None = false
is_found (Some n) = true

pub by_test : {C : Type 0} (b : Bool) → (b ≡ true → C) → (b ≡ false → C) → C
by_test true f g = f refl
by_test false f g = g refl

pub member_at : {A : Type 0} (xs : List A) (n : ℕ) (d : A) → n < length xs → Memᴰ (get_or xs n d) xs
member_at [] n d h = absurd (not-suc-le-zero h)
member_at (x ∷ xs) zero d h = Memᴰ.head refl
member_at (x ∷ xs) (suc n) d h = Memᴰ.tail (member_at xs n d (le_of_suc-le-suc h))

abbrev pub or_now : Option ℕ → ℕ → Bool → Option ℕ
or_now None i b = cond b (Some i) None
or_now (Some n) i b = Some n

module _ {A : Type 0} (f : A → Bool) where
  pub any_of_intro : {x : A} {xs : List A} → Memᴰ x xs → f x ≡ true → any_of f xs ≡ true
  unfolding any_of
  any_of_intro (Memᴰ.head {x = y} {xs = ys} e) t = or_left (f y) (any_of f ys) (subst (λ z. f z ≡ true) e t)
  any_of_intro (Memᴰ.tail {x = y} {xs = ys} m) t = or_right (f y) (any_of f ys) (any_of_intro m t)

  pub any_of_elim : (xs : List A) → any_of f xs ≡ true → (x : A) × Memᴰ x xs × (f x ≡ true)
  unfolding any_of
  any_of_elim [] t = false_not_true t
  any_of_elim (x ∷ xs) t =
      either (f x) (any_of f xs) t
      (λ u. (x, Memᴰ.head refl, u))
      (λ u. let r = any_of_elim xs u in (r.0, Memᴰ.tail r.1, r.2))

  pub any_of_none : {x : A} {xs : List A} → any_of f xs ≡ false → Memᴰ x xs → f x ≡ false
  unfolding any_of
  any_of_none t (Memᴰ.head {x = y} {xs = ys} e) = subst (λ z. f z ≡ false) (sym e) (neither (f y) (any_of f ys) t).0
  any_of_none t (Memᴰ.tail {x = y} {xs = ys} m) = any_of_none (neither (f y) (any_of f ys) t).1 m

  pub any_of_none_intro : (xs : List A) → ((x : A) → Memᴰ x xs → f x ≡ false) → any_of f xs ≡ false
  unfolding any_of
  any_of_none_intro [] h = refl
  any_of_none_intro (x ∷ xs) h = rw (h x (Memᴰ.head refl), any_of_none_intro xs (λ z m. h z (Memᴰ.tail m))) refl

  pub all_of_elim : {x : A} {xs : List A} → all_of f xs ≡ true → Memᴰ x xs → f x ≡ true
  unfolding all_of
  all_of_elim t (Memᴰ.head {x = y} {xs = ys} e) = subst (λ z. f z ≡ true) (sym e) (both (f y) (all_of f ys) t).0
  all_of_elim t (Memᴰ.tail {x = y} {xs = ys} m) = all_of_elim (both (f y) (all_of f ys) t).1 m

  pub all_of_intro : (xs : List A) → ((x : A) → Memᴰ x xs → f x ≡ true) → all_of f xs ≡ true
  unfolding all_of
  all_of_intro [] h = refl
  all_of_intro (x ∷ xs) h = and_true (h x (Memᴰ.head refl)) (all_of_intro xs (λ z m. h z (Memᴰ.tail m)))

  pub first_at_some : (n m : ℕ) (xs : List A) → first_at f n xs ≡ Some m → (i : ℕ) × (m ≡ n + i) × Lowest f xs i
  unfolding first_at any_of
  first_at_some n m [] e = some_not_none (sym e)
  first_at_some n m (x ∷ xs) e = go (λ q. first_at_some (suc n) m xs q) (f x) refl e
    where
      go : (first_at f (suc n) xs ≡ Some m → (i : ℕ) × (m ≡ suc n + i) × Lowest f xs i)
          → (b : Bool) → f x ≡ b → cond b (Some n) (first_at f (suc n) xs) ≡ Some m → (i : ℕ) × (m ≡ n + i) × Lowest f (x ∷ xs) i
      go rest true h q = let z : n ≡ m = cc in (0, omega arith, record { here = simp h; before = refl })
      go rest false h q =
          let r = rest q in
          (suc r.0, omega (arith, r.1), record { here = r.2.here; before = simp (h, r.2.before) })

  pub first_at_some_intro : (n i : ℕ) (xs : List A) → Lowest f xs i → first_at f n xs ≡ Some (n + i)
  unfolding first_at any_of
  first_at_some_intro n zero [] h = false_not_true h.here
  first_at_some_intro n (suc i) [] h = false_not_true h.here
  first_at_some_intro n zero (x ∷ xs) h =
      let z : n + 0 ≡ n = omega arith in
      let t : f x ≡ true = either (f x) false h.here (λ u. u) (λ u. false_not_true u) in
      rw z (simp t)
  first_at_some_intro n (suc i) (x ∷ xs) h =
      let s = neither (f x) (any_of f (take i xs)) h.before in
      let z : n + suc i ≡ suc n + i = omega arith in
      rw z (simp s.0 (first_at_some_intro (suc n) i xs (record { here = h.here; before = s.1 })))

  pub lowest_inside : (xs : List A) (n : ℕ) → Lowest f xs n → n < length xs
  unfolding any_of
  lowest_inside [] zero h = false_not_true h.here
  lowest_inside [] (suc n) h = false_not_true h.here
  lowest_inside (x ∷ xs) zero h = omega arith
  lowest_inside (x ∷ xs) (suc n) h =
      let r = lowest_inside xs n (record { here = h.here; before = (neither (f x) (any_of f (take n xs)) h.before).1 }) in
      omega arith

  pub lowest_at : (xs : List A) (n : ℕ) (d : A) → Lowest f xs n → f (get_or xs n d) ≡ true
  unfolding any_of
  lowest_at [] zero d h = false_not_true h.here
  lowest_at [] (suc n) d h = false_not_true h.here
  lowest_at (x ∷ xs) zero d h = either (f x) false h.here (λ u. u) (λ u. false_not_true u)
  lowest_at (x ∷ xs) (suc n) d h = lowest_at xs n d (record { here = h.here; before = (neither (f x) (any_of f (take n xs)) h.before).1 })

  pub lowest_intro : (xs : List A) (n : ℕ) (d : A) → n < length xs → f (get_or xs n d) ≡ true → any_of f (take n xs) ≡ false → Lowest f xs n
  unfolding any_of
  lowest_intro [] n d l t h = absurd (not-suc-le-zero l)
  lowest_intro (x ∷ xs) zero d l t h = record { here = simp t; before = refl }
  lowest_intro (x ∷ xs) (suc n) d l t h =
      let s = neither (f x) (any_of f (take n xs)) h in
      let r = lowest_intro xs n d (le_of_suc-le-suc l) t s.1 in
      record { here = r.here; before = h }

  pub none_at : (xs : List A) (n i : ℕ) (d : A) → any_of f (take n xs) ≡ false → i < n → i < length xs → f (get_or xs i d) ≡ false
  unfolding any_of
  none_at [] n i d h l m = absurd (not-suc-le-zero m)
  none_at (x ∷ xs) zero i d h l m = absurd (not-suc-le-zero l)
  none_at (x ∷ xs) (suc n) zero d h l m = (neither (f x) (any_of f (take n xs)) h).0
  none_at (x ∷ xs) (suc n) (suc i) d h l m = none_at xs n i d (neither (f x) (any_of f (take n xs)) h).1 (le_of_suc-le-suc l) (le_of_suc-le-suc m)

  pub none_intro : (xs : List A) (n : ℕ) (d : A) → ((i : ℕ) → i < n → i < length xs → f (get_or xs i d) ≡ false) → any_of f (take n xs) ≡ false
  unfolding any_of
  none_intro xs zero d h = refl
  none_intro [] (suc n) d h = refl
  none_intro (x ∷ xs) (suc n) d h = rw (h 0 (omega arith) (omega arith), none_intro xs n d (λ i l m. h (suc i) (omega (arith, l)) (omega (arith, m)))) refl

  pub first_at_nil : (n : ℕ) → first_at f n [] ≡ None
  unfolding first_at
  first_at_nil n = refl

  pub first_at_next : (xs : List A) (k j i : ℕ) (d : A) → j ≡ k + i → i < length xs → or_now (first_at f k (take i xs)) j (f (get_or xs i d)) ≡ first_at f k (take (suc i) xs)
  unfolding first_at
  first_at_next [] k j i d e l = absurd (not-suc-le-zero l)
  first_at_next (x ∷ xs) k j zero d e l = let z : j ≡ k = omega (arith, e) in ap (λ (m : ℕ). cond (f x) (Some m) None) z
  first_at_next (x ∷ xs) k j (suc i) d e l = go (f x) (first_at_next xs (suc k) j i d (omega (arith, e)) (le_of_suc-le-suc l))
    where
      go :
          (b : Bool) → or_now (first_at f (suc k) (take i xs)) j (f (get_or xs i d)) ≡ first_at f (suc k) (take (suc i) xs)
          → or_now (cond b (Some k) (first_at f (suc k) (take i xs))) j (f (get_or xs i d)) ≡ cond b (Some k) (first_at f (suc k) (take (suc i) xs))
      go true h = refl
      go false h = h

  pub first_at_any : (n : ℕ) (xs : List A) → is_found (first_at f n xs) ≡ any_of f xs
  unfolding first_at any_of is_found
  first_at_any n [] = refl
  first_at_any n (x ∷ xs) = go (f x) (first_at_any (suc n) xs)
    where
      go : (b : Bool) → is_found (first_at f (suc n) xs) ≡ any_of f xs → is_found (cond b (Some n) (first_at f (suc n) xs)) ≡ (b || any_of f xs)
      go true h = refl
      go false h = h

  pub first_at_none : (n : ℕ) (xs : List A) → first_at f n xs ≡ None → any_of f xs ≡ false
  unfolding is_found
  first_at_none n xs e = sym (first_at_any n xs) ∙ ap is_found e

  pub first_at_none_intro : (n : ℕ) (xs : List A) → any_of f xs ≡ false → first_at f n xs ≡ None
  unfolding is_found
  first_at_none_intro n xs e = go (first_at f n xs) (first_at_any n xs ∙ e)
    where
      go : (o : Option ℕ) → is_found o ≡ false → o ≡ None
      go None h = refl
      go (Some i) h = true_not_false h

  pub any_of_map : {B : Type 0} (g : B → A) (xs : List B) → any_of f (map g xs) ≡ any_of (λ x. f (g x)) xs
  unfolding any_of
  any_of_map g [] = refl
  any_of_map g (x ∷ xs) = ap (λ (b : Bool). f (g x) || b) (any_of_map g xs)

  pub first_at_map : {B : Type 0} (g : B → A) (n : ℕ) (xs : List B) → first_at f n (map g xs) ≡ first_at (λ x. f (g x)) n xs
  unfolding first_at
  first_at_map g n [] = refl
  first_at_map g n (x ∷ xs) = ap (λ (o : Option ℕ). cond (f (g x)) (Some n) o) (first_at_map g (suc n) xs)

  pub first_at_same : (g : A → Bool) (n : ℕ) (xs : List A) → ((x : A) → f x ≡ g x) → first_at f n xs ≡ first_at g n xs
  unfolding first_at
  first_at_same g n [] h = refl
  first_at_same g n (x ∷ xs) h = rw (h x, first_at_same g (suc n) xs h)

  pub any_of_same : (g : A → Bool) (xs : List A) → ((x : A) → Memᴰ x xs → f x ≡ g x) → any_of f xs ≡ any_of g xs
  unfolding any_of
  any_of_same g [] h = refl
  any_of_same g (x ∷ xs) h = rw (h x (Memᴰ.head refl), any_of_same g xs (λ z m. h z (Memᴰ.tail m)))
