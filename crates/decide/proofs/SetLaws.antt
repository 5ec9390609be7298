-- Strictly rising lists of basic types: what a count of hits says of inclusion. Assumes nothing.
--     hits_within      as many of w are in q as q has, where q is within w, and only there
--     full_within      the same, of marks
use Prim.Native.Nat.{ℕ, suc, ◌+◌, ◌≤◌, ◌<◌}
use mathlib.Core.Path.{◌≡◌, refl, sym, ap, ◌∙◌}
use mathlib.Core.Bool.{Bool, true, false, ◌&&◌, ◌||◌, cond}
use mathlib.Core.List.{List, [], ◌∷◌}
use lib.ListN.{length, get_or}
use native.Mathlib.Omega.{arith}
use lib.Dec.{eqb, eqb-suc-suc}
use borrow.Author.Tests.{eqb-true, eqb-false, eq-eqb, ne_eqb}
use Rattle.format.specs.Inner.Places.{Rising}
use Rattle.format.proofs.Fields.{rising_parts}
use Rattle.decision.specs.Sets.{any_of, all_of, is_in, within}
use Rattle.decide.specs.Inner.Marks.{Marked, tallied, fully_marked}

-- how many pass the test
unfoldable pub tally : (ℕ → Bool) → List ℕ → ℕ
tally f [] = 0
tally f (x ∷ xs) = cond (f x) 1 0 + tally f xs

-- what is below a rising list is none of it
pub below_out : (low x : ℕ) (ms : List ℕ) → x < low → Rising low ms → is_in x ms ≡ false
unfolding is_in any_of
below_out low x [] h r = refl
below_out low x (m ∷ ms) h r =
    let q = rising_parts low m ms r in
    let e : any_of (eqb x) ms ≡ false = below_out (suc m) x ms (omega (arith, q.0)) q.2 in
    simp (ne_eqb x m (omega (arith, q.0)), e)

pub tally_cong : (f g : ℕ → Bool) (xs : List ℕ) (low : ℕ) → Rising low xs → ((x : ℕ) → x < 1024 → f x ≡ g x)
    → tally f xs ≡ tally g xs
unfolding tally
tally_cong f g [] low r h = refl
tally_cong f g (x ∷ xs) low r h = let q = rising_parts low x xs r in rw (h x q.1, tally_cong f g xs (suc x) q.2 h)

-- one number is met once, or not at all
tally_one : (x : ℕ) (ws : List ℕ) (low : ℕ) → Rising low ws → tally (eqb x) ws ≡ cond (is_in x ws) 1 0
unfolding tally is_in any_of
tally_one x [] low r = refl
tally_one x (w ∷ ws) low r = go (tally_one x ws (suc w) (rising_parts low w ws r).2) (eqb x w) refl
  where
    go : tally (eqb x) ws ≡ cond (any_of (eqb x) ws) 1 0 → (b : Bool) → eqb x w ≡ b
        → cond (eqb x w) 1 0 + tally (eqb x) ws ≡ cond (eqb x w || any_of (eqb x) ws) 1 0
    go k true e =
        let o : any_of (eqb x) ws ≡ false =
        below_out (suc w) x ws (omega (arith, eqb-true x w e)) (rising_parts low w ws r).2 in
        simp (e, k, o)
    go k false e = simp (e) (omega (arith, k))

-- a test against a list that starts with x is one against x and one against the rest
tally_cons : (x : ℕ) (qs ws : List ℕ) → Rising (suc x) qs
    → tally (λ y. is_in y (x ∷ qs)) ws ≡ tally (eqb x) ws + tally (λ y. is_in y qs) ws
unfolding tally is_in any_of
tally_cons x qs [] r = refl
tally_cons x qs (y ∷ ws) r = go (tally_cons x qs ws r) (eqb y x) refl
  where
    go : tally (λ y. any_of (eqb y) (x ∷ qs)) ws ≡ tally (eqb x) ws + tally (λ y. any_of (eqb y) qs) ws → (b : Bool)
        → eqb y x ≡ b
        → cond (eqb y x || any_of (eqb y) qs) 1 0 + tally (λ y. any_of (eqb y) (x ∷ qs)) ws
        ≡ (cond (eqb x y) 1 0 + tally (eqb x) ws) + (cond (any_of (eqb y) qs) 1 0 + tally (λ y. any_of (eqb y) qs) ws)
    go rest true e =
        let o : any_of (eqb y) qs ≡ false = below_out (suc x) y qs (omega (arith, eqb-true y x e)) r in
        simp (e, eq-eqb x y (sym (eqb-true y x e)), o) (omega (arith, rest))
    go rest false e =
        simp (e, ne_eqb x y (λ h. eqb-false y x e (sym h))) (omega (arith, rest))

tally_none : (ws : List ℕ) → tally (λ y. is_in y []) ws ≡ 0
unfolding tally is_in any_of
tally_none [] = refl
tally_none (w ∷ ws) = omega (arith, tally_none ws)

-- the hits of a rising list in another are as many as those of the other in it
tally_swap : (qs ws : List ℕ) (low k : ℕ) → Rising low qs → Rising k ws
    → tally (λ y. is_in y qs) ws ≡ tally (λ x. is_in x ws) qs
unfolding tally
tally_swap [] ws low k r s = tally_none ws
tally_swap (q ∷ qs) ws low k r s =
    tally_cons q qs ws (rising_parts low q qs r).2
    ∙ ap (λ (n : ℕ). n + tally (λ y. is_in y qs) ws) (tally_one q ws k s)
    ∙ ap (λ (n : ℕ). cond (is_in q ws) 1 0 + n) (tally_swap qs ws (suc q) k (rising_parts low q qs r).2 s)

tally_le : (f : ℕ → Bool) (xs : List ℕ) → tally f xs ≤ length xs
unfolding tally
tally_le f [] = omega arith
tally_le f (x ∷ xs) = go (tally_le f xs) (f x)
  where
    go : tally f xs ≤ length xs → (b : Bool) → cond b 1 0 + tally f xs ≤ suc (length xs)
    go h true = omega arith
    go h false = omega arith

one_add : (n : ℕ) → 1 + n ≡ suc n
one_add n = omega arith

-- all pass where as many pass as there are
tally_all_of : (f : ℕ → Bool) (xs : List ℕ) → eqb (tally f xs) (length xs) ≡ all_of f xs
unfolding tally all_of
tally_all_of f [] = refl
tally_all_of f (x ∷ xs) = go (tally_all_of f xs) (f x)
  where
    go : eqb (tally f xs) (length xs) ≡ all_of f xs → (b : Bool)
        → eqb (cond b 1 0 + tally f xs) (suc (length xs)) ≡ (b && all_of f xs)
    go h true = (ap (λ (n : ℕ). eqb n (suc (length xs))) (one_add (tally f xs)) ∙ eqb-suc-suc (tally f xs) (length xs)) ∙ h
    go h false = ne_eqb (0 + tally f xs) (suc (length xs)) (omega (arith, tally_le f xs))

-- the hits of q's marks in w are as many as q has: q is within w
pub hits_within : (qs ws : List ℕ) (low k : ℕ) → Rising low qs → Rising k ws
    → eqb (tally (λ y. is_in y qs) ws) (length qs) ≡ within qs ws
unfolding within
hits_within qs ws low k r s =
    ap (λ (n : ℕ). eqb n (length qs)) (tally_swap qs ws low k r s) ∙ tally_all_of (λ x. is_in x ws) qs

pub hits_bound : (qs ws : List ℕ) (low k : ℕ) → Rising low qs → Rising k ws → tally (λ y. is_in y qs) ws ≤ length qs
hits_bound qs ws low k r s = rw (tally_swap qs ws low k r s) (tally_le (λ x. is_in x ws) qs)

-- ---- marks and the set that they are of

tallied_is : (ms : List Bool) (xs : List ℕ) → tallied ms xs ≡ tally (λ x. get_or ms x false) xs
unfolding tallied tally
tallied_is ms [] = refl
tallied_is ms (x ∷ xs) = ap (λ (n : ℕ). cond (get_or ms x false) 1 0 + n) (tallied_is ms xs)

module _ (S : List ℕ) (ms : List Bool) (size : ℕ) (m : Marked S ms size) (W : List ℕ) (r : Rising 0 W) where
  hits_are : tallied ms W ≡ tally (λ y. is_in y S) W
  hits_are = tallied_is ms W ∙ tally_cong _ _ W 0 r m.is

  pub full_within : fully_marked ms size W ≡ within S W
  unfolding fully_marked
  full_within = rw (hits_are, m.many) (hits_within S W 0 0 m.rising r)

  pub hits_most : tallied ms W ≤ size
  hits_most = rw (hits_are, m.many) (hits_bound S W 0 0 m.rising r)

  -- a count that comes up to the size, and one that ends short of it
  pub hits_full : (hits rest : ℕ) → tallied ms W ≡ hits + rest → hits ≡ size → within S W ≡ true
  unfolding fully_marked
  hits_full hits rest e f = sym full_within ∙ eq-eqb (tallied ms W) size (omega (arith, hits_most))

  pub hits_short : (hits : ℕ) → tallied ms W ≡ hits → (hits ≡ size → ⊥) → within S W ≡ false
  unfolding fully_marked
  hits_short hits e f = sym full_within ∙ ne_eqb (tallied ms W) size (λ h. f (sym e ∙ h))
