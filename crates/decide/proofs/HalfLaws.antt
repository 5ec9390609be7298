-- Laws of a search by halves among members that rise. Assumes nothing.
--     up, down          what is left of the search, where the number comes up to the middle member and where it does not
--     Among, among_next, among_one   where the search stands, its next turn and its last
--     ends_first, ends_last   a set is not within another where it has a member below the other's first, or above its last
use Prim.Native.Nat.{ℕ, zero, suc, ◌+◌, ◌-◌, ◌*◌, ◌/◌, ◌≤◌, ◌<◌}
use native.Mathlib.Omega.{arith}
use mathlib.Core.Path.{◌≡◌, refl, sym, subst, ap, ◌∙◌}
use mathlib.Core.Bool.{Bool, true, false, ◌||◌, ◌&&◌, cond}
use mathlib.Core.List.{List, [], ◌∷◌, ◌++◌}
use lib.ListN.{length}
use lib.Dec.{eqb, leb}
use borrow.Author.Tests.{eqb-true, eqb-false, eq-eqb, ne_eqb, leb-true, leb-false}
use Rattle.format.specs.Bytes.{word_at}
use Rattle.format.specs.Inner.Places.{words_at, Rising}
use Rattle.format.proofs.Fields.{rising_nil, rising_cons, rising_parts}
use Rattle.format.proofs.Places.{words_at_none, words_at_next, words_at_one}
use Rattle.decision.specs.Sets.{any_of, all_of, is_in, within}
use Rattle.decide.proofs.MarkLaws.{rising_lower}
use Rattle.decide.proofs.SetLaws.{below_out}

-- ---- two parts, one behind the other

split : (l : List ℕ) (h k at : ℕ) → words_at l (h + k) at ≡ words_at l h at ++ words_at l k (at + 2 * h)
split l zero k at =
    let z : 0 + k ≡ k = omega arith in
    let y : at + 2 * 0 ≡ at = omega arith in
    rw (z, y, words_at_none l 0 at refl) refl
split l (suc h) k at =
    let z : suc h + k ≡ suc (h + k) = omega arith in
    let y : at + 2 * suc h ≡ at + 2 + 2 * h = omega arith in
    words_at_next l (suc h + k) at (h + k) z
    ∙ ap (λ (xs : List ℕ). word_at l at ∷ xs)
    (split l h k (at + 2) ∙ ap (λ (a : ℕ). words_at l h (at + 2) ++ words_at l k a) (sym y))
    ∙ ap (λ (xs : List ℕ). xs ++ words_at l k (at + 2 * suc h)) (sym (words_at_next l (suc h) at h refl))

in_append : (x : ℕ) (a b : List ℕ) → is_in x (a ++ b) ≡ (is_in x a || is_in x b)
unfolding is_in any_of
in_append x [] b = refl
in_append x (y ∷ a) b = go (eqb x y) (in_append x a b)
  where
    go : (t : Bool) → any_of (eqb x) (a ++ b) ≡ (any_of (eqb x) a || any_of (eqb x) b)
        → (t || any_of (eqb x) (a ++ b)) ≡ ((t || any_of (eqb x) a) || any_of (eqb x) b)
    go true h = refl
    go false h = h

in_left : (x : ℕ) (a b : List ℕ) → is_in x b ≡ false → is_in x (a ++ b) ≡ is_in x a
in_left x a b e = in_append x a b ∙ go (is_in x a)
  where
    go : (t : Bool) → (t || is_in x b) ≡ t
    go true = refl
    go false = e

in_right : (x : ℕ) (a b : List ℕ) → is_in x a ≡ false → is_in x (a ++ b) ≡ is_in x b
in_right x a b e = in_append x a b ∙ ap (λ (t : Bool). t || is_in x b) e

rising_front : (low : ℕ) (a b : List ℕ) → Rising low (a ++ b) → Rising low a
rising_front low [] b r = rising_nil low
rising_front low (m ∷ a) b r = let q = rising_parts low m (a ++ b) r in
    rising_cons low m a q.0 q.1 (rising_front (suc m) a b q.2)

rising_back : (low : ℕ) (a b : List ℕ) → Rising low (a ++ b) → Rising low b
rising_back low [] b r = r
rising_back low (m ∷ a) b r = let q = rising_parts low m (a ++ b) r in
    rising_lower (suc m) low b (omega (arith, q.0)) (rising_back (suc m) a b q.2)

-- what comes up to a later member is none of those before it
above_out : (low x v : ℕ) (a b : List ℕ) → Rising low (a ++ (v ∷ b)) → v ≤ x → is_in x a ≡ false
unfolding is_in any_of
above_out low x v [] b r h = refl
above_out low x v (m ∷ a) b r h =
    let q = rising_parts low m (a ++ (v ∷ b)) r in
    let s = rising_parts (suc m) v b (rising_back (suc m) a (v ∷ b) q.2) in
    let e : any_of (eqb x) a ≡ false = above_out (suc m) x v a b q.2 h in
    simp (ne_eqb x m (omega (arith, s.0)), e)

-- ---- the search

module _ (l : List ℕ) (at n h x : ℕ) (Some : 0 < h) (room : h + h ≤ n) (r : Rising 0 (words_at l n at)) where
  abbrev v : ℕ
  v = word_at l (at + 2 * h)

  abbrev low : List ℕ
  low = words_at l h at

  abbrev high : List ℕ
  high = words_at l (n - h) (at + 2 * h)

  whole : words_at l n at ≡ low ++ high
  whole = let z : n ≡ h + (n - h) = omega arith in ap (λ (k : ℕ). words_at l k at) z ∙ split l h (n - h) at

  rising_whole : Rising 0 (low ++ high)
  rising_whole = subst (Rising 0) whole r

  pub up_rising : Rising 0 high
  up_rising = rising_back 0 low high rising_whole

  pub up : v ≤ x → is_in x (words_at l n at) ≡ is_in x high
  up e =
      let next : n - h ≡ suc (n - h - 1) = omega arith in
      let tail = words_at l (n - h - 1) (at + 2 * h + 2) in
      ap (is_in x) whole ∙ in_right x low high
      (above_out 0 x v low tail
      (subst (λ (ys : List ℕ). Rising 0 (low ++ ys)) (words_at_next l (n - h) (at + 2 * h) (n - h - 1) next) rising_whole) e)

  -- none of so many from the middle on is below it
  over : (k : ℕ) → k ≤ n - h → x < v → is_in x (words_at l k (at + 2 * h)) ≡ false
  over k few e =
      let z : n - h ≡ k + (n - h - k) = omega arith in
      let p : words_at l (n - h) (at + 2 * h) ≡ words_at l k (at + 2 * h) ++ words_at l (n - h - k) (at + 2 * h + 2 * k) =
      ap (λ (j : ℕ). words_at l j (at + 2 * h)) z ∙ split l k (n - h - k) (at + 2 * h) in
      let next : n - h ≡ suc (n - h - 1) = omega arith in
      let q = rising_parts 0 v (words_at l (n - h - 1) (at + 2 * h + 2))
      (subst (Rising 0) (words_at_next l (n - h) (at + 2 * h) (n - h - 1) next) up_rising) in
      let s : Rising v (words_at l (n - h) (at + 2 * h)) =
      subst (Rising v) (sym (words_at_next l (n - h) (at + 2 * h) (n - h - 1) next))
      (rising_cons v v (words_at l (n - h - 1) (at + 2 * h + 2)) (omega arith) q.1 q.2) in
      below_out v x (words_at l k (at + 2 * h)) e
      (rising_front v (words_at l k (at + 2 * h)) (words_at l (n - h - k) (at + 2 * h + 2 * k)) (subst (Rising v) p s))

  front : words_at l (n - h) at ≡ low ++ words_at l (n - h - h) (at + 2 * h)
  front = let z : n - h ≡ h + (n - h - h) = omega arith in ap (λ (k : ℕ). words_at l k at) z ∙ split l h (n - h - h) at

  pub down : x < v → is_in x (words_at l n at) ≡ is_in x (words_at l (n - h) at)
  down e =
      (ap (is_in x) whole ∙ in_left x low high (over (n - h) (omega arith) e))
      ∙ sym (ap (is_in x) front ∙ in_left x low (words_at l (n - h - h) (at + 2 * h)) (over (n - h - h) (omega arith) e))

  pub down_rising : Rising 0 (words_at l (n - h) at)
  down_rising =
      let z : n ≡ (n - h) + h = omega arith in
      rising_front 0 (words_at l (n - h) at) (words_at l h (at + 2 * (n - h)))
      (subst (Rising 0) (ap (λ (k : ℕ). words_at l k at) z ∙ split l (n - h) h at) r)

pub among_one : (l : List ℕ) (at n x : ℕ) → n ≡ 1 → is_in x (words_at l n at) ≡ eqb (word_at l at) x
unfolding is_in any_of
among_one l at n x e = rw (e, words_at_one l at) (go (eqb x (word_at l at)) refl)
  where
    go : (b : Bool) → eqb x (word_at l at) ≡ b → (b || false) ≡ eqb (word_at l at) x
    go true h = sym (eq-eqb (word_at l at) x (sym (eqb-true x (word_at l at) h)))
    go false h = sym (ne_eqb (word_at l at) x (λ k. eqb-false x (word_at l at) h (sym k)))

-- where the search stands
pub record Among (l : List ℕ) (from count x at left : ℕ) : Type 0 where
  pub some : 0 < left
  pub room : at + 2 * left ≤ length l
  pub rising : Rising 0 (words_at l left at)
  pub same : is_in x (words_at l count from) ≡ is_in x (words_at l left at)

pub among_next :
    (l : List ℕ) (from count x at n h to m : ℕ) → Among l from count x at n → 1 < n → h ≡ n / 2 → m ≡ n - h
    → to ≡ cond (leb (word_at l (at + 2 * h)) x) (at + 2 * h) at → Among l from count x to m
among_next l from count x at n h to m a more half left is = go (leb (word_at l (at + 2 * h)) x) refl is
  where
    go : (b : Bool) → leb (word_at l (at + 2 * h)) x ≡ b → to ≡ cond b (at + 2 * h) at → Among l from count x to m
    go true e t =
        record {
          some = omega arith;
          room = omega (arith, a.room);
          rising = rw (t, left) (up_rising l at n h x (omega arith) (omega arith) a.rising);
          same = a.same ∙ rw (t, left)
              (up l at n h x (omega arith) (omega arith) a.rising (leb-true (word_at l (at + 2 * h)) x e));
        }
    go false e t =
        record {
          some = omega arith;
          room = omega (arith, a.room);
          rising = rw (t, left) (down_rising l at n h x (omega arith) (omega arith) a.rising);
          same = a.same ∙ rw (t, left)
              (down l at n h x (omega arith) (omega arith) a.rising (leb-false (word_at l (at + 2 * h)) x e));
        }

-- ---- ends

alone : (x v : ℕ) → eqb x v ≡ false → is_in x (v ∷ []) ≡ false
unfolding is_in any_of
alone x v e = simp e

all_of_last : (f : ℕ → Bool) (a : List ℕ) (v : ℕ) → f v ≡ false → all_of f (a ++ (v ∷ [])) ≡ false
unfolding all_of
all_of_last f [] v e = simp e
all_of_last f (x ∷ a) v e = go (f x) (all_of_last f a v e)
  where
    go : (b : Bool) → all_of f (a ++ (v ∷ [])) ≡ false → (b && all_of f (a ++ (v ∷ []))) ≡ false
    go true h = h
    go false h = refl

last_split : (l : List ℕ) (n at : ℕ) → 0 < n → words_at l n at ≡ words_at l (n - 1) at ++ (word_at l (at + 2 * (n - 1)) ∷ [])
last_split l n at h =
    let z : n ≡ (n - 1) + 1 = omega arith in
    ap (λ (k : ℕ). words_at l k at) z ∙ split l (n - 1) 1 at
    ∙ ap (λ (xs : List ℕ). words_at l (n - 1) at ++ xs) (words_at_one l (at + 2 * (n - 1)))

module _ (l : List ℕ) (from count at n : ℕ) (Some : 0 < count) (more : 0 < n) (r : Rising 0 (words_at l n at)) where
  pub ends_first : word_at l from < word_at l at → within (words_at l count from) (words_at l n at) ≡ false
  unfolding within all_of
  ends_first e =
      let a : count ≡ suc (count - 1) = omega arith in
      let b : n ≡ suc (n - 1) = omega arith in
      let q = rising_parts 0 (word_at l at) (words_at l (n - 1) (at + 2))
      (subst (Rising 0) (words_at_next l n at (n - 1) b) r) in
      let s : Rising (word_at l at) (words_at l n at) =
      subst (Rising (word_at l at)) (sym (words_at_next l n at (n - 1) b))
      (rising_cons (word_at l at) (word_at l at) (words_at l (n - 1) (at + 2)) (omega arith) q.1 q.2) in
      rw (words_at_next l count from (count - 1) a) (simp (below_out (word_at l at) (word_at l from) (words_at l n at) e s))

  pub ends_last : word_at l (at + 2 * (n - 1)) < word_at l (from + 2 * (count - 1))
      → within (words_at l count from) (words_at l n at) ≡ false
  unfolding within
  ends_last e =
      let x : ℕ = word_at l (from + 2 * (count - 1)) in
      let v : ℕ = word_at l (at + 2 * (n - 1)) in
      let p = last_split l n at more in
      let low = above_out 0 x v (words_at l (n - 1) at) [] (subst (Rising 0) p r) (omega arith) in
      let out : is_in x (words_at l n at) ≡ false =
      ap (is_in x) p ∙ in_right x (words_at l (n - 1) at) (v ∷ []) low ∙ one_out x v (omega arith) in
      ap (all_of (λ y. is_in y (words_at l n at))) (last_split l count from Some)
      ∙ all_of_last (λ y. is_in y (words_at l n at)) (words_at l (count - 1) from) x out
    where
      one_out : (x v : ℕ) → v < x → is_in x (v ∷ []) ≡ false
      one_out x v h = alone x v (ne_eqb x v (omega arith))
