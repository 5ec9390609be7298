-- Laws of the marks of a set, and of several. Assumes nothing.
--     Small xs         basic types
--     marked_get       a number is marked where it was, or is in the set
--     marked_of        a set and its marks
use native.Mathlib.Numerals.{add-one}
use Prim.Native.Nat.{ℕ, zero, suc, ◌+◌, ◌*◌, ◌<◌, ◌≤◌}
use mathlib.Core.Path.{◌≡◌, refl, sym, subst, ap, ◌∙◌}
use mathlib.Core.Bool.{Bool, true, false, or-true, or-false, ◌||◌}
use mathlib.Core.List.{List, [], ◌∷◌, ◌++◌}
use native.Mathlib.Omega.{arith}
use lib.ListN.{length, get_or, set, replicate, length-set, length-replicate, drop, drop_of_length-le}
use lib.Seq.{get_or-set_same, get_or-set_other, drop-cons}
use lib.Dec.{eqb}
use borrow.Author.Tests.{eqb-true, eqb-false}
use Rattle.format.specs.declared.Section.TheVariants.{Groups}
use Rattle.format.specs.Bytes.{word_at}
use Rattle.format.specs.Format.{count_of}
use Rattle.format.specs.Check.{Accepted}
use Rattle.format.specs.Claims.{IsType}
use Rattle.format.specs.Inner.Places.{words_at, Rising}
use Rattle.format.proofs.Places.{words_at_length, words_at_none, words_at_next}
use Rattle.format.proofs.Fields.{rising_parts}
use Rattle.decision.specs.Sets.{any_of, is_in, set_of, union_of}
use Rattle.decide.specs.Inner.Parts.{groups_in, Spans}
use Rattle.decide.specs.Inner.Marks.{no_marks, mark_all, Marked}
use Rattle.decide.proofs.ArrayLaws.{blank, set_back}
use Rattle.decide.proofs.TypeLaws.{set_basic, set_rising}

abbrev pub Small : List ℕ → Type 0
Small [] = Unit {0}
Small (x ∷ xs) = (x < 1024) × Small xs

pub rising_small : (low : ℕ) (xs : List ℕ) → Rising low xs → Small xs
rising_small low [] r = tt
rising_small low (x ∷ xs) r = let q = rising_parts low x xs r in (q.1, rising_small (suc x) xs q.2)

pub mark_append : (ms : List Bool) (xs ys : List ℕ) → mark_all ms (xs ++ ys) ≡ mark_all (mark_all ms xs) ys
unfolding mark_all
mark_append ms [] ys = refl
mark_append ms (x ∷ xs) ys = mark_append (set ms x true) xs ys

pub marked_get : (ms : List Bool) (xs : List ℕ) (m : ℕ) → length ms ≡ 1024 → Small xs
    → get_or (mark_all ms xs) m false ≡ get_or ms m false || is_in m xs
unfolding mark_all is_in any_of
marked_get ms [] m e s = sym (or-false (get_or ms m false))
marked_get ms (x ∷ xs) m e s = marked_get (set ms x true) xs m (length-set ms x true ∙ e) s.1 ∙ go (eqb m x) refl
  where
    go : (b : Bool) → eqb m x ≡ b → get_or (set ms x true) m false || any_of (eqb m) xs ≡ get_or ms m false
        || (eqb m x || any_of (eqb m) xs)
    go true q =
        let r : m ≡ x = eqb-true m x q in
        let k : get_or (set ms x true) m false ≡ true = rw r (get_or-set_same ms x true false (omega (arith, s.0))) in
        simp (k, q) (sym (or-true (get_or ms m false)))
    go false q = simp (q, get_or-set_other ms x m true false (eqb-false m x q))

pub marked_blank : (xs : List ℕ) (m : ℕ) → Small xs → get_or (mark_all (replicate 1024 false) xs) m false ≡ is_in m xs
marked_blank xs m s = marked_get (replicate 1024 false) xs m (length-replicate 1024 false) s ∙ simp (blank false 1024 m)

pub marked_of : (S : List ℕ) → Rising 0 S → Marked S (mark_all (replicate 1024 false) S) (length S)
marked_of S r = record { is = λ m h. marked_blank S m (rising_small 0 S r); many = refl; rising = r }

module _ (l : List ℕ) (t : ℕ) (h : t < 32768) where
  pub mark_basic : (ms : List Bool) → mark_all ms (set_of (groups_in l) t) ≡ set ms t true
  unfolding mark_all
  mark_basic ms = rw (set_basic l t h)

  pub unmark_basic : (ms : List Bool) → ms ≡ mark_all no_marks (set_of (groups_in l) t) → set ms t false ≡ no_marks
  unmark_basic ms e = ap (λ x. set x t false) (e ∙ mark_basic no_marks) ∙ set_back false 1024 t true

  pub size_basic : length (set_of (groups_in l) t) ≡ 1
  size_basic = rw (set_basic l t h)

module _ (l : List ℕ) (from count : ℕ) (S : List ℕ) (s : Spans l from count S) where
  pub span_size : count ≡ length S
  span_size = sym (words_at_length l count from) ∙ ap length s.are

-- the sets of the types of a list that are left
module _ (gs : List (List ℕ)) (ws : List ℕ) (i : ℕ) (ms : List Bool) where
  pub union_done : length ws ≤ i → mark_all ms (union_of gs (drop i ws)) ≡ ms
  unfolding mark_all union_of
  union_done h = rw (drop_of_length-le ws h) refl

  pub union_more : (t : ℕ) → i < length ws → t ≡ get_or ws i 0
      → mark_all ms (union_of gs (drop i ws)) ≡ mark_all (mark_all ms (set_of gs t)) (union_of gs (drop (i + 1) ws))
  unfolding union_of
  union_more t h is =
      let here : drop i ws ≡ t ∷ drop (i + 1) ws = drop-cons ws i 0 h ∙ ap (λ x. x ∷ drop (suc i) ws) (sym is) ∙ ap (λ k. t ∷ drop k ws) (sym (add-one i)) in
      ap (λ l. mark_all ms (union_of gs l)) here ∙ mark_append ms (set_of gs t) (union_of gs (drop (i + 1) ws))

pub types_next : (P : ℕ → Type 0) (at n k : ℕ) → n ≡ suc k → ((i : ℕ) → i < n → P (at + 2 * i))
    → P at × ((i : ℕ) → i < k → P (at + 2 + 2 * i))
types_next P at n k e h = (subst P (omega arith) (h 0 (omega arith)), λ i j. subst P (omega arith) (h (suc i) (omega arith)))

pub small_append : (xs ys : List ℕ) → Small xs → Small ys → Small (xs ++ ys)
small_append [] ys s t = t
small_append (x ∷ xs) ys s t = (s.0, small_append xs ys s.1 t)

-- the sets of n types from a place on are of basic types
pub union_small :
    (l : List ℕ) (n at : ℕ) → Accepted l → ((i : ℕ) → i < n → IsType (count_of l Groups) (word_at l (at + 2 * i)))
    → Small (union_of (groups_in l) (words_at l n at))
unfolding union_of
union_small l zero at c h = rw (words_at_none l 0 at refl) tt
union_small l (suc n) at c h =
    let q = types_next (λ w. IsType (count_of l Groups) (word_at l w)) at (suc n) n refl h in
    rw (words_at_next l (suc n) at n refl)
    (small_append (set_of (groups_in l) (word_at l at)) (union_of (groups_in l) (words_at l n (at + 2)))
    (rising_small 0 _ (set_rising l (word_at l at) c q.0)) (union_small l n (at + 2) c q.1))
