-- Laws of the members of a type, and of a group by its place. Assumes nothing.
use Prim.Native.Nat.{ℕ, ◌+◌, ◌-◌, ◌/◌, ◌≤◌, ◌<◌}
use mathlib.Core.Path.{◌≡◌, sym, subst, ap, ◌∙◌}
use mathlib.Core.Logic.{inl, inr}
use mathlib.Core.Bool.{Bool}
use mathlib.Core.List.{List, [], ◌∷◌}
use native.Mathlib.Omega.{arith}
use lib.ListN.{get_or, drop}
use borrow.Author.Tests.{lt-ltb, le-ltb}
use Rattle.format.specs.declared.Section.TheVariants.{Groups}
use Rattle.format.specs.Bytes.{word_at, words}
use Rattle.format.specs.Format.{count_of}
use Rattle.format.specs.Check.{Accepted}
use Rattle.format.specs.Claims.{IsType}
use Rattle.format.specs.Inner.Places.{words_at, Rising, GroupAt}
use Rattle.format.proofs.Accepted.{accepted_header, group_nth}
use Rattle.format.proofs.Places.{group_at, words_at_one}
use Rattle.format.proofs.ByCase.{limit_groups}
use Rattle.format.proofs.Fields.{rising_one}
use Rattle.decision.specs.Sets.{set_of}
use Rattle.decide.specs.Inner.Parts.{groups_in, set_in, set_at, group_set, Spans, Known, TypeAt}

pub few_groups : (l : List ℕ) → Accepted l → count_of l Groups ≤ 256
few_groups l e = omega (arith, (accepted_header l e).few Groups, limit_groups)

module _ (l : List ℕ) (t : ℕ) where
  pub set_basic : t < 32768 → set_in l t ≡ t ∷ []
  unfolding set_of
  set_basic h = simp (lt-ltb t 32768 h)

  pub set_group : 32768 ≤ t → set_in l t ≡ words (drop 2 (get_or (groups_in l) (t - 32768) []))
  unfolding set_of
  set_group h = simp (le-ltb t 32768 h)

pub type_basic : (g t : ℕ) → IsType g t → t < 32768 → t < 1024
type_basic g t (inl h) k = h
type_basic g t (inr q) k = let e = q.2 in absurd (omega arith)

pub type_group : (g t : ℕ) → IsType g t → 32768 ≤ t → t - 32768 < g
type_group g t (inl h) k = absurd (omega arith)
type_group g t (inr q) k = let e = q.2 in omega (arith, q.1)

-- a group's number, counted from 32,768 on
pub group_again : (l : List ℕ) (t : ℕ) → 32768 ≤ t → group_set l (t - 32768) ≡ set_in l t
group_again l t h = let z : 32768 + (t - 32768) ≡ t = omega arith in ap (set_in l) z

pub type_small : (l : List ℕ) (t w : ℕ) → t ≡ w → Accepted l → IsType (count_of l Groups) w → t < 33024
type_small l t w is c (inl h) = omega arith
type_small l t w is c (inr q) = let e = q.2 in omega (arith, q.1, few_groups l c)

-- the type t in the field at a place
module _ (l ps : List ℕ) (at t : ℕ) (k : Known l ps) (f : TypeAt l at) (is : t ≡ word_at l at) where
  pub span_basic : t < 32768 → Spans l at 1 (set_at l at)
  span_basic h =
      let j : word_at l at < 32768 = omega arith in
      let e = set_basic l (word_at l at) j in
      record {
        some = omega arith;
        room = omega (arith, f.room);
        are = words_at_one l at ∙ sym e;
        rising = rw e (rising_one (word_at l at) (type_basic (count_of l Groups) (word_at l at) f.is j));
      }

  module _ (h : 32768 ≤ t) where
    pub group_number : t - 32768 < count_of l Groups
    group_number = type_group (count_of l Groups) t (subst (IsType (count_of l Groups)) (sym is) f.is) h

    pub group_few : t - 32768 < 256
    group_few = omega (arith, group_number, few_groups l k.accepted)

    pub group_is : group_set l (t - 32768) ≡ set_at l at
    group_is = group_again l t h ∙ ap (set_in l) is

    pub span_group : {from count : ℕ} → Spans l from count (group_set l (t - 32768)) → Spans l from count (set_at l at)
    span_group {from} {count} s = subst (Spans l from count) group_is s

-- group g, where the table says
pub group_placed : (l ps : List ℕ) (g : ℕ) → Known l ps → g < count_of l Groups
    → GroupAt l (get_or ps g 0) (get_or (groups_in l) g [])
group_placed l ps g k h = rw (k.placed g h, group_nth l g h) (group_at l k.accepted g h)

-- the members of group g
pub group_span_is :
    (l ps : List ℕ) (g : ℕ) → Known l ps → g < count_of l Groups → (at n : ℕ) → at ≡ get_or ps g 0 → n ≡ get_or l at 0
    → Spans l (at + 2) ((n - 2) / 2) (group_set l g)
group_span_is l ps g k h at n p e =
    let q : GroupAt l at (get_or (groups_in l) g []) = rw p (group_placed l ps g k h) in
    let z : 32768 + g - 32768 ≡ g = omega arith in
    let s : group_set l g ≡ words (drop 2 (get_or (groups_in l) g [])) =
    set_group l (32768 + g) (omega arith) ∙ ap (λ x. words (drop 2 (get_or (groups_in l) x []))) z in
    record {
      some = omega (arith, q.here.size, q.here.some);
      room = omega (arith, q.here.size, q.here.some, q.here.inside, q.even);
      are = rw e (sym q.members ∙ sym s);
      rising = rw s q.rising;
    }

module _ (l : List ℕ) (from count : ℕ) (S : List ℕ) (s : Spans l from count S) where
  pub span_rising : Rising 0 (words_at l count from)
  span_rising = rw s.are s.rising

  pub span_told : (f : List ℕ → Bool) (b : Bool) → b ≡ f (words_at l count from) → b ≡ f S
  span_told f b e = e ∙ ap f s.are

-- the members of a type rise
pub set_rising : (l : List ℕ) (t : ℕ) → Accepted l → IsType (count_of l Groups) t → Rising 0 (set_in l t)
set_rising l t c (inl h) = rw (set_basic l t (omega arith)) (rising_one t h)
set_rising l t c (inr q) =
    let e = q.2 in
    let n : t - 32768 < count_of l Groups = omega (arith, q.1) in
    rw (set_group l t (omega arith), group_nth l (t - 32768) n) (group_at l c (t - 32768) n).rising
