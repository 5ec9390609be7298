-- Laws of what is kept in tables. Assumes nothing.
use Prim.Native.Nat.{ℕ, ◌+◌, ◌-◌, ◌≤◌, ◌<◌}
use mathlib.Core.Path.{◌≡◌, refl, sym, subst, ap, ◌∙◌}
use mathlib.Core.Bool.{Bool, true, false, not, cond}
use mathlib.Core.List.{List}
use native.Mathlib.Omega.{arith}
use lib.ListN.{get_or, set, replicate}
use lib.Dec.{ltb}
use denote.Enum.Bare.{sameb}
use borrow.Author.Tests.{lt-ltb, le-ltb, ltb-true, ltb-false, ne_eqb, not-true}
use Rattle.format.specs.declared.Section.TheVariants.{Groups}
use Rattle.format.specs.Format.{count_of}
use Rattle.format.specs.Check.{Accepted}
use Rattle.format.specs.Claims.{IsType}
use Rattle.format.proofs.Images.{group_count}
use Rattle.decision.proofs.Filled.{types_filled}
use Rattle.decision.specs.Sets.{within}
use Rattle.decide.specs.declared.kept.Kept.{Kept}
use Rattle.decide.specs.declared.kept.Kept.TheVariants.{Unasked, No, Yes}
use Rattle.decide.specs.contracts.kept.Kept.{the_type}
use Rattle.decide.specs.declared.kept.Side.{Side}
use Rattle.decide.specs.Inner.Parts.{set_in, group_set}
use Rattle.decide.specs.Inner.Marks.{tallied, fully_marked}
use Rattle.decide.specs.Inner.Kept.{said, says_no, KeptOf, KeptTest, outside_in, keep_outside, SideOf}
use Rattle.decide.proofs.ArrayLaws.{blank, by_set}
use Rattle.decide.proofs.TypeLaws.{set_basic, set_rising}
use Rattle.decide.proofs.SetLaws.{full_within}

-- an answer that is kept is one answer
unasked_none : {P : Type 0} (b : Bool) → Unasked ≡ said b → P
unfolding said
unasked_none true e = absurd (cc)
unasked_none false e = absurd (cc)

said_same : (a b : Bool) → said a ≡ said b → a ≡ b
unfolding said
said_same true true e = refl
said_same true false e = absurd (cc)
said_same false true e = absurd (cc)
said_same false false e = refl

-- nothing is kept at first
pub kept_none : (f : ℕ → Bool) (n : ℕ) → KeptOf f (replicate n Unasked)
kept_none f n = record { is = λ g b e. unasked_none b (sym (blank Unasked n g) ∙ e) }

-- whether no is kept
pub no_says : (k : Kept) → k ≡ No → true ≡ says_no k
unfolding says_no
no_says k e = ap says_no (sym e)

says_no_is : (k : Kept) → says_no k ≡ true → k ≡ No
unfolding says_no
says_no_is Unasked e = absurd (cc)
says_no_is No e = refl
says_no_is Yes e = absurd (cc)

pub says_no_not : (k : Kept) → (k ≡ No → ⊥) → false ≡ says_no k
unfolding says_no
says_no_not Unasked n = refl
says_no_not No n = absurd (n refl)
says_no_not Yes n = refl

-- ---- of a test

module _ (f : ℕ → Bool) (table : List Kept) (k : KeptOf f table) (n : ℕ) where
  -- what is read back
  pub kept_yes : get_or table n Unasked ≡ Yes → true ≡ f n
  unfolding said
  kept_yes e = sym (k.is n true e)

  kept_no : get_or table n Unasked ≡ No → false ≡ f n
  unfolding said
  kept_no e = sym (k.is n false e)

  pub kept_says : (b : Bool) → true ≡ not (sameb the_type (get_or table n Unasked) Unasked)
      → b ≡ sameb the_type (get_or table n Unasked) Yes → b ≡ f n
  kept_says b u e = go (get_or table n Unasked) refl u e
    where
      go : (v : Kept) → get_or table n Unasked ≡ v → true ≡ not (sameb the_type v Unasked) → b ≡ sameb the_type v Yes → b ≡ f n
      go Unasked i u e = absurd (cc)
      go No i u e = e ∙ kept_no i
      go Yes i u e = e ∙ kept_yes i

  -- one more kept
  pub kept_adds : (b : Bool) → b ≡ f n → KeptOf f (set table n (said b))
  kept_adds b e = record {
    is = by_set Unasked (λ (j : ℕ) (x : Kept). (a : Bool) → x ≡ said a → f j ≡ a) table n (said b) k.is
        (λ a s. sym e ∙ said_same b a s);
  }

-- ---- a type that a set is known not to be within

module _ (ms : List Bool) (kept : List Kept) (t : ℕ) where
  pub outside_basic : t < 32768 → outside_in ms kept t ≡ not (get_or ms t false)
  unfolding outside_in
  outside_basic h = simp (lt-ltb t 32768 h)

  pub outside_group : 32768 ≤ t → outside_in ms kept t ≡ says_no (get_or kept (t - 32768) Unasked)
  unfolding outside_in
  outside_group h = simp (le-ltb t 32768 h)

module _ (kept : List Kept) (t : ℕ) where
  pub keep_basic : t < 32768 → keep_outside kept t ≡ kept
  unfolding keep_outside
  keep_basic h = simp (lt-ltb t 32768 h)

  pub keep_group : 32768 ≤ t → keep_outside kept t ≡ set kept (t - 32768) No
  unfolding keep_outside
  keep_group h = simp (le-ltb t 32768 h)

module _ (f : List ℕ → Bool) (l : List ℕ) (kept : List Kept) (k : KeptTest f l kept) (t w : ℕ) (is : t ≡ w) where
  same_set_lem : 32768 ≤ t → group_set l (t - 32768) ≡ set_in l w
  same_set_lem h = let r : 32768 + (t - 32768) ≡ w = omega arith in ap (set_in l) r

  kept_tells : 32768 ≤ t → says_no (get_or kept (t - 32768) Unasked) ≡ true → f (set_in l w) ≡ false
  kept_tells h e = ap f (sym (same_set_lem h))
      ∙ sym (kept_no (λ g. f (group_set l g)) kept k (t - 32768) (says_no_is (get_or kept (t - 32768) Unasked) e))

  pub outside_kept : f (set_in l w) ≡ false → KeptTest f l (keep_outside kept t)
  unfolding keep_outside said
  outside_kept n = go (ltb t 32768) refl
    where
      go : (b : Bool) → ltb t 32768 ≡ b → KeptTest f l (cond b kept (set kept (t - 32768) No))
      go true h = k
      go false h = kept_adds (λ g. f (group_set l g)) kept k (t - 32768) false
          (sym (ap f (same_set_lem (ltb-false t 32768 h)) ∙ n))

-- ---- of a side

-- a basic type without a mark holds no set of some size
unmarked_tells : (l : List ℕ) (ms : List Bool) (size w : ℕ) → 0 < size → w < 32768 → get_or ms w false ≡ false
    → fully_marked ms size (set_in l w) ≡ false
unfolding fully_marked tallied
unmarked_tells l ms size w Some h e = rw (set_basic l w h) (simp e (ne_eqb 0 size (omega arith)))

-- a test of a side by its marks, of a type
pub side_within : {l : List ℕ} {t : ℕ} {s : Side} (d : SideOf l t s) → Accepted l → (w : ℕ) → IsType (count_of l Groups) w
    → fully_marked s.marks.now s.size (set_in l w) ≡ within (set_in l t) (set_in l w)
side_within {l} d c w is = full_within _ _ _ d.marked _ (set_rising l w c is)

-- what is known of a side
pub outside_tells :
    {l : List ℕ} {t : ℕ} {s : Side} (d : SideOf l t s) → Accepted l → (x w : ℕ) → IsType (count_of l Groups) w → x ≡ w
    → outside_in s.marks.now s.kept x ≡ true → within (set_in l t) (set_in l w) ≡ false
unfolding outside_in
outside_tells {l} {t} {s} d c x w i is e = go (ltb x 32768) refl e
  where
    filled : 0 < s.size
    filled = omega (arith, d.marked.many, types_filled l c t (subst (λ (n : ℕ). IsType n t) (sym (group_count l)) d.type))

    go : (b : Bool) → ltb x 32768 ≡ b → cond b (not (get_or s.marks.now x false)) (says_no (get_or s.kept (x - 32768) Unasked)) ≡ true
        → within (set_in l t) (set_in l w) ≡ false
    go true h e =
        sym (side_within d c w i)
        ∙ unmarked_tells l s.marks.now s.size w filled (omega (arith, ltb-true x 32768 h))
        (ap (λ (n : ℕ). get_or s.marks.now n false) (sym is) ∙ not-true (get_or s.marks.now x false) e)
    go false h e = kept_tells (within (set_in l t)) l s.kept d.kept x w is (ltb-false x 32768 h) e
