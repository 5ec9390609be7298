-- Laws of the sources that reach an argument, as marks. Assumes nothing.
--     joins, joined_done, joined_reaching, joined_far, joined_rule   marks with a set, with one that was marked, with the source of the
--                                                       rule at a place
--     marking_none, marking_more, marking_done          what is marked at first, with a set, and with a group
--     sources_start, sources_next, sources_end          the walk that gathers them
--     shared_is                                         the two share a member where a number is marked in both
use Prim.Native.Nat.{ℕ, zero, suc, ◌+◌, ◌<◌}
use mathlib.Core.Path.{◌≡◌, refl, sym, ap, ◌∙◌}
use mathlib.Core.Bool.{Bool, true, false, or-false, ◌&&◌, ◌||◌}
use mathlib.Core.List.{List, [], ◌∷◌}
use native.Mathlib.Omega.{arith}
use native.Mathlib.Numerals.{add-one}
use lib.ListN.{length, get_or, set, length-set, replicate, length-replicate, get_or-eq_default}
use lib.Dec.{ltb}
use borrow.Author.Tests.{ltb-true, ltb-false}
use Rattle.format.specs.declared.Section.TheVariants.{Rules}
use Rattle.format.specs.Format.{count_of}
use Rattle.format.specs.Policy.{policy_of, start_of}
use Rattle.format.proofs.Tests.{both, and_true, either, or_left, or_right, or_assoc, false_not_true}
use Rattle.decision.specs.Sets.{any_of, is_in}
use Rattle.decision.specs.Reading.{rule_of}
use Rattle.format.specs.Inner.Places.{RuleAt}
use Rattle.decision.proofs.Search.{by_test, any_of_intro, any_of_elim}
use Rattle.decision.proofs.Implies.{touches_elim, touches_intro}
use Rattle.decide.specs.Inner.Parts.{rules_in, rule_in, group_set, set_at}
use Rattle.decide.specs.Inner.Marks.{no_marks, mark_all, both_below}
use Rattle.decide.specs.Inner.Rules.{live_at, reaching, reaching_at, reaching_from, shares_source}
use Rattle.decide.specs.Inner.Sources.{Joined, has, source_has, source_at, Marking, AtSource}
use Rattle.decide.proofs.ArrayLaws.{blank, by_set}
use Rattle.decide.proofs.MarkedLaws.{Small, marked_get}
use Rattle.decide.proofs.WalkLaws.{walk_start, walk_next, walk_end, all_rules}
use Rattle.decide.proofs.RuleLaws.{reaching_is, source_is}

-- ---- marks, and what is joined to them

or_known : (a b : Bool) → (b ≡ true → a ≡ true) → a ≡ a || b
or_known true b h = refl
or_known false true h = h refl
or_known false false h = refl

mark_length : (ms : List Bool) (S : List ℕ) → length (mark_all ms S) ≡ length ms
unfolding mark_all
mark_length ms [] = refl
mark_length ms (x ∷ S) = mark_length (set ms x true) S ∙ length-set ms x true

module _ (ms ns : List Bool) (S : List ℕ) (e : length ms ≡ 1024) (s : Small S) (is : ns ≡ mark_all ms S) where
  pub joins : Joined ms (has S) ns
  joins = record { is = λ m. ap (λ x. get_or x m false) is ∙ marked_get ms S m e s }

  module _ (l : List ℕ) (done : List Bool) (k : Marking l ms done) where
    pub marking_more : Marking l ns done
    marking_more = record {
      all = ap length is ∙ mark_length ms S ∙ e;
      marked = λ g d m h. joins.is m ∙ or_left (get_or ms m false) (is_in m S) (k.marked g d m h);
    }

    -- of a group, which is then told by the table
    pub marking_done : (g : ℕ) → group_set l g ≡ S → Marking l ns (set done g true)
    marking_done g z =
        record {
          all = marking_more.all;
          marked =
              by_set false (λ (h : ℕ) (b : Bool). b ≡ true → (m : ℕ) → is_in m (group_set l h) ≡ true
              → get_or ns m false ≡ true) done g true
              marking_more.marked
              (λ d m h. joins.is m ∙ or_right (get_or ms m false) (is_in m S) (sym (ap (is_in m) z) ∙ h));
        }

pub joined_done : (l : List ℕ) (ns done : List Bool) (S : List ℕ) (g : ℕ) → Marking l ns done → get_or done g false ≡ true
    → group_set l g ≡ S → Joined ns (has S) ns
joined_done l ns done S g k d z =
    record {
      is = λ m. or_known (get_or ns m false) (is_in m S) (λ h. k.marked g d m (ap (is_in m) z ∙ h));
    }

pub marking_none : (l : List ℕ) (n : ℕ) → Marking l no_marks (replicate n false)
marking_none l n = record { all = length-replicate 1024 false; marked = λ g d. false_not_true (sym (blank false n g) ∙ d) }

-- ---- the source of a rule

module _ (l : List ℕ) (at : ℕ) (ms ns : List Bool) (live : Bool) where
  pub joined_reaching : (os : List Bool) → reaching_at l ms at live ≡ true → Joined ns (has (set_at l (at + 2))) os
      → Joined ns (source_at l ms at live) os
  joined_reaching os t j = record {
    is = λ m. j.is m ∙ ap (λ b. get_or ns m false || b && is_in m (set_at l (at + 2))) (sym t);
  }

  pub joined_far : reaching_at l ms at live ≡ false → Joined ns (source_at l ms at live) ns
  joined_far f = record {
    is = λ m. sym (ap (λ b. get_or ns m false || b && is_in m (set_at l (at + 2))) f ∙ or-false (get_or ns m false));
  }

  -- the rule as it is read under a word
  module _ (w : ℕ) (r : List ℕ) (h : RuleAt l at r) (is : live ≡ live_at l w at) where
    pub joined_rule : (os : List Bool) → Joined ns (source_at l ms at live) os
        → Joined ns (source_has ms (rule_of (policy_of l) w r)) os
    unfolding reaching_from
    joined_rule os j = record {
      is = λ m. j.is m ∙ ap (λ b. get_or ns m false || b)
          (sym (rw (reaching_is l w at r h ms live is, source_is l w at r h)));
    }

-- ---- the walk

module _ (l : List ℕ) (w : ℕ) (ms : List Bool) where
  pub sources_start : (from count : ℕ) → from ≡ start_of l Rules → count ≡ count_of l Rules
      → AtSource l w ms no_marks count 0 from
  sources_start from count e h m =
      walk_start Rules (rule_of (policy_of l) w) l _ _ from count e h
      (ap (λ b. b || any_of (reaching_from ms (is_in m)) (rules_in l w)) (sym (blank false 1024 m))
      ∙ ap (λ rs. get_or no_marks m false || any_of (reaching_from ms (is_in m)) rs) (all_rules l w))

  module _ (ns : List Bool) (count n at : ℕ) (k : AtSource l w ms ns count n at) where
    pub sources_next : n < count → (os : List Bool) → Joined ns (source_has ms (rule_in l w at)) os → (to : ℕ)
        → to ≡ at + get_or l at 0 → AtSource l w ms os count (n + 1) to
    unfolding any_of
    sources_next more os j to e m =
        walk_next Rules (rule_of (policy_of l) w) l _ _ count n at (k m) more _ to
        (λ rs. sym (ap (λ b. b || any_of (reaching_from ms (is_in m)) rs) (j.is m)
        ∙ or_assoc (get_or ns m false) (reaching_from ms (is_in m) (rule_in l w at))
        (any_of (reaching_from ms (is_in m)) rs)))
        e

    pub sources_end : (n < count → ⊥) → (m : ℕ) → get_or ns m false ≡ any_of (reaching_from ms (is_in m)) (rules_in l w)
    unfolding any_of
    sources_end h m = sym (walk_end Rules (rule_of (policy_of l) w) l _ _ count n at (k m) h ∙ or-false (get_or ns m false))

-- ---- numbers that are marked in both

module _ (ms ns : List Bool) where
  pub both_next : (i : ℕ) → both_below ms ns (i + 1) ≡ both_below ms ns i || get_or ms i false && get_or ns i false
  unfolding both_below
  both_next i = rw (add-one i) refl

  both_elim : (n : ℕ) → both_below ms ns n ≡ true → (k : ℕ) × (get_or ms k false ≡ true) × (get_or ns k false ≡ true)
  unfolding both_below
  both_elim zero t = false_not_true t
  both_elim (suc n) t =
      either (both_below ms ns n) _ t (both_elim n)
      (λ u. let r = both (get_or ms n false) (get_or ns n false) u in (n, r.0, r.1))

  both_intro : (n k : ℕ) → k < n → get_or ms k false ≡ true → get_or ns k false ≡ true → both_below ms ns n ≡ true
  unfolding both_below
  both_intro zero k h s t = absurd (omega arith)
  both_intro (suc n) k h s t =
      by_test (ltb k n)
      (λ e. or_left (both_below ms ns n) _ (both_intro n k (ltb-true k n e) s t))
      (λ e. let z : k ≡ n = omega (arith, ltb-false k n e) in
      or_right (both_below ms ns n) _ (and_true (rw z at s) (rw z at t)))

marked_inside : (ms : List Bool) (k : ℕ) → get_or ms k false ≡ true → k < length ms
marked_inside ms k t =
    by_test (ltb k (length ms)) (ltb-true k (length ms))
    (λ e. false_not_true (sym (get_or-eq_default ms false {n = k} (ltb-false k (length ms) e)) ∙ t))

same_tests : (a b : Bool) → (a ≡ true → b ≡ true) → (b ≡ true → a ≡ true) → a ≡ b
same_tests true b f g = sym (f refl)
same_tests false true f g = g refl
same_tests false false f g = refl

module _ (l : List ℕ) (w : ℕ) (first second : List Bool) (ms ns : List Bool) (all : length ms ≡ 1024)
    (f : (m : ℕ) → get_or ms m false ≡ any_of (reaching_from first (is_in m)) (rules_in l w))
    (g : (m : ℕ) → get_or ns m false ≡ any_of (reaching_from second (is_in m)) (rules_in l w)) where
  pub shared_is : both_below ms ns 1024 ≡ any_of (reaching_from first (shares_source (rules_in l w) second)) (rules_in l w)
  unfolding reaching_from shares_source
  shared_is = same_tests _ _ there back
    where
      there : both_below ms ns 1024 ≡ true → any_of (reaching_from first (shares_source (rules_in l w) second)) (rules_in l w)
          ≡ true
      there t =
          let k = both_elim ms ns 1024 t in
          let a = any_of_elim _ (rules_in l w) (sym (f k.0) ∙ k.1) in
          let b = any_of_elim _ (rules_in l w) (sym (g k.0) ∙ k.2) in
          let x = both (reaching first a.0) _ a.2 in
          let y = both (reaching second b.0) _ b.2 in
          any_of_intro _ a.1 (and_true x.0
          (any_of_intro _ b.1 (and_true y.0 (touches_intro a.0.source b.0.source k.0 x.1 y.1))))

      back : any_of (reaching_from first (shares_source (rules_in l w) second)) (rules_in l w) ≡ true
          → both_below ms ns 1024 ≡ true
      back t =
          let a = any_of_elim _ (rules_in l w) t in
          let x = both (reaching first a.0) _ a.2 in
          let b = any_of_elim _ (rules_in l w) x.1 in
          let y = both (reaching second b.0) _ b.2 in
          let k = touches_elim a.0.source b.0.source y.1 in
          let s : get_or ms k.0 false ≡ true = f k.0 ∙ any_of_intro _ a.1 (and_true x.0 k.1) in
          let u : get_or ns k.0 false ≡ true = g k.0 ∙ any_of_intro _ b.1 (and_true y.0 k.2) in
          both_intro ms ns 1024 k.0 (omega (arith, marked_inside ms k.0 s, all)) s u
