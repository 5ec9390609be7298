-- Laws of a constraint in the image, and of its predicate by marks. Assumes nothing.
use Prim.Native.Nat.{ℕ, ◌+◌, ◌-◌, ◌/◌}
use mathlib.Core.Path.{◌≡◌, refl, sym, ap, ◌∙◌}
use mathlib.Core.Bool.{Bool, beq, true, false, not, ◌&&◌, ◌||◌}
use mathlib.Core.List.{List, [], ◌∷◌}
use native.Mathlib.Omega.{arith}
use lib.ListN.{get_or}
use lib.Dec.{eqb}
use borrow.Author.Tests.{eq-eqb, ne_eqb}
use Rattle.format.specs.Bytes.{word_at}
use Rattle.format.specs.Policy.{policy_of}
use Rattle.format.specs.Check.{Accepted}
use Rattle.format.specs.Inner.Places.{words_at, ConstraintAt}
use Rattle.format.proofs.Shapes.{stands_word}
use Rattle.decision.specs.Sets.{any_of, all_of, is_in, set_of, union_of, within, touches}
use Rattle.decision.specs.declared.Query.{Query}
use Rattle.decision.specs.Reading.{Rule, Constraint, constraint_of, request_of}
use Rattle.decision.proofs.Search.{any_of_same}
use Rattle.decision.specs.Decide.{reaches, separation_broken, roster_broken, companion_broken, broken, applies, inside, fails}
use Rattle.decide.specs.Inner.Parts.{groups_in, rules_in, request_in, set_in, set_at}
use Rattle.decide.specs.Inner.Marks.{no_marks, mark_all, any_is}
use Rattle.decide.specs.Inner.Rules.{reaching, reaching_from, shares_source}
use Rattle.decide.proofs.TypeLaws.{set_rising}
use Rattle.decide.proofs.MarkedLaws.{Small, rising_small, marked_blank}

-- ---- sets by their marks

pub record Marks (S : List ℕ) (ms : List Bool) : Type 0 where
  pub is : (m : ℕ) → get_or ms m false ≡ is_in m S

pub marks_small : (S U : List ℕ) (ms : List Bool) → Small U → S ≡ U → ms ≡ mark_all no_marks U → Marks S ms
marks_small S U ms s e f = record { is = λ m. ap (λ x. get_or x m false) f ∙ marked_blank U m s ∙ ap (is_in m) (sym e) }

beq_true : (b : Bool) → beq b true ≡ b
beq_true true = refl
beq_true false = refl

or_not : (a b : Bool) → beq a false || not b ≡ not (a && b)
or_not true b = refl
or_not false b = refl

module _ (S : List ℕ) (ms : List Bool) (k : Marks S ms) where
  pub any_touches : (X : List ℕ) → any_is ms true X ≡ touches X S
  unfolding any_is touches any_of
  any_touches [] = refl
  any_touches (x ∷ X) = rw (k.is x, beq_true (is_in x S), any_touches X) refl

  pub any_outside : (X : List ℕ) → any_is ms false X ≡ not (within X S)
  unfolding any_is within any_of all_of
  any_outside [] = refl
  any_outside (x ∷ X) = rw (k.is x, any_outside X) (or_not (is_in x S) (within X S))

reaching_is : (S : List ℕ) (ms : List Bool) → Marks S ms → (f : List ℕ → Bool) (R : Rule)
    → reaching_from ms f R ≡ reaches S R && f R.source
unfolding reaching_from reaching reaches
reaching_is S ms k f R = rw (any_touches S ms k R.dest)

-- rules that reach a set, by a test of their sources
reaching_all :
    (S : List ℕ) (ms : List Bool) → Marks S ms → (f g : List ℕ → Bool) → ((X : List ℕ) → f X ≡ g X) → (rs : List Rule)
    → any_of (reaching_from ms f) rs ≡ any_of (λ a. reaches S a && g a.source) rs
reaching_all S ms k f g e rs = any_of_same _ _ rs (λ a m. reaching_is S ms k f a ∙ ap (λ b. reaches S a && b) (e a.source))

module _ (rs : List Rule) (C : Constraint) where
  pub separation_is :
      (first second : List Bool) → Marks C.first first → Marks C.second second
      → any_of (reaching_from first (shares_source rs second)) rs ≡ separation_broken rs C
  unfolding separation_broken shares_source
  separation_is first second k h =
      reaching_all C.first first k _ (λ X. any_of (λ b. reaches C.second b && touches X b.source) rs)
      (λ X. reaching_all C.second second h (touches X) (touches X) (λ Y. refl) rs)
      rs

  pub roster_is : (second list : List Bool) → Marks C.second second → Marks C.list list
      → any_of (reaching_from second (any_is list false)) rs ≡ roster_broken rs C
  unfolding roster_broken
  roster_is second list k h =
      reaching_all C.second second k (any_is list false) (λ X. not (within X C.list)) (any_outside C.list list h) rs

  pub companion_is : (first second : List Bool) → Marks C.first first → Marks C.second second
      → not (any_of (reaching_from first (any_is second true)) rs) ≡ companion_broken rs C
  unfolding companion_broken
  companion_is first second k h =
      ap not (reaching_all C.first first k (any_is second true) (λ X. touches X C.second) (any_touches C.second second h) rs)

-- ---- the fields of a constraint

module _ (l : List ℕ) (at : ℕ) (r : List ℕ) (h : ConstraintAt l at r) where
  pub first_is : (constraint_of (policy_of l) r).first ≡ set_at l (at + 6)
  unfolding constraint_of
  first_is = ap (set_of (groups_in l)) (stands_word l at r 6 h.here (omega (arith, h.long)))

  pub second_is : (constraint_of (policy_of l) r).second ≡ set_at l (at + 8)
  unfolding constraint_of
  second_is = ap (set_of (groups_in l)) (stands_word l at r 8 h.here (omega (arith, h.long)))

  pub class_is : (constraint_of (policy_of l) r).class ≡ word_at l (at + 2)
  unfolding constraint_of
  class_is = stands_word l at r 2 h.here (omega (arith, h.long))

  pub action_is : (constraint_of (policy_of l) r).action ≡ word_at l (at + 4)
  unfolding constraint_of
  action_is = stands_word l at r 4 h.here (omega (arith, h.long))

  pub predicate_is : (constraint_of (policy_of l) r).predicate ≡ get_or l (at + 10) 0
  unfolding constraint_of
  predicate_is = h.here.field 10 (omega (arith, h.long))

  pub list_is : (n : ℕ) → n ≡ get_or l at 0
      → (constraint_of (policy_of l) r).list ≡ union_of (groups_in l) (words_at l ((n - 11) / 2) (at + 11))
  unfolding constraint_of
  list_is n e = rw e (ap (union_of (groups_in l)) h.list)

  -- ---- the marks of its arguments

  module _ (c : Accepted l) (ms : List Bool) where
    pub marks_first : ms ≡ mark_all no_marks (set_at l (at + 6)) → Marks (constraint_of (policy_of l) r).first ms
    marks_first = marks_small _ (set_at l (at + 6)) ms (rising_small 0 _ (set_rising l _ c h.first)) first_is

    pub marks_second : ms ≡ mark_all no_marks (set_at l (at + 8)) → Marks (constraint_of (policy_of l) r).second ms
    marks_second = marks_small _ (set_at l (at + 8)) ms (rising_small 0 _ (set_rising l _ c h.second)) second_is

-- ---- the predicate

module _ (rs : List Rule) (C : Constraint) where
  pub broken_ban : C.predicate ≡ 0 → broken rs C ≡ true
  unfolding broken
  broken_ban e = simp (eq-eqb C.predicate 0 e)

  pub broken_separation : C.predicate ≡ 1 → broken rs C ≡ separation_broken rs C
  unfolding broken
  broken_separation e = simp (ne_eqb C.predicate 0 (omega arith), eq-eqb C.predicate 1 e)

  pub broken_roster : C.predicate ≡ 2 → broken rs C ≡ roster_broken rs C
  unfolding broken
  broken_roster e = simp (ne_eqb C.predicate 0 (omega arith), ne_eqb C.predicate 1 (omega arith), eq-eqb C.predicate 2 e)

  pub broken_companion : (C.predicate ≡ 0 → ⊥) → (C.predicate ≡ 1 → ⊥) → (C.predicate ≡ 2 → ⊥)
      → broken rs C ≡ companion_broken rs C
  unfolding broken
  broken_companion a b c = simp (ne_eqb C.predicate 0 a, ne_eqb C.predicate 1 b, ne_eqb C.predicate 2 c)

-- ---- what a constraint's tests come to, by its fields

module _ (l : List ℕ) (at : ℕ) (r : List ℕ) (h : ConstraintAt l at r) (q : Query) where
  abbrev fails? : Bool
  fails? = fails (rules_in l q.switches) (request_in l q) (constraint_of (policy_of l) r)

  abbrev first? : Bool
  first? = within (set_in l q.source) (set_at l (at + 6))

  abbrev second? : Bool
  second? = within (set_in l q.dest) (set_at l (at + 8))

  fails_is :
      fails? ≡ (eqb (word_at l (at + 2)) q.class && eqb (word_at l (at + 4)) q.action) && (first? && second?)
      && broken (rules_in l q.switches) (constraint_of (policy_of l) r)
  unfolding fails applies inside request_of
  fails_is = rw (class_is l at r h, action_is l at r h, first_is l at r h, second_is l at r h) refl

  pub fails_class : (word_at l (at + 2) ≡ q.class → ⊥) → fails? ≡ false
  fails_class n = fails_is ∙ simp (ne_eqb (word_at l (at + 2)) q.class n)

  module _ (c : word_at l (at + 2) ≡ q.class) where
    pub fails_action : (word_at l (at + 4) ≡ q.action → ⊥) → fails? ≡ false
    fails_action n = fails_is ∙ simp (eq-eqb (word_at l (at + 2)) q.class c, ne_eqb (word_at l (at + 4)) q.action n)

    module _ (a : word_at l (at + 4) ≡ q.action) where
      applies_is : fails? ≡ (first? && second?) && broken (rules_in l q.switches) (constraint_of (policy_of l) r)
      applies_is = fails_is ∙ simp (eq-eqb (word_at l (at + 2)) q.class c, eq-eqb (word_at l (at + 4)) q.action a)

      pub fails_first : first? ≡ false → fails? ≡ false
      fails_first n = applies_is ∙ simp n

      pub fails_second : first? ≡ true → second? ≡ false → fails? ≡ false
      fails_second k n = applies_is ∙ simp (k, n)

      pub fails_broken : first? ≡ true → second? ≡ true
          → fails? ≡ broken (rules_in l q.switches) (constraint_of (policy_of l) r)
      fails_broken k n = applies_is ∙ simp (k, n)
