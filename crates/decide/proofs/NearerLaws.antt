-- Laws of the second walk over the rules: what a rule at a place passes, and the nearest so far. Assumes nothing.
--     off_no, off_yes, other_no, other_yes, class_few .., stops_few ..   the tests of a rule at a place, one for each way that
--                                they go
--     steps_source, steps_dest ..   how many steps a rule passes, by the first that fails
--     class_stops_lem, off_stops, source_stops, dest_stops   a rule that need not be walked passes no more
--     near_start, near_over, near_next, near_four, near_end   one for each way that a turn of the walk goes
--     near_empty                    there are no rules
use Prim.Native.Nat.{ℕ, suc, ◌+◌, ◌-◌, ◌≤◌, ◌<◌}
use native.Mathlib.Omega.{arith}
use mathlib.Core.Path.{◌≡◌, refl, sym, ap, ◌∙◌}
use mathlib.Core.Logic.{⊎_elim}
use mathlib.Core.Bool.{Bool, true, false, not, cond}
use mathlib.Core.List.{List, [], ◌∷◌, map}
use lib.ListN.{get_or, take}
use lib.Dec.{eqb, ltb}
use borrow.Author.Tests.{eq-eqb, ne_eqb, lt-ltb, le-ltb, ltb-true, ltb-false}
use Rattle.format.specs.declared.Section.TheVariants.{Rules}
use Rattle.format.specs.Bytes.{word_at}
use Rattle.format.specs.Policy.{policy_of, record_at, records_at, start_of}
use Rattle.format.specs.Format.{count_of}
use Rattle.format.specs.Inner.Places.{RuleAt}
use Rattle.format.proofs.Tests.{false_not_true}
use Rattle.format.proofs.Bytes.{word_at_lem}
use Rattle.format.proofs.Records.{records_none, records_next}
use Rattle.format.proofs.Shapes.{stands_word}
use Rattle.decision.specs.declared.Query.{Query}
use Rattle.decision.specs.Sets.{all_of, within}
use Rattle.decision.specs.Conditions.{is_on}
use Rattle.decision.specs.Reading.{Rule, Request, asks, rule_of, request_of}
use Rattle.decision.specs.Decide.{tests, covers, passes, steps, nearest, nearest_by, nearest_of, first_at, near, Nearest}
use Rattle.decision.specs.Inner.OnePass.{nearer, nearest_from}
use Rattle.decision.proofs.Search.{by_test, any_of_none}
use Rattle.decision.proofs.Nearness.{nearest_same}
use Rattle.decision.specs.declared.Near.{Near}
use Rattle.decide.specs.Inner.Parts.{rules_in, request_in, set_in, set_at}
use Rattle.decide.specs.declared.kept.Kept.{Kept}
use Rattle.decide.specs.Inner.Kept.{outside_in}
use Rattle.decide.specs.Inner.Rules.{allow_at}
use Rattle.decide.specs.Inner.Nearer.{Uncovered, off_at, other_class_at, class_stops, stops_at, short_steps, Counts, near_of, AtNearest}
use Rattle.decide.proofs.RuleLaws.{source_is, dest_is}
use Rattle.decide.proofs.WalkLaws.{walk_start, walk_next, walk_hit, walk_end, all_rules}
use Rattle.std.specs.Prelude.{None, Some}

-- ---- the tests of a rule at a place

module _ (l : List ℕ) (at : ℕ) where
  module _ (e : allow_at l at ≡ false) where
    pub off_no : (w : ℕ) → off_at l w at ≡ false
    unfolding off_at
    off_no w = simp e

    pub other_no : (class : ℕ) → other_class_at l at class ≡ false
    unfolding other_class_at
    other_no class = simp e

  module _ (e : allow_at l at ≡ true) where
    pub off_yes : (w : ℕ) → off_at l w at ≡ not (is_on w (get_or l (at + 10) 0))
    unfolding off_at
    off_yes w = simp e

    pub other_yes : (class : ℕ) → other_class_at l at class ≡ not (eqb (word_at l (at + 6)) class)
    unfolding other_class_at
    other_yes class = simp e

  module _ (class most : ℕ) where
    pub class_few : most < 3 → class_stops l at class most ≡ false
    unfolding class_stops
    class_few h = simp (lt-ltb most 3 h)

    pub class_known : 3 ≤ most → class_stops l at class most ≡ other_class_at l at class
    unfolding class_stops
    class_known h = simp (le-ltb most 3 h)

    pub class_says : class_stops l at class most ≡ true → (3 ≤ most) × (other_class_at l at class ≡ true)
    unfolding class_stops
    class_says e = go (ltb most 3) refl e
      where
        go : (b : Bool) → ltb most 3 ≡ b → cond b false (other_class_at l at class) ≡ true
            → (3 ≤ most) × (other_class_at l at class ≡ true)
        go true h k = false_not_true k
        go false h k = (ltb-false most 3 h, k)

module _ (l : List ℕ) (at : ℕ) (ms : List Bool) (kept : List Kept) (passed most : ℕ) where
  pub stops_few : most < passed → stops_at l at ms kept passed most ≡ false
  unfolding stops_at
  stops_few h = simp (lt-ltb most passed h)

  pub stops_known : passed ≤ most → stops_at l at ms kept passed most ≡ outside_in ms kept (word_at l at)
  unfolding stops_at
  stops_known h = simp (le-ltb most passed h)

  pub stops_says : stops_at l at ms kept passed most ≡ true → (passed ≤ most) × (outside_in ms kept (word_at l at) ≡ true)
  unfolding stops_at
  stops_says e = go (ltb most passed) refl e
    where
      go : (b : Bool) → ltb most passed ≡ b → cond b false (outside_in ms kept (word_at l at)) ≡ true
          → (passed ≤ most) × (outside_in ms kept (word_at l at) ≡ true)
      go true h k = false_not_true k
      go false h k = (ltb-false most passed h, k)

-- a type by its two bytes: a group's number is the low one, and is below 256
module _ (l : List ℕ) (at : ℕ) where
  pub high_group : word_at l at < 33024 → 127 < get_or l at 0
      → (32768 ≤ word_at l at) × (word_at l at - 32768 ≡ get_or l (at + 1) 0)
  high_group few h = (omega (arith, word_at_lem l at), omega (arith, word_at_lem l at))

  pub high_basic : get_or l at 0 ≤ 127 → get_or l (at + 1) 0 < 256 → word_at l at < 32768
  high_basic h low = omega (arith, word_at_lem l at)

-- ---- how many steps a rule passes

four : (a b c d e : Bool) → passes (take 4 (a ∷ b ∷ c ∷ d ∷ e ∷ [])) ≡ cond a (cond b (cond c (cond d 4 3) 2) 1) 0
unfolding passes
four false b c d e = refl
four true false c d e = refl
four true true false d e = refl
four true true true false e = refl
four true true true true e = refl

five : (a b c d e : Bool) → all_of (λ x. x) (a ∷ b ∷ c ∷ d ∷ e ∷ []) ≡ false
    → passes (a ∷ b ∷ c ∷ d ∷ e ∷ []) ≡ passes (take 4 (a ∷ b ∷ c ∷ d ∷ e ∷ []))
unfolding passes all_of
five false b c d e h = refl
five true false c d e h = refl
five true true false d e h = refl
five true true true false e h = refl
five true true true true false h = refl
five true true true true true h = false_not_true (sym h)

-- of a rule that does not cover, the action's step does not count
short_steps_lem : (a : Request) (r : Rule) → covers a r ≡ false → steps a r ≡ short_steps a r
unfolding covers steps short_steps tests
short_steps_lem a r =
    five r.on (within a.source r.source) (within a.dest r.dest) (asks r.class a.class) (asks r.action a.action)

short_is : (a : Request) (r : Rule) → short_steps a r
    ≡ cond r.on (cond (within a.source r.source) (cond (within a.dest r.dest) (cond (asks r.class a.class) 4 3) 2) 1) 0
unfolding short_steps tests
short_is a r = four r.on (within a.source r.source) (within a.dest r.dest) (asks r.class a.class) (asks r.action a.action)

at_most_four : (a b c d : Bool) → cond a (cond b (cond c (cond d 4 3) 2) 1) 0 ≤ 4
at_most_four false b c d = omega arith
at_most_four true false c d = omega arith
at_most_four true true false d = omega arith
at_most_four true true true false = omega arith
at_most_four true true true true = omega arith

short_few : (a : Request) (r : Rule) → short_steps a r ≤ 4
short_few a r = rw (short_is a r)
    (at_most_four r.on (within a.source r.source) (within a.dest r.dest) (asks r.class a.class))

twice : (b : Bool) → b ≡ not (not b)
twice true = refl
twice false = refl

module _ (l : List ℕ) (at : ℕ) (q : Query) (r : List ℕ) (h : RuleAt l at r) where
  abbrev dest? : Bool
  dest? = within (set_in l q.dest) (set_at l (at + 4))

  abbrev source? : Bool
  source? = within (set_in l q.source) (set_at l (at + 2))

  abbrev counted : ℕ
  counted = short_steps (request_in l q) (rule_of (policy_of l) q.switches r)

  on_is : (rule_of (policy_of l) q.switches r).on ≡ not (off_at l q.switches at)
  unfolding rule_of off_at allow_at
  on_is =
      let k1 : get_or r 1 0 ≡ get_or l (at + 1) 0 = h.here.field 1 (omega (arith, h.long)) in
      ⊎_elim
      (λ w.
      let k10 : get_or r 10 0 ≡ get_or l (at + 10) 0 = h.here.field 10 (omega (arith, w.1)) in
      simp (k1, k10, eq-eqb (get_or l (at + 1) 0) 2 w.0, ne_eqb (get_or l (at + 1) 0) 3 (omega (arith, w.0)))
      (twice (is_on q.switches (get_or l (at + 10) 0))))
      (λ w. simp (k1, eq-eqb (get_or l (at + 1) 0) 3 w, ne_eqb (get_or l (at + 1) 0) 2 (omega (arith, w))))
      h.kind

  class_is : asks (rule_of (policy_of l) q.switches r).class q.class ≡ not (other_class_at l at q.class)
  unfolding rule_of asks other_class_at allow_at
  class_is =
      let k1 : get_or r 1 0 ≡ get_or l (at + 1) 0 = h.here.field 1 (omega (arith, h.long)) in
      ⊎_elim
      (λ w.
      let k6 : word_at r 6 ≡ word_at l (at + 6) = stands_word l at r 6 h.here (omega (arith, w.1)) in
      simp (k1, k6, eq-eqb (get_or l (at + 1) 0) 2 w.0, ne_eqb (get_or l (at + 1) 0) 3 (omega (arith, w.0)))
      (twice (eqb (word_at l (at + 6)) q.class)))
      (λ w. simp (k1, eq-eqb (get_or l (at + 1) 0) 3 w, ne_eqb (get_or l (at + 1) 0) 2 (omega (arith, w))))
      h.kind

  counted_is : counted ≡ cond (not (off_at l q.switches at))
      (cond source? (cond dest? (cond (not (other_class_at l at q.class)) 4 3) 2) 1) 0
  unfolding request_of
  counted_is = short_is (request_in l q) (rule_of (policy_of l) q.switches r)
      ∙ rw (on_is, class_is, source_is l q.switches at r h, dest_is l q.switches at r h)

  -- a class that differs ends the count, and a condition that is off
  pub class_stops_lem : (most : ℕ) → 3 ≤ most → other_class_at l at q.class ≡ true → counted ≤ most
  class_stops_lem most m e = go (off_at l q.switches at) source? dest? (counted_is ∙ rw e refl)
    where
      go : (o s d : Bool) → counted ≡ cond (not o) (cond s (cond d 3 2) 1) 0 → counted ≤ most
      go true s d is = omega arith
      go false false d is = omega arith
      go false true false is = omega arith
      go false true true is = omega arith

  pub off_stops : (most : ℕ) → off_at l q.switches at ≡ true → counted ≤ most
  off_stops most e = let is : counted ≡ 0 = counted_is ∙ simp e in omega arith

  -- and a type that fails
  pub source_stops : (most : ℕ) → 1 ≤ most → source? ≡ false → counted ≤ most
  source_stops most m e = go (off_at l q.switches at) (counted_is ∙ rw e refl)
    where
      go : (o : Bool) → counted ≡ cond (not o) 1 0 → counted ≤ most
      go true is = omega arith
      go false is = omega arith

  pub dest_stops : (most : ℕ) → 2 ≤ most → dest? ≡ false → counted ≤ most
  dest_stops most m e = go (off_at l q.switches at) source? (counted_is ∙ rw e refl)
    where
      go : (o s : Bool) → counted ≡ cond (not o) (cond s 2 1) 0 → counted ≤ most
      go true s is = omega arith
      go false false is = omega arith
      go false true is = omega arith

  module _ (on : off_at l q.switches at ≡ false) where
    pub steps_source : source? ≡ false → counted ≡ 1
    steps_source s = counted_is ∙ simp (on, s)

    pub steps_dest : source? ≡ true → dest? ≡ false → counted ≡ 2
    steps_dest s d = counted_is ∙ simp (on, s, d)

    pub steps_class : source? ≡ true → dest? ≡ true → other_class_at l at q.class ≡ true → counted ≡ 3
    steps_class s d k = counted_is ∙ simp (on, s, d, k)

    pub steps_all : source? ≡ true → dest? ≡ true → other_class_at l at q.class ≡ false → counted ≡ 4
    steps_all s d k = counted_is ∙ simp (on, s, d, k)

pub counts_exact : (most s r : ℕ) → s ≡ r → Counts most s r
counts_exact most s r e = record { more = λ h. sym e; less = λ h. omega arith }

pub counts_none : (most s : ℕ) → s ≤ most → Counts most s 0
counts_none most s e = record { more = λ h. absurd (omega arith); less = λ h. omega arith }

-- what a count of more than `most` says, and one of no more
pub counts_more : (most s r : ℕ) → Counts most s r → most < r → r ≡ s
counts_more most s r c h =
    by_test (ltb most s) (λ t. c.more (ltb-true most s t)) (λ t. absurd (omega (arith, c.less (ltb-false most s t))))

pub counts_less : (most s r : ℕ) → Counts most s r → r ≤ most → s ≤ most
counts_less most s r c h =
    by_test (ltb most s) (λ t. let e = c.more (ltb-true most s t) in absurd (omega (arith, ltb-true most s t)))
    (λ t. ltb-false most s t)

-- ---- the nearest so far

-- a rule that passes no more steps leaves the nearest, one that passes more is it
module _ (b : Near) (s n : ℕ) where
  stays_best : s ≤ b.steps → nearer (near_of b) s n ≡ near_of b
  unfolding nearer
  stays_best h = simp (le-ltb b.steps s h)

  now_best : b.steps < s → nearer (near_of b) s n ≡ Some (near s n)
  unfolding nearer
  now_best h = simp (lt-ltb b.steps s h)

module _ {A : Type 0} (f : A → ℕ) where
  stays : (s m n : ℕ) (xs : List A) → ((x : A) → f x ≤ s) → nearest_from f (Some (near s m)) n xs ≡ Some (near s m)
  unfolding nearest_from nearer
  stays s m n [] h = refl
  stays s m n (x ∷ xs) h = simp (le-ltb s (f x) (h x)) (stays s m (suc n) xs h)

  -- no step at rule 0 is what a walk may begin with, where there is a rule
  from_first : (x : A) (xs : List A) → nearest_from f None 0 (x ∷ xs) ≡ nearest_from f (Some (near 0 0)) 0 (x ∷ xs)
  unfolding nearest_from nearer
  from_first x xs =
      by_test (ltb 0 (f x))
      (λ t. simp t)
      (λ t. let z : f x ≡ 0 = omega (arith, ltb-false 0 (f x) t) in simp (t, z))

module _ (l : List ℕ) (q : Query) where
  abbrev whole : Nearest
  whole = nearest (request_in l q) (rules_in l q.switches)

  abbrev rest : Near → ℕ → List Rule → Nearest
  rest b n rs = nearest_from (short_steps (request_in l q)) (near_of b) n rs

  pub near_empty : (count : ℕ) → count ≡ count_of l Rules → count ≡ 0 → None ≡ whole
  unfolding nearest nearest_by nearest_of first_at
  near_empty count e z =
      let None : rules_in l q.switches ≡ [] =
      all_rules l q.switches ∙ ap (map (rule_of (policy_of l) q.switches))
      (records_none l (start_of l Rules) (count_of l Rules) (sym e ∙ z)) in
      rw None refl

  some_first : (count : ℕ) → count ≡ count_of l Rules → (count ≡ 0 → ⊥)
      → nearest_from (short_steps (request_in l q)) None 0 (rules_in l q.switches)
      ≡ rest (record { steps = 0; rule = 0 }) 0 (rules_in l q.switches)
  some_first count e z =
      let next : count_of l Rules ≡ suc (count_of l Rules - 1) = omega (arith, z) in
      let at : ℕ = start_of l Rules in
      let is : rules_in l q.switches ≡ rule_of (policy_of l) q.switches (record_at l at) ∷ map
      (rule_of (policy_of l) q.switches) (records_at l (at + get_or l at 0) (count_of l Rules - 1)) =
      all_rules l q.switches ∙ ap (map (rule_of (policy_of l) q.switches))
      (records_next l at (count_of l Rules) (count_of l Rules - 1) next) in
      rw is (from_first (short_steps (request_in l q)) (rule_of (policy_of l) q.switches (record_at l at))
      (map (rule_of (policy_of l) q.switches) (records_at l (at + get_or l at 0) (count_of l Rules - 1))))

  pub near_start :
      Uncovered l q → (from count : ℕ) → from ≡ start_of l Rules → count ≡ count_of l Rules → (count ≡ 0 → ⊥)
      → AtNearest l q (record { steps = 0; rule = 0 }) count 0 from
  unfolding nearest
  near_start u from count e c z =
      walk_start Rules (rule_of (policy_of l) q.switches) l whole (rest (record { steps = 0; rule = 0 })) from count e c
      (nearest_same (steps (request_in l q)) (short_steps (request_in l q)) (rules_in l q.switches)
      (λ r m. short_steps_lem (request_in l q) r (any_of_none (covers (request_in l q)) u m))
      ∙ some_first count c z
      ∙ ap (rest (record { steps = 0; rule = 0 }) 0) (all_rules l q.switches))

  module _ (b : Near) (count n at : ℕ) (w : AtNearest l q b count n at) where
    abbrev here : ℕ
    here = short_steps (request_in l q) (rule_of (policy_of l) q.switches (record_at l at))

    pub near_end : (n < count → ⊥) → near_of b ≡ whole
    unfolding nearest_from
    near_end h = sym (walk_end Rules (rule_of (policy_of l) q.switches) l whole (rest b) count n at w h)

    module _ (more : n < count) where
      turn : (b' : Near) → nearer (near_of b) here n ≡ near_of b' → (rs : List Rule)
          → rest b n (rule_of (policy_of l) q.switches (record_at l at) ∷ rs) ≡ rest b' (n + 1) rs
      unfolding nearest_from
      turn b' e rs =
          let z : suc n ≡ n + 1 = omega arith in
          ap (λ (x : Nearest). nearest_from (short_steps (request_in l q)) x (suc n) rs) e ∙ ap (λ (m : ℕ). rest b' m rs) z

      -- a rule that comes no nearer is passed over
      pub near_over : here ≤ b.steps → (to : ℕ) → to ≡ at + get_or l at 0 → AtNearest l q b count (n + 1) to
      near_over h to = walk_next Rules (rule_of (policy_of l) q.switches) l whole (rest b) count n at w more (rest b) to
          (turn b (stays_best b here n h))

      module _ (s : ℕ) (is : s ≡ here) (h : b.steps < s) where
        taken : nearer (near_of b) here n ≡ Some (near s n)
        taken = ap (λ (k : ℕ). nearer (near_of b) k n) (sym is) ∙ now_best b s n h

        pub near_next : (to : ℕ) → to ≡ at + get_or l at 0 → AtNearest l q (record { steps = s; rule = n }) count (n + 1) to
        near_next to = walk_next Rules (rule_of (policy_of l) q.switches) l whole (rest b) count n at w more
            (rest (record { steps = s; rule = n })) to (turn (record { steps = s; rule = n }) taken)

        pub near_four : s ≡ 4 → Some (near 4 n) ≡ whole
        near_four e =
            sym (walk_hit Rules (rule_of (policy_of l) q.switches) l whole (rest b) count n at w more (Some (near 4 n))
            (λ rs. turn (record { steps = s; rule = n }) taken rs
            ∙ ap (λ (k : ℕ). nearest_from (short_steps (request_in l q)) (Some (near k n)) (n + 1) rs) e
            ∙ stays (short_steps (request_in l q)) 4 n (n + 1) rs (short_few (request_in l q))))
