-- Laws of the search for the lowest covering rule, one for each way that a turn goes. Assumes nothing.
use Prim.Native.Nat.{ℕ, ◌+◌, ◌%◌, ◌<◌}
use mathlib.Core.Path.{◌≡◌, refl, sym, ap, ◌∙◌}
use mathlib.Core.Logic.{⊎_elim}
use mathlib.Core.Bool.{Bool, true, false, and-true, and-false, and_comm, cond, ◌&&◌}
use mathlib.Core.List.{List}
use native.Mathlib.Omega.{arith}
use lib.ListN.{get_or}
use lib.Dec.{eqb}
use borrow.Author.Tests.{eq-eqb, ne_eqb}
use Rattle.format.specs.Bytes.{word_at}
use Rattle.format.specs.Policy.{policy_of}
use Rattle.format.specs.Inner.Places.{RuleAt}
use Rattle.format.proofs.Tests.{false_not_true}
use Rattle.format.proofs.Bytes.{word_at_lem}
use Rattle.format.proofs.Shapes.{stands_word}
use Rattle.decision.specs.declared.Query.{Query}
use Rattle.decision.specs.Sets.{all_of, within}
use Rattle.decision.specs.Conditions.{is_on}
use Rattle.decision.specs.Reading.{Rule, Request, asks, rule_of, request_of}
use Rattle.decision.specs.Decide.{tests, covers}
use Rattle.decide.specs.Inner.Parts.{set_in, set_at, request_in}
use Rattle.decide.specs.Inner.Rules.{allow_at, may_at, if_asked}

-- ---- what a rule's tests come to

swap : (s d y : Bool) → s && (d && y) ≡ y && d && s
swap s d true = rw (and-true d) (and_comm s d)
swap s d false = rw (and-false d) (and-false s)

reorder : (on s d c a : Bool) → on && (s && (d && (c && (a && true)))) ≡ cond on (cond c a false) false && d && s
reorder false s d c a = refl
reorder true s d true a = ap (λ x. s && (d && x)) (and-true a) ∙ swap s d a
reorder true s d false a = swap s d false

-- a rule's tests in the order in which the code makes them
unfoldable asked? : Request → Rule → Bool
asked? a R = cond R.on (cond (asks R.class a.class) (asks R.action a.action) false) false

covers_asked : (a : Request) (R : Rule) → covers a R ≡ asked? a R && within a.dest R.dest && within a.source R.source
unfolding covers tests all_of asked?
covers_asked a R =
    reorder R.on (within a.source R.source) (within a.dest R.dest) (asks R.class a.class) (asks R.action a.action)

module _ (l : List ℕ) (at : ℕ) (q : Query) (r : List ℕ) (h : RuleAt l at r) where
  abbrev may? : Bool
  may? = may_at l at q

  abbrev dest? : Bool
  dest? = within (set_in l q.dest) (set_at l (at + 4))

  abbrev source? : Bool
  source? = within (set_in l q.source) (set_at l (at + 2))

  asked_is : asked? (request_in l q) (rule_of (policy_of l) q.switches r) ≡ may?
  unfolding asked? asks rule_of request_of may_at allow_at
  asked_is =
      let k1 : get_or r 1 0 ≡ get_or l (at + 1) 0 = h.here.field 1 (omega (arith, h.long)) in
      ⊎_elim
      (λ w.
      let k6 : word_at r 6 ≡ word_at l (at + 6) = stands_word l at r 6 h.here (omega (arith, w.1)) in
      let k8 : word_at r 8 ≡ word_at l (at + 8) = stands_word l at r 8 h.here (omega (arith, w.1)) in
      let k10 : get_or r 10 0 ≡ get_or l (at + 10) 0 = h.here.field 10 (omega (arith, w.1)) in
      simp (k1, k6, k8, k10, eq-eqb (get_or l (at + 1) 0) 2 w.0, ne_eqb (get_or l (at + 1) 0) 3 (omega (arith, w.0))))
      (λ w. simp (k1, eq-eqb (get_or l (at + 1) 0) 3 w, ne_eqb (get_or l (at + 1) 0) 2 (omega (arith, w))))
      h.kind

  pub covers_is : covers (request_in l q) (rule_of (policy_of l) q.switches r) ≡ may? && dest? && source?
  unfolding rule_of request_of
  covers_is =
      let k2 : word_at r 2 ≡ word_at l (at + 2) = stands_word l at r 2 h.here (omega (arith, h.long)) in
      let k4 : word_at r 4 ≡ word_at l (at + 4) = stands_word l at r 4 h.here (omega (arith, h.long)) in
      covers_asked (request_in l q) (rule_of (policy_of l) q.switches r) ∙ rw (asked_is, k2, k4) refl

  pub covers_no_may : may? ≡ false → covers (request_in l q) (rule_of (policy_of l) q.switches r) ≡ false
  covers_no_may e = covers_is ∙ simp e

  pub covers_no_dest : dest? ≡ false → covers (request_in l q) (rule_of (policy_of l) q.switches r) ≡ false
  covers_no_dest e = covers_is ∙ go may? source?
    where
      go : (m s : Bool) → m && dest? && s ≡ false
      go true s = simp e
      go false s = refl

  pub covers_no_source : source? ≡ false → covers (request_in l q) (rule_of (policy_of l) q.switches r) ≡ false
  covers_no_source e = covers_is ∙ go may? dest?
    where
      go : (m d : Bool) → m && d && source? ≡ false
      go true true = e
      go true false = refl
      go false d = refl

  pub covers_yes : may? ≡ true → dest? ≡ true → source? ≡ true
      → covers (request_in l q) (rule_of (policy_of l) q.switches r) ≡ true
  covers_yes a b c = covers_is ∙ simp (a, b, c)

-- the low byte of the class
pub low_byte : (l : List ℕ) (at x class : ℕ) → x ≡ get_or l (at + 7) 0 → x < 256 → word_at l (at + 6) ≡ class
    → x ≡ class % 256
low_byte l at x class e few is =
    let z : at + 6 + 1 ≡ at + 7 = omega arith in
    let low = ap (λ (i : ℕ). get_or l i 0) z in
    omega (arith, word_at_lem l (at + 6), low)

module _ (l : List ℕ) (at : ℕ) (q : Query) where
  pub may_transition : allow_at l at ≡ false → may_at l at q ≡ true
  unfolding may_at
  may_transition e = simp e

  module _ (k : allow_at l at ≡ true) where
    pub may_other : (word_at l (at + 6) ≡ q.class → ⊥) → may_at l at q ≡ false
    unfolding may_at
    may_other h = simp (k, ne_eqb (word_at l (at + 6)) q.class h) (either (is_on q.switches (get_or l (at + 10) 0)))
      where
        either : (b : Bool) → cond b false false ≡ false
        either true = refl
        either false = refl

    pub may_off : is_on q.switches (get_or l (at + 10) 0) ≡ false → may_at l at q ≡ false
    unfolding may_at
    may_off h = simp (k, h)

    pub may_class : (c : ℕ) → c ≡ word_at l (at + 6) → is_on q.switches (get_or l (at + 10) 0) ≡ true → (c ≡ q.class → ⊥)
        → may_at l at q ≡ false
    unfolding may_at
    may_class c e o h = simp (k, o, ne_eqb (word_at l (at + 6)) q.class (λ d. h (e ∙ d)))

    pub may_action : (c a : ℕ) → c ≡ word_at l (at + 6) → a ≡ word_at l (at + 8)
        → is_on q.switches (get_or l (at + 10) 0) ≡ true → c ≡ q.class → may_at l at q ≡ eqb a q.action
    unfolding may_at
    may_action c a e f o h = rw f (simp (k, o, eq-eqb (word_at l (at + 6)) q.class (sym e ∙ h)))

-- ---- a test that is made only where it is asked

module _ (b t : Bool) where
  pub asked_no : b ≡ false → if_asked b t ≡ true
  unfolding if_asked
  asked_no e = simp e

  pub asked_yes : b ≡ true → if_asked b t ≡ t
  unfolding if_asked
  asked_yes e = simp e

pub asked_stops : (b t : Bool) → if_asked b t ≡ false → t ≡ false
unfolding if_asked
asked_stops true t e = e
asked_stops false t e = false_not_true (sym e)
