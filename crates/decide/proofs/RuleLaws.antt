-- Laws of the rule at a place: what its bytes say of it. Assumes nothing.
use Prim.Native.Nat.{ℕ, ◌+◌, ◌<◌}
use mathlib.Core.Path.{◌≡◌, sym, ap, ◌∙◌}
use mathlib.Core.Logic.{⊎_elim}
use mathlib.Core.Bool.{Bool, true, false}
use mathlib.Core.List.{List}
use native.Mathlib.Omega.{arith}
use lib.ListN.{get_or}
use borrow.Author.Tests.{eq-eqb, ne_eqb, eqb-true}
use Rattle.format.specs.Inner.Places.{RuleAt}
use Rattle.format.specs.Policy.{policy_of}
use Rattle.format.proofs.Tests.{false_not_true}
use Rattle.format.proofs.Shapes.{stands_word}
use Rattle.decision.specs.Sets.{set_of}
use Rattle.decision.specs.Conditions.{is_on}
use Rattle.decision.specs.Reading.{Rule, rule_of, live}
use Rattle.decide.specs.Inner.Parts.{groups_in, set_at}
use Rattle.decide.specs.Inner.Rules.{allow_at, live_at, reaching, reaching_at, reaching_from}

module _ (l : List ℕ) (w at : ℕ) (r : List ℕ) (h : RuleAt l at r) where
  live_is : live (rule_of (policy_of l) w r) ≡ live_at l w at
  unfolding live live_at allow_at rule_of
  live_is =
      let k1 : get_or r 1 0 ≡ get_or l (at + 1) 0 = h.here.field 1 (omega (arith, h.long)) in
      ⊎_elim
      (λ k.
      let k10 : get_or r 10 0 ≡ get_or l (at + 10) 0 = h.here.field 10 (omega (arith, k.1)) in
      simp (k1, k10, eq-eqb (get_or l (at + 1) 0) 2 k.0, ne_eqb (get_or l (at + 1) 0) 3 (omega (arith, k.0))))
      (λ k. simp (k1, ne_eqb (get_or l (at + 1) 0) 2 (omega (arith, k))))
      h.kind

  pub source_is : (rule_of (policy_of l) w r).source ≡ set_at l (at + 2)
  unfolding rule_of
  source_is = ap (set_of (groups_in l)) (stands_word l at r 2 h.here (omega (arith, h.long)))

  pub dest_is : (rule_of (policy_of l) w r).dest ≡ set_at l (at + 4)
  unfolding rule_of
  dest_is = ap (set_of (groups_in l)) (stands_word l at r 4 h.here (omega (arith, h.long)))

  pub reaching_is : (ms : List Bool) (b : Bool) → b ≡ live_at l w at
      → reaching ms (rule_of (policy_of l) w r) ≡ reaching_at l ms at b
  unfolding reaching
  reaching_is ms b is = rw (live_is ∙ sym is, dest_is)

pub not_reaching : (ms : List Bool) (f : List ℕ → Bool) (R : Rule) → reaching ms R ≡ false → reaching_from ms f R ≡ false
unfolding reaching_from
not_reaching ms f R e = simp e

pub reaching_source : (ms : List Bool) (f : List ℕ → Bool) (R : Rule) → reaching ms R ≡ true
    → reaching_from ms f R ≡ f R.source
unfolding reaching_from
reaching_source ms f R e = simp e

module _ (l : List ℕ) (at : ℕ) where
  pub live_off : (w : ℕ) → allow_at l at ≡ false → live_at l w at ≡ false
  unfolding live_at
  live_off w e = simp e

  pub live_on : (w : ℕ) → allow_at l at ≡ true → live_at l w at ≡ is_on w (get_or l (at + 10) 0)
  unfolding live_at
  live_on w e = simp e

  -- a transition is no allow rule
  pub allow_not : get_or l (at + 1) 0 ≡ 3 → allow_at l at ≡ false
  unfolding allow_at
  allow_not w = ne_eqb (get_or l (at + 1) 0) 2 (omega (arith, w))

  module _ (r : List ℕ) (h : RuleAt l at r) where
    -- an allow rule has 11 bytes
    pub allow_long : allow_at l at ≡ true → get_or l at 0 ≡ 11
    allow_long e = ⊎_elim (λ w. omega (arith, w.1, h.here.size)) (λ w. false_not_true (sym (allow_not w) ∙ e)) h.kind

    -- and so has a live one
    pub live_length : (w : ℕ) (b : Bool) → b ≡ live_at l w at → b ≡ true → get_or l at 0 ≡ 11
    live_length w b is e =
        ⊎_elim (λ k. omega (arith, k.1, h.here.size))
        (λ k. false_not_true (sym (live_off w (allow_not k)) ∙ sym is ∙ e)) h.kind

    -- its condition is 0 to 33
    pub allow_condition : allow_at l at ≡ true → get_or l (at + 10) 0 < 34
    unfolding allow_at
    allow_condition e = omega (arith, h.condition (eqb-true (get_or l (at + 1) 0) 2 e))
