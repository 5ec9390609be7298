-- What an answer can hold, for the layers above. Assumes nothing.
--     answer_refused       a refusal is the check's, or 8 or 9 with the place 0
--     image_refused        and the check's is every query's
--     denied_inside, permitted_inside, unknown_inside   the numbers that a decision names are below the sections' counts, and
--                                steps are at most 4
--     decide_alike         policies and queries that are read the same are decided the same
--     answer_gives         on an accepted image a query with valid types is answered with the decision
use Prim.Native.Nat.{ℕ, ◌≤◌, ◌<◌}
use mathlib.Core.Path.{◌≡◌, refl, sym, ap, ◌∙◌}
use mathlib.Core.Logic.{◌⊎◌, inl, inr}
use mathlib.Core.Bool.{Bool}
use Rattle.std.specs.Prelude.{None, Some}
use mathlib.Core.List.{List, map}
use native.Mathlib.Omega.{arith}
use lib.ListN.{length, length-map}
use Rattle.format.specs.declared.Section.TheVariants.{Groups, Rules, Constraints}
use Rattle.format.specs.declared.Refusal.{Refusal}
use Rattle.format.specs.Refusals.{refusal, need}
use Rattle.format.specs.Format.{is_type, count_of}
use Rattle.format.specs.Policy.{Policy, policy_of}
use Rattle.format.specs.Check.{check, Accepted}
use Rattle.std.specs.Prelude.{Ok, Err}
use Rattle.format.specs.Answers.{outcome}
use Rattle.format.proofs.Chain.{or_else_first, or_else_none, or_else_refuses, need_none, need_refuses, outcome_refused}
use Rattle.format.proofs.ByCase.{records_of_rules, records_of_constraints}
use Rattle.format.proofs.Accepted.{records_count}
use Rattle.decision.specs.declared.Query.{Query}
use Rattle.decision.specs.Reading.{request_of, rules_of, constraints_of}
use Rattle.decision.specs.declared.Decision.TheVariants.{NotPermitted, Permitted, UnKnown}
use Rattle.decision.specs.Decide.{decide, query_fault, answer_fault, answer, Valid, near}
use Rattle.decision.specs.Lowest.{Lowest}
use Rattle.decision.proofs.Search.{lowest_inside}
use Rattle.decision.proofs.Lowest.{lowest_answered}
use Rattle.decision.proofs.Steps.{nearest_passes}

module _ (l : List ℕ) (q : Query) where
  abbrev Named : Refusal → Type 0
  Named f = (check l ≡ Some f) ⊎ ((f ≡ refusal 8 0) ⊎ (f ≡ refusal 9 0))

  fault_named : (f : Refusal) → answer_fault l q ≡ Some f → Named f
  unfolding answer_fault query_fault
  fault_named =
      let g : ℕ = count_of l Groups in
      or_else_refuses Named (check l) (query_fault g q) (λ f e. inl e)
      (λ _. or_else_refuses Named (need (is_type g q.source) (refusal 8 0)) (need (is_type g q.dest) (refusal 9 0))
      (need_refuses Named (is_type g q.source) (refusal 8 0) (inr (inl refl)))
      (λ _. need_refuses Named (is_type g q.dest) (refusal 9 0) (inr (inr refl))))

  pub answer_refused : (f : Refusal) → answer l q ≡ Err f → (check l ≡ Some f) ⊎ ((f ≡ refusal 8 0) ⊎ (f ≡ refusal 9 0))
  unfolding answer
  answer_refused f e = fault_named f (outcome_refused (answer_fault l q) (decide (policy_of l) q) (sym e))

  pub image_refused : (f : Refusal) → check l ≡ Some f → answer l q ≡ Err f
  unfolding answer answer_fault
  image_refused f e = ap (λ x. outcome x (decide (policy_of l) q)) (or_else_first _ e)

-- an element's number is below the section's count, where the elements are read from its records
inside : {A : Type 0} (f : A → Bool) (g : List ℕ → A) (xs : List (List ℕ)) (n count : ℕ) → length xs ≡ count → Lowest f (map g xs) n → n < count
inside f g xs n count e h = omega (arith, lowest_inside f (map g xs) n h, length-map xs g)

module _ (l : List ℕ) where
  rules_are : length (policy_of l).rules ≡ count_of l Rules
  rules_are = ap length (sym (records_of_rules (policy_of l))) ∙ records_count l Rules

  constraints_are : length (policy_of l).constraints ≡ count_of l Constraints
  constraints_are = ap length (sym (records_of_constraints (policy_of l))) ∙ records_count l Constraints

  module _ (q : Query) where
    pub denied_inside : (s n : ℕ) → answer l q ≡ Ok (NotPermitted (Some (near s n))) → (s ≤ 4) × (n < count_of l Rules)
    denied_inside s n e =
        let f = nearest_passes l q s n e in
        (f.2, omega (arith, f.0, rules_are))

    pub permitted_inside : (r : ℕ) → answer l q ≡ Ok (Permitted r) → r < count_of l Rules
    unfolding rules_of
    permitted_inside r e = inside _ _ (policy_of l).rules r (count_of l Rules) rules_are (lowest_answered l q (Permitted r) e).0

    pub unknown_inside : (r c : ℕ) → answer l q ≡ Ok (UnKnown r c) → (r < count_of l Rules) × (c < count_of l Constraints)
    unfolding rules_of constraints_of
    unknown_inside r c e =
        let n = lowest_answered l q (UnKnown r c) e in (
          inside _ _ (policy_of l).rules r (count_of l Rules) rules_are n.0,
          inside _ _ (policy_of l).constraints c (count_of l Constraints) constraints_are n.1,
        )

pub decide_alike :
    (p p' : Policy) (q q' : Query) → rules_of p' q'.switches ≡ rules_of p q.switches → constraints_of p' ≡ constraints_of p
    → request_of p' q' ≡ request_of p q → decide p' q' ≡ decide p q
unfolding decide
decide_alike p p' q q' h k l = rw (h, k, l)

module _ (l : List ℕ) (q : Query) where
  pub valid_none : Valid l q → query_fault (count_of l Groups) q ≡ None
  unfolding query_fault
  valid_none v = or_else_none (need_none _ v.0) (need_none _ v.1)

  pub answer_gives : Accepted l → Valid l q → answer l q ≡ Ok (decide (policy_of l) q)
  unfolding answer answer_fault
  answer_gives e v = ap (λ x. outcome x (decide (policy_of l) q)) (or_else_none e (valid_none v))
