-- The three decisions are those of before: claim DecisionsStay. Assumes nothing.
use Prim.Native.Nat.{ℕ}
use mathlib.Core.Path.{◌≡◌, refl, sym, ap, ◌∙◌}
use Rattle.std.specs.Prelude.{Option, None, Some}
use mathlib.Core.List.{List}
use native.Mathlib.Omega.{arith}
use Rattle.format.specs.declared.Refusal.{Refusal}
use Rattle.format.specs.Policy.{Policy, policy_of}
use Rattle.std.specs.Prelude.{Ok}
use Rattle.format.specs.Answers.{outcome}
use Rattle.format.proofs.Chain.{outcome_gives}
use Rattle.decision.specs.declared.Query.{Query}
use Rattle.decision.specs.Reading.{rule_of, request_of, rules_of, constraints_of}
use Rattle.decision.specs.Decide.{covers, fails, first_at, nearest, decision_of, judge, decide, answer_fault, answer, Nearest}
use Rattle.decision.specs.Tepla.{permits}
use Rattle.decision.specs.Before.{allowed, bare_of, decide_before, answer_before, barely, DecisionsStay}
use Rattle.decision.proofs.Search.{first_at_map, first_at_same}
use Rattle.decision.proofs.Tepla.{permits_covers}

bare_is : (f : Option Refusal) (x : Nearest) (r c : Option ℕ) → barely (outcome f (decision_of x r c)) ≡ outcome f (bare_of r c)
unfolding decision_of bare_of
bare_is (Some f) x r c = refl
bare_is None x None c = refl
bare_is None x (Some r) None = refl
bare_is None x (Some r) (Some c) = refl

named : (o c : Option ℕ) (r : ℕ) → allowed r ≡ bare_of o c → o ≡ Some r
unfolding bare_of
named None c r e = (let z : ◌≡◌ {A = ℕ} 0 1 = cc in absurd (omega arith))
named (Some k) None r e = (let z : r ≡ k = cc in ap Some (sym z))
named (Some k) (Some c) r e = (let z : ◌≡◌ {A = ℕ} 0 1 = cc in absurd (omega arith))

-- the lowest rule that covers is the lowest record that permits
first_permits : (p : Policy) (q : Query) → first_at (covers (request_of p q)) 0 (rules_of p q.switches) ≡ first_at (permits p q) 0 p.rules
unfolding rules_of
first_permits p q =
    first_at_map (covers (request_of p q)) (rule_of p q.switches) 0 p.rules
    ∙ first_at_same (λ r. covers (request_of p q) (rule_of p q.switches r)) (permits p q) 0 p.rules (λ r. sym (permits_covers p q r))

-- for the layers above: the rule that the decision of before names is the lowest record that permits
pub before_permits : (l : List ℕ) (q : Query) (r : ℕ) → answer_before l q ≡ Ok (allowed r) → first_at (permits (policy_of l) q) 0 (policy_of l).rules ≡ Some r
unfolding answer_before decide_before
before_permits l q r e =
    let p = policy_of l in
    let d = (outcome_gives (answer_fault l q) (bare_of (first_at (permits p q) 0 p.rules) (first_at (fails (rules_of p q.switches) (request_of p q)) 0 (constraints_of p))) (sym e)).1 in
    named (first_at (permits p q) 0 p.rules) (first_at (fails (rules_of p q.switches) (request_of p q)) 0 (constraints_of p)) r d

pub decisions_stay : DecisionsStay
unfolding answer answer_before decide decide_before judge
decisions_stay l q =
    let p = policy_of l in
    let c = first_at (fails (rules_of p q.switches) (request_of p q)) 0 (constraints_of p) in
    bare_is (answer_fault l q) (nearest (request_of p q) (rules_of p q.switches)) (first_at (covers (request_of p q)) 0 (rules_of p q.switches)) c
    ∙ ap (λ (r : Option ℕ). outcome (answer_fault l q) (bare_of r c)) (first_permits p q)
