-- The steps and the nearest rule: claims StepsInOrder, StepsOfRecord, CoversAll, DeniedSteps, NearestPasses, NearestOfAll,
-- NoRulesExactly. Assumes nothing.
--     uncovered_few    a rule that does not cover passes at most 4 steps
use Prim.Native.Nat.{ℕ, suc, ◌≤◌, ◌<◌}
use native.Mathlib.Omega.{arith}
use mathlib.Core.Path.{◌≡◌, refl, sym, ap, ◌∙◌}
use mathlib.Core.Bool.{Bool, true, false, cond}
use mathlib.Core.List.{List, [], ◌∷◌, map, Memᴰ}
use lib.ListN.{length, get_or, length-map, get_or-map}
use lib.Dec.{eqb, leb, ltb}
use borrow.Author.Tests.{eqb-true, eqb-false, leb-false, ltb-false}
use Rattle.format.specs.Policy.{Policy, policy_of}
use Rattle.std.specs.Prelude.{Ok, None, Some}
use Rattle.decision.specs.declared.Query.{Query}
use Rattle.decision.specs.Sets.{any_of, all_of, within}
use Rattle.decision.specs.Reading.{Rule, Request, asks, rule_of, request_of, rules_of, constraints_of}
use Rattle.decision.specs.declared.Decision.TheVariants.{NotPermitted}
use Rattle.decision.specs.Decide.{tests, covers, passes, steps, first_at, nearest_of, nearest_by, nearest, decision_of, judge, decide, answer, near, Nearest}
use Rattle.decision.specs.Lowest.{Most}
use Rattle.decision.specs.Steps.{steps_of, StepsInOrder, CoversAll, steps_at, source_in, dest_in, StepsOfRecord, FewSteps, DeniedSteps, NearestPasses, NearestOfAll, NoRulesExactly}
use Rattle.decision.proofs.Search.{member_at, any_of_map, any_of_none, none_at, lowest_inside, lowest_at}
use Rattle.decision.proofs.Nearness.{most_lowest}
use Rattle.decision.proofs.Order.{answer_accepted, decided}
use Rattle.decision.proofs.Lowest.{lowest_answered}

-- ---- of one rule

-- five tests
record Five (l : List Bool) (n : ℕ) : Type 0 where
  all : all_of (λ b. b) l ≡ eqb (passes l) 5
  most : passes l ≤ 5
  is : passes l ≡ n

five : (a b c d e : Bool) → Five (a ∷ b ∷ c ∷ d ∷ e ∷ []) (cond a (cond b (cond c (cond d (cond e 5 4) 3) 2) 1) 0)
unfolding all_of passes
five false b c d e = record { all = refl; most = omega arith; is = refl }
five true false c d e = record { all = refl; most = omega arith; is = refl }
five true true false d e = record { all = refl; most = omega arith; is = refl }
five true true true false e = record { all = refl; most = omega arith; is = refl }
five true true true true false = record { all = refl; most = omega arith; is = refl }
five true true true true true = record { all = refl; most = omega arith; is = refl }

pub steps_in_order : StepsInOrder
unfolding steps tests
steps_in_order a r =
    (five r.on (within a.source r.source) (within a.dest r.dest) (asks r.class a.class) (asks r.action a.action)).is

pub covers_all : CoversAll
unfolding covers steps tests
covers_all a r =
    let f = five r.on (within a.source r.source) (within a.dest r.dest) (asks r.class a.class) (asks r.action a.action) in
    (f.all, f.most)

pub uncovered_few : (a : Request) (r : Rule) → covers a r ≡ false → steps a r ≤ 4
uncovered_few a r e =
    let c = covers_all a r in
    let n = eqb-false (steps a r) 5 (sym c.0 ∙ e) in
    omega (arith, c.1)

pub steps_of_record : StepsOfRecord
unfolding rule_of request_of asks
steps_of_record =
    record {
      on = λ p q r k c. steps_in_order (request_of p q) (rule_of p q.switches r) ∙ simp (k, c);
      off = λ p q r k c. steps_in_order (request_of p q) (rule_of p q.switches r) ∙ simp (k, c);
      transition = λ p q r k. steps_in_order (request_of p q) (rule_of p q.switches r) ∙ simp k;
    }

-- ---- where no rule covers

-- a transition asks for neither class nor action
transition_few : (p : Policy) (q : Query) (r : List ℕ) → get_or r 1 0 ≡ 3 → covers (request_of p q) (rule_of p q.switches r) ≡ false → (1 ≤ steps_of p q r) × (steps_of p q r ≤ 2)
transition_few p q r k e = go (source_in p q r) (dest_in p q r) (steps_of p q r) (steps_of_record.transition p q r k) (uncovered_few (request_of p q) (rule_of p q.switches r) e)
  where
    go : (s d : Bool) (n : ℕ) → n ≡ cond s (cond d 5 2) 1 → n ≤ 4 → (1 ≤ n) × (n ≤ 2)
    go false d n is few = (omega arith, omega arith)
    go true false n is few = (omega arith, omega arith)
    go true true n is few = absurd (omega arith)

module _ (l : List ℕ) (q : Query) (x : Nearest) (e : answer l q ≡ Ok (NotPermitted x)) where
  uncovered : any_of (λ r. covers (request_of (policy_of l) q) (rule_of (policy_of l) q.switches r)) (policy_of l).rules ≡ false
  unfolding rules_of
  uncovered = sym (any_of_map (covers (request_of (policy_of l) q)) (rule_of (policy_of l) q.switches) (policy_of l).rules) ∙ (lowest_answered l q (NotPermitted x) e).0

  pub few_steps : (r : List ℕ) → Memᴰ r (policy_of l).rules → FewSteps (policy_of l) q r
  few_steps r m =
      let u = any_of_none (λ z. covers (request_of (policy_of l) q) (rule_of (policy_of l) q.switches z)) uncovered m in
      record { few = uncovered_few (request_of (policy_of l) q) (rule_of (policy_of l) q.switches r) u; transition = λ k. transition_few (policy_of l) q r k u }

pub denied_steps : DeniedSteps
denied_steps = few_steps

-- ---- the rule that is named

-- what the answer says of the rules as they are read
most_steps : (l : List ℕ) (q : Query) (s n : ℕ) → answer l q ≡ Ok (NotPermitted (Some (near s n))) → Most (steps (request_of (policy_of l) q)) (map (rule_of (policy_of l) q.switches) (policy_of l).rules) s n
unfolding rules_of
most_steps l q s n e = (lowest_answered l q (NotPermitted (Some (near s n))) e).1

pub nearest_passes : NearestPasses
nearest_passes l q s n e =
    let p = policy_of l in
    let a = request_of p q in
    let low = most_lowest (steps a) (map (rule_of p q.switches) p.rules) s n (most_steps l q s n e) in
    let inside = lowest_inside (λ r. eqb (steps a r) s) (map (rule_of p q.switches) p.rules) n low in
    let at = lowest_at (λ r. eqb (steps a r) s) (map (rule_of p q.switches) p.rules) n (rule_of p q.switches []) low in
    let here : n < length p.rules = omega (arith, inside, length-map p.rules (rule_of p q.switches)) in
    let is : steps_at p q n ≡ s = sym (ap (steps a) (get_or-map (rule_of p q.switches) p.rules n [])) ∙ eqb-true _ s at in
    (here, is, omega (arith, is, (few_steps l q (Some (near s n)) e (get_or p.rules n []) (member_at p.rules n [] here)).few))

pub nearest_of_all : NearestOfAll
nearest_of_all l q s n e k h =
    let p = policy_of l in
    let a = request_of p q in
    let rs = map (rule_of p q.switches) p.rules in
    let m = most_steps l q s n e in
    let read : k < length rs = omega (arith, h, length-map p.rules (rule_of p q.switches)) in
    let is = ap (steps a) (get_or-map (rule_of p q.switches) p.rules k []) in
    let no_more = ltb-false s (steps a (get_or rs k (rule_of p q.switches []))) (any_of_none (λ r. ltb s (steps a r)) m.most (member_at rs k (rule_of p q.switches []) read)) in (
      omega (arith, is, no_more),
      λ b. let fewer = leb-false s (steps a (get_or rs k (rule_of p q.switches []))) (none_at (λ r. leb s (steps a r)) rs n k (rule_of p q.switches []) m.before b read) in omega (arith, is, fewer),
    )

-- ---- no rules

no_elements : {A B : Type 0} (g : A → B) (xs : List A) → map g xs ≡ [] → xs ≡ []
no_elements g [] e = refl
no_elements g (x ∷ xs) e = let z : suc (length (map g xs)) ≡ 0 = ap length e in absurd (omega arith)

judge_empty : (rs : List Rule) → rs ≡ [] → (cs : _) (a : Request) → judge rs cs a ≡ NotPermitted None
unfolding judge nearest nearest_by nearest_of first_at decision_of
judge_empty rs e cs a = rw e refl

pub no_rules_exactly : NoRulesExactly
unfolding rules_of decide
no_rules_exactly l q c v =
    let p = policy_of l in
    let d = decided l q c v in (
      λ e. no_elements (rule_of p q.switches) p.rules (lowest_answered l q (NotPermitted None) e).1,
      λ e. d.1 ∙ ap Ok ((answer_accepted l q d.0 d.1).1 ∙ judge_empty (map (rule_of p q.switches) p.rules) (ap (map (rule_of p q.switches)) e) (constraints_of p) (request_of p q)),
    )
