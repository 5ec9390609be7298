-- TEpla's published evaluation decides as ours does: claims PublishedMeaning, PublishedAnswer, PublishedOrder. Assumes nothing.
use Prim.Native.Nat.{ℕ}
use mathlib.Core.Path.{◌≡◌, refl, sym, ap, ◌∙◌}
use mathlib.Core.Bool.{Bool, true, false, not, ◌&&◌, ◌||◌, cond, and-true}
use Rattle.std.specs.Prelude.{None, Some}
use mathlib.Core.List.{List, [], ◌∷◌, map}
use lib.ListN.{get_or}
use lib.Dec.{eqb, leb-zero}
use Rattle.format.specs.Bytes.{word_at}
use Rattle.format.specs.Policy.{Policy, policy_of}
use Rattle.decision.specs.declared.Query.{Query}
use Rattle.decision.specs.Sets.{any_of, all_of, set_of, within}
use Rattle.decision.specs.Conditions.{is_on}
use Rattle.decision.specs.Reading.{Rule, Constraint, Request, asks, rule_of, request_of, rules_of, constraints_of}
use Rattle.decision.specs.declared.Decision.TheVariants.{NotPermitted, Permitted, UnKnown}
use Rattle.decision.specs.Decide.{tests, covers, broken, applies, inside, fails, judge, decide}
use Rattle.decision.specs.Tepla.{Dcs, NotPermitted, Permitted, UnKnown, compare_decisions, maximal_dcs, maximum, types_within, allows, permits, eval_rule, prdct, eval_constraint, maximal_policy, eval_policy, forget, PublishedMeaning, PublishedAnswer, PublishedOrder}
use Rattle.decision.specs.Order.{height}
use Rattle.decision.proofs.Above.{judge_says}
use Rattle.decision.proofs.Order.{answer_accepted, decided}

-- ---- a rule permits where it covers

allow_tests : (p s d c a : Bool) → p && (s && d) && c && a ≡ (p && (s && (d && (c && (a && true)))))
allow_tests false s d c a = refl
allow_tests true false d c a = refl
allow_tests true true false c a = refl
allow_tests true true true false a = refl
allow_tests true true true true a = sym (and-true a)

-- by the kind of the record: a transition, or an allow rule
rule_tests :
    (t on s d : Bool) (c k e n : ℕ)
    → cond t (s && d) (on && (s && d) && eqb c k && eqb e n)
    ≡ all_of (λ x. x) (cond t true on ∷ s ∷ d ∷ asks (cond t None (Some c)) k ∷ asks (cond t None (Some e)) n ∷ [])
unfolding all_of asks
rule_tests true on s d c k e n = ap (λ (x : Bool). s && x) (sym (and-true d))
rule_tests false on s d c k e n = allow_tests on s d (eqb c k) (eqb e n)

pub permits_covers : (p : Policy) (q : Query) (r : List ℕ) → permits p q r ≡ covers (request_of p q) (rule_of p q.switches r)
unfolding permits types_within allows covers tests rule_of request_of
permits_covers p q r =
    rule_tests (eqb (get_or r 1 0) 3) (eqb (get_or r 1 0) 2 && is_on q.switches (get_or r 10 0))
    (within (set_of p.groups q.source) (set_of p.groups (word_at r 2))) (within (set_of p.groups q.dest) (set_of p.groups (word_at r 4)))
    (word_at r 6) q.class (word_at r 8) q.action

rule_covers : (p : Policy) (q : Query) (r : List ℕ) → eval_rule p q r ≡ cond (covers (request_of p q) (rule_of p q.switches r)) Permitted NotPermitted
unfolding eval_rule
rule_covers p q r = ap (λ (x : Bool). cond x Permitted NotPermitted) (permits_covers p q r)

permitted_or : (x y : Bool) → maximal_dcs (cond x Permitted NotPermitted) (cond y Permitted NotPermitted) ≡ cond (x || y) Permitted NotPermitted
unfolding maximal_dcs compare_decisions
permitted_or true true = refl
permitted_or true false = refl
permitted_or false true = refl
permitted_or false false = refl

rules_any :
    (p : Policy) (q : Query) (rs : List (List ℕ))
    → maximum (map (eval_rule p q) rs) ≡ cond (any_of (covers (request_of p q)) (map (rule_of p q.switches) rs)) Permitted NotPermitted
unfolding maximum any_of
rules_any p q [] = refl
rules_any p q (r ∷ rs) = rw (rule_covers p q r, rules_any p q rs) (permitted_or (covers (request_of p q) (rule_of p q.switches r)) (any_of (covers (request_of p q)) (map (rule_of p q.switches) rs)))

-- ---- on top of a permitted query, a constraint raises it where it fails

constraint_cases : (x y b : Bool) → maximal_dcs Permitted (cond x (cond (cond y (not b) true) Permitted UnKnown) NotPermitted) ≡ cond (x && y && b) UnKnown Permitted
unfolding maximal_dcs compare_decisions
constraint_cases false y b = refl
constraint_cases true false b = refl
constraint_cases true true false = refl
constraint_cases true true true = refl

constraint_fails : (rs : List Rule) (a : Request) (c : Constraint) → maximal_dcs Permitted (eval_constraint rs a c) ≡ cond (fails rs a c) UnKnown Permitted
unfolding eval_constraint prdct fails applies inside
constraint_fails rs a c = constraint_cases (applies a c) (inside a c) (broken rs c)

split_permitted : (d e : Dcs) → maximal_dcs Permitted (maximal_dcs d e) ≡ maximal_dcs (maximal_dcs Permitted d) (maximal_dcs Permitted e)
unfolding maximal_dcs compare_decisions
split_permitted NotPermitted NotPermitted = refl
split_permitted NotPermitted Permitted = refl
split_permitted NotPermitted UnKnown = refl
split_permitted Permitted NotPermitted = refl
split_permitted Permitted Permitted = refl
split_permitted Permitted UnKnown = refl
split_permitted UnKnown NotPermitted = refl
split_permitted UnKnown Permitted = refl
split_permitted UnKnown UnKnown = refl

unknown_or : (x y : Bool) → maximal_dcs (cond x UnKnown Permitted) (cond y UnKnown Permitted) ≡ cond (x || y) UnKnown Permitted
unfolding maximal_dcs compare_decisions
unknown_or true true = refl
unknown_or true false = refl
unknown_or false true = refl
unknown_or false false = refl

permitted_least : maximal_dcs Permitted NotPermitted ≡ Permitted
unfolding maximal_dcs compare_decisions
permitted_least = refl

constraints_any : (rs : List Rule) (a : Request) (cs : List Constraint) → maximal_dcs Permitted (maximum (map (eval_constraint rs a) cs)) ≡ cond (any_of (fails rs a) cs) UnKnown Permitted
unfolding any_of maximum
constraints_any rs a [] = permitted_least
constraints_any rs a (c ∷ cs) =
    split_permitted (eval_constraint rs a c) (maximum (map (eval_constraint rs a) cs))
    ∙ rw (constraint_fails rs a c, constraints_any rs a cs) (unknown_or (fails rs a c) (any_of (fails rs a) cs))

-- ---- the two together

combine : (x y : Bool) (d : Dcs) → maximal_dcs Permitted d ≡ cond y UnKnown Permitted → maximal_policy (cond x Permitted NotPermitted) d ≡ cond x (cond y UnKnown Permitted) NotPermitted
unfolding maximal_policy compare_decisions
combine true y d e = e
combine false y d e = refl

forget_judge : (rs : List Rule) (cs : List Constraint) (a : Request) → forget (judge rs cs a) ≡ cond (any_of (covers a) rs) (cond (any_of (fails rs a) cs) UnKnown Permitted) NotPermitted
unfolding forget
forget_judge = judge_says forget NotPermitted Permitted UnKnown (λ x. refl) (λ r. refl) (λ r c. refl)

pub published_meaning : PublishedMeaning
unfolding eval_policy decide rules_of
published_meaning p q =
    let a : Request = request_of p q in
    let rs : List Rule = rules_of p q.switches in
    let cs : List Constraint = constraints_of p in
    ap (λ (d : Dcs). maximal_policy d (maximum (map (eval_constraint rs a) cs))) (rules_any p q p.rules)
    ∙ combine (any_of (covers a) rs) (any_of (fails rs a) cs) (maximum (map (eval_constraint rs a) cs)) (constraints_any rs a cs)
    ∙ sym (forget_judge rs cs a)

pub published_answer : PublishedAnswer
published_answer l q e v =
    let a = decided l q e v in
    (a.0, a.1, published_meaning (policy_of l) q ∙ ap forget (sym (answer_accepted l q a.0 a.1).1))

pub published_order : PublishedOrder
unfolding height forget compare_decisions
published_order (NotPermitted x) e = leb-zero (height e)
published_order (Permitted r) (NotPermitted x) = refl
published_order (Permitted r) (Permitted s) = refl
published_order (Permitted r) (UnKnown s c) = refl
published_order (UnKnown r c) (NotPermitted x) = refl
published_order (UnKnown r c) (Permitted s) = refl
published_order (UnKnown r c) (UnKnown s d) = refl

pub forget_unknown : (r c : ℕ) → forget (UnKnown r c) ≡ Dcs.UnKnown
unfolding forget
forget_unknown r c = refl

pub forget_permitted : (r : ℕ) → forget (Permitted r) ≡ Dcs.Permitted
unfolding forget
forget_permitted r = refl
