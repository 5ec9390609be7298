-- The order rule: an extension never decides lower. Claims OrderRule, QueryOrder, NonDecreasing, Decided, DecidedOnly. Assumes nothing.
--     order                            for two policies
--     answer_accepted, answer_types    what an answer that is no refusal says of the image and of the query
--     grown_order                      one query, on a policy and on one that it grows to
use Prim.Native.Nat.{ℕ, ◌-◌, ◌≤◌, ◌<◌}
use native.Mathlib.Omega.{arith}
use mathlib.Core.Path.{◌≡◌, refl, sym, subst, ap, ◌∙◌}
use mathlib.Core.Logic.{◌⊎◌, inl, inr, ⊎_elim}
use mathlib.Core.Bool.{true}
use mathlib.Core.List.Memᴰ
use mathlib.Core.List.{List, map, Memᴰ}
use lib.ListN.{length, get_or}
use lib.Dec.{eqb, leb}
use borrow.Author.Tests.{leb-true, eqb-true}
use Rattle.format.specs.declared.Section.TheVariants.{Groups}
use Rattle.format.specs.Refusals.{refusal, need}
use Rattle.format.specs.Format.{is_type, count_of}
use Rattle.format.specs.Policy.{Policy, policy_of}
use Rattle.format.specs.Check.{check, Accepted}
use Rattle.std.specs.Prelude.{Ok}
use Rattle.format.specs.Claims.{IsType}
use Rattle.format.proofs.Chain.{or_else_split, or_else_none, need_true, need_none, outcome_gives}
use Rattle.format.proofs.Tests.{both}
use Rattle.format.proofs.Fields.{type_is}
use Rattle.format.proofs.Images.{group_count}
use Rattle.decision.specs.declared.Query.{Query}
use Rattle.decision.specs.Sets.{set_of, within}
use Rattle.decision.specs.Conditions.{switch_on, is_on}
use Rattle.decision.specs.Reading.{Rule, Constraint, rule_of, constraint_of, request_of, rules_of, constraints_of}
use Rattle.decision.specs.declared.Decision.{Decision}
use Rattle.decision.specs.Decide.{decide, query_fault, answer_fault, answer}
use Rattle.decision.specs.Order.{height, Holds, Keeps, Grows, NoCompanion, SwitchedOn, Extends, OrderRule, QueryOrder, NonDecreasing, Decided, DecidedOnly}
use Rattle.decision.proofs.Search.{by_test}
use Rattle.decision.proofs.Implies.{within_refl}
use Rattle.decision.proofs.Above.{Above, judge_order}
use Rattle.decision.proofs.Kept.{set_kept, Typed, accepted_typed, rule_kept, constraint_kept}

-- ---- an extension's records read as above

-- one element through a map that agrees with another on the elements of which P holds
pub map_mem :
    {A B : Type 0} (P : B → Type 0) (f g : A → B) (xs ys : List A) → ((x : A) → Memᴰ x xs → P (f x) → Memᴰ x ys × (f x ≡ g x))
    → (y : B) → Memᴰ y (map f xs) → P y → Memᴰ y (map g ys)
map_mem P f g xs ys h y m k =
    let x = Memᴰ.of_map f xs m in
    let r = h x.0 x.1 (subst P (sym x.2) k) in
    Memᴰ.cast (sym x.2 ∙ r.1) (Memᴰ.map g r.0)

-- a condition that is on stays on with more switches
on_kept : (v w : ℕ) → SwitchedOn v w → (b : ℕ) → b ≤ 33 → is_on v b ≡ true → is_on w b ≡ true
unfolding is_on
on_kept v w s b h =
    by_test (leb 2 b)
    (λ e. let low = leb-true 2 b e in simp e (s (b - 2) (omega arith)))
    (λ e. simp e (λ t. t))

-- so a rule that is on reads the same
pub on_same : (p : Policy) (v w : ℕ) (r : List ℕ) → SwitchedOn v w → (get_or r 1 0 ≡ 2 → get_or r 10 0 ≤ 33) → (rule_of p v r).on ≡ true → rule_of p v r ≡ rule_of p w r
unfolding rule_of
on_same p v w r s h t =
    by_test (eqb (get_or r 1 0) 3)
    (λ e. simp e)
    (λ e. let x = both (eqb (get_or r 1 0) 2) (is_on v (get_or r 10 0)) (simp e at t) in
    let y = on_kept v w s (get_or r 10 0) (h (eqb-true (get_or r 1 0) 2 x.0)) x.1 in
    simp (e, x.0, x.1, y))

module _ (p₁ p₂ : Policy) (q₁ q₂ : Query) (typed : Typed p₁) (e : Extends p₁ q₁ p₂ q₂) where
  no_companion : NoCompanion p₁.constraints → (c : Constraint) → Memᴰ c (constraints_of p₁) → c.predicate < 3
  unfolding constraints_of constraint_of
  no_companion n c m =
      let x = Memᴰ.of_map (constraint_of p₁) p₁.constraints m in
      let k = n x.0 x.1 in
      subst (λ (z : Constraint). z.predicate < 3) x.2 (omega (arith, (typed.constraints x.0 x.1).1.predicate))

  above : Above (rules_of p₁ q₁.switches) (constraints_of p₁) (request_of p₁ q₁) (rules_of p₂ q₂.switches) (constraints_of p₂) (request_of p₂ q₂)
  unfolding request_of rules_of constraints_of
  above =
      let v = q₁.switches in
      let w = q₂.switches in
      let kept = rule_kept p₁ p₂ typed e.policy.groups w in
      record {
        rules = map_mem (λ (r : Rule). r.on ≡ true) (rule_of p₁ v) (rule_of p₂ w) p₁.rules p₂.rules
            (λ r m t. (e.policy.rules r m, on_same p₁ v w r e.switches (typed.conditions r m) t ∙ kept r m));
        constraints = λ c m. map_mem (λ _. Unit) (constraint_of p₁) (constraint_of p₂) p₁.constraints p₂.constraints
            (λ c m _. (e.policy.constraints c m, constraint_kept p₁ p₂ typed e.policy.groups c m)) c m tt;
        class = e.class;
        action = e.action;
        source = e.source;
        dest = e.dest;
        companions = ⊎_elim (λ n. inl (no_companion n))
            (λ h. inr (map_mem (λ (r : Rule). r.on ≡ true) (rule_of p₂ w) (rule_of p₁ v) p₂.rules p₁.rules
            (λ r m _. (h.rules r m, sym (kept r (h.rules r m)) ∙ ap (λ (x : ℕ). rule_of p₁ x r) (sym h.words))))) e.companions;
      }

  pub order : height (decide p₁ q₁) ≤ height (decide p₂ q₂)
  unfolding decide
  order = judge_order above

-- ---- on what the engine answers

pub decided_only : DecidedOnly
unfolding answer answer_fault query_fault
decided_only l q d e =
    let g : ℕ = count_of l Groups in
    let b = or_else_split (check l) (query_fault g q) (outcome_gives (answer_fault l q) (decide (policy_of l) q) (sym e)).0 in
    let c = or_else_split (need (is_type g q.source) (refusal 8 0)) (need (is_type g q.dest) (refusal 9 0)) b.1 in
    (b.0, (need_true _ _ c.0, need_true _ _ c.1))

module _ (l : List ℕ) (q : Query) (d : Decision) (e : answer l q ≡ Ok d) where
  pub answer_accepted : Accepted l × (d ≡ decide (policy_of l) q)
  unfolding answer
  answer_accepted = ((decided_only l q d e).0, (outcome_gives (answer_fault l q) (decide (policy_of l) q) (sym e)).1)

  pub answer_types : IsType (length (policy_of l).groups) q.source × IsType (length (policy_of l).groups) q.dest
  answer_types =
      let v = (decided_only l q d e).1 in
      rw (group_count l) (type_is (count_of l Groups) q.source v.0, type_is (count_of l Groups) q.dest v.1)

pub order_rule : OrderRule
order_rule l₁ l₂ q₁ q₂ d₁ d₂ e₁ e₂ x =
    let a = answer_accepted l₁ q₁ d₁ e₁ in
    let b = answer_accepted l₂ q₂ d₂ e₂ in
    rw (a.1, b.1) (order (policy_of l₁) (policy_of l₂) q₁ q₂ (accepted_typed l₁ a.0) x)

pub keeps_same : (gs : List (List ℕ)) → Keeps gs gs
keeps_same gs = record { count = omega arith; same = λ i h. refl }

switched_same : {v w : ℕ} → v ≡ w → SwitchedOn v w
switched_same {v} {w} e k h t = subst (λ (x : ℕ). switch_on x k ≡ true) e t

pub query_order : QueryOrder
query_order l q₁ q₂ d₁ d₂ e₁ e₂ c a w s d =
    order_rule l l q₁ q₂ d₁ d₂ e₁ e₂
    (record {
      policy = record { rules = λ r m. m; constraints = λ r m. m; groups = keeps_same _ };
      class = c;
      action = a;
      source = s;
      dest = d;
      switches = switched_same w;
      companions = inr (record { rules = λ r m. m; words = w });
    })

-- one query on a policy and on one that it grows to
pub grown_order :
    (l₁ l₂ : List ℕ) (q : Query) (d₁ d₂ : Decision) → answer l₁ q ≡ Ok d₁ → answer l₂ q ≡ Ok d₂ → Grows (policy_of l₁) (policy_of l₂)
    → NoCompanion (policy_of l₁).constraints ⊎ Holds (policy_of l₂).rules (policy_of l₁).rules → height d₁ ≤ height d₂
grown_order l₁ l₂ q d₁ d₂ e₁ e₂ g n =
    order_rule l₁ l₂ q q d₁ d₂ e₁ e₂
    (record {
      policy = g;
      class = refl;
      action = refl;
      source = same q.source valid.0;
      dest = same q.dest valid.1;
      switches = λ k h t. t;
      companions = ⊎_elim inl (λ h. inr (record { rules = h; words = refl })) n;
    })
  where
    valid : IsType (length (policy_of l₁).groups) q.source × IsType (length (policy_of l₁).groups) q.dest
    valid = answer_types l₁ q d₁ e₁

    same : (t : ℕ) → IsType (length (policy_of l₁).groups) t → within (set_of (policy_of l₂).groups t) (set_of (policy_of l₁).groups t) ≡ true
    same t h = rw (set_kept (policy_of l₁).groups (policy_of l₂).groups g.groups t h) (within_refl (set_of (policy_of l₂).groups t))

pub non_decreasing : NonDecreasing
non_decreasing l₁ l₂ q d₁ d₂ e₁ e₂ g n = grown_order l₁ l₂ q d₁ d₂ e₁ e₂ g (inl n)

pub decided : Decided
unfolding answer answer_fault query_fault
decided l q e v = (decide (policy_of l) q, rw (or_else_none e (or_else_none (need_none (refusal 8 0) v.0) (need_none (refusal 9 0) v.1))))
