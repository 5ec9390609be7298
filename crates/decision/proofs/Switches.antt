-- What switches do. Claims ConditionMeans, WordUnread, SwitchesAdd, SwitchOrder. Assumes nothing.
--     by_switch                 condition 2 + k is switch k
--     none_on                   the word 0 has no switch on
--     plain_rule, plain_rules   a rule that names no switch, and such rules, read the same under every word
use Prim.Native.Nat.{ℕ, ◌+◌, ◌*◌, ◌-◌, ◌%◌, ◌<◌, ◌^◌}
use native.Mathlib.Nat.{zero-div}
use native.Mathlib.Omega.{arith}
use mathlib.Core.Path.{◌≡◌, refl, sym, subst, ap, ◌∙◌}
use mathlib.Core.Logic.{inl, inr, ⊎_elim}
use mathlib.Core.Bool.{true, false}
use mathlib.Core.List.Memᴰ
use mathlib.Core.List.{List, [], ◌∷◌, Memᴰ}
use lib.ListN.{length, get_or}
use lib.Seq.{set_out}
use lib.Dec.{eqb}
use borrow.Author.Tests.{le-leb, lt-leb, eqb-true}
use Rattle.format.specs.Policy.{Policy, policy_of}
use Rattle.format.specs.Answers.{outcome}
use Rattle.format.proofs.Tests.{both}
use Rattle.decision.specs.declared.Query.{Query}
use Rattle.decision.specs.Sets.{set_of}
use Rattle.decision.specs.Conditions.{switch_on, is_on}
use Rattle.decision.specs.Reading.{Rule, rule_of, request_of, rules_of, constraint_of, constraints_of}
use Rattle.decision.specs.Decide.{judge, decide, query_fault, answer_fault, answer}
use Rattle.decision.specs.Order.{height, SwitchedOn, Holds}
use Rattle.decision.specs.Switches.{ConditionMeans, with_word, NoSwitches, WordUnread, settled_rule, on_of, only_on, SwitchesAdd, SwitchOrder}
use Rattle.decision.proofs.Search.{by_test}
use Rattle.decision.proofs.Implies.{within_refl}
use Rattle.decision.proofs.Above.{Above, judge_order}
use Rattle.decision.proofs.Kept.{Typed, accepted_typed}
use Rattle.decision.proofs.Order.{on_same, order_rule, keeps_same}
use Rattle.decision.proofs.Settled.{settled_reads, map_same}

-- ---- a condition

pub by_switch : (w k : ℕ) → is_on w (2 + k) ≡ switch_on w k
unfolding is_on
by_switch w k = let e : 2 + k - 2 ≡ k = omega arith in simp (le-leb 2 (2 + k) (omega arith)) (ap (switch_on w) e)

pub condition_means : ConditionMeans
unfolding is_on switch_on
condition_means =
    record {
      off = λ w. refl;
      on = λ w. refl;
      switch_on_lem = λ w k m e. by_switch w k ∙ ap (λ (n : ℕ). eqb (n % 2) 1) e ∙ ap (λ (n : ℕ). eqb n 1) (let z : (2 * m + 1) % 2 ≡ 1 = omega arith in z);
      switch_off = λ w k m e. by_switch w k ∙ ap (λ (n : ℕ). eqb (n % 2) 1) e ∙ ap (λ (n : ℕ). eqb n 1) (let z : 2 * m % 2 ≡ 0 = omega arith in z);
    }

pub none_on : (k : ℕ) → switch_on 0 k ≡ false
unfolding switch_on
none_on k = ap (λ (n : ℕ). eqb (n % 2) 1) (zero-div (2 ^ k))

-- ---- a rule that names no switch

plain_on : (v w b : ℕ) → b < 2 → is_on v b ≡ is_on w b
unfolding is_on
plain_on v w b h = simp (lt-leb 2 b h)

pub plain_rule : (p : Policy) (v w : ℕ) (r : List ℕ) → (get_or r 1 0 ≡ 2 → get_or r 10 0 < 2) → rule_of p v r ≡ rule_of p w r
unfolding rule_of
plain_rule p v w r h =
    by_test (eqb (get_or r 1 0) 2)
    (λ e. rw (plain_on v w (get_or r 10 0) (h (eqb-true (get_or r 1 0) 2 e))))
    (λ e. simp e)

pub plain_rules : (p : Policy) (v w : ℕ) → NoSwitches p → rules_of p v ≡ rules_of p w
unfolding rules_of
plain_rules p v w n = map_same (rule_of p v) (rule_of p w) p.rules (λ r m. plain_rule p v w r (n r m))

pub word_unread : WordUnread
unfolding answer answer_fault query_fault decide request_of with_word
word_unread l q w n =
    let p = policy_of l in
    ap (λ (rs : List Rule). outcome (answer_fault l q) (judge rs (constraints_of p) (request_of p q))) (plain_rules p w q.switches n)

-- ---- the rules that are on

module _ (p : Policy) (w : ℕ) where
  on_in : (r : List ℕ) (rs : List (List ℕ)) → Memᴰ r rs → (rule_of p w r).on ≡ true → Memᴰ (settled_rule w r) (on_of p w rs)
  unfolding on_of
  on_in r rs m t = go rs m
    where
      go : (rs : List (List ℕ)) → Memᴰ r rs → Memᴰ (settled_rule w r) (on_of p w rs)
      go [] m = absurd (Memᴰ.not-nil m)
      go (x ∷ rs) m =
          ⊎_elim
          (λ e. let u : (rule_of p w x).on ≡ true = subst (λ (y : List ℕ). (rule_of p w y).on ≡ true) e t in simp u (Memᴰ.head (ap (settled_rule w) e)))
          (λ n. by_test (rule_of p w x).on (λ u. simp u (Memᴰ.tail (go rs n))) (λ u. simp u (go rs n)))
          (Memᴰ.cases_cons m)

  on_out : (x : List ℕ) (rs : List (List ℕ)) → Memᴰ x (on_of p w rs) → (r : List ℕ) × Memᴰ r rs × ((rule_of p w r).on ≡ true) × (settled_rule w r ≡ x)
  unfolding on_of
  on_out x [] m = absurd (Memᴰ.not-nil m)
  on_out x (r ∷ rs) m =
      by_test (rule_of p w r).on
      (λ t. ⊎_elim (λ e. (r, Memᴰ.head refl, t, sym e)) (λ n. later (on_out x rs n)) (Memᴰ.cases_cons (simp t at m)))
      (λ t. later (on_out x rs (simp t at m)))
    where
      later : (r' : List ℕ) × Memᴰ r' rs × ((rule_of p w r').on ≡ true) × (settled_rule w r' ≡ x) → (r' : List ℕ) × Memᴰ r' (r ∷ rs) × ((rule_of p w r').on ≡ true) × (settled_rule w r' ≡ x)
      later y = (y.0, Memᴰ.tail y.1, y.2, y.3)

-- under more switches a rule that is on settles the same
settled_same : (p : Policy) (v w : ℕ) (r : List ℕ) → (get_or r 1 0 ≡ 3 → length r ≡ 8) → (rule_of p v r).on ≡ true → (rule_of p w r).on ≡ true → settled_rule v r ≡ settled_rule w r
unfolding rule_of settled_rule
settled_same p v w r short t u =
    by_test (eqb (get_or r 1 0) 3)
    (λ e. let n = short (eqb-true (get_or r 1 0) 3 e) in set_out r 10 _ (omega arith) ∙ sym (set_out r 10 _ (omega arith)))
    (λ e. let x = both (eqb (get_or r 1 0) 2) (is_on v (get_or r 10 0)) (simp e at t) in
    let y = both (eqb (get_or r 1 0) 2) (is_on w (get_or r 10 0)) (simp e at u) in
    rw (x.1, y.1))

more_rules : (p : Policy) (v w : ℕ) → Typed p → SwitchedOn v w → Holds (on_of p v p.rules) (on_of p w p.rules)
more_rules p v w typed s x m =
    let y = on_out p v x p.rules m in
    let same = on_same p v w y.0 s (typed.conditions y.0 y.1) y.2 in
    let on : (rule_of p w y.0).on ≡ true = ap (λ (R : Rule). R.on) (sym same) ∙ y.2 in
    Memᴰ.cast (sym y.3 ∙ settled_same p v w y.0 (typed.transitions y.0 y.1) y.2 on) (on_in p w y.0 p.rules y.1 on)

-- ---- and the decision by them

module _ (p : Policy) (q : Query) (w : ℕ) where
  abbrev v : ℕ
  v = q.switches

  there : (R : Rule) → Memᴰ R (rules_of p v) → R.on ≡ true → Memᴰ R (rules_of (only_on v p) w)
  unfolding rules_of only_on
  there R m t =
      let r = Memᴰ.of_map (rule_of p v) p.rules m in
      Memᴰ.cast (sym (settled_reads p (only_on v p) refl v w r.0 ∙ r.2))
      (Memᴰ.map (rule_of (only_on v p) w) (on_in p v r.0 p.rules r.1 (ap (λ (R : Rule). R.on) r.2 ∙ t)))

  back : (R : Rule) → Memᴰ R (rules_of (only_on v p) w) → R.on ≡ true → Memᴰ R (rules_of p v)
  unfolding rules_of only_on
  back R m t =
      let x = Memᴰ.of_map (rule_of (only_on v p) w) (on_of p v p.rules) m in
      let y = on_out p v x.0 p.rules x.1 in
      Memᴰ.cast (sym (ap (rule_of (only_on v p) w) y.3 ∙ x.2) ∙ settled_reads p (only_on v p) refl v w y.0) (Memᴰ.map (rule_of p v) y.1)

  abbrev Same : List Rule → List Rule → Type 0
  Same rs₁ rs₂ = Above rs₁ (constraints_of p) (request_of p q) rs₂ (constraints_of p) (request_of p q)

  same : (rs₁ rs₂ : List Rule) → ((R : Rule) → Memᴰ R rs₁ → R.on ≡ true → Memᴰ R rs₂) → ((R : Rule) → Memᴰ R rs₂ → R.on ≡ true → Memᴰ R rs₁) → Same rs₁ rs₂
  same rs₁ rs₂ f g =
      record {
        rules = f;
        constraints = λ c m. m;
        class = refl;
        action = refl;
        source = within_refl (request_of p q).source;
        dest = within_refl (request_of p q).dest;
        companions = inr g;
      }

  level : height (decide (only_on v p) (with_word w q)) ≡ height (decide p q)
  unfolding decide with_word request_of constraints_of constraint_of only_on
  level =
      let up = judge_order (same (rules_of p v) (rules_of (only_on v p) w) there back) in
      let down = judge_order (same (rules_of (only_on v p) w) (rules_of p v) back there) in
      omega arith

pub switches_add : SwitchesAdd
unfolding only_on
switches_add =
    record {
      grows = λ l v w e s. record { rules = more_rules (policy_of l) v w (accepted_typed l e) s; constraints = λ c m. m; groups = keeps_same _ };
      level = level;
    }

pub switch_order : SwitchOrder
unfolding with_word
switch_order l q w d₁ d₂ e₁ e₂ s n =
    order_rule l l q (with_word w q) d₁ d₂ e₁ e₂
    (record {
      policy = record { rules = λ r m. m; constraints = λ r m. m; groups = keeps_same _ };
      class = refl;
      action = refl;
      source = within_refl (set_of (policy_of l).groups q.source);
      dest = within_refl (set_of (policy_of l).groups q.dest);
      switches = s;
      companions = inl n;
    })
