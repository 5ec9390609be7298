-- What meets the terms of the claims of the nearest rule, from the statement: no claim's own proof is cited. Assumes nothing.
use Prim.Native.Nat.{ℕ, ◌/◌, ◌%◌, ◌≤◌}
use native.Mathlib.Omega.{arith}
use mathlib.Core.Path.{◌≡◌, refl, sym, subst, ap, ◌∙◌}
use mathlib.Core.Logic.{inl}
use mathlib.Core.Bool.{false, cond}
use mathlib.Core.List.{[], Memᴰ}
use lib.ListN.{length, get_or}
use lib.Dec.{eqb}
use borrow.Author.Tests.{eqb-true, eqb-false, eq-eqb, ne_eqb}
use Rattle.format.specs.Bytes.{word_at}
use Rattle.format.specs.Policy.{policy_of}
use Rattle.format.specs.Sample.{sample, empty}
use Rattle.format.proofs.Fields.{is_type_lem}
use Rattle.decision.specs.declared.Query.{Query}
use Rattle.decision.specs.Conditions.{is_on}
use Rattle.decision.specs.Reading.{Rule, Request}
use Rattle.decision.specs.declared.Decision.TheVariants.{NotPermitted}
use Rattle.decision.specs.Decide.{covers, steps, query_of}
use Rattle.decision.specs.Cases.{companion, extended}
use Rattle.decision.specs.Steps.{steps_at, source_in, dest_in}
use Rattle.decision.specs.Before.{barely}
use Rattle.decision.specs.Switches.{sample_if}
use Rattle.decision.proofs.Search.{member_at}
use Rattle.decision.proofs.Cases.{Answers, marked_answers, sample_rules, steps_many, step_answers}
use Rattle.decision.proofs.Before.{before_permits}
use Rattle.claims.specs.Promises.{Promises}
use Rattle.claims.specs.Terms.{query, NearingMet}
use Rattle.claims.proofs.Cases.{switch_rules}
use Rattle.std.specs.Prelude.{None}

module _ (p : Promises) where
  answers : Answers
  answers = marked_answers p.deciding.marked_cases

  uncovered_four : (a : Request) (r : Rule) → covers a r ≡ false → steps a r ≤ 4
  uncovered_four a r e =
      let c = p.nearing.covers_all a r in
      let n = eqb-false (steps a r) 5 (sym c.0 ∙ e) in
      omega (arith, c.1)

  -- the steps at the sample's rule 0
  rule_0 :
      (q : Query)
      → steps_at (policy_of sample) q 0
      ≡ cond (source_in (policy_of sample) q (get_or (policy_of sample).rules 0 []))
      (cond (dest_in (policy_of sample) q (get_or (policy_of sample).rules 0 []))
      (cond (eqb (word_at (get_or (policy_of sample).rules 0 []) 6) q.class) (cond (eqb (word_at (get_or (policy_of sample).rules 0 []) 8) q.action) 5 4) 3) 2) 1
  rule_0 q =
      p.nearing.steps_of_record.on (policy_of sample) q (get_or (policy_of sample).rules 0 []) sample_rules.first
      (ap (is_on q.switches) sample_rules.on ∙ p.switching.condition_means.on q.switches)

  -- the sample's rule 3 by switch 0
  module _ (s d c a w : ℕ) where
    by_switch_0 : is_on w (get_or (get_or (policy_of (sample_if 2)).rules 3 []) 10 0) ≡ is_on w 2
    by_switch_0 = ap (is_on w) switch_rules.condition

    switch_none : w % 2 ≡ 0 → steps_at (policy_of (sample_if 2)) (query_of s d c a w) 3 ≡ 0
    switch_none e =
        p.nearing.steps_of_record.off (policy_of (sample_if 2)) (query_of s d c a w) (get_or (policy_of (sample_if 2)).rules 3 []) switch_rules.allow
        (by_switch_0 ∙ p.switching.condition_means.switch_off w 0 (w / 2) (omega (arith, e)))

    switch_one :
        w % 2 ≡ 1 → source_in (policy_of (sample_if 2)) (query_of s d c a w) (get_or (policy_of (sample_if 2)).rules 3 []) ≡ false
        → steps_at (policy_of (sample_if 2)) (query_of s d c a w) 3 ≡ 1
    switch_one e f =
        p.nearing.steps_of_record.on (policy_of (sample_if 2)) (query_of s d c a w) (get_or (policy_of (sample_if 2)).rules 3 []) switch_rules.allow
        (by_switch_0 ∙ p.switching.condition_means.switch_on_lem w 0 (w / 2) (omega (arith, e)))
        ∙ simp f

  pub nearing_met : NearingMet
  nearing_met =
      let n = p.nearing in
      record {
        off_none = λ a r o. n.steps_in_order a r ∙ simp o;
        source_one = λ a r o s. n.steps_in_order a r ∙ simp (o, s);
        dest_two = λ a r o s d. n.steps_in_order a r ∙ simp (o, s, d);
        class_three = λ a r o s d k. n.steps_in_order a r ∙ simp (o, s, d, k);
        action_four = λ a r o s d k j. n.steps_in_order a r ∙ simp (o, s, d, k, j);
        all_five = λ a r o s d k j. n.steps_in_order a r ∙ simp (o, s, d, k, j);
        covered_five = λ a r e. eqb-true (steps a r) 5 (sym (n.covers_all a r).0 ∙ e);
        five_covers = λ a r e. (n.covers_all a r).0 ∙ eq-eqb (steps a r) 5 e;
        uncovered_four = uncovered_four;
        rule_3_none = λ q. n.steps_of_record.off (policy_of sample) q (get_or (policy_of sample).rules 3 []) sample_rules.allow
            (ap (is_on q.switches) sample_rules.off ∙ p.switching.condition_means.off q.switches);
        switch_none = switch_none;
        switch_one = switch_one;
        rule_2_one = λ q e. n.steps_of_record.transition (policy_of sample) q (get_or (policy_of sample).rules 2 []) sample_rules.transition ∙ simp e;
        rule_2_two = λ q s d. n.steps_of_record.transition (policy_of sample) q (get_or (policy_of sample).rules 2 []) sample_rules.transition ∙ simp (s, d);
        rule_2_all = λ q s d. n.steps_of_record.transition (policy_of sample) q (get_or (policy_of sample).rules 2 []) sample_rules.transition ∙ simp (s, d);
        rule_0_source = λ q s. rule_0 q ∙ simp s;
        rule_0_two = λ q s d. rule_0 q ∙ simp (s, d);
        rule_0_three = λ q s d k. rule_0 q ∙ simp (s, d, ne_eqb (word_at (get_or (policy_of sample).rules 0 []) 6) q.class (λ e. k (sym e ∙ sample_rules.class)));
        rule_0_all = λ q s d k a.
            rule_0 q
            ∙ simp (s, d, eq-eqb (word_at (get_or (policy_of sample).rules 0 []) 6) q.class (sample_rules.class ∙ sym k), eq-eqb (word_at (get_or (policy_of sample).rules 0 []) 8) q.action (sample_rules.action ∙ sym a));
        rule_0_four = λ q s d k a.
            rule_0 q
            ∙ simp (s, d, eq-eqb (word_at (get_or (policy_of sample).rules 0 []) 6) q.class (sample_rules.class ∙ sym k), ne_eqb (word_at (get_or (policy_of sample).rules 0 []) 8) q.action (λ e. a (sym e ∙ sample_rules.action)));
        rule_2_few = λ q x e. (n.denied_steps sample q x e (get_or (policy_of sample).rules 2 []) (member_at _ 2 [] (omega (arith, sample_rules.many)))).transition sample_rules.transition;
        first_few = λ l q x r rs e h. (n.denied_steps l q x e r (subst (Memᴰ r) (sym h) (Memᴰ.head refl))).few;
        rule_0_one = (n.nearest_passes sample (query 13 21 5 1) 1 0 answers.off).1;
        named_last = λ l q s k m e h. (let i = (n.nearest_passes l q s k e).0 in omega (arith, i, h));
        named_passes = λ l q s k e. (let i = n.nearest_passes l q s k e in omega (arith, i.1));
        named_few = λ l q s k e. (let i = n.nearest_passes l q s k e in omega (arith, i.1, i.2));
        last_no_more = λ l q s k m e h. (n.nearest_of_all l q s k e m (omega (arith, h))).0;
        lower_fewer = λ l q s m k e h. (n.nearest_of_all l q s m e k (omega (arith, h, (n.nearest_passes l q s m e).0))).1 h;
        empty_no_rules = λ q s d. (n.no_rules_exactly empty q p.reading.sample_accepted.empty_passes (is_type_lem _ _ (inl s), is_type_lem _ _ (inl d))).1 sample_rules.none;
        sample_has_rules = λ q e.
            (let v = p.deciding.decided_only sample q (NotPermitted None) e in
            let z = ap length ((n.no_rules_exactly sample q v.0 v.1).0 e) in
            absurd (omega (arith, z, sample_rules.many)));
        rule_before = λ l q r e. before_permits l q r (sym (n.decisions_stay l q) ∙ ap barely e);
        member_before = sym (n.decisions_stay sample (query 10 21 5 1)) ∙ ap barely answers.member;
        off_before = sym (n.decisions_stay sample (query 13 21 5 1)) ∙ ap barely answers.off;
        unknown_before = sym (n.decisions_stay (extended sample companion) (query 10 21 5 1)) ∙ ap barely answers.companied;
        refused_before = sym (n.decisions_stay sample (query 1024 21 5 1)) ∙ ap barely answers.no_source_lem;
        step_cases_all = steps_many;
        all_off_near = (step_answers n.step_cases_lem).all_off;
        lowest_near = (step_answers n.step_cases_lem).lowest;
        last_rule_near = (step_answers n.step_cases_lem).last_rule;
      }
