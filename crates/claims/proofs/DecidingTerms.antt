-- What meets the terms of deciding's claims and of the order rule's, from the statement: no claim's own proof is cited. Assumes
-- nothing.
use Prim.Native.Nat.{ℕ, zero, suc, ◌+◌, ◌*◌, ◌/◌, ◌<◌, ◌≤◌}
use native.Mathlib.Omega.{arith}
use mathlib.Core.Path.{◌≡◌, refl, sym, subst, ap, ap₂, ◌∙◌}
use mathlib.Core.Logic.{inl, inr, ⊎_elim}
use mathlib.Core.Bool.{true, false}
use mathlib.Core.List.Memᴰ
use mathlib.Core.List.{List, [], ◌∷◌, ◌++◌, Memᴰ}
use lib.ListN.{length, get_or, drop, length-drop}
use lib.Seq.{length-take-le, take-take, ext_get_or}
use lib.Dec.{leb}
use Rattle.format.specs.declared.Section.TheVariants.{Rules}
use Rattle.format.specs.Format.{count_of}
use Rattle.format.specs.Policy.{image_of, policy_of}
use Rattle.format.specs.Check.{Accepted, image_in}
use Rattle.std.specs.Prelude.{Ok}
use Rattle.format.specs.Answers.{Outcome}
use Rattle.format.specs.Sample.{sample, empty}
use Rattle.format.proofs.ByCase.{records_of_rules}
use Rattle.format.proofs.Fields.{is_type_lem}
use Rattle.format.proofs.Accepted.{records_count}
use Rattle.decision.specs.declared.Query.{Query}
use Rattle.decision.specs.Sets.{set_of, within}
use Rattle.decision.specs.Conditions.{switch_on}
use Rattle.decision.specs.declared.Decision.{Decision}
use Rattle.decision.specs.declared.Decision.TheVariants.{NotPermitted, Permitted, UnKnown}
use Rattle.decision.specs.Decide.{answer, query_of, Valid}
use Rattle.decision.specs.Order.{height, Holds, NoCompanion}
use Rattle.decision.specs.Lowest.{Names}
use Rattle.decision.specs.Tepla.{Dcs, compare_decisions, forget, eval_policy}
use Rattle.decision.specs.Growth.{reordered, DecidedAbove}
use Rattle.decision.specs.Numbers.{decision_code}
use Rattle.decision.specs.Rows.{query_at, rows_in, answered, row_at, query_bytes, QueryFits}
use Rattle.decision.specs.Cases.{g0, allow, companion, with_space, extended}
use Rattle.decision.proofs.Implies.{within_refl}
use Rattle.decision.proofs.Above.{height_permitted, height_unknown}
use Rattle.decision.proofs.Order.{keeps_same}
use Rattle.decision.proofs.Tepla.{forget_permitted, forget_unknown}
use Rattle.decision.proofs.Cases.{Answers, marked_answers, cases_many}
use Rattle.claims.specs.Promises.{Promises}
use Rattle.claims.specs.Terms.{query, AtLeast, three_queries, two_and_part, OrderedIf, DecidingMet, OrderingMet}
use Rattle.claims.proofs.Cases.{space_image, companion_bytes, companion_space, companion_no_rule, rule_bytes, rule_space, query_rows, twelve_bytes}
use Rattle.claims.proofs.ReadingTerms.{companion_after}

pub gives_one : {A : Type 0} {a b : A} → ◌≡◌ {A = Outcome A} (Ok a) (Ok b) → a ≡ b
gives_one e = cc

rules_few : count_of (extended sample companion) Rules ≡ 4 → length (policy_of (extended sample companion)).rules + length (policy_of (extended sample companion)).rules ≤ 1024
rules_few e =
    let l : List ℕ = extended sample companion in
    omega (arith, records_count l Rules, ap length (records_of_rules (policy_of l)))

-- three slots, each known
by_slots : (s : List ℕ) (x y z : ℕ) → length s ≡ 3 → get_or s 0 0 ≡ x → get_or s 1 0 ≡ y → get_or s 2 0 ≡ z → s ≡ x ∷ y ∷ z ∷ []
by_slots s x y z n e f g = ext_get_or 0 s (x ∷ y ∷ z ∷ []) n at
  where
    at : (i : ℕ) → i < length s → get_or s i 0 ≡ get_or (x ∷ y ∷ z ∷ []) i 0
    at zero h = e
    at (suc zero) h = f
    at (suc (suc zero)) h = g
    at (suc (suc (suc i))) h = absurd (omega arith)

module _ (p : Promises) where
  answers : Answers
  answers = marked_answers p.deciding.marked_cases

  -- ---- deciding

  valid : (l : List ℕ) (q : Query) (d : Decision) → answer l q ≡ Ok d → Accepted l × Valid l q
  valid = p.deciding.decided_only

  -- the published evaluation, of a query whose answer is known
  published : (l : List ℕ) (q : Query) (d : Decision) → answer l q ≡ Ok d → eval_policy (policy_of l) q ≡ forget d
  published l q d e =
      let v = valid l q d e in
      let x = p.deciding.published_answer l q v.0 v.1 in
      x.2 ∙ ap forget (gives_one (sym x.1 ∙ e))

  unknown_above : compare_decisions Dcs.UnKnown Dcs.Permitted ≡ false
  unknown_above =
      ap₂ compare_decisions (sym (forget_unknown 0 0)) (sym (forget_permitted 0))
      ∙ sym (p.deciding.published_order (UnKnown 0 0) (Permitted 0))
      ∙ ap₂ leb (height_unknown 0 0) (height_permitted 0)

  -- rows and their slots

  two_rows : rows_in two_and_part 3 ≡ 2
  two_rows = (p.deciding.rows_whole two_and_part 3).0 (omega (arith, query_rows.part)) ∙ omega (arith, query_rows.part)

  slot :
      (k : ℕ) (q : Query) (o : Outcome Decision) → k < 2 → query_at two_and_part (12 * k) ≡ q → answer sample q ≡ o
      → get_or (answered sample two_and_part (7 ∷ 8 ∷ 9 ∷ [])) k 0 ≡ decision_code o
  slot k q o h row given =
      p.deciding.rows_answered sample two_and_part (7 ∷ 8 ∷ 9 ∷ []) k (omega (arith, two_rows))
      ∙ ap (λ x. decision_code (answer sample x)) row
      ∙ ap decision_code given

  two_answered : answered sample two_and_part (7 ∷ 8 ∷ 9 ∷ []) ≡ decision_code (Ok (Permitted 0)) ∷ decision_code (Ok (Permitted 2)) ∷ 9 ∷ []
  two_answered =
      let stay = p.deciding.slots_stay sample two_and_part (7 ∷ 8 ∷ 9 ∷ []) in
      by_slots _ _ _ _ stay.0 (slot 0 _ _ (omega arith) query_rows.first answers.member)
      (slot 1 _ _ (omega arith) query_rows.second answers.transition) (stay.1 2 (omega (arith, two_rows)))

  row_by_itself :
      (l b slots : List ℕ) (k : ℕ) → k < rows_in b (length slots) → get_or (answered l b slots) k 0 ≡ get_or (answered l (row_at b k) (0 ∷ [])) 0 0
  row_by_itself l b slots k h =
      let whole : k < length b / 12 = omega arith in
      let twelve : length (row_at b k) ≡ 12 = length-take-le 12 (drop (12 * k) b) (omega (arith, length-drop (12 * k) b)) in
      p.deciding.row_alone l b (row_at b k) slots (0 ∷ []) k 0 h (omega (arith, twelve)) (sym (take-take 12 12 (drop (12 * k) b) (omega arith)))

  fits : (s d c a w : ℕ) → s ≤ 65535 → d ≤ 65535 → c ≤ 65535 → a ≤ 65535 → w ≤ 4294967295 → QueryFits (query_of s d c a w)
  fits s d c a w hs hd hc ha hw = record { source = omega arith; dest = omega arith; class = omega arith; action = omega arith; switches = omega arith }

  pub deciding_met : DecidingMet
  deciding_met =
      record {
        empty_decided = p.deciding.decided empty (query 0 0 0 0) p.reading.sample_accepted.empty_passes (is_type_lem _ 0 (inl (omega arith)), is_type_lem _ 0 (inl (omega arith)));
        group_decided = (let v = valid sample (query 10 g0 5 1) (Permitted 0) answers.group in p.deciding.decided sample (query 10 g0 5 1) v.0 v.1);
        types_some = λ l e t h. omega (arith, p.deciding.types_filled l e t h);
        fields_some = λ l e s r m t h. omega (arith, p.deciding.fields_filled l e s r m t h);
        judge_covers = λ rs cs a x e. (subst (Names rs cs a) e (p.deciding.lowest_named rs cs a)).0;
        none_covers = λ rs cs a x e h. sym (p.deciding.named_alone rs cs a (NotPermitted x) (e, h));
        judge_nearest = λ rs cs a s n e. (subst (Names rs cs a) e (p.deciding.lowest_named rs cs a)).1;
        lowest_unknown = λ l q r c e. (p.deciding.lowest_answered l q (UnKnown r c) e).0.before;
        no_constraints = λ x q e. p.deciding.published_meaning x q;
        unknown_above = unknown_above;
        published_unknown = published _ _ (UnKnown 0 0) answers.rostered ∙ forget_unknown 0 0;
        published_group = published _ _ (Permitted 0) answers.group ∙ forget_permitted 0;
        cases_all = cases_many;
        other_class = answers.transition;
        no_group_1 = answers.no_group_1;
        any_query = λ s d c a w hs hd hc ha hw. (p.deciding.query_read.back (query_of s d c a w) (fits s d c a w hs hd hc ha hw), twelve_bytes _);
        word_last = ap (λ (q : Query). q.switches) p.deciding.query_read.by_hand;
        own_bytes = λ l s d c a w y hs hd hc ha hw.
            p.deciding.rows_answered l (query_bytes (query_of s d c a w)) (y ∷ []) 0 (omega (arith, twelve_bytes (query_of s d c a w)))
            ∙ ap (λ (q : Query). decision_code (answer l q)) (p.deciding.query_read.back (query_of s d c a w) (fits s d c a w hs hd hc ha hw));
        two_answered = two_answered;
        two_rows = two_rows;
        last_row = (p.deciding.rows_whole three_queries 3).0 (omega (arith, query_rows.many)) ∙ omega (arith, query_rows.many);
        two_slots = (p.deciding.rows_whole three_queries 2).1 (omega (arith, query_rows.many));
        no_slot = λ b. (p.deciding.rows_whole b 0).1 (omega arith);
        row_by_itself = row_by_itself;
      }

  -- ---- the order

  -- no lower than what was Permitted
  at_one : (d : Decision) → height (Permitted 0) ≤ height d → 1 ≤ height d
  at_one d h = omega (arith, height_permitted 0)

  -- the order rule, its terms one by one
  order_no_companion : OrderedIf (λ l₁ q₁ l₂ q₂. NoCompanion (policy_of l₁).constraints)
  order_no_companion l₁ l₂ q₁ q₂ d₁ d₂ e₁ e₂ rs cs count same class action source dest on None =
      p.ordering.order_rule l₁ l₂ q₁ q₂ d₁ d₂ e₁ e₂
      (record {
        policy = record { rules = rs; constraints = cs; groups = record { count = count; same = same } };
        class = class;
        action = action;
        source = source;
        dest = dest;
        switches = on;
        companions = inl None;
      })

  order_same_rules : OrderedIf (λ l₁ q₁ l₂ q₂. Holds (policy_of l₂).rules (policy_of l₁).rules × (q₁.switches ≡ q₂.switches))
  order_same_rules l₁ l₂ q₁ q₂ d₁ d₂ e₁ e₂ rs cs count same class action source dest on exempt =
      p.ordering.order_rule l₁ l₂ q₁ q₂ d₁ d₂ e₁ e₂
      (record {
        policy = record { rules = rs; constraints = cs; groups = record { count = count; same = same } };
        class = class;
        action = action;
        source = source;
        dest = dest;
        switches = on;
        companions = inr (record { rules = exempt.0; words = exempt.1 });
      })

  unknown_stays : AtLeast 2 (extended sample companion) (query 10 21 5 1)
  unknown_stays d e =
      let l : List ℕ = extended sample companion in
      let h =
      order_same_rules l l (query 10 21 5 1) (query 10 21 5 1) (UnKnown 0 2) d answers.companied e (λ r m. m) (λ r m. m)
      (omega arith) (λ g m. refl) refl refl (within_refl _) (within_refl _) (λ k m t. t) (λ r m. m, refl) in
      omega (arith, height_unknown 0 2)

  more_switches :
      (l : List ℕ) (s d c a v w : ℕ) (d₁ d₂ : Decision) → answer l (query_of s d c a v) ≡ Ok d₁ → answer l (query_of s d c a w) ≡ Ok d₂
      → ((k : ℕ) → k < 32 → switch_on v k ≡ true → switch_on w k ≡ true) → NoCompanion (policy_of l).constraints → height d₁ ≤ height d₂
  more_switches l s d c a v w d₁ d₂ e₁ e₂ on None =
      order_no_companion l l (query_of s d c a v) (query_of s d c a w) d₁ d₂ e₁ e₂ (λ r m. m) (λ r m. m)
      (omega arith) (λ g m. refl) refl refl (within_refl _) (within_refl _) on None

  more_constraints :
      (l₁ l₂ : List ℕ) (q : Query) (d₁ d₂ : Decision) (more : List (List ℕ)) → answer l₁ q ≡ Ok d₁ → answer l₂ q ≡ Ok d₂
      → (policy_of l₁).groups ≡ (policy_of l₂).groups → (policy_of l₁).rules ≡ (policy_of l₂).rules
      → (policy_of l₂).constraints ≡ (policy_of l₁).constraints ++ more → height d₁ ≤ height d₂
  more_constraints l₁ l₂ q d₁ d₂ more e₁ e₂ g r c =
      let same : (t : ℕ) → within (set_of (policy_of l₂).groups t) (set_of (policy_of l₁).groups t) ≡ true
      = λ t. subst (λ (gs : List (List ℕ)). within (set_of gs t) (set_of (policy_of l₁).groups t) ≡ true) g (within_refl _) in
      order_same_rules l₁ l₂ q q d₁ d₂ e₁ e₂ (λ x m. subst (Memᴰ x) r m)
      (λ x m. subst (Memᴰ x) (sym c) (Memᴰ.append_left more m)) (omega (arith, ap length g)) (λ i m. ap (λ (gs : List (List ℕ)). get_or gs i []) g)
      refl refl (same q.source) (same q.dest) (λ k m t. t) (λ x m. subst (Memᴰ x) (sym r) m, refl)

  same_sets :
      (l : List ℕ) (s s' d d' c a w : ℕ) (d₁ d₂ : Decision) → answer l (query_of s d c a w) ≡ Ok d₁ → answer l (query_of s' d' c a w) ≡ Ok d₂
      → set_of (policy_of l).groups s ≡ set_of (policy_of l).groups s' → set_of (policy_of l).groups d ≡ set_of (policy_of l).groups d'
      → within (set_of (policy_of l).groups s) (set_of (policy_of l).groups s) ≡ true
      → within (set_of (policy_of l).groups d) (set_of (policy_of l).groups d) ≡ true
      → height d₁ ≡ height d₂
  same_sets l s s' d d' c a w d₁ d₂ e₁ e₂ es ed ws wd =
      let gs : List (List ℕ) = (policy_of l).groups in
      let up =
      p.ordering.query_order l (query_of s d c a w) (query_of s' d' c a w) d₁ d₂ e₁ e₂ refl refl refl
      (subst (λ (x : List ℕ). within x (set_of gs s) ≡ true) es ws) (subst (λ (x : List ℕ). within x (set_of gs d) ≡ true) ed wd) in
      let down =
      p.ordering.query_order l (query_of s' d' c a w) (query_of s d c a w) d₂ d₁ e₂ e₁ refl refl refl
      (subst (λ (x : List ℕ). within (set_of gs s) x ≡ true) es ws) (subst (λ (x : List ℕ). within (set_of gs d) x ≡ true) ed wd) in
      omega arith

  -- a rule added, by the paper's property
  not_lower : (t : ℕ) → answer sample (query 10 t 5 1) ≡ Ok (Permitted 0) → AtLeast 1 (extended sample (allow 14 g0 7 7)) (query 10 t 5 1)
  not_lower t was d e =
      at_one d
      (p.ordering.non_decreasing sample (extended sample (allow 14 g0 7 7)) (query 10 t 5 1) (Permitted 0) d
      was e p.ordering.marked_order.extends.policy p.ordering.marked_order.no_companion)

  companion_added : DecidedAbove (image_in (extended sample companion)) (query 10 21 5 1) (Permitted 0)
  unfolding extended
  companion_added =
      let a = p.reading.sample_accepted in
      p.ordering.added_order (with_space sample companion) companion companion_space companion_bytes p.deciding.marked_adds.companied
      (inr companion_no_rule) (query 10 21 5 1) (Permitted 0)
      (ap (λ (l : List ℕ). answer l (query 10 21 5 1)) (space_image companion a.sample_passes) ∙ answers.member)

  rule_added_order : DecidedAbove (image_in (extended sample (allow 14 g0 7 7))) (query 10 21 5 1) (Permitted 0)
  unfolding extended
  rule_added_order =
      let a = p.reading.sample_accepted in
      let r : List ℕ = allow 14 g0 7 7 in
      let front : image_in (with_space sample r) ≡ sample = space_image r a.sample_passes in
      p.ordering.added_order (with_space sample r) r rule_space rule_bytes p.deciding.marked_adds.rostered
      (inl (rw front p.ordering.marked_order.no_companion)) (query 10 21 5 1) (Permitted 0)
      (ap (λ (l : List ℕ). answer l (query 10 21 5 1)) front ∙ answers.member)

  -- a list twice holds what the list holds, and no more
  twice : (xs ys : List (List ℕ)) → ys ≡ xs ++ xs → Holds xs ys × Holds ys xs
  twice xs ys e = (
    λ x m. subst (Memᴰ x) (sym e) (Memᴰ.append_left xs m),
    λ x m. ⊎_elim (λ k. k) (λ k. k) (Memᴰ.append_cases xs (subst (Memᴰ x) e m)),
  )

  same_rules :
      (l₁ l₂ : List ℕ) (q : Query) (d₁ d₂ : Decision) → answer l₁ q ≡ Ok d₁ → answer l₂ q ≡ Ok d₂
      → (policy_of l₁).groups ≡ (policy_of l₂).groups → (policy_of l₁).constraints ≡ (policy_of l₂).constraints
      → Holds (policy_of l₁).rules (policy_of l₂).rules → Holds (policy_of l₂).rules (policy_of l₁).rules → height d₁ ≡ height d₂
  same_rules l₁ l₂ q d₁ d₂ e₁ e₂ g c there back =
      p.ordering.same_rules l₁ l₂ q d₁ d₂ e₁ e₂ g (λ x m. subst (Memᴰ x) c m) (λ x m. subst (Memᴰ x) (sym c) m) there back

  companion_reordered :
      (d : Decision) → answer (image_of (reordered (policy_of (extended sample companion)))) (query 10 21 5 1) ≡ Ok d → height d ≡ 2
  companion_reordered d e =
      let l : List ℕ = extended sample companion in
      let v = p.deciding.decided_only l (query 10 21 5 1) (UnKnown 0 2) answers.companied in
      let r =
      (p.ordering.rules_reordered l (companion_after p) v.0 (rules_few p.deciding.marked_adds.rules_stay)).1
      (query 10 21 5 1) (UnKnown 0 2) answers.companied in
      ap height (gives_one (sym e ∙ r.answered)) ∙ sym r.level ∙ height_unknown 0 2

  pub ordering_met : OrderingMet
  ordering_met =
      record {
        order_no_companion = order_no_companion;
        order_same_rules = order_same_rules;
        order_met = λ d e. at_one d (p.ordering.order_rule sample _ (query 10 g0 5 1) _ (Permitted 0) d answers.group e p.ordering.marked_order.extends);
        new_group_met = λ d e. at_one d (p.ordering.order_rule sample _ (query 10 g0 5 1) _ (Permitted 0) d answers.group e p.ordering.marked_order.new_group);
        unknown_stays = unknown_stays;
        more_switches = more_switches;
        more_constraints = more_constraints;
        same_sets = same_sets;
        rule_added = not_lower 21 answers.member;
        group_not_lower = not_lower g0 answers.group;
        not_lower_itself = λ l q d₁ d₂ e₁ e₂ n. p.ordering.non_decreasing l l q d₁ d₂ e₁ e₂ (record { rules = λ r m. m; constraints = λ r m. m; groups = keeps_same _ }) n;
        member_met = λ d e. at_one d (p.ordering.member_order sample (query 10 g0 5 1) (query 10 21 5 1) (Permitted 0) d answers.group e refl refl refl
            (omega arith) (omega arith) p.ordering.marked_order.itself p.ordering.marked_order.member);
        any_member = λ l s d m n c a w d₁ d₂ e₁ e₂ hm hn im jn.
            p.ordering.member_order l (query_of s d c a w) (query_of m n c a w) d₁ d₂ e₁ e₂ refl refl refl (omega arith) (omega arith) im jn;
        added_keeps = λ b r by bytes e. (p.ordering.added_grows b r by bytes e).groups;
        companion_added = companion_added;
        companion_lowest = λ d e. at_one d (subst (λ (x : Decision). height (Permitted 0) ≤ height x) (gives_one (sym companion_added.answered ∙ e)) companion_added.above);
        rule_added_order = rule_added_order;
        rules_twice = λ l₁ l₂ q d₁ d₂ e₁ e₂ g c r. (let t = twice _ _ r in same_rules l₁ l₂ q d₁ d₂ e₁ e₂ g c t.0 t.1);
        rules_once = λ l₁ l₂ q d₁ d₂ e₁ e₂ g c r. (let t = twice _ _ r in same_rules l₁ l₂ q d₁ d₂ e₁ e₂ g c t.1 t.0);
        companion_reordered = companion_reordered;
        half_reordered = λ l b e h. (p.ordering.rules_reordered l b e (omega arith)).0;
      }
