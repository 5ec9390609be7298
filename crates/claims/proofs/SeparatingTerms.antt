-- What meets the terms of request 5's claims, from the statement: no claim's own proof is cited. Assumes nothing.
use Prim.Native.Nat.{ℕ, ◌≤◌}
use native.Mathlib.Omega.{arith}
use mathlib.Core.Path.{◌≡◌, refl, sym, subst, ap, ◌∙◌}
use mathlib.Core.Logic.{inl, inr, ⊎_elim}
use mathlib.Core.Bool.{true, false}
use mathlib.Core.List.Memᴰ
use mathlib.Core.List.{List, [], ◌∷◌, ◌++◌, Memᴰ}
use lib.ListN.{length, get_or}
use borrow.Author.Tests.{eqb-true}
use Rattle.format.specs.declared.Refusal.{Refusal}
use Rattle.format.specs.Bytes.{word_at}
use Rattle.format.specs.Policy.{Policy, policy_of}
use Rattle.std.specs.Prelude.{Ok, Err}
use Rattle.format.specs.Answers.{Outcome}
use Rattle.format.specs.Sample.{sample}
use Rattle.format.proofs.Tests.{false_not_true}
use Rattle.decision.specs.declared.Query.{Query}
use Rattle.decision.specs.Sets.{any_of, all_of, is_in, within, touches}
use Rattle.decision.specs.Reading.{Rule, Constraint, live, constraint_of, rules_of}
use Rattle.decision.specs.declared.Decision.{Decision}
use Rattle.decision.specs.declared.Decision.TheVariants.{NotPermitted, Permitted, UnKnown}
use Rattle.decision.specs.Decide.{separation_broken, broken, answer, Nearest}
use Rattle.decision.specs.Order.{height}
use Rattle.decision.specs.Separation.{From, FromRecord, Wider, answer_was, OneType, Raised, story}
use Rattle.decision.proofs.Search.{by_test, any_of_none, all_of_elim}
use Rattle.decision.proofs.Implies.{within_refl}
use Rattle.decision.proofs.Above.{height_denied, height_permitted, height_unknown}
use Rattle.decision.proofs.Separation.{wider_on}
use Rattle.claims.specs.Promises.{Promises}
use Rattle.claims.specs.Terms.{separated, switched, shared, one_long, SameRule, SeparatingMet}
use Rattle.claims.proofs.Cases.{SharedAnswers, shared_answers, WasAnswers, was_answers, separated_is, shared_rules}
use Rattle.claims.proofs.DecidingTerms.{gives_one}

single : (xs : List ℕ) → length xs ≡ 1 → (x : ℕ) × (xs ≡ x ∷ [])
single [] e = absurd (omega arith)
single (x ∷ []) e = (x, refl)
single (x ∷ y ∷ xs) e = absurd (omega arith)

one_type : (rs : List Rule) → all_of one_long rs ≡ true → OneType rs
one_type rs e a m l = single a.source (eqb-true (length a.source) 1 (all_of_elim _ e m))

no_live : (rs : List Rule) (a : Rule) → any_of live rs ≡ false → Memᴰ a rs → live a ≡ true → ⊥
no_live rs a e m l = false_not_true (sym (any_of_none live e m) ∙ l)

given_refused : (d : Decision) (f : Refusal) → Ok d ≡ Err f → ⊥
given_refused d f e = let z : ◌≡◌ {A = ℕ} 0 1 = cc in omega arith

permitted_one : {r n : ℕ} → ◌≡◌ {A = Outcome Decision} (Ok (Permitted r)) (Ok (Permitted n)) → r ≡ n
permitted_one e = cc

unknown_one : {r c n k : ℕ} → ◌≡◌ {A = Outcome Decision} (Ok (UnKnown r c)) (Ok (UnKnown n k)) → (r ≡ n) × (c ≡ k)
unknown_one e = (cc, cc)

-- decisions of other heights are not the same
unlike : (r c : ℕ) (x : Nearest) → ◌≡◌ {A = Outcome Decision} (Ok (UnKnown r c)) (Ok (NotPermitted x)) → ⊥
unlike r c x e = let h : height (UnKnown r c) ≡ height (NotPermitted x) = ap height (gives_one e) in omega (arith, h, height_unknown r c, height_denied x)

higher : (r c n : ℕ) → ◌≡◌ {A = Outcome Decision} (Ok (UnKnown r c)) (Ok (Permitted n)) → ⊥
higher r c n e = let h : height (UnKnown r c) ≡ height (Permitted n) = ap height (gives_one e) in omega (arith, h, height_unknown r c, height_permitted n)

module _ (p : Promises) where
  is : SharedAnswers
  is = shared_answers p.separating.shared_cases_lem

  was : WasAnswers
  was = was_answers p.separating.shared_was

  two_rules :
      (rs : List Rule) (c : Constraint) (x : ℕ) (a b : Rule) → Memᴰ a rs → Memᴰ b rs → live a ≡ true → live b ≡ true
      → touches a.dest c.first ≡ true → touches b.dest c.second ≡ true
      → is_in x a.source ≡ true → is_in x b.source ≡ true → separation_broken rs c ≡ true
  two_rules rs c x a b ma mb la lb ta tb ia ib =
      p.separating.separation_means.all rs c x
      (record { rule = a; one = ma; is_live = la; touching = ta; has = ia })
      (record { rule = b; one = mb; is_live = lb; touching = tb; has = ib })

  none_shared :
      (rs : List Rule) (c : Constraint) → ((x : ℕ) → From rs c.first x → From rs c.second x → ⊥) → separation_broken rs c ≡ false
  none_shared rs c h =
      by_test (separation_broken rs c) (λ e. let s = p.separating.separation_means.only rs c e in absurd (h s.0 s.1 s.2)) (λ e. e)

  -- the sample's separation, read in another policy
  sample_read :
      (o : Policy) (w x : ℕ) → FromRecord o w 20 x × FromRecord o w 30 x
      → broken (rules_of o w) (constraint_of o (get_or (policy_of sample).constraints 1 [])) ≡ true
  sample_read o w x f =
      let e = shared_rules.sample_separates in
      p.separating.separation_read.all o w _ x e.0
      (subst (λ (t : ℕ). FromRecord o w t x) (sym e.1) f.0)
      (subst (λ (t : ℕ). FromRecord o w t x) (sym e.2) f.1)

  story_records : (w : ℕ) → FromRecord (policy_of story) w 20 20 × FromRecord (policy_of story) w 30 20
  story_records w = (shared_rules.record_first w, shared_rules.record_second w)

  switched_records : FromRecord (policy_of switched) 32 20 10 × FromRecord (policy_of switched) 32 30 10
  switched_records = (shared_rules.switched_first, shared_rules.switched_second)

  none_in_records :
      (o : Policy) (w : ℕ) (r : List ℕ) → get_or r 10 0 ≡ 1 → ((x : ℕ) → FromRecord o w (word_at r 6) x → FromRecord o w (word_at r 8) x → ⊥)
      → broken (rules_of o w) (constraint_of o r) ≡ false
  none_in_records o w r e h =
      by_test (broken (rules_of o w) (constraint_of o r)) (λ t. let f = p.separating.separation_read.only o w r e t in absurd (h f.0 f.1 f.2)) (λ t. t)

  -- a rule in front that is replaced by a wider one, or is not live and goes
  wider_rule :
      (rs : List Rule) (c : Constraint) (a b : Rule) → live b ≡ true → within a.source b.source ≡ true → within a.dest b.dest ≡ true
      → separation_broken (a ∷ rs) c ≡ true → separation_broken (b ∷ rs) c ≡ true
  wider_rule rs c a b l s d = p.separating.separation_kept (a ∷ rs) (b ∷ rs) c wider
    where
      wider : Wider (a ∷ rs) (b ∷ rs)
      wider z (Memᴰ.head e) k = (
        b,
        Memᴰ.head refl,
        l,
        subst (λ (y : Rule). within y.source b.source ≡ true) (sym e) s,
        subst (λ (y : Rule). within y.dest b.dest ≡ true) (sym e) d,
      )
      wider z (Memᴰ.tail m) k = (z, Memᴰ.tail m, k, within_refl z.source, within_refl z.dest)

  off_rule_lem : (rs : List Rule) (c : Constraint) (a : Rule) → live a ≡ false → separation_broken (a ∷ rs) c ≡ true → separation_broken rs c ≡ true
  off_rule_lem rs c a o = p.separating.separation_kept (a ∷ rs) rs c wider
    where
      wider : Wider (a ∷ rs) rs
      wider z (Memᴰ.head e) k = false_not_true (sym o ∙ sym (ap live e) ∙ k)
      wider z (Memᴰ.tail m) k = (z, m, k, within_refl z.source, within_refl z.dest)

  sample_one_type : (w : ℕ) → OneType (rules_of (policy_of sample) w)
  sample_one_type w = one_type _ (shared_rules.sample_one w)

  story_changed : answer story shared ≡ answer_was story shared → ⊥
  story_changed e =
      let d : UnKnown 1 1 ≡ Permitted 1 = gives_one (sym is.story_is ∙ e ∙ was.story_was) in
      let h : height (UnKnown 1 1) ≡ height (Permitted 1) = ap height d in
      omega (arith, h, height_unknown 1 1, height_permitted 1)

  -- a decision of now, beside one of before
  above : (l : List ℕ) (q : Query) (d e : Decision) → answer_was l q ≡ Ok d → answer l q ≡ Ok e → height d ≤ height e
  above l q d e w n =
      let a = p.separating.answers_rise l q d w in
      subst (λ (x : Decision). height d ≤ height x) (gives_one (sym a.answered ∙ n)) a.above

  -- an answer of which no raised one, or none that could be raised, is left
  now_is : (l : List ℕ) (q : Query) (o : Outcome Decision) → (Raised l q → answer l q ≡ o → ⊥) → answer l q ≡ o → answer_was l q ≡ o
  now_is l q o never e = ⊎_elim (λ h. sym h ∙ e) (λ r. absurd (never r e)) (p.separating.answers_change l q)

  was_is : (l : List ℕ) (q : Query) (o : Outcome Decision) → (Raised l q → answer_was l q ≡ o → ⊥) → answer_was l q ≡ o → answer l q ≡ o
  was_is l q o never e = ⊎_elim (λ h. h ∙ e) (λ r. absurd (never r e)) (p.separating.answers_change l q)

  -- what a raised answer was
  raised_was : (l : List ℕ) (q : Query) (r : Raised l q) → (d : Decision) × (answer_was l q ≡ Ok d) × (1 ≤ height d)
  raised_was l q r =
      ⊎_elim
      (λ e. (Permitted r.rule, e, omega (arith, height_permitted r.rule)))
      (λ k. (UnKnown r.rule k.0, k.2, omega (arith, height_unknown r.rule k.0)))
      r.was

  changed_separates :
      (l : List ℕ) (q : Query) → (answer l q ≡ answer_was l q → ⊥)
      → (r c : ℕ) × (answer l q ≡ Ok (UnKnown r c)) × (get_or (get_or (policy_of l).constraints c []) 10 0 ≡ 1)
  changed_separates l q n = ⊎_elim (λ h. absurd (n h)) (λ r. (r.rule, r.constraint, r.is, r.separates)) (p.separating.answers_change l q)

  permitted_kept : (l : List ℕ) (q : Query) (n : ℕ) → answer_was l q ≡ Ok (Permitted n) → SameRule l q n
  permitted_kept l q n e = ⊎_elim (λ h. inl (h ∙ e)) raised (p.separating.answers_change l q)
    where
      raised : Raised l q → SameRule l q n
      raised r =
          ⊎_elim
          (λ w. inr (r.constraint, r.is ∙ ap (λ (x : ℕ). Ok (UnKnown x r.constraint)) (permitted_one (sym w ∙ e))))
          (λ k. absurd (higher r.rule k.0 n (sym k.2 ∙ e)))
          r.was

  unknown_kept : (l : List ℕ) (q : Query) (n k : ℕ) → answer_was l q ≡ Ok (UnKnown n k) → (c : ℕ) × (c ≤ k) × (answer l q ≡ Ok (UnKnown n c))
  unknown_kept l q n k e = ⊎_elim (λ h. (k, omega arith, h ∙ e)) raised (p.separating.answers_change l q)
    where
      raised : Raised l q → (c : ℕ) × (c ≤ k) × (answer l q ≡ Ok (UnKnown n c))
      raised r =
          ⊎_elim
          (λ w. absurd (higher n k r.rule (sym e ∙ w)))
          (λ j. let u = unknown_one (sym j.2 ∙ e) in (r.constraint, omega (arith, j.1, u.1), r.is ∙ ap (λ (x : ℕ). Ok (UnKnown x r.constraint)) u.0))
          r.was

  story_raised : Raised story shared
  story_raised = record { rule = 1; constraint = 1; is = is.story_is; separates = shared_rules.story_separates; was = inl was.story_was }

  pub separating_met : SeparatingMet
  separating_met =
      let s = p.separating in
      record {
        two_rules = two_rules;
        one_rule = λ c x a l t u i. two_rules (a ∷ []) c x a a (Memᴰ.head refl) (Memᴰ.head refl) l l t u i i;
        none_shared = none_shared;
        none_live = λ rs c e. none_shared rs c (λ x f g. no_live rs f.rule e f.one f.is_live);
        story_first = shared_rules.story_first;
        story_second = shared_rules.story_second;
        story_broken = λ w c e f. s.separation_means.all _ c 20
            (subst (λ (t : List ℕ). From (rules_of (policy_of story) w) t 20) (sym e) (shared_rules.story_first w))
            (subst (λ (t : List ℕ). From (rules_of (policy_of story) w) t 20) (sym f) (shared_rules.story_second w));
        two_records = λ o w r x y z a b e ma mb ka na kb nb ya yr zb zr xa xb.
            s.separation_read.all o w r x e
            (record { bytes = a; one = ma; kind = ka; on = na; y = y; there = ya; argued = yr; has = xa })
            (record { bytes = b; one = mb; kind = kb; on = nb; y = z; there = zb; argued = zr; has = xb });
        none_in_records = none_in_records;
        story_from_record = story_records;
        story_read = λ w. sample_read (policy_of story) w 20 (story_records w);
        switched_from_record = switched_records;
        switched_read = sample_read (policy_of switched) 32 10 switched_records;
        none_on = λ o w r e h. none_in_records o w r e (λ x f g. h f.bytes f.one f.on);
        more_rules = λ rs more c e. s.separation_kept rs (rs ++ more) c (wider_on (λ a m o. Memᴰ.append_left more m)) e;
        sample_wider = λ w. wider_on (λ a m o. subst (Memᴰ a) (sym (shared_rules.one_more w)) (Memᴰ.append_left _ m));
        wider_rule = wider_rule;
        off_rule_lem = off_rule_lem;
        sample_one_type = sample_one_type;
        sample_separations = λ w c. s.separation_stays _ c (sample_one_type w);
        sample_stays = λ q. s.answers_stay sample q (sample_one_type q.switches);
        separated_stays = sym (s.answers_stay separated shared (one_type _ (shared_rules.separated_one 0))) ∙ separated_is p.deciding.marked_cases;
        one_long_separations = λ rs c e. s.separation_stays rs c (one_type rs e);
        one_long_stays = λ l q e. s.answers_stay l q (one_type _ e);
        none_live_stays = λ l q e. s.answers_stay l q (λ a m k. absurd (no_live _ a e m k));
        story_was = was.story_was;
        story_is = is.story_is;
        story_changed = story_changed;
        story_not_one_type = λ e. story_changed (s.answers_stay story shared e);
        story_above = s.answers_rise story shared (Permitted 1) was.story_was;
        permitted_above = λ l q r w d e. (let h = above l q (Permitted r) d w e in omega (arith, h, height_permitted r));
        unknown_above = λ l q r c w d e. (let h = above l q (UnKnown r c) d w e in omega (arith, h, height_unknown r c));
        none_refused = λ l q d f w e. (let a = s.answers_rise l q d w in given_refused a.now f (sym a.answered ∙ e));
        story_raised = story_raised;
        denied_stays = λ l q x. was_is l q _ (λ r e. let d = raised_was l q r in let h : height d.0 ≡ height (NotPermitted x) = ap height (gives_one (sym d.1 ∙ e)) in omega (arith, h, d.2, height_denied x));
        denied_was = λ l q x. now_is l q _ (λ r e. unlike r.rule r.constraint x (sym r.is ∙ e));
        refused_stays = λ l q f. was_is l q _ (λ r e. let d = raised_was l q r in given_refused d.0 f (sym d.1 ∙ e));
        permitted_was = λ l q n. now_is l q _ (λ r e. higher r.rule r.constraint n (sym r.is ∙ e));
        changed_separates = changed_separates;
        permitted_kept = permitted_kept;
        unknown_kept = unknown_kept;
        shared_all = (is.many, was.many);
        both_reached = is.both_reached;
        off_shared = is.off_shared;
        elsewhere_inside = is.inside;
        elsewhere_outside = is.outside;
        same_source_was = was.same_source;
      }
