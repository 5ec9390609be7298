-- What meets the terms of the claims of runs, from the statement: no claim's own proof is cited. Assumes nothing.
use Prim.Native.Nat.{ℕ, zero, suc, ◌+◌, ◌≤◌}
use native.Mathlib.Omega.{arith}
use mathlib.Core.Path.{◌≡◌, refl, sym, ap, ◌∙◌}
use Rattle.std.specs.Prelude.{None, Some}
use mathlib.Core.List.{List, [], ◌∷◌}
use lib.ListN.{length, take}
use Rattle.format.specs.declared.Refusal.{Refusal}
use Rattle.format.specs.Refusals.{refusal}
use Rattle.format.specs.Check.{Accepted}
use Rattle.std.specs.Prelude.{Ok, Err}
use Rattle.format.specs.Answers.{Outcome}
use Rattle.format.specs.Sample.{sample}
use Rattle.decision.specs.declared.Query.{Query}
use Rattle.decision.specs.declared.Decision.{Decision}
use Rattle.decision.specs.declared.Decision.TheVariants.{NotPermitted, Permitted, UnKnown}
use Rattle.decision.proofs.Cases.{marked_answers}
use Rattle.runs.specs.Runs.{queries_fault, run_of}
use Rattle.runs.specs.Claims.{Permits, AllPermits}
use Rattle.runs.specs.Cases.{member, group, transition, off_rule, no_source}
use Rattle.claims.specs.Promises.{Promises}
use Rattle.claims.specs.Terms.{RunningMet}
use Rattle.claims.proofs.Cases.{RowAnswers, row_answers, run_numbers}
use Rattle.decision.specs.Decide.{Nearest}

not_permitted_lem : {r : ℕ} {x : Nearest} → ◌≡◌ {A = Outcome Decision} (Ok (NotPermitted x)) (Ok (Permitted r)) → ⊥
not_permitted_lem e = (let z : ◌≡◌ {A = ℕ} 0 1 = cc in omega arith)

not_unknown : {r n k : ℕ} → ◌≡◌ {A = Outcome Decision} (Ok (UnKnown n k)) (Ok (Permitted r)) → ⊥
not_unknown e = (let z : ◌≡◌ {A = ℕ} 0 1 = cc in omega arith)

not_refused : {r : ℕ} {f : Refusal} → ◌≡◌ {A = Outcome Decision} (Err f) (Ok (Permitted r)) → ⊥
not_refused e = (let z : ◌≡◌ {A = ℕ} 0 1 = cc in omega arith)

-- what a slot may hold before
blank : Outcome Decision
blank = Ok (Permitted 0)

module _ (p : Promises) where
  rows : RowAnswers
  rows = row_answers (marked_answers p.deciding.marked_cases)

  passes : Accepted sample
  passes = p.reading.sample_accepted.sample_passes

  off : Permits sample off_rule → ⊥
  off h = not_permitted_lem (sym rows.off_is ∙ h.1)

  no_source_lem : Permits sample no_source → ⊥
  no_source_lem h = not_refused (sym rows.no_source_is ∙ h.1)

  -- n rows and n slots
  fits : (n : ℕ) → 1 ≤ n → n ≤ 64 → queries_fault sample n n ≡ None
  fits n h k = ((p.running.run_faults sample).1 passes).3 n h k

  three : AllPermits sample (member ∷ group ∷ transition ∷ []) member 3
  three zero h = (0, rows.member_is)
  three (suc zero) h = (0, rows.group_is)
  three (suc (suc zero)) h = (2, rows.transition_is)
  three (suc (suc (suc i))) h = absurd (omega arith)

  before_second : (q : Query) → AllPermits sample (member ∷ off_rule ∷ q ∷ []) member 1
  before_second q zero h = (0, rows.member_is)
  before_second q (suc i) h = absurd (omega arith)

  pub two_fit : run_of sample (member ∷ transition ∷ []) 2 ≡ Ok None
  two_fit = (p.running.fit_exactly sample (member ∷ transition ∷ []) 2 member).1 (fits 2 (omega arith) (omega arith)) both
    where
      both : AllPermits sample (member ∷ transition ∷ []) member 2
      both zero h = (0, rows.member_is)
      both (suc zero) h = (2, rows.transition_is)
      both (suc (suc i)) h = absurd (omega arith)

  pub two_unfit : run_of sample (member ∷ off_rule ∷ []) 2 ≡ Ok (Some 1)
  two_unfit = (p.running.last_counts sample (member ∷ []) off_rule (blank ∷ blank ∷ []) blank).0 (fits 2 (omega arith) (omega arith)) one off
    where
      one : AllPermits sample (member ∷ []) off_rule 1
      one zero h = (0, rows.member_is)
      one (suc i) h = absurd (omega arith)

  -- n rows and n slots on any accepted image
  counts : (l : List ℕ) → Accepted l → (n : ℕ) → 1 ≤ n → n ≤ 64 → queries_fault l n n ≡ None
  counts l a n h k = ((p.running.run_faults l).1 a).3 n h k

  -- one row more than qs, and as many slots
  counts_last : (l : List ℕ) → Accepted l → (qs : List Query) (ys : List (Outcome Decision)) → length qs ≤ 63 → length ys ≡ suc (length qs) → queries_fault l (length qs + 1) (length ys) ≡ None
  counts_last l a qs ys k e =
      let z : length ys ≡ length qs + 1 = omega (arith, e) in
      ap (queries_fault l (length qs + 1)) z ∙ counts l a (length qs + 1) (omega arith) (omega arith)

  pub running_met : RunningMet
  running_met =
      let r = p.running in
      record {
        fit_any = λ l qs i slots other e k. ((r.fit_exactly l qs slots other).0 e).1 i k;
        all_fit = λ l qs q a h k all. (r.fit_exactly l qs (length qs) q).1 (counts l a (length qs) h k) all;
        fit_counts = λ l qs slots e. ((r.fit_exactly l qs slots member).0 e).0;
        three_fit = (r.fit_exactly sample (member ∷ group ∷ transition ∷ []) 3 member).1 (fits 3 (omega arith) (omega arith)) three;
        any_unfit = λ l qs n q a h k all u. (r.unfit_first l qs (length qs) n q).1 (counts l a (length qs) (omega (arith, k)) h) k u all;
        first_unfit_lem = λ l q qs a k u. (r.unfit_first l (q ∷ qs) (suc (length qs)) 0 q).1 (counts l a (suc (length qs)) (omega arith) (omega (arith, k))) (omega arith) u (λ i j. absurd (omega arith));
        second_unfit = λ q. (r.unfit_first sample (member ∷ off_rule ∷ q ∷ []) 3 1 member).1 (fits 3 (omega arith) (omega arith)) (omega arith) off (before_second q);
        refused_unfit = λ q. (r.unfit_first sample (no_source ∷ q ∷ []) 2 0 member).1 (fits 2 (omega arith) (omega arith)) (omega arith) no_source_lem (λ i h. absurd (omega arith));
        unfit_not = λ l qs slots n other e. (let u = (r.unfit_first l qs slots n other).0 e in (u.0, omega (arith, u.1), u.2));
        unfit_before = λ l qs slots n i other e k. ((r.unfit_first l qs slots n other).0 e).3 i k;
        only_unfit = λ l q y a u. (r.last_counts l [] q (y ∷ []) y).0 (counts l a 1 (omega arith) (omega arith)) (λ i j. absurd (omega arith)) u;
        last_unfit = λ l qs q ys a k e all u. (r.last_counts l qs q ys blank).0 (counts_last l a qs ys k e) all u;
        last_permits = λ qs ys e. off ((r.last_counts sample qs off_rule ys blank).1 e);
        last_said = λ l qs q ys y a k e. (r.last_counts l qs q ys y).2 (counts_last l a qs ys k e);
        image_first = λ l qs slots f e. (r.run_refused l qs slots f).0 ((r.run_faults l).0 f (length qs) slots e);
        no_row = λ l slots a. (r.run_refused l [] slots (refusal 16 0)).0 (((r.run_faults l).1 a).0 slots);
        rows_65 = λ l qs slots a k. (r.run_refused l qs slots (refusal 16 0)).0 (((r.run_faults l).1 a).1 (length qs) slots (omega (arith, k)));
        slot_few = λ l qs a k. (r.run_refused l qs 63 (refusal 17 0)).0 (((r.run_faults l).1 a).2 (length qs) 63 (omega (arith, k)) (omega (arith, k)) (λ e. absurd (omega (arith, e, k))));
        slot_many = λ l q a. (r.run_refused l (q ∷ []) 2 (refusal 17 0)).0 (((r.run_faults l).1 a).2 1 2 (omega arith) (omega arith) (λ e. absurd (omega (arith, e))));
        slots_other = λ l qs slots a h k z. (r.run_refused l qs slots (refusal 17 0)).0 (((r.run_faults l).1 a).2 (length qs) slots h k z);
        rows_64 = λ l a. counts l a 64 (omega arith) (omega arith);
        refused_counts = λ l qs slots f. (r.run_refused l qs slots f).1;
        refused_said = λ l q q' f y y' a e. r.each_answered l (q ∷ q' ∷ []) (y ∷ y' ∷ []) 1 q y (counts l a 2 (omega arith) (omega arith)) (omega arith) ∙ e;
        places_changed = λ l q q' y y' a.
            r.own_row l (q ∷ q' ∷ []) (q' ∷ q ∷ []) (y ∷ y ∷ []) (y' ∷ y' ∷ []) 0 1 q y (counts l a 2 (omega arith) (omega arith)) (counts l a 2 (omega arith) (omega arith)) (omega arith) (omega arith) refl;
        row_apart = λ l qs ys i other y e k a. r.own_row l qs _ ys (y ∷ []) i 0 other y e (counts l a 1 (omega arith) (omega arith)) k (omega arith) refl;
        refused_left = λ l qs ys f. (r.slots_left l qs ys).1 f;
        slot_left = λ l q y y' a.
            (r.slots_left l (q ∷ []) (y ∷ y' ∷ [])).1 (refusal 17 0) ((r.run_refused l (q ∷ []) 2 (refusal 17 0)).0 (((r.run_faults l).1 a).2 1 2 (omega arith) (omega arith) (λ e. absurd (omega (arith, e)))));
        image_left = λ l qs ys f e. (r.slots_left l qs ys).1 f ((r.run_refused l qs (length ys) f).0 ((r.run_faults l).0 f (length qs) (length ys) e));
        slots_65 = λ qs ys k. (r.slots_left sample qs ys).1 (refusal 16 0) ((r.run_refused sample qs (length ys) (refusal 16 0)).0 (((r.run_faults sample).1 passes).1 (length qs) (length ys) (omega (arith, k))));
        slots_many = λ l qs ys. (r.slots_left l qs ys).0;
        permitted_fit = λ l q n e. (r.one_row l q blank).1 (n, e);
        not_permitted_unfit = λ l q a x e. (r.one_row l q blank).2 a (λ h. not_permitted_lem (sym e ∙ h.1));
        unknown_unfit = λ l q n k a e. (r.one_row l q blank).2 a (λ h. not_unknown (sym e ∙ h.1));
        refused_row_unfit = λ l q f a e. (r.one_row l q blank).2 a (λ h. not_refused (sym e ∙ h.1));
        one_said = λ y. (r.one_row sample off_rule y).0 passes ∙ ap (λ o. o ∷ []) rows.off_is;
        one_fit = (r.one_row sample transition blank).1 (2, rows.transition_is);
        one_unfit = (r.one_row sample off_rule blank).2 passes off;
        one_refused = λ q y. (let o = (r.one_row (take 79 sample) q y).3 (refusal 3 0) p.reading.refusal_cases.cut in (o.0, o.2));
        run_cases_all = (run_numbers.cases, run_numbers.number_cases_lem);
      }
