-- The number of an answer: claims DecideWhole, PartsWhole, PartsRead, DecideRead. Assumes nothing.
--     check_fits      the check's refusal fits, by the law that says how large one is
--     known_fits      so does a refusal that is known
--     refused_kind, refused_back   what a host reads from the number of a refusal that fits
--     host_permitted, host_refused, host_unknown, host_none   what a host reads, by the kind; host_no_rules, host_near: of the
--                                nearest
--     accepted_read   what a host reads from the number of an answer on an accepted image is the answer
use Prim.Native.Nat.{ℕ, ◌≤◌, ◌<◌}
use mathlib.Core.Path.{◌≡◌, refl, sym, subst, ◌∙◌}
use mathlib.Core.Logic.{⊎_elim}
use Rattle.std.specs.Prelude.{Some, None}
use mathlib.Core.List.{List}
use native.Mathlib.Omega.{arith}
use borrow.Author.Tests.{ne_eqb}
use Rattle.format.specs.declared.Section.TheVariants.{Rules, Constraints}
use Rattle.format.specs.declared.Refusal.{Refusal}
use Rattle.format.specs.Refusals.{refusal}
use Rattle.format.specs.Format.{count_of}
use Rattle.format.specs.Check.{check, Accepted}
use Rattle.std.specs.Prelude.{Ok, Err}
use Rattle.format.specs.Answers.{Outcome}
use Rattle.format.proofs.Chain.{some_not_none}
use Rattle.format.proofs.ByCase.{limit_rules, limit_constraints}
use Rattle.format.proofs.Accepted.{accepted_header}
use Rattle.format.proofs.Bounds.{check_small}
use Rattle.decision.specs.declared.Query.{Query}
use Rattle.decision.specs.declared.Decision.{Decision}
use Rattle.decision.specs.declared.Decision.TheVariants.{NotPermitted, Permitted, UnKnown}
use Rattle.decision.specs.Decide.{answer, near}
use Rattle.decision.specs.Numbers.{parts_of, refusal_code, decision_code, kind_part, third_part, fourth_part, host_refusal, host_nearest, host_decision, RefusalFits, OutcomeFits, DecisionFits, DecideWhole, PartsWhole, PartsRead, DecideRead}
use Rattle.decision.proofs.Order.{answer_accepted}
use Rattle.decision.proofs.Answers.{answer_refused, denied_inside, permitted_inside, unknown_inside}

-- ---- the parts

pub parts_whole : PartsWhole
unfolding parts_of
parts_whole kind high low h k = omega arith

pub parts_read : PartsRead
unfolding parts_of
parts_read kind high low h k m = (omega arith, omega arith, omega arith)

module _ (f : Refusal) (fits : RefusalFits f) where
  pub refused_kind : kind_part (refusal_code f) ≡ 2
  unfolding refusal_code
  refused_kind = (parts_read 2 f.number f.place (omega arith) fits.0 fits.1).0

  pub refused_back : host_refusal (refusal_code f) ≡ f
  unfolding host_refusal refusal_code
  refused_back =
      let p = parts_read 2 f.number f.place (omega arith) fits.0 fits.1 in
      rw (p.1, p.2) refl

-- ---- no part is cut

pub known_fits : (n at : ℕ) (f : Refusal) → refusal n at ≡ f → n < 65536 → at < 65536 → RefusalFits f
known_fits n at f e h k = subst RefusalFits e (h, k)

pub check_fits : (l : List ℕ) (f : Refusal) → check l ≡ Some f → RefusalFits f
check_fits l f e = let q = check_small l f e in (omega (arith, q.0), omega (arith, q.1))

module _ (l : List ℕ) (e : Accepted l) where
  few_rules : count_of l Rules ≤ 1024
  few_rules = omega (arith, (accepted_header l e).few Rules, limit_rules)

  few_constraints : count_of l Constraints ≤ 256
  few_constraints = omega (arith, (accepted_header l e).few Constraints, limit_constraints)

-- the answer fits where the check's refusal does
decide_fits : (l : List ℕ) (q : Query) → ((f : Refusal) → check l ≡ Some f → RefusalFits f) → OutcomeFits DecisionFits (answer l q)
decide_fits l q fits = go (answer l q) refl
  where
    go : (o : Outcome Decision) → answer l q ≡ o → OutcomeFits DecisionFits o
    go (Err f) e =
        ⊎_elim (fits f)
        (⊎_elim (λ z. known_fits 8 0 f (sym z) (omega arith) (omega arith)) (λ z. known_fits 9 0 f (sym z) (omega arith) (omega arith)))
        (answer_refused l q f e)
    go (Ok (NotPermitted None)) e = tt
    go (Ok (NotPermitted (Some x))) e =
        let h = denied_inside l q x.steps x.rule e in
        (h.0, omega (arith, h.1, few_rules l (answer_accepted l q (NotPermitted (Some x)) e).0))
    go (Ok (Permitted r)) e = omega (arith, permitted_inside l q r e, few_rules l (answer_accepted l q (Permitted r) e).0)
    go (Ok (UnKnown r c)) e =
        let a = (answer_accepted l q (UnKnown r c) e).0 in
        let h = unknown_inside l q r c e in
        (omega (arith, h.0, few_rules l a), omega (arith, h.1, few_constraints l a))

pub decide_whole : DecideWhole
decide_whole l b q = decide_fits l q (check_fits l)

-- ---- what a host reads

decision_back : (o : Outcome Decision) → OutcomeFits DecisionFits o → host_decision (decision_code o) ≡ o
unfolding host_decision host_nearest parts_of
decision_back (Err f) h = simp (refused_kind f h, refused_back f h)
decision_back (Ok (NotPermitted None)) h = refl
decision_back (Ok (NotPermitted (Some x))) h =
    let p = parts_read 0 x.steps x.rule (omega arith) (omega (arith, h.0)) (omega (arith, h.1)) in
    simp (p.0, p.1, p.2, ne_eqb x.rule 65535 (omega (arith, h.1)))
decision_back (Ok (Permitted r)) h =
    let p = parts_read 1 0 r (omega arith) (omega arith) (omega arith) in
    simp (p.0, p.2)
decision_back (Ok (UnKnown r c)) h =
    let p = parts_read 3 r c (omega arith) (omega (arith, h.0)) (omega (arith, h.1)) in
    simp (p.0, p.1, p.2)

pub decide_read : DecideRead
decide_read l b q = decision_back (answer l q) (decide_whole l b q)

-- the cases of the kind
module _ (n : ℕ) where
  pub host_permitted : kind_part n ≡ 1 → host_decision n ≡ Ok (Permitted (fourth_part n))
  unfolding host_decision
  host_permitted e = rw e refl

  pub host_refused : kind_part n ≡ 2 → host_decision n ≡ Err (refusal (third_part n) (fourth_part n))
  unfolding host_decision host_refusal
  host_refused e = rw e refl

  pub host_unknown : kind_part n ≡ 3 → host_decision n ≡ Ok (UnKnown (third_part n) (fourth_part n))
  unfolding host_decision
  host_unknown e = rw e refl

  pub host_none : (kind_part n ≡ 1 → ⊥) → (kind_part n ≡ 2 → ⊥) → (kind_part n ≡ 3 → ⊥) → host_decision n ≡ Ok (NotPermitted (host_nearest (third_part n) (fourth_part n)))
  unfolding host_decision
  host_none a b c = simp (ne_eqb (kind_part n) 2 b, ne_eqb (kind_part n) 1 a, ne_eqb (kind_part n) 3 c)

-- and of the nearest
module _ (s r : ℕ) where
  pub host_no_rules : r ≡ 65535 → host_nearest s r ≡ None
  unfolding host_nearest
  host_no_rules e = rw e refl

  pub host_near : (r ≡ 65535 → ⊥) → host_nearest s r ≡ Some (near s r)
  unfolding host_nearest
  host_near e = simp (ne_eqb r 65535 e)

pub accepted_read : (l : List ℕ) → Accepted l → (q : Query) → host_decision (decision_code (answer l q)) ≡ answer l q
accepted_read l a q = decision_back (answer l q) (decide_fits l q (λ f e. some_not_none (sym e ∙ a)))
