-- Which answers the separation of request [5] changed, and that none is lower. Claims AnswersChange, AnswersRise. Assumes nothing.
use Prim.Native.Nat.{ℕ, suc, ◌+◌, ◌<◌, ◌≤◌}
use native.Mathlib.Omega.{arith}
use mathlib.Core.Path.{◌≡◌, refl, sym, ap, ap₂, ◌∙◌}
use mathlib.Core.Logic.{◌⊎◌, inl, inr, ⊎_elim}
use mathlib.Core.Bool.{Bool, true, false, ◌&&◌}
use Rattle.std.specs.Prelude.{Option, None, Some}
use mathlib.Core.List.{List, [], ◌∷◌, Memᴰ}
use lib.ListN.{get_or, get_or-map}
use lib.Dec.{eqb}
use borrow.Author.Tests.{eqb-true}
use Rattle.format.specs.declared.Refusal.{Refusal}
use Rattle.format.specs.Policy.{Policy, policy_of}
use Rattle.std.specs.Prelude.{Ok}
use Rattle.format.specs.Answers.{outcome}
use Rattle.format.proofs.Tests.{false_not_true}
use Rattle.decision.specs.declared.Query.{Query}
use Rattle.decision.specs.Reading.{Rule, Constraint, Request, constraint_of, request_of, rules_of, constraints_of}
use Rattle.decision.specs.declared.Decision.TheVariants.{UnKnown}
use Rattle.decision.specs.Decide.{covers, nearest, applies, inside, fails, first_at, decision_of, judge, decide, answer_fault, answer}
use Rattle.decision.specs.Separation.{fails_was, decide_was, answer_was, AnswersRise, Raised, AnswersChange}
use Rattle.decision.proofs.Search.{by_test, first_at_some}
use Rattle.decision.proofs.Above.{height_unknown, height_most}
use Rattle.decision.proofs.Order.{decided_only}
use Rattle.decision.proofs.Was.{was_other, fails⟹, sourced}

-- ---- the first of two searches, of which the second finds no less

module _ {A : Type 0} (f g : A → Bool) (d : A) where
  -- what is found from n on is at n or later
  later : (n : ℕ) (xs : List A) → (first_at f n xs ≡ None) ⊎ ((m : ℕ) × (n ≤ m) × (first_at f n xs ≡ Some m))
  later n xs = go (first_at f n xs) refl
    where
      go : (o : Option ℕ) → first_at f n xs ≡ o → (o ≡ None) ⊎ ((m : ℕ) × (n ≤ m) × (o ≡ Some m))
      go None e = inl refl
      go (Some m) e = let r = first_at_some f n m xs e in inr (m, omega (arith, r.1), refl)

  pub record Moved (n : ℕ) (xs : List A) : Type 0 where
    pub at : ℕ
    pub number : ℕ
    pub is : number ≡ n + at
    pub found : first_at g n xs ≡ Some number
    pub before : f (get_or xs at d) ≡ false
    pub now : g (get_or xs at d) ≡ true
    pub other : (first_at f n xs ≡ None) ⊎ ((m : ℕ) × (number < m) × (first_at f n xs ≡ Some m))

  pub moved : (n : ℕ) (xs : List A) → ((x : A) → Memᴰ x xs → f x ≡ true → g x ≡ true) → (first_at g n xs ≡ first_at f n xs) ⊎ Moved n xs
  unfolding first_at
  moved n [] h = inl refl
  moved n (x ∷ xs) h =
      by_test (f x)
      (λ t. inl (simp (t, h x (Memᴰ.head refl) t)))
      (λ t. by_test (g x)
      (λ u. inr (record {
        at = 0;
        number = n;
        is = omega arith;
        found = simp u;
        before = t;
        now = u;
        other = simp t (⊎_elim (λ e. inl e) (λ e. inr (e.0, omega (arith, e.1), e.2)) (later (suc n) xs));
      }))
      (λ u. simp (t, u) (⊎_elim (λ e. inl e) (λ k. inr (next t u k)) (moved (suc n) xs (λ y m. h y (Memᴰ.tail m))))))
    where
      next : f x ≡ false → g x ≡ false → Moved (suc n) xs → Moved n (x ∷ xs)
      next t u k =
          record {
            at = suc k.at;
            number = k.number;
            is = omega (arith, k.is);
            found = simp u k.found;
            before = k.before;
            now = k.now;
            other = simp t k.other;
          }

-- ---- a constraint that fails now and did not

-- it is a separation
fails_other : (rs : List Rule) (a : Request) (c : Constraint) → eqb c.predicate 1 ≡ false → fails_was rs a c ≡ fails rs a c
unfolding fails fails_was
fails_other rs a c e = ap (λ (b : Bool). applies a c && inside a c && b) (was_other rs c e)

separates : (rs : List Rule) (a : Request) (c : Constraint) → fails_was rs a c ≡ false → fails rs a c ≡ true → c.predicate ≡ 1
separates rs a c f t =
    by_test (eqb c.predicate 1) (λ e. eqb-true c.predicate 1 e) (λ e. false_not_true (sym f ∙ fails_other rs a c e ∙ t))

predicate_at : (p : Policy) (k : ℕ) → (get_or (constraints_of p) k (constraint_of p [])).predicate ≡ get_or (get_or p.constraints k []) 10 0
unfolding constraints_of constraint_of
predicate_at p k = ap (λ (c : Constraint). c.predicate) (get_or-map (constraint_of p) p.constraints k [])

module _ (l : List ℕ) (q : Query) where
  abbrev p : Policy
  p = policy_of l

  abbrev a : Request
  a = request_of p q

  abbrev Later : Type 0
  Later = Moved (fails_was (rules_of p q.switches) a) (fails (rules_of p q.switches) a) (constraint_of p []) 0 (constraints_of p)

  covered :
      answer l q ≡ Ok (decide p q) → answer_was l q ≡ Ok (decide_was p q) → Later
      → (r : Option ℕ) → first_at (covers a) 0 (rules_of p q.switches) ≡ r → (answer l q ≡ answer_was l q) ⊎ Raised l q
  unfolding decide decide_was judge decision_of
  covered g w k None h = inl (g ∙ ap Ok (ap₂ (decision_of (nearest a (rules_of p q.switches))) h refl) ∙ sym (w ∙ ap Ok (ap₂ (decision_of (nearest a (rules_of p q.switches))) h refl)))
  covered g w k (Some r) h =
      inr (record {
        rule = r;
        constraint = k.number;
        is = g ∙ ap Ok (ap₂ (decision_of (nearest a (rules_of p q.switches))) h k.found);
        separates = ap (λ n. get_or (get_or p.constraints n []) 10 0) (omega (arith, k.is)) ∙ sym (predicate_at p k.at) ∙ separates (rules_of p q.switches) a _ k.before k.now;
        was = ⊎_elim
            (λ n. inl (w ∙ ap Ok (ap₂ (decision_of (nearest a (rules_of p q.switches))) h n)))
            (λ n. inr (n.0, n.1, w ∙ ap Ok (ap₂ (decision_of (nearest a (rules_of p q.switches))) h n.2)))
            k.other;
      })

  by_fault : (o : Option Refusal) → answer_fault l q ≡ o → (answer l q ≡ answer_was l q) ⊎ Raised l q
  unfolding answer answer_was decide decide_was judge
  by_fault (Some f) e = inl (rw e refl)
  by_fault None e =
      let g : answer l q ≡ Ok (decide p q) = ap (λ (o : Option Refusal). outcome o (decide p q)) e in
      let w : answer_was l q ≡ Ok (decide_was p q) = ap (λ (o : Option Refusal). outcome o (decide_was p q)) e in
      let s = sourced l q.switches (decided_only l q (decide p q) g).0 in
      ⊎_elim
      (λ k. inl (ap (λ (c : Option ℕ). outcome (answer_fault l q) (decision_of (nearest a (rules_of p q.switches)) (first_at (covers a) 0 (rules_of p q.switches)) c)) k))
      (λ k. covered g w k (first_at (covers a) 0 (rules_of p q.switches)) refl)
      (moved (fails_was (rules_of p q.switches) a) (fails (rules_of p q.switches) a) (constraint_of p []) 0 (constraints_of p) (λ c m. (fails⟹ (rules_of p q.switches) a c s).imp))

pub answers_change : AnswersChange
answers_change l q = by_fault l q (answer_fault l q) refl

pub answers_rise : AnswersRise
answers_rise l q d e =
    ⊎_elim
    (λ h. record { now = d; answered = h ∙ e; above = omega arith })
    (λ r. record { now = UnKnown r.rule r.constraint; answered = r.is; above = omega (arith, height_most d, height_unknown r.rule r.constraint) })
    (answers_change l q)
