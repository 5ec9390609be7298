-- A separation as it was before request [5], beside what it is. Claims SeparationStays, AnswersStay. Assumes nothing.
use Prim.Native.Nat.{ℕ, ◌<◌}
use mathlib.Core.Path.{◌≡◌, refl, sym, ap, subst, ◌∙◌}
use mathlib.Core.Bool.{Bool, true, false, ◌&&◌}
use Rattle.std.specs.Prelude.{Option}
use mathlib.Core.List.Memᴰ
use mathlib.Core.List.{List, [], ◌∷◌, Memᴰ}
use native.Mathlib.Omega.{arith}
use lib.ListN.{length}
use lib.Dec.{eqb}
use borrow.Author.Tests.{eqb-true, eqb-false, eq-eqb, ne_eqb}
use Rattle.format.specs.Policy.{policy_of}
use Rattle.format.specs.Check.{Accepted}
use Rattle.format.specs.Answers.{outcome}
use Rattle.format.proofs.Tests.{both, or_left}
use Rattle.decision.specs.Sets.{any_of, all_of, is_in, within, touches}
use Rattle.decision.specs.Reading.{Rule, Constraint, Request, rule_of, request_of, rules_of, constraints_of}
use Rattle.decision.specs.Decide.{covers, nearest, reaches, separation_broken, broken, applies, inside, fails, first_at, decision_of, judge, decide, answer_fault, answer}
use Rattle.decision.specs.Separation.{same_set, separation_was, broken_was, fails_was, decide_was, answer_was, OneType, SeparationStays, AnswersStay}
use Rattle.decision.proofs.Search.{by_test, any_of_same, first_at_same}
use Rattle.decision.proofs.Implies.{◌⟹◌, id⟹, and⟹, any_of⟹}
use Rattle.decision.proofs.Separation.{reaches_both}
use Rattle.decision.proofs.Kept.{accepted_typed}
use Rattle.decision.proofs.Filled.{types_filled}

-- two single basic types touch where they are the same set
one_touches : (x y : ℕ) → touches (x ∷ []) (y ∷ []) ≡ same_set (x ∷ []) (y ∷ [])
unfolding touches same_set within is_in any_of all_of
one_touches x y =
    by_test (eqb x y)
    (λ e. simp (e, eq-eqb y x (sym (eqb-true x y e))))
    (λ e. simp (e, ne_eqb y x (λ h. eqb-false x y e (sym h))))

and_same : (b x y : Bool) → (b ≡ true → x ≡ y) → b && x ≡ b && y
and_same true x y h = h refl
and_same false x y h = refl

pub separation_stays : SeparationStays
unfolding separation_broken separation_was
separation_stays rs c one =
    any_of_same _ _ rs (λ a ma. and_same (reaches c.first a) _ _ (λ t.
    any_of_same _ _ rs (λ b mb. and_same (reaches c.second b) _ _ (λ u.
    let x = one a ma (reaches_both c.first a t).0 in
    let y = one b mb (reaches_both c.second b u).0 in
    rw (x.1, y.1) (one_touches x.0 y.0)))))

-- ---- a predicate as it was

broken_one : (rs : List Rule) (c : Constraint) → eqb c.predicate 1 ≡ true → broken rs c ≡ separation_broken rs c
unfolding broken
broken_one rs c e = simp (ne_eqb c.predicate 0 (omega (arith, eqb-true c.predicate 1 e)), e)

was_one : (rs : List Rule) (c : Constraint) → eqb c.predicate 1 ≡ true → broken_was rs c ≡ separation_was rs c
unfolding broken_was
was_one rs c e = simp e

pub was_other : (rs : List Rule) (c : Constraint) → eqb c.predicate 1 ≡ false → broken_was rs c ≡ broken rs c
unfolding broken_was
was_other rs c e = simp e

fails_was_lem : (rs : List Rule) (a : Request) (c : Constraint) → OneType rs → fails rs a c ≡ fails_was rs a c
unfolding fails fails_was
fails_was_lem rs a c one =
    ap (λ b. applies a c && inside a c && b)
    (by_test (eqb c.predicate 1)
    (λ e. broken_one rs c e ∙ separation_stays rs c one ∙ sym (was_one rs c e))
    (λ e. sym (was_other rs c e)))

pub answers_stay : AnswersStay
unfolding answer answer_was decide decide_was judge
answers_stay l q one =
    let p = policy_of l in
    let a = request_of p q in
    let rs = rules_of p q.switches in
    ap (λ (c : Option ℕ). outcome (answer_fault l q) (decision_of (nearest a rs) (first_at (covers a) 0 rs) c))
    (first_at_same (fails rs a) (fails_was rs a) 0 (constraints_of p) (λ c. fails_was_lem rs a c one))

-- ---- equal sources touch, as none is empty

abbrev pub Sourced : List Rule → Type 0
Sourced rs = (a : Rule) → Memᴰ a rs → 0 < length a.source

same_touches : (a b : List ℕ) → 0 < length a → same_set a b ⟹ touches a b
unfolding same_set within all_of touches any_of is_in
same_touches [] b h = absurd (omega arith)
same_touches (x ∷ a) b h = record { imp = λ t. or_left (is_in x b) (any_of (λ y. is_in y b) a) (both (is_in x b) (all_of (λ y. is_in y b) a) (both _ _ t).0).0 }

broken⟹ : (rs : List Rule) (c : Constraint) → Sourced rs → broken_was rs c ⟹ broken rs c
unfolding separation_broken separation_was
broken⟹ rs c Some =
    by_test (eqb c.predicate 1)
    (λ e. rw (was_one rs c e, broken_one rs c e)
    (any_of⟹ (λ a ma. (ma, and⟹ {a = reaches c.first a} id⟹ (any_of⟹ (λ b mb. (mb, and⟹ {a = reaches c.second b} id⟹ (same_touches a.source b.source (Some a ma)))))))))
    (λ e. rw (was_other rs c e) id⟹)

pub fails⟹ : (rs : List Rule) (a : Request) (c : Constraint) → Sourced rs → fails_was rs a c ⟹ fails rs a c
unfolding fails fails_was
fails⟹ rs a c Some = and⟹ {a = applies a c && inside a c} id⟹ (broken⟹ rs c Some)

pub sourced : (l : List ℕ) (w : ℕ) → Accepted l → Sourced (rules_of (policy_of l) w)
unfolding rules_of rule_of
sourced l w e a m =
    let r = Memᴰ.of_map (rule_of (policy_of l) w) (policy_of l).rules m in
    subst (λ (z : Rule). 0 < length z.source) r.2 (types_filled l e _ ((accepted_typed l e).rules r.0 r.1).0)
