-- The order rule over rules, constraints and queries as they are read, whatever their records. Assumes nothing.
--     height_denied, height_permitted, height_unknown, height_most   the height of a decision
--     judge_says        what a decision says is told by whether some rule covers and some constraint fails
--     Above             the order rule's terms: of the rules, those that are on
--     judge_order       the order rule
use Prim.Native.Nat.{ℕ, ◌≤◌, ◌<◌}
use native.Mathlib.Omega.{arith}
use mathlib.Core.Path.{◌≡◌, refl, ap}
use mathlib.Core.Logic.{◌⊎◌, ⊎_elim}
use mathlib.Core.Bool.{Bool, true, false, ◌&&◌, cond}
use Rattle.std.specs.Prelude.{Option, None, Some}
use mathlib.Core.List.{List, Memᴰ}
use lib.Dec.{eqb}
use borrow.Author.Tests.{eqb-false}
use Rattle.format.proofs.Tests.{both, false_not_true}
use Rattle.decision.specs.Sets.{any_of, all_of, within}
use Rattle.decision.specs.Reading.{Rule, Constraint, Request, asks}
use Rattle.decision.specs.declared.Decision.{Decision}
use Rattle.decision.specs.declared.Decision.TheVariants.{NotPermitted, Permitted, UnKnown}
use Rattle.decision.specs.Decide.{tests, covers, reaches, separation_broken, roster_broken, companion_broken, broken, applies, inside, fails, first_at, nearest, decision_of, judge, Nearest}
use Rattle.decision.specs.Order.{height}
use Rattle.decision.proofs.Search.{is_found, first_at_any}
use Rattle.decision.proofs.Separation.{reaches_both, live_on, wider_on, separation_kept}
use Rattle.decision.proofs.Implies.{◌⟹◌, id⟹, eq⟹, and⟹, not⟹, cond⟹, any_of_to⟹, any_of⟹, within⟹}

-- ---- the height of a decision

pub height_denied : (x : Nearest) → height (NotPermitted x) ≡ 0
unfolding height
height_denied x = refl

pub height_permitted : (r : ℕ) → height (Permitted r) ≡ 1
unfolding height
height_permitted r = refl

pub height_unknown : (r c : ℕ) → height (UnKnown r c) ≡ 2
unfolding height
height_unknown r c = refl

pub height_most : (d : Decision) → height d ≤ 2
unfolding height
height_most (NotPermitted x) = omega arith
height_most (Permitted r) = omega arith
height_most (UnKnown r c) = omega arith

module _ {C : Type 0} (says : Decision → C) (n p u : C)
    (none_is : (x : Nearest) → says (NotPermitted x) ≡ n) (permitted-is : (r : ℕ) → says (Permitted r) ≡ p) (unknown-is : (r c : ℕ) → says (UnKnown r c) ≡ u) where
  found_says : (x : Nearest) (a b : Option ℕ) → says (decision_of x a b) ≡ cond (is_found a) (cond (is_found b) u p) n
  unfolding decision_of is_found
  found_says x None b = none_is x
  found_says x (Some r) None = permitted-is r
  found_says x (Some r) (Some c) = unknown-is r c

  pub judge_says : (rs : List Rule) (cs : List Constraint) (a : Request) → says (judge rs cs a) ≡ cond (any_of (covers a) rs) (cond (any_of (fails rs a) cs) u p) n
  unfolding judge
  judge_says rs cs a =
      rw (found_says (nearest a rs) (first_at (covers a) 0 rs) (first_at (fails rs a) 0 cs), first_at_any (covers a) 0 rs, first_at_any (fails rs a) 0 cs)

abbrev height_by : Bool → Bool → ℕ
height_by a b = cond a (cond b 2 1) 0

judge_height : (rs : List Rule) (cs : List Constraint) (a : Request) → height (judge rs cs a) ≡ height_by (any_of (covers a) rs) (any_of (fails rs a) cs)
unfolding height
judge_height = judge_says height 0 1 2 (λ x. refl) (λ r. refl) (λ r c. refl)

height_by_le : (a b a' b' : Bool) → a ⟹ a' → b ⟹ b' → height_by a b ≤ height_by a' b'
height_by_le false b a' b' f g = omega arith
height_by_le true b false b' f g = false_not_true (f.imp refl)
height_by_le true false true false f g = omega arith
height_by_le true false true true f g = omega arith
height_by_le true true true false f g = false_not_true (g.imp refl)
height_by_le true true true true f g = omega arith

-- ---- the terms, and the rule

pub record Above (rs₁ : List Rule) (cs₁ : List Constraint) (a₁ : Request) (rs₂ : List Rule) (cs₂ : List Constraint) (a₂ : Request) : Type 0 where
  pub rules : (r : Rule) → Memᴰ r rs₁ → r.on ≡ true → Memᴰ r rs₂
  pub constraints : (c : Constraint) → Memᴰ c cs₁ → Memᴰ c cs₂
  pub class : a₁.class ≡ a₂.class
  pub action : a₁.action ≡ a₂.action
  pub source : within a₂.source a₁.source ≡ true
  pub dest : within a₂.dest a₁.dest ≡ true
  pub companions : ((c : Constraint) → Memᴰ c cs₁ → c.predicate < 3) ⊎ ((r : Rule) → Memᴰ r rs₂ → r.on ≡ true → Memᴰ r rs₁)

-- a rule that reaches a set is on
reaching_on : (s : List ℕ) (a : Rule) (b : Bool) → reaches s a && b ≡ true → a.on ≡ true
reaching_on s a b t = live_on a (reaches_both s a (both (reaches s a) b t).0).0

not_small : (k : ℕ) → eqb k 0 ≡ false → eqb k 1 ≡ false → eqb k 2 ≡ false → k < 3 → ⊥
not_small k x y z h =
    let e = eqb-false k 0 x in
    let f = eqb-false k 1 y in
    let g = eqb-false k 2 z in
    omega arith

module _ {rs₁ rs₂ : List Rule} {cs₁ cs₂ : List Constraint} {a₁ a₂ : Request} (e : Above rs₁ cs₁ a₁ rs₂ cs₂ a₂) where
  source⟹ : (s : List ℕ) → within a₁.source s ⟹ within a₂.source s
  source⟹ s = within⟹ a₁.source a₂.source s e.source

  dest⟹ : (s : List ℕ) → within a₁.dest s ⟹ within a₂.dest s
  dest⟹ s = within⟹ a₁.dest a₂.dest s e.dest

  covers⟹ : (r : Rule) → covers a₁ r ⟹ covers a₂ r
  unfolding covers tests all_of
  covers⟹ r =
      and⟹ {a = r.on} id⟹ (and⟹ (source⟹ _) (and⟹ (dest⟹ _)
      (and⟹ (eq⟹ (ap (asks r.class) e.class)) (and⟹ (eq⟹ (ap (asks r.action) e.action)) (id⟹ {a = true})))))

  covers_on : (r : Rule) → covers a₁ r ≡ true → r.on ≡ true
  unfolding covers tests all_of
  covers_on r t = (both r.on _ t).0

  applies⟹ : (c : Constraint) → applies a₁ c ⟹ applies a₂ c
  unfolding applies
  applies⟹ c = eq⟹ (rw (e.class, e.action))

  module _ (c : Constraint) where
    separation⟹ : separation_broken rs₁ c ⟹ separation_broken rs₂ c
    separation⟹ = record { imp = separation_kept rs₁ rs₂ c (wider_on e.rules) }

    roster⟹ : roster_broken rs₁ c ⟹ roster_broken rs₂ c
    unfolding roster_broken
    roster⟹ = any_of_to⟹ (λ a ma t. (e.rules a ma (reaching_on c.second a _ t), t))

    companion⟹ : ((r : Rule) → Memᴰ r rs₂ → r.on ≡ true → Memᴰ r rs₁) → companion_broken rs₁ c ⟹ companion_broken rs₂ c
    unfolding companion_broken
    companion⟹ h = not⟹ (any_of_to⟹ (λ a ma t. (h a ma (reaching_on c.first a _ t), t)))

    broken⟹ : Memᴰ c cs₁ → broken rs₁ c ⟹ broken rs₂ c
    unfolding broken
    broken⟹ m =
        cond⟹ (eqb c.predicate 0) (λ _. id⟹)
        (λ n₀. cond⟹ (eqb c.predicate 1) (λ _. separation⟹)
        (λ n₁. cond⟹ (eqb c.predicate 2) (λ _. roster⟹)
        (λ n₂. ⊎_elim (λ low. absurd (not_small c.predicate n₀ n₁ n₂ (low c m))) companion⟹ e.companions)))

    fails⟹ : Memᴰ c cs₁ → fails rs₁ a₁ c ⟹ fails rs₂ a₂ c
    unfolding fails inside
    fails⟹ m = and⟹ (and⟹ (applies⟹ c) (and⟹ (source⟹ _) (dest⟹ _))) (broken⟹ m)

  pub judge_order : height (judge rs₁ cs₁ a₁) ≤ height (judge rs₂ cs₂ a₂)
  judge_order =
      rw (judge_height rs₁ cs₁ a₁, judge_height rs₂ cs₂ a₂)
      (height_by_le _ _ _ _ (any_of_to⟹ (λ r m t. (e.rules r m (covers_on r t), (covers⟹ r).imp t))) (any_of⟹ (λ c m. (e.constraints c m, fails⟹ c m))))
