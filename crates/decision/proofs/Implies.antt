-- Implication between tests, so that a proof about a definition mirrors it. Assumes nothing.
--     a ⟹ b          the test a passes only where b does
--     and⟹, not⟹, cond⟹, any_of⟹, within⟹, ..   one for each connective
use Prim.Native.Nat.{ℕ}
use mathlib.Core.Path.{◌≡◌, refl, sym, ◌∙◌}
use mathlib.Core.Bool.{Bool, true, false, not, ◌&&◌, cond}
use mathlib.Core.List.Memᴰ
use mathlib.Core.List.{List, Memᴰ}
use lib.Dec.{eqb}
use borrow.Author.Tests.{eqb-true, eq-eqb}
use Rattle.format.proofs.Tests.{both, and_true, false_not_true}
use Rattle.decision.specs.Sets.{any_of, is_in, within, touches}
use Rattle.decision.proofs.Search.{any_of_intro, any_of_elim, all_of_intro, all_of_elim}

infix 4 ◌⟹◌
pub record ◌⟹◌ (a b : Bool) : Type 0 where
  pub imp : a ≡ true → b ≡ true

pub id⟹ : {a : Bool} → a ⟹ a
id⟹ = record { imp = λ t. t }

pub eq⟹ : {a b : Bool} → a ≡ b → a ⟹ b
eq⟹ h = record { imp = λ t. sym h ∙ t }

pub and⟹ : {a b a' b' : Bool} → a ⟹ a' → b ⟹ b' → a && b ⟹ a' && b'
and⟹ {a} {b} f g = record { imp = λ t. (let q = both a b t in and_true (f.imp q.0) (g.imp q.1)) }

pub not⟹ : {a b : Bool} → b ⟹ a → not a ⟹ not b
not⟹ {a} {b} f = record { imp = go a b f }
  where
    go : (a b : Bool) → b ⟹ a → not a ≡ true → not b ≡ true
    go true b f t = false_not_true t
    go false true f t = false_not_true (f.imp refl)
    go false false f t = refl

pub cond⟹ : (b : Bool) {x y x' y' : Bool} → (b ≡ true → x ⟹ x') → (b ≡ false → y ⟹ y') → cond b x y ⟹ cond b x' y'
cond⟹ true f g = f refl
cond⟹ false f g = g refl

-- each element that passes stands in the other list, and passes there
pub any_of_to⟹ : {A : Type 0} {f g : A → Bool} {xs ys : List A} → ((x : A) → Memᴰ x xs → f x ≡ true → Memᴰ x ys × (g x ≡ true)) → any_of f xs ⟹ any_of g ys
any_of_to⟹ {f} {g} {xs} h = record { imp = λ t. let r = any_of_elim f xs t in let s = h r.0 r.1 r.2 in any_of_intro g s.0 s.1 }

pub any_of⟹ : {A : Type 0} {f g : A → Bool} {xs ys : List A} → ((x : A) → Memᴰ x xs → Memᴰ x ys × (f x ⟹ g x)) → any_of f xs ⟹ any_of g ys
any_of⟹ h = any_of_to⟹ (λ x m t. let s = h x m in (s.0, s.1.imp t))

-- ---- sets

pub is_in_mem : (x : ℕ) (l : List ℕ) → is_in x l ≡ true → Memᴰ x l
unfolding is_in
is_in_mem x l t = let r = any_of_elim (eqb x) l t in Memᴰ.cast (eqb-true x r.0 r.2) r.1

pub within_refl : (s : List ℕ) → within s s ≡ true
unfolding within is_in
within_refl s = all_of_intro (λ x. any_of (eqb x) s) s (λ x m. any_of_intro (eqb x) m (eq-eqb x x refl))

-- a lesser set is within no less
pub within⟹ : (a₁ a₂ b : List ℕ) → within a₂ a₁ ≡ true → within a₁ b ⟹ within a₂ b
unfolding within
within⟹ a₁ a₂ b h =
    record {
      imp = λ t. all_of_intro (λ x. is_in x b) a₂ (λ x m. all_of_elim (λ x. is_in x b) t (is_in_mem x a₁ (all_of_elim (λ x. is_in x a₁) h m)));
    }

-- what is in a set is in one that holds it
pub within_has : (a b : List ℕ) (x : ℕ) → within a b ≡ true → is_in x a ≡ true → is_in x b ≡ true
unfolding within
within_has a b x h t = all_of_elim (λ y. is_in y b) h (is_in_mem x a t)

-- sets touch in an element of both
pub touches_elim : (a b : List ℕ) → touches a b ≡ true → (x : ℕ) × (is_in x a ≡ true) × (is_in x b ≡ true)
unfolding touches is_in
touches_elim a b t =
    let r = any_of_elim (λ y. is_in y b) a t in
    (r.0, any_of_intro (eqb r.0) r.1 (eq-eqb r.0 r.0 refl), r.2)

pub touches_intro : (a b : List ℕ) (x : ℕ) → is_in x a ≡ true → is_in x b ≡ true → touches a b ≡ true
unfolding touches
touches_intro a b x t u = any_of_intro (λ y. is_in y b) (is_in_mem x a t) u

-- a greater set touches no less
pub touches_more : (a₁ a₂ b : List ℕ) → within a₁ a₂ ≡ true → touches a₁ b ≡ true → touches a₂ b ≡ true
touches_more a₁ a₂ b h t = let r = touches_elim a₁ b t in touches_intro a₂ b r.0 (within_has a₁ a₂ r.0 h r.1) r.2
