-- Laws of the refusals' chain: none where each link has none, and a refusal is that of a link. Assumes nothing.
--     or_else_split, or_else_none, need_true, need_none   nothing is refused
--     or_else_next, or_else_first, need_some              what is refused, link by link
--     or_else_refuses, need_refuses                      what holds of each link's refusal holds of the chain's
--     unless_accepted, unless_refused_lem                   `unless_refused`
--     outcome_gives, outcome_refused                    `outcome`
use Prim.Native.Nat.{ℕ}
use mathlib.Core.Path.{◌≡◌, refl, sym, subst}
use mathlib.Core.Bool.{Bool, true, false}
use Rattle.std.specs.Prelude.{Option, None, Some}
use native.Mathlib.Omega.{arith}
use Rattle.format.specs.declared.Refusal.{Refusal}
use Rattle.format.specs.Refusals.{need, ◌or_else◌, unless_refused}
use Rattle.std.specs.Prelude.{Ok, Err}
use Rattle.format.specs.Answers.{outcome}

module _ {A : Type 0} where
  pub some_not_none : {C : Type 0} {a : A} → Some a ≡ None → C
  some_not_none e = let z : ◌≡◌ {A = ℕ} 0 1 = cc in absurd (omega arith)

  pub or_else_split : (a b : Option A) → a or_else b ≡ None → (a ≡ None) × (b ≡ None)
  unfolding ◌or_else◌
  or_else_split None b e = (refl, e)
  or_else_split (Some x) b e = some_not_none e

  pub or_else_none : {a b : Option A} → a ≡ None → b ≡ None → a or_else b ≡ None
  unfolding ◌or_else◌
  or_else_none h k = rw (h, k)

  pub or_else_next : {a : Option A} (b : Option A) → a ≡ None → a or_else b ≡ b
  unfolding ◌or_else◌
  or_else_next b h = rw h

  pub or_else_first : {a : Option A} {x : A} (b : Option A) → a ≡ Some x → a or_else b ≡ Some x
  unfolding ◌or_else◌
  or_else_first b h = rw h

  pub or_else_nothing : (a : Option A) → a or_else None ≡ a
  unfolding ◌or_else◌
  or_else_nothing None = refl
  or_else_nothing (Some x) = refl

  pub need_true : (t : Bool) (x : A) → need t x ≡ None → t ≡ true
  unfolding need
  need_true true x e = refl
  need_true false x e = some_not_none e

  pub need_none : {t : Bool} (x : A) → t ≡ true → need t x ≡ None
  unfolding need
  need_none x h = rw h

  pub need_some : {t : Bool} (x : A) → t ≡ false → need t x ≡ Some x
  unfolding need
  need_some x h = rw h

  pub or_else_refuses :
      (P : A → Type 0) (a b : Option A) → ((x : A) → a ≡ Some x → P x) → (a ≡ None → (x : A) → b ≡ Some x → P x) → (x : A) → a or_else b ≡ Some x → P x
  unfolding ◌or_else◌
  or_else_refuses P None b h k x e = k refl x e
  or_else_refuses P (Some a) b h k x e = h x e

  pub need_refuses : (P : A → Type 0) (t : Bool) (a : A) → P a → (x : A) → need t a ≡ Some x → P x
  unfolding need
  need_refuses P true a h x e = some_not_none (sym e)
  need_refuses P false a h x e = let z : a ≡ x = cc in subst P z h

  pub unless_accepted : {f : Option Refusal} (a b : A) → f ≡ None → unless_refused f a b ≡ a
  unfolding unless_refused
  unless_accepted a b e = rw e

  pub unless_refused_lem : {f : Option Refusal} {x : Refusal} (a b : A) → f ≡ Some x → unless_refused f a b ≡ b
  unfolding unless_refused
  unless_refused_lem a b e = rw e

module _ {A : Type 0} where
  pub outcome_gives : (f : Option Refusal) (a : A) {b : A} → Ok b ≡ outcome f a → (f ≡ None) × (b ≡ a)
  outcome_gives None a e = (refl, cc)
  outcome_gives (Some x) a e = let z : ◌≡◌ {A = ℕ} 0 1 = cc in absurd (omega arith)

  pub outcome_refused : (f : Option Refusal) (a : A) {x : Refusal} → Err x ≡ outcome f a → f ≡ Some x
  outcome_refused None a e = let z : ◌≡◌ {A = ℕ} 0 1 = cc in absurd (omega arith)
  outcome_refused (Some y) a e = cc
