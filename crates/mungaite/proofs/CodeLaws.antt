-- Laws of the answers as numbers. Assumes nothing.
use Prim.Native.Nat.{ℕ}
use mathlib.Core.Path.{◌≡◌, refl, sym}
use Rattle.std.specs.Prelude.{Option, None, Some}
use mathlib.Core.List.{List}
use borrow.Author.Tests.{eq-eqb, ne_eqb}
use Rattle.format.specs.declared.Section.TheVariants.{Groups, Rules, Constraints}
use Rattle.format.specs.declared.Refusal.{Refusal}
use Rattle.format.specs.Refusals.{refusal, ◌or_else◌}
use Rattle.format.specs.Check.{check}
use Rattle.format.proofs.Chain.{or_else_next, or_else_first}
use Rattle.mungaite.specs.Code.{fault_code, record_in, record_code}

module _ (l : List ℕ) (s n : ℕ) where
  pub record_groups : s ≡ 0 → record_code l s n ≡ record_in l Groups n
  unfolding record_code
  record_groups e = simp (eq-eqb s 0 e)

  pub record_rules : s ≡ 1 → record_code l s n ≡ record_in l Rules n
  unfolding record_code
  record_rules e = rw e refl

  pub record_constraints : s ≡ 2 → record_code l s n ≡ record_in l Constraints n
  unfolding record_code
  record_constraints e = rw e refl

  pub record_nowhere : (s ≡ 0 → ⊥) → (s ≡ 1 → ⊥) → (s ≡ 2 → ⊥) → record_code l s n ≡ fault_code (check l or_else Some (refusal 14 0))
  unfolding record_code
  record_nowhere a b c = simp (ne_eqb s 0 a, ne_eqb s 1 b, ne_eqb s 2 c)

module _ (f : Option Refusal) where
  pub no_section_accepted : None ≡ f → f or_else Some (refusal 14 0) ≡ Some (refusal 14 0)
  no_section_accepted e = or_else_next _ (sym e)

  pub no_section_refused : (x : Refusal) → Some x ≡ f → f or_else Some (refusal 14 0) ≡ Some x
  no_section_refused x e = or_else_first _ (sym e)
