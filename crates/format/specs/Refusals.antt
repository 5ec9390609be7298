-- Refusals in the order of the table (document 01, "When the engine says no").
--     refusal n at     number n, with the place at
--     need test x      x, unless the test passes
--     a or_else b       the first of the two that there is: a chain of these is read from the top, as the table is
--     unless_refused f a b   a, and b where there is a refusal
use Rattle.std.specs.Prelude.{ℕ, Bool, true, false}
use Rattle.std.specs.Prelude.{Option, None, Some}
use Rattle.format.specs.declared.Refusal.{Refusal}

abbrev pub refusal : ℕ → ℕ → Refusal
refusal n at = record { number = n; place = at }

module _ {A : Type 0} where
  unfoldable pub need : Bool → A → Option A
  need true x = None
  need false x = Some x

  infixr 20 ◌or_else◌
  unfoldable pub ◌or_else◌ : Option A → Option A → Option A
  None or_else b = b
  Some a or_else b = Some a

  unfoldable pub unless_refused : Option Refusal → A → A → A
  unless_refused None a b = a
  unless_refused (Some f) a b = b
