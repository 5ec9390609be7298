-- What a call answers.
--     Outcome A        what the call gives, or a refusal, with its number and place
--     outcome f a      a, unless there is the refusal f
--     starts l, extent l s n          where the sections of an accepted image start, and where its record n of a section stands
use Rattle.std.specs.Prelude.{ℕ, List, length, Option, None, Some, Result, Ok, Err}
use Rattle.format.specs.declared.Section.{Section}
use Rattle.format.specs.declared.Section.TheVariants.{Rules, Constraints}
use Rattle.format.specs.declared.Refusal.{Refusal}
use Rattle.format.specs.declared.Starts.{Starts}
use Rattle.format.specs.declared.Extent.{Extent}
use Rattle.format.specs.Policy.{start_of, place_of}
use Rattle.format.specs.Give.{given_record}

abbrev pub Outcome : Type 0 → Type 0
Outcome A = Result A Refusal

module _ {A : Type 0} where
  abbrev pub outcome : Option Refusal → A → Outcome A
  outcome None a = Ok a
  outcome (Some f) a = Err f

abbrev pub starts : List ℕ → Starts
starts l = record { rules = start_of l Rules; constraints = start_of l Constraints }

abbrev pub extent : List ℕ → Section → ℕ → Extent
extent l s n = record { place = place_of l s n; length = length (given_record l s n) }
