-- The sources of the rules that reach an argument, as marks.
--     Joined ms f ns       the marks ns are the marks ms and the numbers that pass f
--     has S m              m is in the set S
--     source_has ms a m     the rule a reaches the marks ms, and m is in its source; source_at l ms at live m: the rule at a place
--     Marking l ns done    marks of basic types, and which groups were marked there, so that each is marked once
--     Gathering l ms kr ns done   the same of the sources that reach the marks ms, with what is kept of the groups that do
--     gathered ms m rs     m is in the source of a rule that reaches the marks ms
--     AtSource l w ms ns count n at   where the walk over the rules stands: what is marked, and the rules from rule n on, give all
use Rattle.std.specs.Prelude.{ℕ, ◌+◌, ◌≡◌, Bool, true, false, ◌&&◌, ◌||◌, List, length, get_or}
use Rattle.format.specs.declared.Section.TheVariants.{Rules}
use Rattle.format.specs.Policy.{policy_of}
use Rattle.decision.specs.Sets.{any_of, is_in}
use Rattle.decision.specs.Reading.{Rule, rule_of}
use Rattle.decide.specs.declared.kept.Kept.{Kept}
use Rattle.decide.specs.Inner.Parts.{rules_in, group_set, set_at}
use Rattle.decide.specs.Inner.Marks.{any_marked}
use Rattle.decide.specs.Inner.Kept.{KeptTest}
use Rattle.decide.specs.Inner.Walks.{Walk}
use Rattle.decide.specs.Inner.Rules.{reaching_at, reaching_from}

pub record Joined (ms : List Bool) (f : ℕ → Bool) (ns : List Bool) : Type 0 where
  pub is : (m : ℕ) → get_or ns m false ≡ get_or ms m false || f m

abbrev pub has : List ℕ → ℕ → Bool
has S m = is_in m S

abbrev pub source_has : List Bool → Rule → ℕ → Bool
source_has ms a m = reaching_from ms (is_in m) a

abbrev pub source_at : List ℕ → List Bool → ℕ → Bool → ℕ → Bool
source_at l ms at live m = reaching_at l ms at live && is_in m (set_at l (at + 2))

pub record Marking (l : List ℕ) (ns done : List Bool) : Type 0 where
  pub all : length ns ≡ 1024
  pub marked : (g : ℕ) → get_or done g false ≡ true → (m : ℕ) → is_in m (group_set l g) ≡ true → get_or ns m false ≡ true

pub record Gathering (l : List ℕ) (ms : List Bool) (kr : List Kept) (ns done : List Bool) : Type 0 where
  pub reach : KeptTest (any_marked ms) l kr
  pub marking : Marking l ns done

abbrev pub gathered : List Bool → ℕ → List Rule → Bool
gathered ms m rs = any_of (reaching_from ms (is_in m)) rs

abbrev pub AtSource : List ℕ → ℕ → List Bool → List Bool → ℕ → ℕ → ℕ → Type 0
AtSource l w ms ns count n at =
    (m : ℕ) → Walk Rules (rule_of (policy_of l) w) l (gathered ms m (rules_in l w)) (λ n rs. get_or ns m false || gathered ms m rs) count n at
