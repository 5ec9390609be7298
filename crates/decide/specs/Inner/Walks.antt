-- Where a walk over the records of a section stands.
--     Walk s read l whole rest count n at   at record n of count, which stands at a place; what is made of the records from it
--                                on, as they are read, is what is made of all
use Rattle.std.specs.Prelude.{ℕ, ◌-◌, ◌≤◌, ◌≡◌, List, map}
use Rattle.format.specs.declared.Section.{Section}
use Rattle.format.specs.Format.{count_of}
use Rattle.format.specs.Policy.{records_at, place_of}

module _ {A R : Type 0} where
  pub record Walk (s : Section) (read : List ℕ → R) (l : List ℕ) (whole : A) (rest : ℕ → List R → A) (count n at : ℕ) : Type 0 where
    pub few : n ≤ count
    pub all : count ≡ count_of l s
    pub place : at ≡ place_of l s n
    pub same : whole ≡ rest n (map read (records_at l at (count - n)))
