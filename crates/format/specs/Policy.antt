-- A policy is its version and three lists of records, each record its own bytes (document 01, "The policy image").
--     image_of p            the image of a policy; `body_of` is its part past the header
--     policy_of l           the policy of an image
--     records_of p s        the records of a section of a policy
--     record_at l at        the record at a place of an image
--     place_after l at n    the place past n records, from a place on
--     records_at l at n     those n records
--     start_of l s          the place of a section's first record, and `end_of` the place past the last record of all
--     place_of l s n        the place of record n of a section
use Rattle.std.specs.Prelude.{ℕ, zero, suc, ◌+◌, length, get_or, drop}
use mathlib.Core.List.{List, [], ◌∷◌, ◌++◌, flatten}
use Rattle.format.specs.declared.Section.{Section}
use Rattle.format.specs.declared.Section.TheVariants.{Groups, Rules, Constraints}
use Rattle.format.specs.Bytes.{put_word}
use Rattle.format.specs.Format.{header_length, count_of, first_record}

pub record Policy : Type 0 where
  pub version : ℕ
  pub groups : List (List ℕ)
  pub rules : List (List ℕ)
  pub constraints : List (List ℕ)

unfoldable pub records_of : Policy → Section → List (List ℕ)
records_of p Groups = p.groups
records_of p Rules = p.rules
records_of p Constraints = p.constraints

-- all groups, all rules, all constraints
unfoldable pub body_of : Policy → List ℕ
body_of p = flatten p.groups ++ (flatten p.rules ++ flatten p.constraints)

-- the version, the length of the whole, the three counts, and the records
unfoldable pub image_of : Policy → List ℕ
image_of p =
    p.version
    ∷ put_word (header_length + length (body_of p))
    (put_word (length p.groups) (put_word (length p.rules) (put_word (length p.constraints) (body_of p))))

unfoldable pub record_at : List ℕ → ℕ → List ℕ
record_at l at = first_record (drop at l)

unfoldable pub place_after : List ℕ → ℕ → ℕ → ℕ
place_after l at zero = at
place_after l at (suc n) = place_after l (at + get_or l at 0) n

unfoldable pub records_at : List ℕ → ℕ → ℕ → List (List ℕ)
records_at l at zero = []
records_at l at (suc n) = record_at l at ∷ records_at l (at + get_or l at 0) n

unfoldable pub start_of : List ℕ → Section → ℕ
start_of l Groups = header_length
start_of l Rules = place_after l header_length (count_of l Groups)
start_of l Constraints = place_after l (place_after l header_length (count_of l Groups)) (count_of l Rules)

unfoldable pub place_of : List ℕ → Section → ℕ → ℕ
place_of l s n = place_after l (start_of l s) n

unfoldable pub end_of : List ℕ → ℕ
end_of l = place_of l Constraints (count_of l Constraints)

unfoldable pub policy_of : List ℕ → Policy
policy_of l =
    record {
      version = get_or l 0 0;
      groups = records_at l (start_of l Groups) (count_of l Groups);
      rules = records_at l (start_of l Rules) (count_of l Rules);
      constraints = records_at l (start_of l Constraints) (count_of l Constraints);
    }
