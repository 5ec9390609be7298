-- What the writer of the new image relies on.
--     Ready l s new   the image l passes 1 to 7, its sections start at s, and `new` says what becomes of its groups
use Rattle.std.specs.Prelude.{ℕ, ◌+◌, ◌-◌, ◌<◌, ◌≤◌, ◌≡◌, List, [], ◌++◌, length, get_or, take, drop}
use mathlib.Core.List.{flatten}
use Rattle.format.specs.declared.Starts.{Starts}
use Rattle.format.specs.Bytes.{Bytes}
use Rattle.format.specs.Policy.{policy_of}
use Rattle.format.specs.Twins.{number_of}
use Rattle.format.specs.Check.{LaidOut}
use Rattle.conversion.specs.Groups.{distinct}
use Rattle.conversion.specs.Convert.{converted, converted_image}
use Rattle.rewrite.specs.declared.twins.Renumbering.{Renumbering}
use Rattle.rewrite.specs.Inner.Kept.{Lie, kept_of}

pub record Ready (l : List ℕ) (s : Starts) (new : Renumbering) : Type 0 where
  pub laid : LaidOut l
  -- the groups' numbers
  pub numbers :
      (i : ℕ) → i < length (policy_of l).groups
      → get_or new.to i 0 ≡ number_of (get_or (policy_of l).groups i []) (distinct (policy_of l).groups)
  pub bytes : Bytes new.to
  -- the groups that stay
  pub few : new.groups ≤ 256
  pub fewer : new.kept ≤ 256
  pub rows : Lie 1 (drop 9 l) (length (take new.groups new.keep))
  pub groups : kept_of (drop 9 l) (take new.groups new.keep) ≡ flatten (converted (policy_of l)).groups
  pub count : new.kept ≡ length (converted (policy_of l)).groups
  pub all : new.kept ≡ new.groups → converted_image l ≡ l
  -- the rules and the constraints
  pub inside : s.rules ≤ length l
  pub order : s.rules ≤ s.constraints
  pub tail : take (length l - s.rules) (drop s.rules l) ≡ flatten (policy_of l).rules ++ flatten (policy_of l).constraints
  pub rest : length l - s.rules ≡ length (flatten (policy_of l).rules) + length (flatten (policy_of l).constraints)
  pub between : s.constraints - s.rules ≡ length (flatten (policy_of l).rules)
  -- the new image
  pub long : 9 ≤ length l
  pub size : 9 + length (kept_of (drop 9 l) (take new.groups new.keep)) + (length l - s.rules) ≡ length (converted_image l)
  pub short : length (converted_image l) < 65536
