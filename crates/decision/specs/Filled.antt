-- "No set is empty" (document 01, "The policy image").
--     Filled gs t         the type t stands for a set that is not empty
--     TypesFilled         so does every type that an accepted policy, or a query on it, may name
--     FieldsFilled        and so every type field of its records
use Rattle.std.specs.Prelude.{ℕ, ◌<◌, length}
use mathlib.Core.List.{List, Memᴰ}
use Rattle.format.specs.declared.Section.{Section}
use Rattle.format.specs.Policy.{policy_of, records_of}
use Rattle.format.specs.Check.{Accepted}
use Rattle.format.specs.Claims.{IsType, type_fields}
use Rattle.decision.specs.Sets.{set_of}

abbrev pub Filled : List (List ℕ) → ℕ → Type 0
Filled gs t = 0 < length (set_of gs t)

abbrev pub TypesFilled : Type 0
TypesFilled = (l : List ℕ) → Accepted l → (t : ℕ) → IsType (length (policy_of l).groups) t → Filled (policy_of l).groups t

abbrev pub FieldsFilled : Type 0
FieldsFilled =
    (l : List ℕ) → Accepted l → (s : Section) (r : List ℕ) → Memᴰ r (records_of (policy_of l) s)
    → (t : ℕ) → Memᴰ t (type_fields r) → Filled (policy_of l).groups t
