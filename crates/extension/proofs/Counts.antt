-- How many records a policy has. Assumes nothing.
--     with_count     one record more is one more
--     count_none     the empty policy has none
use Prim.Native.Nat.{ℕ, suc}
use mathlib.Core.Path.{◌≡◌, refl}
use mathlib.Core.List.{List, [], ◌∷◌, ◌++◌}
use native.Mathlib.Omega.{arith}
use lib.ListN.{length, length-append}
use Rattle.format.specs.declared.Section.{Section}
use Rattle.format.specs.declared.Section.TheVariants.{Groups, Rules, Constraints}
use Rattle.format.specs.Policy.{Policy}
use Rattle.extension.specs.Add.{with_record}
use Rattle.extension.specs.Claims.{all_records}

pub with_count : (s : Section) (p : Policy) (r : List ℕ) → length (all_records (with_record s p r)) ≡ suc (length (all_records p))
unfolding all_records with_record
with_count Groups p r =
    rw (
      length-append (p.groups ++ (r ∷ [])) (p.rules ++ p.constraints),
      length-append p.groups (r ∷ []),
      length-append p.groups (p.rules ++ p.constraints),
    ) (omega arith)
with_count Rules p r =
    rw (
      length-append p.groups ((p.rules ++ (r ∷ [])) ++ p.constraints),
      length-append (p.rules ++ (r ∷ [])) p.constraints,
      length-append p.rules (r ∷ []),
      length-append p.groups (p.rules ++ p.constraints),
      length-append p.rules p.constraints,
    ) (omega arith)
with_count Constraints p r =
    rw (
      length-append p.groups (p.rules ++ (p.constraints ++ (r ∷ []))),
      length-append p.rules (p.constraints ++ (r ∷ [])),
      length-append p.constraints (r ∷ []),
      length-append p.groups (p.rules ++ p.constraints),
      length-append p.rules p.constraints,
    ) (omega arith)

pub count_none : (v : ℕ) → length (all_records (record { version = v; groups = []; rules = []; constraints = [] })) ≡ 0
unfolding all_records
count_none v = refl
