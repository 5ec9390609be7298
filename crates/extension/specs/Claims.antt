-- What is claimed of adding, and proved in proofs/.
--     add_all b rs       the buffer after adding records one after the other
--     all_records p      the records of a policy in order: groups, rules, constraints
--     AddedAccepted     adding to an accepted image gives an accepted image, whose policy has the record last in its
--                       section and is otherwise the same; and of bytes it makes bytes
--     NumberNamed       that record's number is the one answered
--     GroupsKept        groups have their old numbers
--     RestStays         the bytes past the new image stay, and the buffer is as long as it was
--     RefusedUnchanged  a refused add changes no byte
--     TwinRefused       a record that is one of the policy's groups is refused with 20 and the place 0, full sections and short
--                       buffers or not; and no other record is (document 02 [7])
--     RoundTrip         adding an accepted policy's records in order to the empty policy, in a buffer that holds it,
--                       gives it byte for byte, and the bytes past it stay
--     RoundTripExact    a buffer that has just the space is enough
use Rattle.std.specs.Prelude.{ℕ, ◌≤◌, ◌<◌, ◌≡◌, length, get_or, drop}
use Rattle.std.specs.Prelude.{None, Some}
use mathlib.Core.List.{List, [], ◌∷◌, ◌++◌, Memᴰ}
use Rattle.format.specs.declared.Refusal.{Refusal}
use Rattle.format.specs.Bytes.{Bytes}
use Rattle.format.specs.Refusals.{refusal}
use Rattle.format.specs.Policy.{Policy, records_of, policy_of}
use Rattle.format.specs.Check.{Accepted, image_in, check_front}
use Rattle.format.specs.Sample.{empty}
use Rattle.extension.specs.Add.{section_of, with_record, add_fault, new_number, new_image, buffer_after, overwrite}

unfoldable pub add_all : List ℕ → List (List ℕ) → List ℕ
add_all b [] = b
add_all b (r ∷ rs) = add_all (buffer_after b r) rs

unfoldable pub all_records : Policy → List (List ℕ)
all_records p = p.groups ++ (p.rules ++ p.constraints)

abbrev pub AddedAccepted : Type 0
AddedAccepted =
    (b r : List ℕ) → Bytes b → Bytes r → add_fault b r ≡ None
    → (check_front (buffer_after b r) ≡ None)
    × (policy_of (image_in (buffer_after b r)) ≡ with_record (section_of (get_or r 1 0)) (policy_of (image_in b)) r)
    × Bytes (buffer_after b r)

abbrev pub GroupsKept : Type 0
GroupsKept =
    (b r : List ℕ) → Bytes b → Bytes r → add_fault b r ≡ None
    → (n : ℕ) → n < length (policy_of (image_in b)).groups
    → get_or (policy_of (image_in (buffer_after b r))).groups n [] ≡ get_or (policy_of (image_in b)).groups n []

abbrev pub NumberNamed : Type 0
NumberNamed =
    (b r : List ℕ) → Bytes b → Bytes r → add_fault b r ≡ None
    → get_or (records_of (policy_of (image_in (buffer_after b r))) (section_of (get_or r 1 0))) (new_number b r) [] ≡ r

abbrev pub RestStays : Type 0
RestStays =
    (b r : List ℕ) → Bytes b → add_fault b r ≡ None
    → (drop (length (new_image b r)) (buffer_after b r) ≡ drop (length (new_image b r)) b) × (length (buffer_after b r) ≡ length b)

abbrev pub RefusedUnchanged : Type 0
RefusedUnchanged = (b r : List ℕ) (f : Refusal) → add_fault b r ≡ Some f → buffer_after b r ≡ b

pub record TwinRefused : Type 0 where
  pub refused :
      (b r : List ℕ) → check_front b ≡ None → Memᴰ r (policy_of (image_in b)).groups → add_fault b r ≡ Some (refusal 20 0)
  pub only :
      (b r : List ℕ) (f : Refusal) → add_fault b r ≡ Some f → f.number ≡ 20
      → (f.place ≡ 0) × Memᴰ r (policy_of (image_in b)).groups

abbrev pub RoundTrip : Type 0
RoundTrip =
    (l t : List ℕ) → Bytes l → Accepted l → length l ≤ length (empty ++ t)
    → add_all (empty ++ t) (all_records (policy_of l)) ≡ overwrite l (empty ++ t)

abbrev pub RoundTripExact : Type 0
RoundTripExact =
    (l t : List ℕ) → Bytes l → Accepted l → length (empty ++ t) ≡ length l
    → add_all (empty ++ t) (all_records (policy_of l)) ≡ l
