-- What is claimed of the definitions, and proved in proofs/. Well formed is said here a second time, in plain numbers
-- and without the check's tests, as document 01's table of kinds says it.
--     IsType g t          t is a basic type, or names one of g groups
--     IsGroup, IsAllow, IsTransition, IsConstraint   a record of that kind
--     IsRecord s g r      r is a record of a section, where there are g groups
--     WellFormed p        the policy p meets the layout and its limits
--     type_fields r        the type fields of a rule or of a constraint
--     AcceptedIsWellFormed, WellFormedIsAccepted   accepted means well formed and without twins, both ways
--     LaidOutIsWellFormed, WellFormedIsLaidOut     and passing 1 to 7 means well formed, both ways
--     AcceptedMeans       accepted is what passes 1 to 7 and has no twins
--     TwinsByMembers      well-formed groups have one record exactly where they have the same members
--     GivenAt, RecordsGiven   record n is the nth of its section, the last included, and a part of the image
--     AllGiven            the records given one after the other are the section's, the last included
--     NoneGiven           past the last there is none: 14
--     EmptyTells          the bytes given are none exactly where the call is refused
--     ReferencesHeld      a type field is a basic type, or names a group that the image has
use Rattle.std.specs.Prelude.{ℕ, zero, suc, ◌+◌, ◌*◌, ◌≤◌, ◌<◌, ◌≡◌, ◌⊎◌, cond, length, get_or, take, drop, eqb}
use Rattle.std.specs.Prelude.{None, Some}
use mathlib.Core.List.{List, [], ◌∷◌, Memᴰ}
use Rattle.format.specs.declared.Section.{Section}
use Rattle.format.specs.declared.Section.TheVariants.{Groups, Rules, Constraints}
use Rattle.format.specs.declared.Refusal.{Refusal}
use Rattle.format.specs.Bytes.{Bytes, word_at, words}
use Rattle.format.specs.Refusals.{refusal}
use Rattle.format.specs.Policy.{Policy, records_of, image_of, policy_of, place_of}
use Rattle.format.specs.Twins.{NoTwins, SameMembers}
use Rattle.format.specs.Check.{LaidOut, Accepted}
use Rattle.format.specs.Give.{give_fault, given_record}

abbrev pub IsType : ℕ → ℕ → Type 0
IsType g t = (t < 1024) ⊎ ((k : ℕ) × (k < g) × (t ≡ 32768 + k))

-- kind 1: n basic types, strictly rising
pub record IsGroup (r : List ℕ) (n : ℕ) : Type 0 where
  pub size : (get_or r 0 0 ≡ length r) × (length r ≡ 2 + 2 * n)
  pub kind : get_or r 1 0 ≡ 1
  pub some : 1 ≤ n
  pub most : n ≤ 64
  pub basic : (i : ℕ) → i < n → word_at r (2 + 2 * i) < 1024
  pub rising : (i : ℕ) → suc i < n → word_at r (2 + 2 * i) < word_at r (2 + 2 * suc i)

-- kind 2
pub record IsAllow (g : ℕ) (r : List ℕ) : Type 0 where
  pub size : (get_or r 0 0 ≡ length r) × (length r ≡ 11)
  pub kind : get_or r 1 0 ≡ 2
  pub source : IsType g (word_at r 2)
  pub dest : IsType g (word_at r 4)
  pub condition : get_or r 10 0 ≤ 33

-- kind 3
pub record IsTransition (g : ℕ) (r : List ℕ) : Type 0 where
  pub size : (get_or r 0 0 ≡ length r) × (length r ≡ 8)
  pub kind : get_or r 1 0 ≡ 3
  pub source : IsType g (word_at r 2)
  pub dest : IsType g (word_at r 4)

-- kind 4: n types in the list
pub record IsConstraint (g : ℕ) (r : List ℕ) (n : ℕ) : Type 0 where
  pub size : (get_or r 0 0 ≡ length r) × (length r ≡ 11 + 2 * n)
  pub kind : get_or r 1 0 ≡ 4
  pub first : IsType g (word_at r 6)
  pub second : IsType g (word_at r 8)
  pub predicate : get_or r 10 0 ≤ 3
  pub listed : get_or r 10 0 ≡ 2 → 1 ≤ n
  pub unlisted : (get_or r 10 0 ≡ 2 → ⊥) → n ≡ 0
  pub most : n ≤ 16
  pub list : (i : ℕ) → i < n → IsType g (word_at r (11 + 2 * i))

unfoldable pub IsRecord : Section → ℕ → List ℕ → Type 0
IsRecord Groups g r = (n : ℕ) × IsGroup r n
IsRecord Rules g r = IsAllow g r ⊎ IsTransition g r
IsRecord Constraints g r = (n : ℕ) × IsConstraint g r n

pub record WellFormed (p : Policy) : Type 0 where
  pub version : p.version ≡ 1
  pub few_groups : length p.groups ≤ 256
  pub few_rules : length p.rules ≤ 1024
  pub few_constraints : length p.constraints ≤ 256
  pub records : (s : Section) (r : List ℕ) → Memᴰ r (records_of p s) → IsRecord s (length p.groups) r
  pub bytes : (s : Section) (r : List ℕ) → Memᴰ r (records_of p s) → Bytes r

-- source and destination of a rule; first and second argument and the list of a constraint; a group has none
unfoldable pub type_fields : List ℕ → List ℕ
type_fields r =
    cond (eqb (get_or r 1 0) 1) []
    (cond (eqb (get_or r 1 0) 4) (word_at r 6 ∷ word_at r 8 ∷ words (drop 11 r)) (word_at r 2 ∷ word_at r 4 ∷ []))

abbrev pub AcceptedIsWellFormed : Type 0
AcceptedIsWellFormed =
    (l : List ℕ) → Bytes l → Accepted l → WellFormed (policy_of l) × (image_of (policy_of l) ≡ l) × NoTwins (policy_of l).groups

abbrev pub WellFormedIsAccepted : Type 0
WellFormedIsAccepted =
    (p : Policy) → WellFormed p → NoTwins p.groups
    → Bytes (image_of p) × Accepted (image_of p) × (policy_of (image_of p) ≡ p)

abbrev pub LaidOutIsWellFormed : Type 0
LaidOutIsWellFormed = (l : List ℕ) → Bytes l → LaidOut l → WellFormed (policy_of l) × (image_of (policy_of l) ≡ l)

abbrev pub WellFormedIsLaidOut : Type 0
WellFormedIsLaidOut = (p : Policy) → WellFormed p → Bytes (image_of p) × LaidOut (image_of p) × (policy_of (image_of p) ≡ p)

abbrev pub AcceptedMeans : Type 0
AcceptedMeans =
    (l : List ℕ) → (Accepted l → LaidOut l × NoTwins (policy_of l).groups) × (LaidOut l → NoTwins (policy_of l).groups → Accepted l)

abbrev pub TwinsByMembers : Type 0
TwinsByMembers =
    (g : ℕ) (a b : List ℕ) → IsRecord Groups g a → IsRecord Groups g b → Bytes a → Bytes b
    → (SameMembers a b → a ≡ b) × (a ≡ b → SameMembers a b)

pub record GivenAt (l : List ℕ) (s : Section) (n : ℕ) : Type 0 where
  pub given : give_fault l s n ≡ None
  pub nth : given_record l s n ≡ get_or (records_of (policy_of l) s) n []
  pub nonempty : 0 < length (given_record l s n)
  pub inside : place_of l s n + length (given_record l s n) ≤ length l
  pub part : given_record l s n ≡ take (length (given_record l s n)) (drop (place_of l s n) l)

abbrev pub RecordsGiven : Type 0
RecordsGiven = (l : List ℕ) → Accepted l → (s : Section) (n : ℕ) → n < length (records_of (policy_of l) s) → GivenAt l s n

-- n records of a section, from record k on, as they are given
unfoldable pub given_from : List ℕ → Section → ℕ → ℕ → List (List ℕ)
given_from l s k zero = []
given_from l s k (suc n) = given_record l s k ∷ given_from l s (suc k) n

abbrev pub AllGiven : Type 0
AllGiven =
    (l : List ℕ) → Accepted l → (s : Section)
    → given_from l s 0 (length (records_of (policy_of l) s)) ≡ records_of (policy_of l) s

abbrev pub NoneGiven : Type 0
NoneGiven =
    (l : List ℕ) → Accepted l → (s : Section) (n : ℕ) → length (records_of (policy_of l) s) ≤ n
    → give_fault l s n ≡ Some (refusal 14 0)

pub record EmptyTells : Type 0 where
  pub given : (l : List ℕ) (s : Section) (n : ℕ) → give_fault l s n ≡ None → 0 < length (given_record l s n)
  pub refused : (l : List ℕ) (s : Section) (n : ℕ) (f : Refusal) → give_fault l s n ≡ Some f → given_record l s n ≡ []

abbrev pub ReferencesHeld : Type 0
ReferencesHeld =
    (l : List ℕ) → Accepted l → (s : Section) (r : List ℕ) → Memᴰ r (records_of (policy_of l) s)
    → (t : ℕ) → Memᴰ t (type_fields r) → IsType (length (policy_of l).groups) t
