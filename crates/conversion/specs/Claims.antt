-- What is claimed of conversion, and proved in proofs/. An old image is one that passes 1 to 7; it may have twins.
--     TwinsFound          the check gives 19 at the first group record equal to an earlier one, and 1 to 7 before it
--     GroupsStay          the lowest of each set of twins stays, in the old order, and no other group
--     RecordsStay         these are the new groups; each rule and each constraint stays, in the old order, with its type fields
--                         moved and every other byte
--     TypesFollow         a type field of the old policy names, once moved, the set that it named; it is valid, and a basic type
--                         is itself
--     ConvertedReads      so the rules, under every word, and the constraints read as they did
--     ConvertedAnswers    and every query that is well formed on the old image, its types moved the same way, gets on the new
--                         image the whole answer that the decision is on the old one: rule, constraint and steps
--     ConvertedAccepted   the new image is accepted, it is the image of the converted policy, of bytes, and no longer than the old
--     ConvertedBytes      an accepted image, so one without twins, comes out byte for byte
--     ConvertedOnce       converting twice is converting once
--     PastStays           the buffer starts with the new image, past it the bytes stay, and it is as long as it was
--     RefusedStays        a refused call changes no byte
--     ConvertNumbers      it is refused with 1 to 7 exactly as the image is, and else with 13 where the new image does not fit
use Rattle.std.specs.Prelude.{ℕ, ◌+◌, ◌≤◌, ◌<◌, ◌≡◌, ◌⊎◌, length, get_or, take, drop}
use Rattle.std.specs.Prelude.{None, Some}
use mathlib.Core.List.{List, [], map, Memᴰ}
use Rattle.format.specs.declared.Refusal.{Refusal}
use Rattle.format.specs.declared.Section.TheVariants.{Groups}
use Rattle.format.specs.Bytes.{Bytes}
use Rattle.format.specs.Refusals.{refusal}
use Rattle.format.specs.Policy.{Policy, policy_of, place_of}
use Rattle.format.specs.Twins.{first_twin, NoTwins}
use Rattle.format.specs.Check.{layout_fault, LaidOut, check, Accepted}
use Rattle.std.specs.Prelude.{Ok}
use Rattle.format.specs.Claims.{IsType, type_fields}
use Rattle.decision.specs.declared.Query.{Query}
use Rattle.decision.specs.Sets.{set_of}
use Rattle.decision.specs.Reading.{rules_of, constraints_of}
use Rattle.decision.specs.Decide.{decide, answer, Valid}
use Rattle.conversion.specs.Groups.{distinct}
use Rattle.conversion.specs.Retype.{retype_query}
use Rattle.conversion.specs.Convert.{follow, converted, converted_image, convert_fault, buffer_converted}

pub record TwinsFound : Type 0 where
  pub image_first : (l : List ℕ) (f : Refusal) → layout_fault l ≡ Some f → check l ≡ Some f
  pub found :
      (l : List ℕ) (n : ℕ) → LaidOut l → first_twin [] 0 (policy_of l).groups ≡ Some n → check l ≡ Some (refusal 19 (place_of l Groups n))

-- group k of the new ones stood at `from k`
pub record GroupsKept (gs : List (List ℕ)) : Type 0 where
  pub from : ℕ → ℕ
  pub inside : (k : ℕ) → k < length (distinct gs) → from k < length gs
  pub same : (k : ℕ) → k < length (distinct gs) → get_or (distinct gs) k [] ≡ get_or gs (from k) []
  pub lowest : (k : ℕ) → k < length (distinct gs) → (i : ℕ) → i < from k → get_or gs i [] ≡ get_or gs (from k) [] → ⊥
  pub in_order : (j k : ℕ) → j < k → k < length (distinct gs) → from j < from k
  pub all : (g : List ℕ) → Memᴰ g gs → Memᴰ g (distinct gs)

abbrev pub GroupsStay : Type 0
GroupsStay = (gs : List (List ℕ)) → GroupsKept gs × NoTwins (distinct gs)

-- a record r and what it becomes: the type fields moved, all else as it was
pub record Follows (f : ℕ → ℕ) (r new : List ℕ) : Type 0 where
  pub size : length new ≡ length r
  pub fields : type_fields new ≡ map f (type_fields r)

pub record RecordsKept (p : Policy) : Type 0 where
  pub version : (converted p).version ≡ p.version
  pub groups : (converted p).groups ≡ distinct p.groups
  pub rule_count : length (converted p).rules ≡ length p.rules
  pub rules :
      (i : ℕ) → i < length p.rules → Follows (follow p) (get_or p.rules i []) (get_or (converted p).rules i [])
  pub rule_bytes :
      (i : ℕ) → i < length p.rules → (k : ℕ) → (k < 2) ⊎ (6 ≤ k)
      → get_or (get_or (converted p).rules i []) k 0 ≡ get_or (get_or p.rules i []) k 0
  pub constraint_count : length (converted p).constraints ≡ length p.constraints
  pub constraints :
      (i : ℕ) → i < length p.constraints → Follows (follow p) (get_or p.constraints i []) (get_or (converted p).constraints i [])
  pub constraint_bytes :
      (i : ℕ) → i < length p.constraints → (k : ℕ) → (k < 6) ⊎ (k ≡ 10)
      → get_or (get_or (converted p).constraints i []) k 0 ≡ get_or (get_or p.constraints i []) k 0

abbrev pub RecordsStay : Type 0
RecordsStay = (l : List ℕ) → Bytes l → LaidOut l → RecordsKept (policy_of l)

pub record TypesFollow : Type 0 where
  pub set : (p : Policy) (t : ℕ) → IsType (length p.groups) t → set_of (converted p).groups (follow p t) ≡ set_of p.groups t
  pub valid : (p : Policy) (t : ℕ) → IsType (length p.groups) t → IsType (length (converted p).groups) (follow p t)
  pub basic : (p : Policy) (t : ℕ) → t < 1024 → follow p t ≡ t
  pub group :
      (p : Policy) (k : ℕ) → k < length p.groups
      → (n : ℕ) × (n < length (converted p).groups) × (follow p (32768 + k) ≡ 32768 + n)
      × (get_or (converted p).groups n [] ≡ get_or p.groups k [])

abbrev pub ConvertedReads : Type 0
ConvertedReads =
    (l : List ℕ) → Bytes l → LaidOut l
    → ((w : ℕ) → rules_of (converted (policy_of l)) w ≡ rules_of (policy_of l) w)
    × (constraints_of (converted (policy_of l)) ≡ constraints_of (policy_of l))

abbrev pub ConvertedAnswers : Type 0
ConvertedAnswers =
    (l : List ℕ) (q : Query) → Bytes l → LaidOut l → Valid l q
    → answer (converted_image l) (retype_query (follow (policy_of l)) q) ≡ Ok (decide (policy_of l) q)

pub record NewImage (l : List ℕ) : Type 0 where
  pub accepted : Accepted (converted_image l)
  pub bytes : Bytes (converted_image l)
  pub policy : policy_of (converted_image l) ≡ converted (policy_of l)
  pub shorter : length (converted_image l) ≤ length l

abbrev pub ConvertedAccepted : Type 0
ConvertedAccepted = (l : List ℕ) → Bytes l → LaidOut l → NewImage l

abbrev pub ConvertedBytes : Type 0
ConvertedBytes = (l : List ℕ) → Bytes l → Accepted l → converted_image l ≡ l

abbrev pub ConvertedOnce : Type 0
ConvertedOnce = (l : List ℕ) → Bytes l → LaidOut l → converted_image (converted_image l) ≡ converted_image l

abbrev pub PastStays : Type 0
PastStays =
    (l b : List ℕ) → convert_fault l (length b) ≡ None
    → (take (length (converted_image l)) (buffer_converted l b) ≡ converted_image l)
    × (drop (length (converted_image l)) (buffer_converted l b) ≡ drop (length (converted_image l)) b)
    × (length (buffer_converted l b) ≡ length b)

abbrev pub RefusedStays : Type 0
RefusedStays = (l b : List ℕ) (f : Refusal) → convert_fault l (length b) ≡ Some f → buffer_converted l b ≡ b

pub record ConvertNumbers : Type 0 where
  pub image : (l : List ℕ) (n : ℕ) (f : Refusal) → layout_fault l ≡ Some f → convert_fault l n ≡ Some f
  pub short : (l : List ℕ) (n : ℕ) → LaidOut l → n < length (converted_image l) → convert_fault l n ≡ Some (refusal 13 0)
  pub fits : (l : List ℕ) (n : ℕ) → LaidOut l → length (converted_image l) ≤ n → convert_fault l n ≡ None
