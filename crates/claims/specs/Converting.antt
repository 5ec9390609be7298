-- What meets the terms of request 7's claims (Terms.antt says what that is for).
--     old_image, new_image   the images of the worked case's two policies
--     sample_group          the sample's group
--     ConvertingMet        what is met, claim by claim
use Rattle.std.specs.Prelude.{ℕ, ◌+◌, ◌≤◌, ◌<◌, ◌≡◌, length, get_or, take, drop, set, replicate}
use Rattle.std.specs.Prelude.{None, Some}
use mathlib.Core.List.{List, [], ◌∷◌, ◌++◌, map, Memᴰ}
use Rattle.format.specs.declared.Section.TheVariants.{Groups}
use Rattle.format.specs.declared.Refusal.{Refusal}
use Rattle.format.specs.Bytes.{Bytes}
use Rattle.format.specs.Refusals.{refusal}
use Rattle.format.specs.Policy.{Policy, image_of, policy_of, place_of}
use Rattle.format.specs.Twins.{first_twin, members_of}
use Rattle.format.specs.Check.{layout_fault, LaidOut, check, Accepted, image_in, check_front}
use Rattle.std.specs.Prelude.{Ok, Err}
use Rattle.format.specs.Claims.{IsType, IsRecord, WellFormed, type_fields}
use Rattle.format.specs.Sample.{sample, empty}
use Rattle.extension.specs.Add.{add_fault}
use Rattle.decision.specs.declared.Query.{Query}
use Rattle.decision.specs.Sets.{set_of}
use Rattle.decision.specs.Reading.{rules_of, constraints_of}
use Rattle.decision.specs.Decide.{decide, answer, Valid}
use Rattle.decision.specs.Cases.{with_space}
use Rattle.conversion.specs.Groups.{distinct}
use Rattle.conversion.specs.Retype.{retype_query}
use Rattle.conversion.specs.Convert.{follow, converted, converted_image, convert_fault, buffer_converted}
use Rattle.conversion.specs.Cases.{old, new}
use Rattle.lines.specs.Lines.{line}
use Rattle.lines.specs.Converted.{convert_output, gathers}

abbrev pub old_image : List ℕ
old_image = image_of old

abbrev pub new_image : List ℕ
new_image = image_of new

abbrev pub sample_group : List ℕ
sample_group = 6 ∷ 1 ∷ 0 ∷ 20 ∷ 0 ∷ 21 ∷ []

pub record ConvertingMet : Type 0 where
  -- ConvertedCases: the old image of the worked case is refused, behind 6 and 7; and where its types go
  pub old_twin : check old_image ≡ Some (refusal 19 19)
  pub old_end : check (set old_image 2 72 ++ (0 ∷ [])) ≡ Some (refusal 7 71)
  pub old_field : check (set old_image 66 4) ≡ Some (refusal 6 66)
  pub old_last : get_or (map (follow old) (5 ∷ 0x8000 ∷ 0x8001 ∷ 0x8002 ∷ 0x8003 ∷ 0x8004 ∷ 0x8005 ∷ [])) 6 0 ≡ 0x8001
  -- TwinsFound: of any image; 1 to 7 come first
  pub any_19 :
      (l : List ℕ) (n : ℕ) → LaidOut l → first_twin [] 0 (policy_of l).groups ≡ Some n → check l ≡ Some (refusal 19 (place_of l Groups n))
  pub one_to_seven : (l : List ℕ) (f : Refusal) → layout_fault l ≡ Some f → check l ≡ Some f
  -- LaidOutIsWellFormed: the old image of the worked case, of a policy with twins, which is that policy's; and any
  pub old_well_formed : WellFormed (policy_of old_image)
  pub old_image_lem : image_of (policy_of old_image) ≡ old_image
  pub any_old : (l : List ℕ) → Bytes l → LaidOut l → WellFormed (policy_of l) × (image_of (policy_of l) ≡ l)
  -- WellFormedIsLaidOut: every policy that meets the layout, twins or not
  pub any_laid : (p : Policy) → WellFormed p → LaidOut (image_of p) × Bytes (image_of p) × (policy_of (image_of p) ≡ p)
  -- AcceptedMeans, NoTwinsMeans: of an accepted image no two groups have one record; and where none have, an old image is accepted
  pub no_two :
      (l : List ℕ) → Accepted l → (i j : ℕ) → i < j → j < length (policy_of l).groups
      → get_or (policy_of l).groups i [] ≡ get_or (policy_of l).groups j [] → ⊥
  pub apart_accepted :
      (l : List ℕ) → LaidOut l
      → ((i j : ℕ) → i < j → j < length (policy_of l).groups → get_or (policy_of l).groups i [] ≡ get_or (policy_of l).groups j [] → ⊥)
      → Accepted l
  pub accepted_laid : (l : List ℕ) → Accepted l → LaidOut l
  pub any_apart :
      (gs : List (List ℕ)) → first_twin [] 0 gs ≡ None → (i j : ℕ) → i < j → j < length gs → get_or gs i [] ≡ get_or gs j [] → ⊥
  pub apart_any :
      (gs : List (List ℕ)) → ((i j : ℕ) → i < j → j < length gs → get_or gs i [] ≡ get_or gs j [] → ⊥) → first_twin [] 0 gs ≡ None
  -- FirstTwin: it is a group, an earlier one has its record, and two groups before it do not have one
  pub twin_inside : (gs : List (List ℕ)) (n : ℕ) → first_twin [] 0 gs ≡ Some n → n < length gs
  pub twin_earlier : (gs : List (List ℕ)) (n : ℕ) → first_twin [] 0 gs ≡ Some n → (i : ℕ) × (i < n) × (get_or gs i [] ≡ get_or gs n [])
  pub twin_first : (gs : List (List ℕ)) (n : ℕ) → first_twin [] 0 gs ≡ Some n → first_twin [] 0 (take n gs) ≡ None
  -- TwinsByMembers: groups of any image, whatever its count
  pub same_members :
      (g : ℕ) (a b : List ℕ) → IsRecord Groups g a → IsRecord Groups g b → Bytes a → Bytes b
      → ((m : ℕ) → Memᴰ m (members_of a) → Memᴰ m (members_of b))
      → ((m : ℕ) → Memᴰ m (members_of b) → Memᴰ m (members_of a)) → a ≡ b
  -- TwinRefused: the sample's group once more, where there is room and where there is none; any group of any accepted front; and only such
  pub sample_twin : add_fault (with_space sample sample_group) sample_group ≡ Some (refusal 20 0)
  pub no_room_twin : add_fault sample sample_group ≡ Some (refusal 20 0)
  pub any_twin : (b r : List ℕ) → check_front b ≡ None → Memᴰ r (policy_of (image_in b)).groups → add_fault b r ≡ Some (refusal 20 0)
  pub only_twin : (b r : List ℕ) (at : ℕ) → add_fault b r ≡ Some (refusal 20 at) → (at ≡ 0) × Memᴰ r (policy_of (image_in b)).groups
  -- GroupsStay: a group that stays stood somewhere, no group before it there has its record, and each record stays
  pub stood :
      (gs : List (List ℕ)) (k : ℕ) → k < length (distinct gs)
      → (i : ℕ) × (i < length gs) × (get_or gs i [] ≡ get_or (distinct gs) k [])
      × ((j : ℕ) → j < i → get_or gs j [] ≡ get_or (distinct gs) k [] → ⊥)
  pub each_stays : (gs : List (List ℕ)) (g : List ℕ) → Memᴰ g gs → Memᴰ g (distinct gs)
  pub none_twice : (gs : List (List ℕ)) → first_twin [] 0 (distinct gs) ≡ None
  pub order_kept :
      (gs : List (List ℕ)) (j k : ℕ) → j < k → k < length (distinct gs)
      → (m : ℕ) × (n : ℕ) × (m < n) × (get_or gs m [] ≡ get_or (distinct gs) j []) × (get_or gs n [] ≡ get_or (distinct gs) k [])
  pub order_lowest :
      (gs : List (List ℕ)) (i j k : ℕ) → j < k → k < length (distinct gs) → get_or gs i [] ≡ get_or (distinct gs) k []
      → (m : ℕ) × (m < i) × (get_or gs m [] ≡ get_or (distinct gs) j [])
  -- RecordsStay: as many rules and constraints; a rule's condition, class and action; a constraint's predicate; the types of both
  pub counts_kept :
      (l : List ℕ) → Bytes l → LaidOut l
      → (length (converted (policy_of l)).rules ≡ length (policy_of l).rules)
      × (length (converted (policy_of l)).constraints ≡ length (policy_of l).constraints)
      × ((converted (policy_of l)).version ≡ (policy_of l).version)
  pub groups_are : (l : List ℕ) → Bytes l → LaidOut l → (converted (policy_of l)).groups ≡ distinct (policy_of l).groups
  pub rule_front :
      (l : List ℕ) → Bytes l → LaidOut l → (i k : ℕ) → i < length (policy_of l).rules → k < 2
      → get_or (get_or (converted (policy_of l)).rules i []) k 0 ≡ get_or (get_or (policy_of l).rules i []) k 0
  pub rule_size :
      (l : List ℕ) → Bytes l → LaidOut l → (i : ℕ) → i < length (policy_of l).rules
      → length (get_or (converted (policy_of l)).rules i []) ≡ length (get_or (policy_of l).rules i [])
  pub rule_byte :
      (l : List ℕ) → Bytes l → LaidOut l → (i k : ℕ) → i < length (policy_of l).rules → 6 ≤ k
      → get_or (get_or (converted (policy_of l)).rules i []) k 0 ≡ get_or (get_or (policy_of l).rules i []) k 0
  pub rule_types :
      (l : List ℕ) → Bytes l → LaidOut l → (i : ℕ) → i < length (policy_of l).rules
      → type_fields (get_or (converted (policy_of l)).rules i []) ≡ map (follow (policy_of l)) (type_fields (get_or (policy_of l).rules i []))
  pub predicate_byte :
      (l : List ℕ) → Bytes l → LaidOut l → (i : ℕ) → i < length (policy_of l).constraints
      → get_or (get_or (converted (policy_of l)).constraints i []) 10 0 ≡ get_or (get_or (policy_of l).constraints i []) 10 0
  pub constraint_front :
      (l : List ℕ) → Bytes l → LaidOut l → (i k : ℕ) → i < length (policy_of l).constraints → k < 6
      → get_or (get_or (converted (policy_of l)).constraints i []) k 0 ≡ get_or (get_or (policy_of l).constraints i []) k 0
  pub constraint_size :
      (l : List ℕ) → Bytes l → LaidOut l → (i : ℕ) → i < length (policy_of l).constraints
      → length (get_or (converted (policy_of l)).constraints i []) ≡ length (get_or (policy_of l).constraints i [])
  pub constraint_types :
      (l : List ℕ) → Bytes l → LaidOut l → (i : ℕ) → i < length (policy_of l).constraints
      → type_fields (get_or (converted (policy_of l)).constraints i []) ≡ map (follow (policy_of l)) (type_fields (get_or (policy_of l).constraints i []))
  -- TypesFollow: every type of every policy, the last basic one and the last group too
  pub any_set : (p : Policy) (t : ℕ) → IsType (length p.groups) t → set_of (converted p).groups (follow p t) ≡ set_of p.groups t
  pub any_valid : (p : Policy) (t : ℕ) → IsType (length p.groups) t → IsType (length (converted p).groups) (follow p t)
  pub any_basic : (p : Policy) (t : ℕ) → t < 1024 → follow p t ≡ t
  pub last_basic : (p : Policy) → follow p 1023 ≡ 1023
  pub last_group :
      (p : Policy) (k : ℕ) → length p.groups ≡ k + 1
      → (n : ℕ) × (n < length (converted p).groups) × (follow p (32768 + k) ≡ 32768 + n)
      × (get_or (converted p).groups n [] ≡ get_or p.groups k [])
  pub any_group :
      (p : Policy) (k : ℕ) → k < length p.groups
      → (n : ℕ) × (n < length (converted p).groups) × (follow p (32768 + k) ≡ 32768 + n)
      × (get_or (converted p).groups n [] ≡ get_or p.groups k [])
  -- ConvertedReads: under any word
  pub same_rules : (l : List ℕ) (w : ℕ) → Bytes l → LaidOut l → rules_of (converted (policy_of l)) w ≡ rules_of (policy_of l) w
  pub same_constraints : (l : List ℕ) → Bytes l → LaidOut l → constraints_of (converted (policy_of l)) ≡ constraints_of (policy_of l)
  -- ConvertedAnswers: every query that is well formed on an old image, whatever its word; and on the worked case's
  pub same_answer :
      (l : List ℕ) (q : Query) → Bytes l → LaidOut l → Valid l q
      → answer (converted_image l) (retype_query (follow (policy_of l)) q) ≡ Ok (decide (policy_of l) q)
  pub old_answer :
      (q : Query) → Valid old_image q → answer new_image (retype_query (follow (policy_of old_image)) q) ≡ Ok (decide (policy_of old_image) q)
  -- ConvertedAccepted: of every old image, and the worked case's
  pub any_accepted : (l : List ℕ) → Bytes l → LaidOut l → Accepted (converted_image l) × (length (converted_image l) ≤ length l)
  pub new_accepted : Accepted new_image
  pub any_policy :
      (l : List ℕ) → Bytes l → LaidOut l → Bytes (converted_image l) × (policy_of (converted_image l) ≡ converted (policy_of l))
  -- ConvertedBytes: the sample and the empty policy; ConvertedOnce: the worked case's image once more
  pub sample_same : converted_image sample ≡ sample
  pub empty_same : converted_image empty ≡ empty
  pub new_same : converted_image new_image ≡ new_image
  pub any_same : (l : List ℕ) → Bytes l → Accepted l → converted_image l ≡ l
  pub any_once : (l : List ℕ) → Bytes l → LaidOut l → converted_image (converted_image l) ≡ converted_image l
  -- PastStays: the sample in a buffer of 83 bytes; RefusedStays: the worked case in one of 56
  pub sample_past : drop 80 (buffer_converted sample (replicate 83 7)) ≡ replicate 3 7
  pub sample_front : take 80 (buffer_converted sample (replicate 83 7)) ≡ sample
  pub short_stays : buffer_converted old_image (replicate 56 7) ≡ replicate 56 7
  pub any_past :
      (l b : List ℕ) → convert_fault l (length b) ≡ None
      → (take (length (converted_image l)) (buffer_converted l b) ≡ converted_image l)
      × (drop (length (converted_image l)) (buffer_converted l b) ≡ drop (length (converted_image l)) b)
      × (length (buffer_converted l b) ≡ length b)
  pub any_stays : (l b : List ℕ) (f : Refusal) → convert_fault l (length b) ≡ Some f → buffer_converted l b ≡ b
  -- ConvertNumbers: a buffer that has just the space, one byte less, and an image that is refused
  pub exact_fits : (l : List ℕ) → LaidOut l → convert_fault l (length (converted_image l)) ≡ None
  pub one_short : (l : List ℕ) (n : ℕ) → LaidOut l → length (converted_image l) ≡ n + 1 → convert_fault l n ≡ Some (refusal 13 0)
  pub image_first : (l : List ℕ) (n : ℕ) (f : Refusal) → layout_fault l ≡ Some f → convert_fault l n ≡ Some f
  pub any_short : (l : List ℕ) (n : ℕ) → LaidOut l → n < length (converted_image l) → convert_fault l n ≡ Some (refusal 13 0)
  pub any_fits : (l : List ℕ) (n : ℕ) → LaidOut l → length (converted_image l) ≤ n → convert_fault l n ≡ None
  -- AnyConverted: byte by byte, and in one read
  pub gathered_at_once : (i : List ℕ) → gathers [] (i ∷ []) ≡ convert_output i
  -- OldWritten, AcceptedWritten: the worked case, and the sample; RefusedWritten: the sample cut; OneWritten: where a line is written there
  -- is no image, and where none is there is one
  pub old_output : (convert_output old_image).output ≡ new_image
  pub sample_output : (convert_output sample).output ≡ sample
  pub cut_errors : (f : Refusal) → layout_fault (take 79 sample) ≡ Some f → (convert_output (take 79 sample)).errors ≡ line (Err f)
  pub no_image_line : (i : List ℕ) → (convert_output i).output ≡ [] → get_or (convert_output i).errors 0 0 ≡ 82
  pub no_line_image : (i : List ℕ) → (convert_output i).errors ≡ [] → 9 ≤ length (convert_output i).output
