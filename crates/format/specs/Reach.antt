-- How far a walk over the records of an image reaches (document 02 [4]). A walk goes from record to record, section by section, and
-- stops at the first refusal; so this holds of every image whose header passes, accepted or not.
--     fault_before l s      the first refusal of the sections before a section
--     Reaches l s k        a walk comes past k records of a section, all of them perhaps
--     most_place s k        the furthest place past k records of a section: records of 130, 11 and 43 bytes, behind full sections
--     Bounded l s k        the place past k records of a section is at most that, and at most 55,561
--     PlacesBounded        each place that a walk reaches is so
--     StopsAt l s k f      the refusal f stands at record k of a section, at a field of it, or past the last record of all
--     Stops l f            a refusal at a place that a walk reaches, or at a field of the record there; at most 55,561
--     StopsReached         each refusal of the records is so
--     BoundReached         the longest image reaches each of these places, and 55,561 past its last record
use Rattle.std.specs.Prelude.{ℕ, ◌+◌, ◌*◌, ◌≤◌, ◌<◌, ◌≡◌, Bool, ◌⊎◌, List, get_or, eqb}
use Rattle.std.specs.Prelude.{Option, None, Some}
use Rattle.format.specs.declared.Section.{Section}
use Rattle.format.specs.declared.Section.TheVariants.{Groups, Rules, Constraints}
use Rattle.format.specs.declared.Refusal.{Refusal}
use Rattle.format.specs.Bytes.{Bytes}
use Rattle.format.specs.Refusals.{refusal, ◌or_else◌}
use Rattle.format.specs.Format.{header_length, limit_of, count_of}
use Rattle.format.specs.Policy.{image_of, start_of, place_of, end_of}
use Rattle.format.specs.Check.{section_fault, header_fault, body_fault}
use Rattle.format.specs.Longest.{longest, longest_length}

unfoldable pub fault_before : List ℕ → Section → Option Refusal
fault_before l Groups = None
fault_before l Rules = section_fault l Groups (start_of l Groups) (count_of l Groups)
fault_before l Constraints =
    section_fault l Groups (start_of l Groups) (count_of l Groups)
    or_else section_fault l Rules (start_of l Rules) (count_of l Rules)

pub record Reaches (l : List ℕ) (s : Section) (k : ℕ) : Type 0 where
  pub before : fault_before l s ≡ None
  pub counted : k ≤ count_of l s
  pub passed : section_fault l s (start_of l s) k ≡ None

unfoldable pub most_place : Section → ℕ → ℕ
most_place Groups k = header_length + 130 * k
most_place Rules k = header_length + 130 * 256 + 11 * k
most_place Constraints k = header_length + 130 * 256 + 11 * 1024 + 43 * k

-- with the byte there added, the next record's length byte where one follows, it still fits 16 bits
pub record Bounded (l : List ℕ) (s : Section) (k : ℕ) : Type 0 where
  pub by_section : place_of l s k ≤ most_place s k
  pub whole : place_of l s k ≤ longest_length
  pub length_added : Bytes l → place_of l s k + get_or l (place_of l s k) 0 ≤ 55816

-- however the header's length field is compared: the bound comes from the counts and from the records' lengths
abbrev pub PlacesBounded : Type 0
PlacesBounded =
    (fits : ℕ → ℕ → Bool) (l : List ℕ) → header_fault fits l ≡ None → (s : Section) (k : ℕ) → Reaches l s k → Bounded l s k

-- 5 at a record that is counted; 6 at a field of one, within its length; 7 past the last of all
abbrev pub StopsAt : List ℕ → Section → ℕ → Refusal → Type 0
StopsAt l s k f =
    ((k < count_of l s) × (f ≡ refusal 5 (place_of l s k)))
    ⊎ ((k < count_of l s) × ((i : ℕ) × (i < get_or l (place_of l s k) 0) × (f ≡ refusal 6 (place_of l s k + i))))
    ⊎ ((s ≡ Constraints) × (k ≡ count_of l s) × (f ≡ refusal 7 (place_of l s k)))

pub record Stops (l : List ℕ) (f : Refusal) : Type 0 where
  pub section : Section
  pub past : ℕ
  pub reached : Reaches l section past
  pub place : StopsAt l section past f
  pub whole : f.place ≤ longest_length

abbrev pub StopsReached : Type 0
StopsReached = (fits : ℕ → ℕ → Bool) (l : List ℕ) → header_fault fits l ≡ None → (f : Refusal) → body_fault l ≡ Some f → Stops l f

pub record BoundReached : Type 0 where
  pub header : header_fault eqb (image_of longest) ≡ None
  pub reaches : (s : Section) (k : ℕ) → k ≤ limit_of s → Reaches (image_of longest) s k
  pub each : (s : Section) (k : ℕ) → k ≤ limit_of s → place_of (image_of longest) s k ≡ most_place s k
  pub last : end_of (image_of longest) ≡ longest_length
