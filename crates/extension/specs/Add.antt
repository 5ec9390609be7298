-- Adding a record to the image that a buffer starts with (document 01, "Adding and giving records").
--     section_of k          the section of a record's kind (of an unknown one, which 10 refuses first, the rules)
--     field_fault o         11, for a bad field
--     with_record s p r     the policy p with the record r at the end of a section
--     added_twin s p r      the record r, of a section, would be a twin: a group that p has (document 02 [7])
--     add_fault b r         refusals 1 to 7 and 19, then 10, 11, 20, 12 and 13
--     own_fault b r         10, 11, 20, 12 and 13: the causes of the call's own
--     new_number b r        the number that the record gets: the count of its section before
--     new_image b r         the image with the record
--     overwrite new b      the buffer b with other bytes at its front; those past them stay
--     buffer_after b r      the buffer after the call
--     Adds b r a after     what a call answers and leaves
use Rattle.std.specs.Prelude.{ℕ, ◌+◌, ◌≡◌, Bool, false, not, cond, List, [], ◌∷◌, ◌++◌, length, get_or, drop, leb, ltb, eqb}
use Rattle.std.specs.Prelude.{Option, None, Some}
use Rattle.format.specs.declared.Section.{Section}
use Rattle.format.specs.declared.Section.TheVariants.{Groups, Rules, Constraints}
use Rattle.format.specs.declared.Refusal.{Refusal}
use Rattle.format.specs.Bytes.{word_at}
use Rattle.format.specs.Refusals.{refusal, need, ◌or_else◌, unless_refused}
use Rattle.format.specs.Format.{limit_of, count_of, shape_ok, bad_field}
use Rattle.format.specs.Policy.{Policy, image_of, policy_of}
use Rattle.format.specs.Twins.{listed}
use Rattle.format.specs.Check.{image_in, check_front}
use Rattle.format.specs.Answers.{Outcome, outcome}

unfoldable pub section_of : ℕ → Section
section_of k = cond (eqb k 1) Groups (cond (eqb k 4) Constraints Rules)

unfoldable pub with_record : Section → Policy → List ℕ → Policy
with_record Groups p r =
    record { version = p.version; groups = p.groups ++ (r ∷ []); rules = p.rules; constraints = p.constraints }
with_record Rules p r =
    record { version = p.version; groups = p.groups; rules = p.rules ++ (r ∷ []); constraints = p.constraints }
with_record Constraints p r =
    record { version = p.version; groups = p.groups; rules = p.rules; constraints = p.constraints ++ (r ∷ []) }

-- a bad field of the lent record: its place is in the record
unfoldable pub field_fault : Option ℕ → Option Refusal
field_fault None = None
field_fault (Some i) = Some (refusal 11 i)

unfoldable pub new_number : List ℕ → List ℕ → ℕ
new_number b r = count_of b (section_of (get_or r 1 0))

unfoldable pub added_twin : Section → Policy → List ℕ → Bool
added_twin Groups p r = listed r p.groups
added_twin Rules p r = false
added_twin Constraints p r = false

unfoldable pub own_fault : List ℕ → List ℕ → Option Refusal
own_fault b r =
    need (shape_ok r) (refusal 10 0)
    or_else field_fault (bad_field (count_of b Groups) r)
    or_else need (not (added_twin (section_of (get_or r 1 0)) (policy_of (image_in b)) r)) (refusal 20 0)
    or_else need (ltb (new_number b r) (limit_of (section_of (get_or r 1 0)))) (refusal 12 0)
    or_else need (leb (word_at b 1 + length r) (length b)) (refusal 13 0)

unfoldable pub add_fault : List ℕ → List ℕ → Option Refusal
add_fault b r = check_front b or_else own_fault b r

unfoldable pub new_image : List ℕ → List ℕ → List ℕ
new_image b r = image_of (with_record (section_of (get_or r 1 0)) (policy_of (image_in b)) r)

unfoldable pub overwrite : List ℕ → List ℕ → List ℕ
overwrite new b = new ++ drop (length new) b

-- a refused call changes no byte
unfoldable pub buffer_after : List ℕ → List ℕ → List ℕ
buffer_after b r = unless_refused (add_fault b r) (overwrite (new_image b r) b) b

pub record Adds (b r : List ℕ) (a : Outcome ℕ) (after : List ℕ) : Type 0 where
  pub answer : a ≡ outcome (add_fault b r) (new_number b r)
  pub buffer : after ≡ buffer_after b r
