-- Converting an old image into a lent buffer (document 02 [7]): the lowest of each set of twins stays, the others go, later groups
-- move down and references follow.
--     follow p             where a type field of the policy p goes
--     converted p          the policy without twins
--     converted_image l     the new image of an old one
--     convert_fault l n     refusals 1 to 7 of the old image, then 13 where n bytes do not hold the new one
--     buffer_converted l b  the buffer after the call: the new image at its front, the bytes past it as they were; on a refusal
--                          all as it was
--     Converts l b a after   what a call answers and leaves
use Rattle.std.specs.Prelude.{ℕ, ◌≡◌, List, map, length, leb}
use Rattle.std.specs.Prelude.{Option}
use Rattle.format.specs.declared.Refusal.{Refusal}
use Rattle.format.specs.Refusals.{refusal, need, ◌or_else◌, unless_refused}
use Rattle.format.specs.Policy.{Policy, image_of, policy_of}
use Rattle.format.specs.Check.{layout_fault}
use Rattle.format.specs.Answers.{Outcome, outcome}
use Rattle.extension.specs.Add.{overwrite}
use Rattle.conversion.specs.Groups.{distinct, moved}
use Rattle.conversion.specs.Retype.{retype_rule, retype_constraint}

unfoldable pub follow : Policy → ℕ → ℕ
follow p = moved p.groups (distinct p.groups)

unfoldable pub converted : Policy → Policy
converted p =
    record {
      version = p.version;
      groups = distinct p.groups;
      rules = map (retype_rule (follow p)) p.rules;
      constraints = map (retype_constraint (follow p)) p.constraints;
    }

unfoldable pub converted_image : List ℕ → List ℕ
converted_image l = image_of (converted (policy_of l))

unfoldable pub convert_fault : List ℕ → ℕ → Option Refusal
convert_fault l n = layout_fault l or_else need (leb (length (converted_image l)) n) (refusal 13 0)

unfoldable pub buffer_converted : List ℕ → List ℕ → List ℕ
buffer_converted l b = unless_refused (convert_fault l (length b)) (overwrite (converted_image l) b) b

pub record Converts (l b : List ℕ) (a : Outcome ℕ) (after : List ℕ) : Type 0 where
  pub answer : a ≡ outcome (convert_fault l (length b)) (length (converted_image l))
  pub buffer : after ≡ buffer_converted l b
