-- The longest image that the limits allow, written out (document 01, "The policy image").
--     count_up n m         n numbers of 2 bytes each, from m on
--     long_group k         a group of 64 members: k, and 256 to 318, so that no two of them are the same
--     long_groups n        n such groups
--     long_rule            an allow rule
--     long_constraint      a constraint with a list of 16 types
--     longest             256 groups, 1,024 rules, 256 constraints
--     longest_length       the length of its image
--     LongestImage        an accepted image has at most that length
--     LongestReached      this one is accepted, and has it
use Rattle.std.specs.Prelude.{ℕ, zero, suc, ◌≤◌, ◌≡◌, List, [], ◌∷◌, ◌++◌, length, replicate}
use Rattle.format.specs.Bytes.{Bytes, put_word}
use Rattle.format.specs.Policy.{Policy, image_of, policy_of}
use Rattle.format.specs.Check.{Accepted}

unfoldable pub count_up : ℕ → ℕ → List ℕ
count_up zero m = []
count_up (suc n) m = put_word m (count_up n (suc m))

unfoldable pub long_group : ℕ → List ℕ
long_group k = 130 ∷ 1 ∷ put_word k (count_up 63 256)

unfoldable pub long_groups : ℕ → List (List ℕ)
long_groups zero = []
long_groups (suc n) = long_group n ∷ long_groups n

unfoldable pub long_rule : List ℕ
long_rule = 11 ∷ 2 ∷ replicate 8 0 ++ (1 ∷ [])

unfoldable pub long_constraint : List ℕ
long_constraint = 43 ∷ 4 ∷ replicate 8 0 ++ (2 ∷ replicate 32 0)

unfoldable pub longest : Policy
longest =
    record {
      version = 1;
      groups = long_groups 256;
      rules = replicate 1024 long_rule;
      constraints = replicate 256 long_constraint;
    }

abbrev pub longest_length : ℕ
longest_length = 55561

abbrev pub LongestImage : Type 0
LongestImage = (l : List ℕ) → Accepted l → length l ≤ longest_length

pub record LongestReached : Type 0 where
  pub accepted : Accepted (image_of longest)
  pub bytes : Bytes (image_of longest)
  pub policy : policy_of (image_of longest) ≡ longest
  pub reached : length (image_of longest) ≡ longest_length
