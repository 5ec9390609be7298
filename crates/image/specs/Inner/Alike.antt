-- The search for alike groups, group by group: groups are compared only where a key agrees.
--     key_of r              the key of a group's record, from its length, its first and middle member and its last two;
--                          alike records have one key
--     key_at gs i           that of group i
--     Placed l places n    an image that passes 1 to 7, how many groups it has, and their places in a table
--     Filed gs k heads before   the first k groups by their keys. A slot of `heads` has the last group with the slot's key, and a
--                          slot of `before` the last one with the same key before that group
--     Looks l places heads before k key   group k is to be found among those filed
--     Found gs k r         r is an earlier group alike to group k, or there is none
--     settled_slot same r k     the first group alike to group k, by an earlier one that is
--     Fills gs n before after   a table of alike groups, for n groups, before and after
--     FirstOff same r      the first group that is not the first of its kind, by a table of the groups
use Rattle.std.specs.Prelude.{ℕ, ◌+◌, ◌-◌, ◌*◌, ◌/◌, ◌%◌, ◌≤◌, ◌<◌, ◌≡◌, cond, Option, Some, None, List, [], length, get_or, ltb}
use Rattle.format.specs.declared.Section.TheVariants.{Groups}
use Rattle.format.specs.Bytes.{word_at}
use Rattle.format.specs.Format.{count_of}
use Rattle.format.specs.Policy.{policy_of, place_of}
use Rattle.format.specs.Twins.{number_of}
use Rattle.format.specs.Check.{LaidOut}

unfoldable pub key_of : List ℕ → ℕ
key_of r =
    (word_at r 2 * 5 + word_at r (length r / 4 * 2) * 9 + (word_at r (length r - 4) * 7 + word_at r (length r - 2) * 3) + length r) % 1024

abbrev pub key_at : List (List ℕ) → ℕ → ℕ
key_at gs i = key_of (get_or gs i [])

pub record Placed (l places : List ℕ) (n : ℕ) : Type 0 where
  pub laid : LaidOut l
  pub count : n ≡ count_of l Groups
  pub place : (g : ℕ) → g < n → get_or places g 0 ≡ place_of l Groups g

pub record Filed (gs : List (List ℕ)) (k : ℕ) (heads before : List (Option ℕ)) : Type 0 where
  pub head : (b g : ℕ) → get_or heads b None ≡ Some g → (g < k) × (key_at gs g ≡ b)
  pub head_last : (i : ℕ) → i < k → (g : ℕ) × (get_or heads (key_at gs i) None ≡ Some g) × (i ≤ g)
  pub earlier : (j g : ℕ) → j < k → get_or before j None ≡ Some g → (g < j) × (key_at gs g ≡ key_at gs j)
  pub earlier_last : (i j : ℕ) → i < j → j < k → key_at gs i ≡ key_at gs j → (g : ℕ) × (get_or before j None ≡ Some g) × (i ≤ g)

pub record Looks (l places : List ℕ) (heads before : List (Option ℕ)) (k key : ℕ) : Type 0 where
  pub placed : Placed l places (count_of l Groups)
  pub filed : Filed (policy_of l).groups k heads before
  pub own : k < count_of l Groups
  pub key_is : key ≡ key_at (policy_of l).groups k

pub record Found (gs : List (List ℕ)) (k : ℕ) (r : Option ℕ) : Type 0 where
  pub alike : (g : ℕ) → r ≡ Some g → (g < k) × (get_or gs g [] ≡ get_or gs k [])
  pub none : r ≡ None → (i : ℕ) → i < k → get_or gs i [] ≡ get_or gs k [] → ⊥

abbrev pub settled_slot : List ℕ → Option ℕ → ℕ → ℕ
settled_slot same (Some g) k = get_or same g 0
settled_slot same None k = k

pub record Fills (gs : List (List ℕ)) (n : ℕ) (before after : List ℕ) : Type 0 where
  pub slot : (g : ℕ) → get_or after g 0 ≡ cond (ltb g n) (number_of (get_or gs g []) gs) (get_or before g 0)

pub record FirstOff (same : List ℕ) (r : Option ℕ) : Type 0 where
  pub off : (k : ℕ) → r ≡ Some k → (k < length same) × ((i : ℕ) → i < k → get_or same i 0 ≡ i) × (get_or same k 0 ≡ k → ⊥)
  pub none : r ≡ None → (i : ℕ) → i < length same → get_or same i 0 ≡ i
