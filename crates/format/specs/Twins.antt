-- Twin groups: two groups with equal members (document 02 [7]). In an image that passes 1 to 7 a group's record is its members
-- behind two bytes that follow from them, so twins are groups with equal record bytes (TwinsByMembers).
--     same_bytes a b        the two records are equal
--     listed g gs          some group of gs has g's record
--     first_twin seen n gs  the number, counted from n, of the first group of gs whose record stands before it, in `seen` or in gs
--     NoTwins gs           there is none
--     twin_fault l          refusal 19, at the first group record equal to an earlier one
--     number_of g gs        the number of the first group that has g's record
--     Apart gs             no two groups have one record
--     NoTwinsMeans         that is what it says that there are no twins
--     FirstTwin            the first twin has an earlier group's record, and before it there are no twins
--     members_of r          a group's members, and SameMembers a b that two records have the same
use Rattle.std.specs.Prelude.{ℕ, suc, ◌<◌, ◌≡◌, Bool, true, false, ◌&&◌, ◌||◌, cond, length, get_or, take, drop, eqb}
use Rattle.std.specs.Prelude.{Option, None, Some}
use mathlib.Core.List.{List, [], ◌∷◌, ◌++◌, Memᴰ}
use Rattle.format.specs.declared.Section.TheVariants.{Groups}
use Rattle.format.specs.declared.Refusal.{Refusal}
use Rattle.format.specs.Bytes.{words}
use Rattle.format.specs.Refusals.{refusal}
use Rattle.format.specs.Policy.{policy_of, place_of}

unfoldable pub same_bytes : List ℕ → List ℕ → Bool
same_bytes [] [] = true
same_bytes [] (y ∷ ys) = false
same_bytes (x ∷ xs) [] = false
same_bytes (x ∷ xs) (y ∷ ys) = eqb x y && same_bytes xs ys

unfoldable pub listed : List ℕ → List (List ℕ) → Bool
listed g [] = false
listed g (x ∷ xs) = same_bytes g x || listed g xs

unfoldable pub first_twin : List (List ℕ) → ℕ → List (List ℕ) → Option ℕ
first_twin seen n [] = None
first_twin seen n (g ∷ gs) = cond (listed g seen) (Some n) (first_twin (seen ++ (g ∷ [])) (suc n) gs)

abbrev pub NoTwins : List (List ℕ) → Type 0
NoTwins gs = first_twin [] 0 gs ≡ None

-- a group's record, by its number, is refused
unfoldable pub twin_at : List ℕ → Option ℕ → Option Refusal
twin_at l None = None
twin_at l (Some n) = Some (refusal 19 (place_of l Groups n))

unfoldable pub twin_fault : List ℕ → Option Refusal
twin_fault l = twin_at l (first_twin [] 0 (policy_of l).groups)

unfoldable pub number_of : List ℕ → List (List ℕ) → ℕ
number_of g [] = 0
number_of g (x ∷ xs) = cond (same_bytes g x) 0 (suc (number_of g xs))

abbrev pub Apart : List (List ℕ) → Type 0
Apart gs = (i j : ℕ) → i < j → j < length gs → get_or gs i [] ≡ get_or gs j [] → ⊥

abbrev pub NoTwinsMeans : Type 0
NoTwinsMeans = (gs : List (List ℕ)) → (NoTwins gs → Apart gs) × (Apart gs → NoTwins gs)

pub record TwinIs (gs : List (List ℕ)) (n : ℕ) : Type 0 where
  pub inside : n < length gs
  pub earlier : ℕ
  pub before : earlier < n
  pub alike : get_or gs earlier [] ≡ get_or gs n []
  pub first : NoTwins (take n gs)

abbrev pub FirstTwin : Type 0
FirstTwin = (gs : List (List ℕ)) (n : ℕ) → first_twin [] 0 gs ≡ Some n → TwinIs gs n

-- the members of a group's record
abbrev pub members_of : List ℕ → List ℕ
members_of r = words (drop 2 r)

pub record SameMembers (a b : List ℕ) : Type 0 where
  pub there : (m : ℕ) → Memᴰ m (members_of a) → Memᴰ m (members_of b)
  pub back : (m : ℕ) → Memᴰ m (members_of b) → Memᴰ m (members_of a)
