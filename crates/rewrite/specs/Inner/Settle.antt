-- Which groups stay, and their new numbers.
--     Alike gs n alike           the table has for each of the n groups the number of the first that has its record
--     Settled gs g to keep next  of the first g of the groups, `keep` marks those that stay, `next` of them, and no later one; `to` has
--                                the new numbers
use Rattle.std.specs.Prelude.{ℕ, ◌<◌, ◌≤◌, ◌≡◌, Bool, false, List, [], length, get_or, take}
use Rattle.format.specs.Bytes.{Bytes}
use Rattle.format.specs.Twins.{number_of}
use Rattle.conversion.specs.Groups.{distinct}
use Rattle.rewrite.specs.Inner.Kept.{pick}

pub record Alike (gs : List (List ℕ)) (n : ℕ) (alike : List ℕ) : Type 0 where
  pub count : length gs ≡ n
  pub first : (i : ℕ) → i < n → get_or alike i 0 ≡ number_of (get_or gs i []) gs

pub record Settled (gs : List (List ℕ)) (g : ℕ) (to : List ℕ) (keep : List Bool) (next : ℕ) : Type 0 where
  pub numbers : (i : ℕ) → i < g → get_or to i 0 ≡ number_of (get_or gs i []) (distinct gs)
  pub kept : pick keep 0 (take g gs) ≡ distinct (take g gs)
  pub later : (i : ℕ) → g ≤ i → get_or keep i false ≡ false
  pub count : next ≡ length (distinct (take g gs))
  pub small : Bytes to
