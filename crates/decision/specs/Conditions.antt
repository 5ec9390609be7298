-- A rule's condition under a query's switch word (document 01: "condition (1 byte: 0 off, 1 on)"; document 02, request [6]:
-- "Condition bytes 2 to 33 now name switches 0 to 31").
--     switch_on w k    "switch k is on if the word divided by 2^k, rounded down, is odd"
--     is_on w b        the condition byte b is on under the word w: 0 never, 1 always, 2 + k where switch k is
use Rattle.std.specs.Prelude.{ℕ, ◌-◌, ◌/◌, ◌%◌, ◌^◌, Bool, cond, leb, eqb}

unfoldable pub switch_on : ℕ → ℕ → Bool
switch_on w k = eqb (w / 2 ^ k % 2) 1

unfoldable pub is_on : ℕ → ℕ → Bool
is_on w b = cond (leb 2 b) (switch_on w (b - 2)) (eqb b 1)
