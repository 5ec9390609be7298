-- Type fields changed in place, by a table of the groups' new numbers.
--     renumbered to t        the type field t, a group's number looked up
--     new_low to h x         its second byte, where h and x are its bytes
--     field_at to r at       the bytes r with the type field at a place changed
--     changed to l           a list of type fields with each changed
--     record_in k to r       a record with its type fields changed: two from its byte k on, in `two_in`, and those behind its eleventh
--                            byte; k is 2 for a rule, which has none there, and 6 for a constraint
--     records_in k to b n    the bytes b with each of the n records at their front changed
use Rattle.std.specs.Prelude.{ℕ, zero, suc, ◌+◌, ◌*◌, ◌/◌, ◌%◌, cond, List, [], ◌∷◌, ◌++◌, get_or, set, take, drop, ltb}

unfoldable pub renumbered : List ℕ → ℕ → ℕ
renumbered to t = cond (ltb t 32768) t (t / 256 * 256 + get_or to (t % 256) 0)

unfoldable pub new_low : List ℕ → ℕ → ℕ → ℕ
new_low to h x = cond (ltb h 128) x (get_or to x 0)

unfoldable pub field_at : List ℕ → List ℕ → ℕ → List ℕ
field_at to r at = set r (at + 1) (new_low to (get_or r at 0) (get_or r (at + 1) 0))

unfoldable pub changed : List ℕ → List ℕ → List ℕ
changed to [] = []
changed to (x ∷ []) = x ∷ []
changed to (x ∷ y ∷ l) = x ∷ new_low to x y ∷ changed to l

unfoldable pub two_in : ℕ → List ℕ → List ℕ → List ℕ
two_in k to r = field_at to (field_at to r k) (k + 2)

unfoldable pub record_in : ℕ → List ℕ → List ℕ → List ℕ
record_in k to r = take 11 (two_in k to r) ++ changed to (drop 11 (two_in k to r))

unfoldable pub records_in : ℕ → List ℕ → List ℕ → ℕ → List ℕ
records_in k to b zero = b
records_in k to b (suc n) = record_in k to (take (get_or b 0 0) b) ++ records_in k to (drop (get_or b 0 0) b) n
