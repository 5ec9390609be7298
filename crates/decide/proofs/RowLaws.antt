-- Slots that are filled with the rows' numbers from the front, k of them so far. Assumes nothing.
--     rows_next, rows_end   one row more, and after the last; before the first, by computation, they are as they were
--     row_query             a row of 12 bytes is the query at its place
use Prim.Native.Nat.{ℕ, ◌+◌, ◌*◌, ◌/◌, ◌≤◌, ◌<◌}
use native.Mathlib.Numerals.{add-one}
use native.Mathlib.Omega.{arith}
use mathlib.Core.Path.{◌≡◌, sym, ap, ◌∙◌}
use mathlib.Core.List.{List, [], ◌++◌}
use lib.ListN.{length, get_or, set, take, drop}
use Rattle.std.specs.Simd.{first_chunks}
use Rattle.decision.specs.Decide.{answer}
use Rattle.decision.specs.Numbers.{decision_code}
use Rattle.decision.specs.Rows.{query_at, numbers, rows_in, answered}
use Rattle.decision.proofs.Rows.{numbers_length, numbers_at, query_row}
use Rattle.runs.proofs.Fill.{fill, fill_next, fill_is}
use Rattle.decide.proofs.ArrayLaws.{fill_front, chunk_nth}

abbrev pub filled : List ℕ → List ℕ → List ℕ → ℕ → List ℕ
filled l b slots k = fill (numbers l b) slots k

module _ (l b slots : List ℕ) where
  pub rows_next :
      (s : List ℕ) (k v : ℕ) → k < length b / 12 → k < length slots → v ≡ decision_code (answer l (query_at b (12 * k)))
      → s ≡ filled l b slots k → set s k v ≡ filled l b slots (k + 1)
  rows_next s k v h f e is =
      ap (λ x. set x k v) is
      ∙ ap (set (filled l b slots k) k) (e ∙ sym (numbers_at l b k h))
      ∙ fill_next (numbers l b) slots k 0 (omega (arith, numbers_length l b)) f
      ∙ ap (filled l b slots) (sym (add-one k))

  pub row_query : (rows : List (List ℕ)) (n k : ℕ) → rows ≡ first_chunks 12 n b → k < n
      → query_at (get_or rows k []) 0 ≡ query_at b (12 * k)
  row_query rows n k e h =
      ap (λ (x : List ℕ). query_at x 0) (ap (λ (xs : List (List ℕ)). get_or xs k []) e ∙ chunk_nth 12 n k b h)
      ∙ sym (query_row b k)

  pub rows_end : (s : List ℕ) (k n : ℕ) → n ≡ rows_in b (length slots) → k ≡ n → s ≡ filled l b (take n slots) k
      → s ++ drop n slots ≡ answered l b slots
  unfolding answered
  rows_end s k n all e is =
      let m = rows_in b (length slots) in
      let many : m ≤ length (numbers l b) = omega (arith, numbers_length l b) in
      let few : m ≤ length slots = omega arith in
      ap (λ x. x ++ drop n slots) (is ∙ ap (filled l b (take n slots)) e)
      ∙ ap (λ i. filled l b (take i slots) i ++ drop i slots) all
      ∙ fill_front (numbers l b) slots m many few
      ∙ fill_is (numbers l b) slots m many few
