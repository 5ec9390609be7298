-- What a writer leaves.
--     put_at b at r              r over what stands from a place on; the rest stays
--     Wrote b after at past r   after is b with r at a place, and past the place behind r
--     Writing ..                part of the way: `left` is still to come at a place, of `all` that goes to another
use Rattle.std.specs.Prelude.{ℕ, ◌+◌, ◌≤◌, ◌≡◌, List, ◌++◌, length, take, drop}

unfoldable pub put_at : List ℕ → ℕ → List ℕ → List ℕ
put_at b at r = take at b ++ (r ++ drop (at + length r) b)

pub record Wrote (b after : List ℕ) (at past : ℕ) (r : List ℕ) : Type 0 where
  pub bytes : after ≡ put_at b at r
  pub next : past ≡ at + length r
  pub size : length after ≡ length b

pub record Writing (b after : List ℕ) (from at : ℕ) (all left : List ℕ) : Type 0 where
  pub same : put_at b from all ≡ put_at after at left
  pub end : from + length all ≡ at + length left
  pub room : at + length left ≤ length after
  pub size : length after ≡ length b
