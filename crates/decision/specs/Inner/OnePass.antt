-- The nearest in one pass, as a loop finds it.
--     nearer x s n          the nearest so far, after element n, which passes s steps
--     nearest_from f x n l   the nearest so far, after the elements of l, counted from n
use Rattle.std.specs.Prelude.{ℕ, suc, cond, List, [], ◌∷◌, ltb, None, Some}
use Rattle.decision.specs.Decide.{near, Nearest}

unfoldable pub nearer : Nearest → ℕ → ℕ → Nearest
nearer None s n = Some (near s n)
nearer (Some x) s n = cond (ltb x.steps s) (Some (near s n)) (Some x)

module _ {A : Type 0} where
  unfoldable pub nearest_from : (A → ℕ) → Nearest → ℕ → List A → Nearest
  nearest_from f x n [] = x
  nearest_from f x n (y ∷ l) = nearest_from f (nearer x (f y) n) (suc n) l
