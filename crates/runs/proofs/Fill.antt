-- A list that is written over from the front. Assumes nothing.
--     fill xs ys i     ys, whose first i elements are those of xs
--     length_fill, fill_next, fill_all   as long as ys; one element more; all of them
--     fill_is          it is the front of xs before the rest of ys
use Prim.Native.Nat.{ℕ, zero, suc, ◌≤◌, ◌<◌}
use mathlib.Core.Path.{◌≡◌, refl, ap}
use mathlib.Core.List.{List, [], ◌∷◌, ◌++◌}
use native.Mathlib.Nat.{not-suc-le-zero, le_of_suc-le-suc, suc_inj}
use native.Mathlib.Omega.{arith}
use lib.ListN.{length, get_or, set, take, drop}

module _ {A : Type 0} where
  abbrev pub fill : List A → List A → ℕ → List A
  fill xs ys zero = ys
  fill [] ys (suc i) = ys
  fill (x ∷ xs) [] (suc i) = []
  fill (x ∷ xs) (y ∷ ys) (suc i) = x ∷ fill xs ys i

  abbrev cons : A → List A → List A
  cons x xs = x ∷ xs

  pub length_fill : (xs ys : List A) (i : ℕ) → length (fill xs ys i) ≡ length ys
  length_fill xs ys zero = refl
  length_fill [] ys (suc i) = refl
  length_fill (x ∷ xs) [] (suc i) = refl
  length_fill (x ∷ xs) (y ∷ ys) (suc i) = ap suc (length_fill xs ys i)

  pub fill_next : (xs ys : List A) (i : ℕ) (d : A) → i < length xs → i < length ys → set (fill xs ys i) i (get_or xs i d) ≡ fill xs ys (suc i)
  fill_next [] ys i d l m = absurd (not-suc-le-zero l)
  fill_next (x ∷ xs) [] i d l m = absurd (not-suc-le-zero m)
  fill_next (x ∷ xs) (y ∷ ys) zero d l m = refl
  fill_next (x ∷ xs) (y ∷ ys) (suc i) d l m = ap (cons x) (fill_next xs ys i d (le_of_suc-le-suc l) (le_of_suc-le-suc m))

  pub fill_all : (xs ys : List A) → length xs ≡ length ys → fill xs ys (length xs) ≡ xs
  fill_all [] [] e = refl
  fill_all [] (y ∷ ys) e = absurd (omega (arith, e))
  fill_all (x ∷ xs) [] e = absurd (omega (arith, e))
  fill_all (x ∷ xs) (y ∷ ys) e = ap (cons x) (fill_all xs ys (suc_inj e))

  pub fill_is : (xs ys : List A) (i : ℕ) → i ≤ length xs → i ≤ length ys → fill xs ys i ≡ take i xs ++ drop i ys
  fill_is xs ys zero l m = refl
  fill_is [] ys (suc i) l m = absurd (not-suc-le-zero l)
  fill_is (x ∷ xs) [] (suc i) l m = absurd (not-suc-le-zero m)
  fill_is (x ∷ xs) (y ∷ ys) (suc i) l m = ap (cons x) (fill_is xs ys i (le_of_suc-le-suc l) (le_of_suc-le-suc m))
