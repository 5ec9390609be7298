-- Laws of an array's elements: of one that holds the same everywhere, of one more element stored, of one whose front is filled,
-- and of one in chunks. Assumes nothing.
use Prim.Native.Nat.{ℕ, zero, suc, ◌*◌, ◌≤◌, ◌<◌}
use mathlib.Core.Path.{◌≡◌, refl, sym, subst, ap, ◌∙◌}
use mathlib.Core.Bool.{Bool, true, false}
use mathlib.Core.List.{List, [], ◌∷◌, ◌++◌}
use native.Mathlib.Nat.{not-suc-le-zero, le_of_suc-le-suc}
use lib.ListN.{length, get_or, set, replicate, take, drop}
use lib.Seq.{get_or-set_same, get_or-set_other, set_out}
use lib.Dec.{eqb, ltb}
use Rattle.std.specs.Simd.{first_chunks}
use Rattle.std.proofs.Common.{add_comm}
use Rattle.std.proofs.Math.Nat.{mul-suc, mul-zero}
use Rattle.std.proofs.lemmas.List.{drop-drop}
use Rattle.runs.proofs.Fill.{fill}
use borrow.Author.Tests.{eqb-true, eqb-false, ltb-true, ltb-false}

module _ {A : Type 0} (d : A) where
  pub blank : (n g : ℕ) → get_or (replicate n d) g d ≡ d
  blank zero g = refl
  blank (suc n) zero = refl
  blank (suc n) (suc g) = blank n g

  -- what was stored in it is stored over
  pub set_back : (n g : ℕ) (v : A) → set (set (replicate n d) g v) g d ≡ replicate n d
  set_back zero g v = refl
  set_back (suc n) zero v = refl
  set_back (suc n) (suc g) v = ap {B = List A} (λ xs. d ∷ xs) (set_back n g v)

  -- what holds of each element, and of v at g, holds of each once v is stored at g
  pub by_set : (P : ℕ → A → Type 0) (xs : List A) (g : ℕ) (v : A) → ((j : ℕ) → P j (get_or xs j d)) → P g v → (i : ℕ)
      → P i (get_or (set xs g v) i d)
  by_set P xs g v old new i = go (eqb i g) refl (ltb g (length xs)) refl
    where
      go : (b : Bool) → eqb i g ≡ b → (c : Bool) → ltb g (length xs) ≡ c → P i (get_or (set xs g v) i d)
      go false p c q = subst (P i) (sym (get_or-set_other xs g i v d (eqb-false i g p))) (old i)
      go true p true q =
          let r : i ≡ g = eqb-true i g p in
          subst (λ (j : ℕ). P j (get_or (set xs g v) j d)) (sym r)
          (subst (P g) (sym (get_or-set_same xs g v d (ltb-true g (length xs) q))) new)
      go true p false q = subst (λ (ys : List A). P i (get_or ys i d)) (sym (set_out xs g v (ltb-false g (length xs) q)))
          (old i)

-- a front that is filled, before the rest
pub fill_front : {A : Type 0} (xs ys : List A) (n : ℕ) → n ≤ length xs → n ≤ length ys
    → fill xs (take n ys) n ++ drop n ys ≡ fill xs ys n
fill_front xs ys zero l m = refl
fill_front [] ys (suc n) l m = absurd (not-suc-le-zero l)
fill_front (x ∷ xs) [] (suc n) l m = absurd (not-suc-le-zero m)
fill_front {A} (x ∷ xs) (y ∷ ys) (suc n) l m =
    ap {B = List A} (λ zs. x ∷ zs) (fill_front xs ys n (le_of_suc-le-suc l) (le_of_suc-le-suc m))

-- ---- a list in chunks of one length

pub chunk_nth : (n k i : ℕ) (xs : List ℕ) → i < k → get_or (first_chunks n k xs) i [] ≡ take n (drop (n * i) xs)
chunk_nth n zero i xs h = absurd (not-suc-le-zero h)
chunk_nth n (suc k) zero xs h = ap (λ j. take n (drop j xs)) (sym (mul-zero n))
chunk_nth n (suc k) (suc i) xs h =
    chunk_nth n k i (drop n xs) (le_of_suc-le-suc h) ∙ ap (take n) (drop-drop (n * i) n xs ∙ ap (λ j. drop j xs) (add_comm n (n * i) ∙ sym (mul-suc n i)))

pub chunks_many : (n k : ℕ) (xs : List ℕ) → length (first_chunks n k xs) ≡ k
chunks_many n zero xs = refl
chunks_many n (suc k) xs = ap suc (chunks_many n k (drop n xs))
