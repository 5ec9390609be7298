-- Laws of the parts of a text. Assumes nothing.
--     split_run               a text is its first part and the rest
--     rest_end, rest_more     the rest, where there is no s, and where there is one
--     run_most, run_next, run_stop   the first part: how long, byte by byte, and what stands behind it
--     split_append            the parts of two texts with an s between them
--     run_alone, run_part     the first part alone, and what stands behind it
--     width_split             the bytes that parts take
--     Solid, words_split, words_joined   words without a space, in a row, and read from it
use Prim.Native.Nat.{ℕ, suc, ◌≤◌, ◌<◌}
use mathlib.Core.Path.{◌≡◌, refl, ap, ap₂, ◌∙◌}
use mathlib.Core.Bool.{Bool, true, false, cond}
use mathlib.Core.List.{List, [], ◌∷◌, ◌++◌, append-nil}
use native.Mathlib.Omega.{arith}
use lib.ListN.{length, get_or, take, drop}
use lib.Seq.{drop-cons}
use lib.Dec.{eqb}
use borrow.Author.Tests.{eq-eqb, ne_eqb, eqb-true}
use Rattle.text.specs.Words.{ascii, split_step, split}
use Rattle.text.specs.Spelling.{spaced}
use Rattle.text.specs.Inner.Parts.{run_of, rest, width}

pub run_most : (s : ℕ) (l : List ℕ) → run_of s l ≤ length l
unfolding run_of
run_most s [] = omega arith
run_most s (c ∷ l) = step (eqb c s) (run_most s l) where
  step : (t : Bool) → run_of s l ≤ length l → cond t 0 (suc (run_of s l)) ≤ suc (length l)
  step true h = omega arith
  step false h = omega arith

pub split_run : (s : ℕ) (l : List ℕ) → split s l ≡ take (run_of s l) l ∷ rest s l
unfolding split run_of rest split_step
split_run s [] = refl
split_run s (c ∷ l) = step (eqb c s) (split_run s l) where
  step :
      (t : Bool) → split s l ≡ take (run_of s l) l ∷ rest s l
      → split_step t c (split s l) ≡ take (cond t 0 (suc (run_of s l))) (c ∷ l) ∷ cond t (split s l) (rest s l)
  step true h = refl
  step false h = rw h

pub rest_end : (s : ℕ) (l : List ℕ) → length l ≤ run_of s l → rest s l ≡ []
unfolding run_of rest
rest_end s [] h = refl
rest_end s (c ∷ l) h = step (eqb c s) (λ k. rest_end s l k) h where
  step : (t : Bool) → (length l ≤ run_of s l → rest s l ≡ []) → suc (length l) ≤ cond t 0 (suc (run_of s l)) → cond t (split s l) (rest s l) ≡ []
  step true f k = absurd (omega arith)
  step false f k = f (omega arith)

pub rest_more : (s : ℕ) (l : List ℕ) → run_of s l < length l → rest s l ≡ split s (drop (suc (run_of s l)) l)
unfolding run_of rest
rest_more s [] h = absurd (omega arith)
rest_more s (c ∷ l) h = step (eqb c s) (λ k. rest_more s l k) h where
  step :
      (t : Bool) → (run_of s l < length l → rest s l ≡ split s (drop (suc (run_of s l)) l)) → cond t 0 (suc (run_of s l)) < suc (length l)
      → cond t (split s l) (rest s l) ≡ split s (drop (cond t 0 (suc (run_of s l))) l)
  step true f k = refl
  step false f k = f (omega arith)

pub run_next : (s : ℕ) (l : List ℕ) (i : ℕ) → i < length l → (get_or l i 0 ≡ s → ⊥) → run_of s (drop i l) ≡ suc (run_of s (drop (suc i) l))
unfolding run_of
run_next s l i h e = rw (drop-cons l i 0 h, ne_eqb (get_or l i 0) s e)

-- what stands behind the first part
pub run_stop : (s : ℕ) (l : List ℕ) → run_of s l < length l → get_or l (run_of s l) 0 ≡ s
unfolding run_of
run_stop s [] h = absurd (omega arith)
run_stop s (c ∷ l) h = step (eqb c s) refl (run_stop s l) h where
  step :
      (t : Bool) → eqb c s ≡ t → (run_of s l < length l → get_or l (run_of s l) 0 ≡ s) → cond t 0 (suc (run_of s l)) < suc (length l)
      → get_or (c ∷ l) (cond t 0 (suc (run_of s l))) 0 ≡ s
  step true e f k = eqb-true c s e
  step false e f k = f (omega arith)

-- ---- parts of two texts with an s between them

pub split_append : (s : ℕ) (t u : List ℕ) → split s (t ++ (s ∷ u)) ≡ split s t ++ split s u
unfolding split split_step
split_append s [] u = rw (eq-eqb s s refl)
split_append s (c ∷ t) u = rw (split_append s t u, split_run s t) (step (eqb c s)) where
  step : (x : Bool) → split_step x c ((take (run_of s t) t ∷ rest s t) ++ split s u) ≡ split_step x c (take (run_of s t) t ∷ rest s t) ++ split s u
  step true = refl
  step false = refl

-- the first part alone, and what stands behind it
pub run_alone : (s : ℕ) (l : List ℕ) → split s (take (run_of s l) l) ≡ take (run_of s l) l ∷ []
unfolding split split_step run_of
run_alone s [] = refl
run_alone s (c ∷ l) = step (eqb c s) refl (run_alone s l) where
  step :
      (t : Bool) → eqb c s ≡ t → split s (take (run_of s l) l) ≡ take (run_of s l) l ∷ []
      → split s (take (cond t 0 (suc (run_of s l))) (c ∷ l)) ≡ take (cond t 0 (suc (run_of s l))) (c ∷ l) ∷ []
  step true e h = refl
  step false e h = rw (e, h)

pub run_part : (s : ℕ) (l : List ℕ) → run_of s l < length l → l ≡ take (run_of s l) l ++ (s ∷ drop (suc (run_of s l)) l)
unfolding run_of
run_part s [] h = absurd (omega arith)
run_part s (c ∷ l) h = step (eqb c s) refl (λ k. run_part s l k) h where
  step :
      (t : Bool) → eqb c s ≡ t → (run_of s l < length l → l ≡ take (run_of s l) l ++ (s ∷ drop (suc (run_of s l)) l))
      → cond t 0 (suc (run_of s l)) < suc (length l)
      → c ∷ l ≡ take (cond t 0 (suc (run_of s l))) (c ∷ l) ++ (s ∷ drop (cond t 0 (suc (run_of s l))) l)
  step true e f k = ap (λ (x : ℕ). x ∷ l) (eqb-true c s e)
  step false e f k = ap (λ (x : List ℕ). c ∷ x) (f (omega arith))

-- an s behind each part, the last included
pub width_split : (s : ℕ) (l : List ℕ) → width (split s l) ≡ suc (length l)
unfolding width split split_step
width_split s [] = refl
width_split s (c ∷ l) = rw (split_run s l) (step (eqb c s) (rw (split_run s l) at (width_split s l))) where
  step :
      (t : Bool) → width (take (run_of s l) l ∷ rest s l) ≡ suc (length l)
      → width (split_step t c (take (run_of s l) l ∷ rest s l)) ≡ suc (suc (length l))
  step true h = omega arith
  step false h = omega arith

-- ---- the words of a row

abbrev pub Solid : List (List ℕ) → Type 0
Solid [] = Unit
Solid (w ∷ ws) = (split 32 w ≡ w ∷ []) × Solid ws

pub words_split : (w : List ℕ) (ws : List (List ℕ)) → Solid (w ∷ ws) → split 32 (w ++ spaced ws) ≡ w ∷ ws
unfolding spaced ascii
words_split w [] s = ap (split 32) (append-nil w) ∙ s.0
words_split w (v ∷ ws) s = split_append 32 w (v ++ spaced ws) ∙ ap₂ ◌++◌ s.0 (words_split v ws s.1)

pub words_joined : (l : List ℕ) → l ≡ take (run_of 32 l) l ++ spaced (rest 32 l)
unfolding run_of rest spaced ascii
words_joined [] = refl
words_joined (c ∷ l) = step (eqb c 32) refl (words_joined l) where
  step :
      (t : Bool) → eqb c 32 ≡ t → l ≡ take (run_of 32 l) l ++ spaced (rest 32 l)
      → c ∷ l ≡ take (cond t 0 (suc (run_of 32 l))) (c ∷ l) ++ spaced (cond t (split 32 l) (rest 32 l))
  step true e h = rw (split_run 32 l) (ap₂ ◌∷◌ (eqb-true c 32 e) h)
  step false e h = ap (λ (x : List ℕ). c ∷ x) h
