-- Laws of a text as it is read, word by word. Assumes nothing.
--     word_most                  a word is within what is left
--     word_none, word_stop       no word: at the end, and at a space or a line feed
--     word_next                  a byte of a word, and the word behind it
--     words_more                 behind a space, the row goes on with its next word
--     words_last                 at a line feed and at the end, the word was the row's last
use Prim.Native.Nat.{ℕ, suc, ◌+◌, ◌≤◌, ◌<◌}
use mathlib.Core.Path.{◌≡◌, refl, ap, ◌∙◌}
use mathlib.Core.Bool.{Bool, true, false, cond, ◌||◌}
use mathlib.Core.List.{List, [], ◌∷◌}
use native.Mathlib.Omega.{arith}
use lib.ListN.{length, get_or, take, drop, drop_of_length-le}
use lib.Seq.{drop-cons}
use lib.Dec.{ltb, eqb}
use borrow.Author.Tests.{ne_eqb, eqb-true, eqb-false, ltb-true, ltb-false}
use Rattle.text.specs.Words.{split_step, split}
use Rattle.text.specs.Inner.Parts.{run_of}
use Rattle.text.specs.Inner.Read.{row_of, word_size, word_of}

pub word_most : (l : List ℕ) → word_size l ≤ length l
unfolding word_size
word_most [] = omega arith
word_most (c ∷ l) = step (eqb c 32 || eqb c 10) (word_most l) where
  step : (t : Bool) → word_size l ≤ length l → cond t 0 (suc (word_size l)) ≤ suc (length l)
  step true h = omega arith
  step false h = omega arith

module _ (l : List ℕ) (i : ℕ) where
  pub word_none : length l ≤ i → word_size (drop i l) ≡ 0
  unfolding word_size
  word_none h = rw (drop_of_length-le l h)

  pub word_space : i < length l → get_or l i 0 ≡ 32 → word_size (drop i l) ≡ 0
  unfolding word_size
  word_space h e = rw (drop-cons l i 0 h, e)

  pub word_feed : i < length l → get_or l i 0 ≡ 10 → word_size (drop i l) ≡ 0
  unfolding word_size
  word_feed h e = rw (drop-cons l i 0 h, e)

  module _ (h : i < length l) (s : get_or l i 0 ≡ 32 → ⊥) (f : get_or l i 0 ≡ 10 → ⊥) where
    pub word_next : word_size (drop i l) ≡ suc (word_size (drop (suc i) l))
    unfolding word_size
    word_next = rw (drop-cons l i 0 h, ne_eqb (get_or l i 0) 32 s, ne_eqb (get_or l i 0) 10 f)

    pub word_byte : word_of (drop i l) ≡ get_or l i 0 ∷ word_of (drop (suc i) l)
    unfolding word_of
    word_byte = ap (λ (n : ℕ). take n (drop i l)) word_next ∙ rw (drop-cons l i 0 h)

pub word_empty : (l : List ℕ) → word_size l ≡ 0 → word_of l ≡ []
unfolding word_of
word_empty l e = rw e

-- ---- the words of a row

pub words_more :
    (l : List ℕ) → word_size l < length l → get_or l (word_size l) 0 ≡ 32
    → (split 32 (row_of l) ≡ word_of l ∷ split 32 (row_of (drop (suc (word_size l)) l)))
    × (run_of 10 l ≡ suc (word_size l) + run_of 10 (drop (suc (word_size l)) l))
unfolding word_size word_of row_of run_of split split_step
words_more [] h e = absurd (omega arith)
words_more (c ∷ l) h e = byte (eqb c 32) (eqb c 10) refl refl (words_more l) h e where
  byte :
      (s f : Bool) → eqb c 32 ≡ s → eqb c 10 ≡ f
      → (word_size l < length l → get_or l (word_size l) 0 ≡ 32
      → (split 32 (row_of l) ≡ word_of l ∷ split 32 (row_of (drop (suc (word_size l)) l)))
      × (run_of 10 l ≡ suc (word_size l) + run_of 10 (drop (suc (word_size l)) l)))
      → cond (s || f) 0 (suc (word_size l)) < suc (length l) → get_or (c ∷ l) (cond (s || f) 0 (suc (word_size l))) 0 ≡ 32
      → (split 32 (take (cond f 0 (suc (run_of 10 l))) (c ∷ l))
      ≡ take (cond (s || f) 0 (suc (word_size l))) (c ∷ l) ∷ split 32 (row_of (drop (cond (s || f) 0 (suc (word_size l))) l)))
      × (cond f 0 (suc (run_of 10 l)) ≡ suc (cond (s || f) 0 (suc (word_size l))) + run_of 10 (drop (cond (s || f) 0 (suc (word_size l))) l))
  byte true true p q ih k d = let a = eqb-true c 32 p in let b = eqb-true c 10 q in absurd (omega arith)
  byte true false p q ih k d = (rw p, omega arith)
  byte false true p q ih k d = let b = eqb-true c 10 q in absurd (omega arith)
  byte false false p q ih k d = let r = ih (omega arith) d in (rw (p, r.0), omega (arith, r.1))

-- at the end of the text, or at a line feed
pub words_last :
    (l : List ℕ) → (word_size l < length l → get_or l (word_size l) 0 ≡ 10)
    → (split 32 (row_of l) ≡ word_of l ∷ []) × (run_of 10 l ≡ word_size l)
unfolding word_size word_of row_of run_of split split_step
words_last [] e = (refl, refl)
words_last (c ∷ l) e = byte (eqb c 32) (eqb c 10) refl refl (words_last l) e where
  byte :
      (s f : Bool) → eqb c 32 ≡ s → eqb c 10 ≡ f
      → ((word_size l < length l → get_or l (word_size l) 0 ≡ 10) → (split 32 (row_of l) ≡ word_of l ∷ []) × (run_of 10 l ≡ word_size l))
      → (cond (s || f) 0 (suc (word_size l)) < suc (length l) → get_or (c ∷ l) (cond (s || f) 0 (suc (word_size l))) 0 ≡ 10)
      → (split 32 (take (cond f 0 (suc (run_of 10 l))) (c ∷ l)) ≡ take (cond (s || f) 0 (suc (word_size l))) (c ∷ l) ∷ [])
      × (cond f 0 (suc (run_of 10 l)) ≡ cond (s || f) 0 (suc (word_size l)))
  byte true true p q ih k = (refl, refl)
  byte true false p q ih k = let a = eqb-true c 32 p in let b = k (omega arith) in absurd (omega arith)
  byte false true p q ih k = (refl, refl)
  byte false false p q ih k = let r = ih (λ h. k (omega arith)) in (rw (p, r.0), omega (arith, r.1))

-- a word that is not at the end stops at a space or at a line feed
pub word_stop : (l : List ℕ) → word_size l < length l → (get_or l (word_size l) 0 ≡ 10 → ⊥) → get_or l (word_size l) 0 ≡ 32
unfolding word_size
word_stop [] h f = absurd (omega arith)
word_stop (c ∷ l) h f = byte (eqb c 32) (eqb c 10) refl refl (word_stop l) h f where
  byte :
      (s t : Bool) → eqb c 32 ≡ s → eqb c 10 ≡ t
      → (word_size l < length l → (get_or l (word_size l) 0 ≡ 10 → ⊥) → get_or l (word_size l) 0 ≡ 32)
      → cond (s || t) 0 (suc (word_size l)) < suc (length l) → (get_or (c ∷ l) (cond (s || t) 0 (suc (word_size l))) 0 ≡ 10 → ⊥)
      → get_or (c ∷ l) (cond (s || t) 0 (suc (word_size l))) 0 ≡ 32
  byte true t p q ih k n = eqb-true c 32 p
  byte false true p q ih k n = absurd (n (eqb-true c 10 q))
  byte false false p q ih k n = ih (omega arith) n

-- the first word of a row
pub words_first : (l : List ℕ) → (ws : List (List ℕ)) × (split 32 (row_of l) ≡ word_of l ∷ ws)
words_first l = size (ltb (word_size l) (length l)) refl where
  byte : word_size l < length l → (t : Bool) → eqb (get_or l (word_size l) 0) 10 ≡ t → (ws : List (List ℕ)) × (split 32 (row_of l) ≡ word_of l ∷ ws)
  byte h true e = ([], (words_last l (λ _. eqb-true (get_or l (word_size l) 0) 10 e)).0)
  byte h false e = (split 32 (row_of (drop (suc (word_size l)) l)), (words_more l h (word_stop l h (eqb-false (get_or l (word_size l) 0) 10 e))).0)

  size : (t : Bool) → ltb (word_size l) (length l) ≡ t → (ws : List (List ℕ)) × (split 32 (row_of l) ≡ word_of l ∷ ws)
  size true e = byte (ltb-true (word_size l) (length l) e) (eqb (get_or l (word_size l) 0) 10) refl
  size false e = ([], (words_last l (λ h. absurd (omega (arith, h, ltb-false (word_size l) (length l) e)))).0)
