-- Laws of byte lists and of the words in them. Assumes nothing.
use Prim.Native.Nat.{ℕ, zero, suc, ◌+◌, ◌*◌, ◌/◌, ◌%◌, ◌≤◌, ◌<◌}
use mathlib.Core.Path.{◌≡◌, refl, ap, ap₂, ◌∙◌}
use mathlib.Core.List.{List, [], ◌∷◌, ◌++◌, flatten, Memᴰ}
use mathlib.Core.Bool.{Bool, true, ◌&&◌}
use native.Mathlib.Omega.{arith}
use native.Mathlib.Nat.{add_assoc}
use lib.ListN.{length, get_or, take, drop, length-drop, get_or-append}
use lib.Seq.{get_or-take, get_or-drop, drop-cons}
use lib.Dec.{ltb}
use borrow.Author.Tests.{ltb-true}
use Rattle.format.specs.Bytes.{Bytes, word_at, words, put_word, put_words}
use Rattle.format.proofs.Tests.{both}

pub bytes_nil : Bytes []
bytes_nil zero = omega arith
bytes_nil (suc i) = omega arith

pub bytes_cons : (x : ℕ) (l : List ℕ) → x < 256 → Bytes l → Bytes (x ∷ l)
bytes_cons x l h b zero = h
bytes_cons x l h b (suc i) = b i

-- a list that is written out, by a test
abbrev pub all_bytes : List ℕ → Bool
all_bytes [] = true
all_bytes (x ∷ l) = ltb x 256 && all_bytes l

pub bytes_of : (l : List ℕ) → all_bytes l ≡ true → Bytes l
bytes_of [] e = bytes_nil
bytes_of (x ∷ l) e = let q = both (ltb x 256) (all_bytes l) e in bytes_cons x l (ltb-true x 256 q.0) (bytes_of l q.1)

bytes_tail : (x : ℕ) (l : List ℕ) → Bytes (x ∷ l) → Bytes l
bytes_tail x l b i = b (suc i)

pub bytes_append : (a b : List ℕ) → Bytes a → Bytes b → Bytes (a ++ b)
bytes_append [] b h k = k
bytes_append (x ∷ a) b h k = bytes_cons x (a ++ b) (h 0) (bytes_append a b (bytes_tail x a h) k)

pub bytes_drop : (n : ℕ) (l : List ℕ) → Bytes l → Bytes (drop n l)
bytes_drop n l b i = rw (get_or-drop n l i 0) (b (n + i))

pub bytes_take : (n : ℕ) (l : List ℕ) → Bytes l → Bytes (take n l)
bytes_take zero l b = bytes_nil
bytes_take (suc n) [] b = bytes_nil
bytes_take (suc n) (x ∷ l) b = bytes_cons x (take n l) (b 0) (bytes_take n l (bytes_tail x l b))

pub bytes_flatten : (rs : List (List ℕ)) → ((r : List ℕ) → Memᴰ r rs → Bytes r) → Bytes (flatten rs)
unfolding flatten
bytes_flatten [] h = bytes_nil
bytes_flatten (r ∷ rs) h = bytes_append r (flatten rs) (h r (Memᴰ.head refl)) (bytes_flatten rs (λ z m. h z (Memᴰ.tail m)))

pub put_word_lem : (n : ℕ) (l : List ℕ) → put_word n l ≡ n / 256 ∷ n % 256 ∷ l
unfolding put_word
put_word_lem n l = refl

pub bytes_word : (n : ℕ) (l : List ℕ) → n < 65536 → Bytes l → Bytes (put_word n l)
unfolding put_word
bytes_word n l h b = bytes_cons (n / 256) (n % 256 ∷ l) (omega arith) (bytes_cons (n % 256) l (omega arith) b)

-- a word's bytes are those that it was read from
pub word_bytes : (l : List ℕ) → Bytes l → (at : ℕ) (t : List ℕ) → put_word (word_at l at) t ≡ get_or l at 0 ∷ (get_or l (at + 1) 0 ∷ t)
unfolding word_at put_word
word_bytes l b at t =
    let k = b (at + 1) in
    let high : (get_or l at 0 * 256 + get_or l (at + 1) 0) / 256 ≡ get_or l at 0 = omega arith in
    let low : (get_or l at 0 * 256 + get_or l (at + 1) 0) % 256 ≡ get_or l (at + 1) 0 = omega arith in
    rw (high, low)

pub word_back : (n : ℕ) → n / 256 * 256 + n % 256 ≡ n
word_back n = omega arith

pub word_at_lem : (l : List ℕ) (at : ℕ) → word_at l at ≡ get_or l at 0 * 256 + get_or l (at + 1) 0
unfolding word_at
word_at_lem l at = refl

pub word_small : (l : List ℕ) → Bytes l → (at : ℕ) → word_at l at < 65536
word_small l b at = omega (arith, word_at_lem l at, b at, b (at + 1))

-- a word of a part of a list
pub word_drop : (n : ℕ) (l : List ℕ) (i : ℕ) → word_at (drop n l) i ≡ word_at l (n + i)
unfolding word_at
word_drop n l i = rw (get_or-drop n l i 0, get_or-drop n l (i + 1) 0, add_assoc)

pub word_take : (n : ℕ) (l : List ℕ) (i : ℕ) → i + 1 < n → word_at (take n l) i ≡ word_at l i
unfolding word_at
word_take n l i h = rw (get_or-take n l i 0 (omega arith), get_or-take n l (i + 1) 0 h)

pub word_append : (l t : List ℕ) (i : ℕ) → i + 1 < length l → word_at (l ++ t) i ≡ word_at l i
unfolding word_at
word_append l t i h = rw (get_or-append l t 0 i (omega arith), get_or-append l t 0 (i + 1) h)

pub length_words : (l : List ℕ) → length (words l) ≡ length l / 2
unfolding words
length_words [] = omega arith
length_words (a ∷ []) = omega arith
length_words (a ∷ b ∷ l) = let e = length_words l in omega arith

drop_two : (l : List ℕ) (at : ℕ) → at + 2 ≤ length l → drop at l ≡ get_or l at 0 ∷ (get_or l (at + 1) 0 ∷ drop (at + 2) l)
drop_two l at h =
    let a : suc at ≡ at + 1 = omega arith in
    let b : suc (suc at) ≡ at + 2 = omega arith in
    drop-cons l at 0 (omega arith) ∙ ap (λ (xs : List ℕ). get_or l at 0 ∷ xs) (drop-cons l (suc at) 0 (omega arith) ∙ rw (b, a))

-- the words from a place on: the one there and those behind it, or none
pub words_next : (l : List ℕ) (at : ℕ) → at + 1 < length l → words (drop at l) ≡ word_at l at ∷ words (drop (at + 2) l)
unfolding words word_at
words_next l at h = rw (drop_two l at (omega arith))

words_few : (l : List ℕ) → length l ≤ 1 → words l ≡ []
unfolding words
words_few [] h = refl
words_few (a ∷ []) h = refl
words_few (a ∷ b ∷ l) h = absurd (omega arith)

pub words_end : (l : List ℕ) (at : ℕ) → length l ≤ at + 1 → words (drop at l) ≡ []
words_end l at h = words_few (drop at l) (omega (arith, length-drop at l))

-- word i of the words from a place on
pub words_nth : (l : List ℕ) (at i : ℕ) → i < length (words (drop at l)) → get_or (words (drop at l)) i 0 ≡ word_at l (at + 2 * i)
words_nth l at zero h =
    let k : at + 1 < length l = omega (arith, length_words (drop at l), length-drop at l) in
    let z : at + 2 * 0 ≡ at = omega arith in
    rw (words_next l at k, z)
words_nth l at (suc i) h =
    let k : at + 1 < length l = omega (arith, length_words (drop at l), length-drop at l) in
    let e : words (drop at l) ≡ word_at l at ∷ words (drop (at + 2) l) = words_next l at k in
    let z : at + 2 + 2 * i ≡ at + 2 * suc i = omega arith in
    rw e (words_nth l (at + 2) i (omega (arith, ap length e)) ∙ ap (word_at l) z)

-- ---- words put

pub words_put : (ns : List ℕ) → words (put_words ns) ≡ ns
unfolding words put_words put_word
words_put [] = refl
words_put (n ∷ ns) = ap₂ ◌∷◌ (word_back n) (words_put ns)

pub length_put : (ns : List ℕ) → length (put_words ns) ≡ 2 * length ns
unfolding put_words put_word
length_put [] = refl
length_put (n ∷ ns) = omega (arith, length_put ns)

pub bytes_put : (ns : List ℕ) → ((n : ℕ) → Memᴰ n ns → n < 65536) → Bytes (put_words ns)
unfolding put_words
bytes_put [] h = bytes_nil
bytes_put (n ∷ ns) h = bytes_word n _ (h n (Memᴰ.head refl)) (bytes_put ns (λ u m. h u (Memᴰ.tail m)))

-- a list of bytes of even length is put back from its words
pub put_words_lem : (l : List ℕ) (n : ℕ) → length l ≡ 2 * n → Bytes l → put_words (words l) ≡ l
unfolding words put_words word_at
put_words_lem [] n e b = refl
put_words_lem (x ∷ []) n e b = absurd (omega arith)
put_words_lem (x ∷ y ∷ l) zero e b = absurd (omega arith)
put_words_lem (x ∷ y ∷ l) (suc n) e b =
    ap (put_word (x * 256 + y)) (put_words_lem l n (omega arith) (bytes_drop 2 (x ∷ y ∷ l) b)) ∙ word_bytes (x ∷ y ∷ l) b 0 l
