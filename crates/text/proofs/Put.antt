-- Laws of words and the bytes that they are put in. Assumes nothing.
--     put_word_front       a word's two bytes stand in front
--     put_none, put_more   the bytes of no words, and of a word and those behind it
--     word_here            a word is the number whose two bytes stand there
--     words_more           the words of a word's bytes and what stands behind them
--     word_front           a list of bytes from a place on: the word there, and what stands behind it
use Prim.Native.Nat.{ℕ, suc, ◌+◌, ◌*◌, ◌/◌, ◌%◌, ◌≤◌, ◌<◌}
use mathlib.Core.Path.{◌≡◌, refl, sym, ap, ap₂, ◌∙◌}
use mathlib.Core.List.{List, [], ◌∷◌, ◌++◌, Memᴰ}
use native.Mathlib.Omega.{arith}
use lib.ListN.{length, get_or, drop, length-drop}
use lib.Seq.{drop-cons}
use Rattle.format.specs.Bytes.{Bytes, word_at, words, put_word, put_words}
use Rattle.format.proofs.Bytes.{bytes_nil, bytes_drop, bytes_put, put_word_lem, word_at_lem, word_back, word_bytes}
use Rattle.format.proofs.Bytes.{words_next, words_end, words_put, length_put, put_words_lem}

pub put_word_front : (n : ℕ) (l : List ℕ) → put_word n l ≡ put_word n [] ++ l
put_word_front n l = put_word_lem n l ∙ sym (ap (λ (x : List ℕ). x ++ l) (put_word_lem n []))

pub word_here : (l : List ℕ) (at n : ℕ) → get_or l at 0 ≡ n / 256 → get_or l (at + 1) 0 ≡ n % 256 → word_at l at ≡ n
word_here l at n h k = word_at_lem l at ∙ rw (h, k) (word_back n)

pub words_more : (n : ℕ) (l : List ℕ) → words (put_word n [] ++ l) ≡ n ∷ words l
words_more n l =
    let r : List ℕ = n / 256 ∷ n % 256 ∷ l in
    ap (λ (x : List ℕ). words (x ++ l)) (put_word_lem n []) ∙ words_next r 0 (omega arith)
    ∙ ap (λ (x : ℕ). x ∷ words l) (word_here r 0 n refl refl)

pub word_front :
    (r : List ℕ) → Bytes r → (at : ℕ) → at + 2 ≤ length r → drop at r ≡ put_word (word_at r at) [] ++ drop (at + 2) r
word_front r b at h =
    let i : suc at ≡ at + 1 = omega arith in
    let j : suc (suc at) ≡ at + 2 = omega arith in
    drop-cons r at 0 (omega arith)
    ∙ ap (λ (x : List ℕ). get_or r at 0 ∷ x) (drop-cons r (suc at) 0 (omega arith) ∙ rw (j, i) refl)
    ∙ sym (word_bytes r b at (drop (at + 2) r)) ∙ put_word_front (word_at r at) (drop (at + 2) r)

pub put_none : put_words [] ≡ []
put_none = ap put_words (sym (words_end [] 0 (omega arith))) ∙ put_words_lem [] 0 refl bytes_nil

pub put_more :
    (n : ℕ) (ns : List ℕ) → ((x : ℕ) → Memᴰ x (n ∷ ns) → x < 65536) → put_words (n ∷ ns) ≡ put_word n [] ++ put_words ns
put_more n ns h =
    let r : List ℕ = put_words (n ∷ ns) in
    let b : Bytes r = bytes_put (n ∷ ns) h in
    let size : length r ≡ 2 * suc (length ns) = length_put (n ∷ ns) in
    let two : word_at r 0 ∷ words (drop 2 r) ≡ n ∷ ns = sym (words_next r 0 (omega arith)) ∙ words_put (n ∷ ns) in
    let first : word_at r 0 ≡ n = ap (λ (x : List ℕ). get_or x 0 0) two in
    let behind : words (drop 2 r) ≡ ns = ap (drop 1) two in
    let back : drop 2 r ≡ put_words ns =
    sym (put_words_lem (drop 2 r) (length ns) (omega (arith, length-drop 2 r)) (bytes_drop 2 r b)) ∙ ap put_words behind in
    word_front r b 0 (omega arith) ∙ ap₂ (λ (x : ℕ) (l : List ℕ). put_word x [] ++ l) first back
