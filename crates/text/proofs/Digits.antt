-- Laws of decimal numbers: a word says a number exactly where it is that number's spelling. Assumes nothing.
--     decimal_spelled          a number's word says it
--     spelled_decimal          and no other word does
--     switch_spelled           a switch's digits are its number's word
--     number_word_solid        a number's word has no space
--     number_spelled, word_number       a number in its range, and its word
--     Numbered, lettered_word, word_lettered   the same behind a letter
--     letter_no_number         no number starts with a letter
use Prim.Native.Nat.{ℕ, zero, suc, ◌+◌, ◌-◌, ◌*◌, ◌/◌, ◌%◌, ◌≤◌, ◌<◌}
use mathlib.Core.Path.{◌≡◌, refl, sym, ap, ap₂, ◌∙◌}
use mathlib.Core.Bool.{Bool, true, false, cond}
use Rattle.std.specs.Prelude.{None, Some}
use mathlib.Core.List.{List, [], ◌∷◌, ◌++◌, append-nil}
use native.Mathlib.Omega.{arith}
use native.Mathlib.Nat.{add-zero}
use lib.ListN.{length}
use lib.Seq.{append_snoc}
use lib.Dec.{ltb, eqb}
use borrow.Author.Tests.{lt-ltb, le-ltb, le-leb, lt-leb, eq-eqb, ne_eqb, ltb-true, ltb-false, eqb-false}
use Rattle.format.proofs.Chain.{some_not_none}
use Rattle.text.specs.Words.{split_step, split, is_digit, digits_from, number_of, up_to, number_to, above, lettered}
use Rattle.text.specs.Claims.{switch_digits}
use Rattle.text.specs.Spelling.{digits_in, number_word}
use Rattle.text.proofs.Words.{refused_choice, digit_first, decimal_short, number_digits, number_is, number_most, lettered_is}

-- ---- the digits of a number write it

digit_step : (n c : ℕ) (w : List ℕ) → 48 ≤ c → c ≤ 57 → digits_from n (c ∷ w) ≡ digits_from (n * 10 + (c - 48)) w
unfolding digits_from is_digit
digit_step n c w h k = rw (le-leb 48 c h, le-leb c 57 k)

digits_last :
    (w : List ℕ) (m n d : ℕ) → digits_from m w ≡ Some n → d ≤ 9
    → digits_from m (w ++ ((48 + d) ∷ [])) ≡ Some (n * 10 + d)
unfolding digits_from
digits_last [] m n d e h = let i : m ≡ n = cc in digit_step m (48 + d) [] (omega arith) (omega arith) ∙ ap Some (omega arith)
digits_last (c ∷ w) m n d e h =
    let q = digit_first m c w n e in
    digit_step m c (w ++ ((48 + d) ∷ [])) q.least q.most ∙ digits_last w (m * 10 + (c - 48)) n d q.rest h

decimal_last :
    (w : List ℕ) (m d : ℕ) → number_of w ≡ Some m → 1 ≤ m → d ≤ 9
    → number_of (w ++ ((48 + d) ∷ [])) ≡ Some (m * 10 + d)
unfolding number_of digits_from
decimal_last [] m d e g h = some_not_none (sym e)
decimal_last (c ∷ []) m d e g h =
    let q = digit_first 0 c [] m e in
    let z : Some (0 * 10 + (c - 48)) ≡ Some m = q.rest in
    let i : 0 * 10 + (c - 48) ≡ m = cc in
    let j : c ≡ 48 → ⊥ = λ k. omega (arith, k) in
    rw (ne_eqb c 48 j) (digits_last (c ∷ []) 0 m d e h)
decimal_last (c ∷ c₁ ∷ w) m d e g h =
    refused_choice (eqb c 48) (digits_from 0 (c ∷ c₁ ∷ w)) m e (λ t q. rw t (digits_last (c ∷ c₁ ∷ w) 0 m d q h))

decimal_one : (n : ℕ) → n < 10 → number_of ((48 + n) ∷ []) ≡ Some n
unfolding number_of digits_from
decimal_one n h = digit_step 0 (48 + n) [] (omega arith) (omega arith) ∙ ap Some (omega arith)

decimal_more :
    (k bound : ℕ) → ((n : ℕ) → n < bound → number_of (digits_in k n) ≡ Some n) → (n : ℕ) → n < 10 * bound
    → number_of (digits_in (suc k) n) ≡ Some n
unfolding digits_in
decimal_more k bound f n h = step (ltb n 10) refl where
  step :
      (t : Bool) → ltb n 10 ≡ t → number_of (cond t ((48 + n) ∷ []) (digits_in k (n / 10) ++ ((48 + n % 10) ∷ []))) ≡ Some n
  step true e = decimal_one n (ltb-true n 10 e)
  step false e =
      let l = ltb-false n 10 e in
      decimal_last (digits_in k (n / 10)) (n / 10) (n % 10) (f (n / 10) (omega arith))
      (omega arith) (omega arith) ∙ ap Some (omega arith)

pub decimal_spelled : (n : ℕ) → n < 100000 → number_of (number_word n) ≡ Some n
unfolding number_word digits_in
decimal_spelled = decimal_more 3 10000 (decimal_more 2 1000 (decimal_more 1 100 (decimal_more 0 10 decimal_one)))

-- ---- and no others do

digits_one : (k n : ℕ) → n < 10 → digits_in k n ≡ (48 + n) ∷ []
unfolding digits_in
digits_one zero n h = refl
digits_one (suc k) n h = rw (lt-ltb n 10 h)

digits_next : (k m c : ℕ) → 1 ≤ m → 48 ≤ c → c ≤ 57 → digits_in (suc k) (m * 10 + (c - 48)) ≡ digits_in k m ++ (c ∷ [])
unfolding digits_in
digits_next k m c h low high =
    let a : (m * 10 + (c - 48)) / 10 ≡ m = omega arith in
    let b : 48 + (m * 10 + (c - 48)) % 10 ≡ c = omega arith in
    rw (le-ltb (m * 10 + (c - 48)) 10 (omega arith)) (ap₂ (λ (x y : ℕ). digits_in k x ++ (y ∷ [])) a b)

digits_behind : (w : List ℕ) (k m n : ℕ) → 1 ≤ m → digits_from m w ≡ Some n → digits_in (k + length w) n ≡ digits_in k m ++ w
unfolding digits_from
digits_behind [] k m n h e = let i : m ≡ n = cc in rw (add-zero k, append-nil (digits_in k m), i)
digits_behind (c ∷ w) k m n h e =
    let q = digit_first m c w n e in
    let i : k + suc (length w) ≡ suc k + length w = omega arith in
    ap (λ (j : ℕ). digits_in j n) i ∙ digits_behind w (suc k) (m * 10 + (c - 48)) n (omega arith) q.rest
    ∙ ap (λ (x : List ℕ). x ++ w) (digits_next k m c h q.least q.most) ∙ append_snoc (digits_in k m) c w

pub spelled_decimal : (w : List ℕ) (n : ℕ) → number_of w ≡ Some n → n ≤ 65535 → w ≡ number_word n
unfolding number_of digits_from number_word
spelled_decimal [] n e h = some_not_none (sym e)
spelled_decimal (c ∷ []) n e h =
    let d = digit_first 0 c [] n e in
    let z : Some (0 * 10 + (c - 48)) ≡ Some n = d.rest in
    let i : 0 * 10 + (c - 48) ≡ n = cc in
    let k : c ≡ 48 + n = omega (arith, d.least) in
    ap (λ (x : ℕ). x ∷ []) k ∙ sym (digits_one 4 n (omega (arith, d.most)))
spelled_decimal (c ∷ c₁ ∷ w) n e h =
    let short = decimal_short (c ∷ c₁ ∷ w) n e h in
    refused_choice (eqb c 48) (digits_from 0 (c ∷ c₁ ∷ w)) n e
    (λ t q.
    let d = digit_first 0 c (c₁ ∷ w) n q in
    let j : c ≡ 48 → ⊥ = eqb-false c 48 t in
    let m : ℕ = 0 * 10 + (c - 48) in
    let some_digit : 1 ≤ m = omega (arith, d.least, nonzero c d.least j) in
    let one : digits_in (3 - length w) m ≡ c ∷ [] =
    digits_one (3 - length w) m (omega (arith, d.most)) ∙ ap (λ (x : ℕ). x ∷ []) (omega (arith, d.least)) in
    let size : 3 - length w + suc (length w) ≡ 4 = omega arith in
    sym (ap (λ (x : ℕ). digits_in x n) (sym size) ∙ digits_behind (c₁ ∷ w) (3 - length w) m n some_digit d.rest
    ∙ ap (λ (x : List ℕ). x ++ (c₁ ∷ w)) one))
  where
    nonzero : (c : ℕ) → 48 ≤ c → (c ≡ 48 → ⊥) → 49 ≤ c
    nonzero c h f = step (ltb c 49) refl where
      step : (t : Bool) → ltb c 49 ≡ t → 49 ≤ c
      step true e = absurd (f (omega (arith, ltb-true c 49 e)))
      step false e = ltb-false c 49 e

-- no digit is a space
digits_solid : (w : List ℕ) (m n : ℕ) → digits_from m w ≡ Some n → split 32 w ≡ w ∷ []
unfolding split split_step
digits_solid [] m n e = refl
digits_solid (c ∷ w) m n e =
    let d = digit_first m c w n e in
    let l = d.least in
    let j : c ≡ 32 → ⊥ = λ k. omega (arith, k) in
    rw (ne_eqb c 32 j, digits_solid w (m * 10 + (c - 48)) n d.rest)

decimal_solid : (w : List ℕ) (n : ℕ) → number_of w ≡ Some n → split 32 w ≡ w ∷ []
unfolding number_of split
decimal_solid [] n e = refl
decimal_solid (c ∷ []) n e = digits_solid (c ∷ []) 0 n e
decimal_solid (c ∷ c₁ ∷ w) n e =
    refused_choice (eqb c 48) (digits_from 0 (c ∷ c₁ ∷ w)) n e (λ t q. digits_solid (c ∷ c₁ ∷ w) 0 n q)

pub number_word_solid : (n : ℕ) → n < 100000 → split 32 (number_word n) ≡ number_word n ∷ []
number_word_solid n h = decimal_solid (number_word n) n (decimal_spelled n h)

pub switch_spelled : (k : ℕ) → k < 100 → number_word k ≡ switch_digits k
switch_spelled k h = number_digits (number_word k) k (decimal_spelled k (omega arith)) h

-- ---- a number in its range, alone and behind a letter

module _ (most : ℕ) where
  pub number_spelled : (w : List ℕ) (n : ℕ) → most ≤ 65535 → number_to most w ≡ Some n → w ≡ number_word n
  number_spelled w n h e = spelled_decimal w n (number_is most w n e) (omega (arith, number_most most w n e))

  pub word_number : (n : ℕ) → n ≤ most → most ≤ 65535 → number_to most (number_word n) ≡ Some n
  unfolding number_to up_to
  word_number n h k = rw (decimal_spelled n (omega arith), le-leb n most h)

  pub letter_no_number : (c : ℕ) (w : List ℕ) → 57 < c → number_to most (c ∷ w) ≡ None
  unfolding number_to up_to number_of digits_from is_digit
  letter_no_number c [] h = rw (le-leb 48 c (omega arith), lt-leb c 57 h)
  letter_no_number c (d ∷ w) h = rw (ne_eqb c 48 (λ k. omega (arith, k)), le-leb 48 c (omega arith), lt-leb c 57 h)

module _ (letter base most : ℕ) (small : most ≤ 65535) where
  -- what the word w is, where it says n
  pub record Numbered (w : List ℕ) (n : ℕ) : Type 0 where
    pub number : ℕ
    pub least : number ≤ most
    pub word : w ≡ letter ∷ number_word number
    pub value : n ≡ base + number

  pub lettered_word : (w : List ℕ) (n : ℕ) → lettered letter base most w ≡ Some n → Numbered w n
  lettered_word w n e =
      let q = lettered_is letter base most w n e in
      record {
        number = q.number;
        least = number_most most q.digits q.number q.says;
        word = q.word ∙ ap (λ (x : List ℕ). letter ∷ x) (number_spelled most q.digits q.number small q.says);
        value = q.value;
      }

  pub word_lettered : (k : ℕ) → k ≤ most → lettered letter base most (letter ∷ number_word k) ≡ Some (base + k)
  unfolding lettered above
  word_lettered k h = rw (eq-eqb letter letter refl, word_number most k h small)
