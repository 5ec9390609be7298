-- Laws of what a word can say. Assumes nothing.
--     same_equal              words that the test says are the same are
--     number_is, number_most  a number in its range is one, and at most what it may be
--     number_short            and its word has at most 5 bytes, where that is at most 65535
--     number_digits           a number below 100 is written by its digits alone
--     digits_number           and they write it
--     Lettered, lettered_is   a letter, and a number behind it
--     lettered_most, lettered_short   its most, and its word's length
--     named_is                the word of a name, and its value
use Prim.Native.Nat.{ℕ, ◌+◌, ◌-◌, ◌*◌, ◌/◌, ◌%◌, ◌≤◌, ◌<◌}
use mathlib.Core.Path.{◌≡◌, refl, sym, ap, ◌∙◌}
use mathlib.Core.Bool.{Bool, true, false, cond}
use Rattle.std.specs.Prelude.{Option, None, Some}
use mathlib.Core.List.{List, [], ◌∷◌}
use native.Mathlib.Omega.{arith}
use lib.ListN.{length}
use lib.Dec.{ltb, leb, eqb}
use borrow.Author.Tests.{lt-ltb, le-ltb, le-leb, ne_eqb, ltb-true, ltb-false, leb-true, eqb-true, eqb-false}
use Rattle.format.proofs.Tests.{both, false_not_true}
use Rattle.format.proofs.Chain.{some_not_none}
use Rattle.text.specs.Words.{same, is_digit, digits_from, number_of, up_to, number_to, named, above, lettered}
use Rattle.text.specs.Claims.{switch_digits}

pub same_equal : (a b : List ℕ) → same a b ≡ true → a ≡ b
unfolding same
same_equal [] [] e = refl
same_equal [] (x ∷ b) e = false_not_true e
same_equal (x ∷ a) [] e = false_not_true e
same_equal (x ∷ a) (y ∷ b) e = let q = both (eqb x y) (same a b) e in rw (eqb-true x y q.0, same_equal a b q.1)

-- a choice between something and none that gives something
chosen : {A C : Type 0} (t : Bool) (o : Option A) (x : A) → cond t o None ≡ Some x → (t ≡ true → o ≡ Some x → C) → C
chosen true o x e f = f refl e
chosen false o x e f = some_not_none (sym e)

pub refused_choice : {A C : Type 0} (t : Bool) (o : Option A) (x : A) → cond t None o ≡ Some x → (t ≡ false → o ≡ Some x → C) → C
refused_choice true o x e f = some_not_none (sym e)
refused_choice false o x e f = f refl e

-- ---- digits

pub record Digit (n c : ℕ) (w : List ℕ) (m : ℕ) : Type 0 where
  pub least : 48 ≤ c
  pub most : c ≤ 57
  pub rest : digits_from (n * 10 + (c - 48)) w ≡ Some m

pub digit_first : (n c : ℕ) (w : List ℕ) (m : ℕ) → digits_from n (c ∷ w) ≡ Some m → Digit n c w m
unfolding digits_from is_digit
digit_first n c w m e =
    chosen (is_digit c) (digits_from (n * 10 + (c - 48)) w) m e
    (λ d r. let q = both (leb 48 c) (leb c 57) d in record { least = leb-true 48 c q.0; most = leb-true c 57 q.1; rest = r })

-- digits never make a number smaller, and each makes it ten times as large
digits_least : (w : List ℕ) (n m : ℕ) → digits_from n w ≡ Some m → n ≤ m
unfolding digits_from
digits_least [] n m e = let h : n ≡ m = cc in omega arith
digits_least (c ∷ w) n m e = let d = digit_first n c w m e in let k = digits_least w (n * 10 + (c - 48)) m d.rest in omega arith

digits_five :
    (n m c₁ c₂ c₃ c₄ c₅ : ℕ) (w : List ℕ) → digits_from n (c₁ ∷ c₂ ∷ c₃ ∷ c₄ ∷ c₅ ∷ w) ≡ Some m → n * 100000 ≤ m
digits_five n m c₁ c₂ c₃ c₄ c₅ w e =
    let d₁ = digit_first n c₁ _ m e in
    let d₂ = digit_first _ c₂ _ m d₁.rest in
    let d₃ = digit_first _ c₃ _ m d₂.rest in
    let d₄ = digit_first _ c₄ _ m d₃.rest in
    let d₅ = digit_first _ c₅ w m d₄.rest in
    let k = digits_least w _ m d₅.rest in
    omega arith

pub decimal_short : (w : List ℕ) (n : ℕ) → number_of w ≡ Some n → n ≤ 65535 → length w ≤ 5
unfolding number_of
decimal_short [] n e h = omega arith
decimal_short (_ ∷ []) n e h = omega arith
decimal_short (_ ∷ _ ∷ []) n e h = omega arith
decimal_short (_ ∷ _ ∷ _ ∷ []) n e h = omega arith
decimal_short (_ ∷ _ ∷ _ ∷ _ ∷ []) n e h = omega arith
decimal_short (_ ∷ _ ∷ _ ∷ _ ∷ _ ∷ []) n e h = omega arith
decimal_short (c ∷ c₁ ∷ c₂ ∷ c₃ ∷ c₄ ∷ c₅ ∷ w) n e h =
    refused_choice (eqb c 48) (digits_from 0 (c ∷ c₁ ∷ c₂ ∷ c₃ ∷ c₄ ∷ c₅ ∷ w)) n e
    (λ z q.
    let d = digit_first 0 c (c₁ ∷ c₂ ∷ c₃ ∷ c₄ ∷ c₅ ∷ w) n q in
    let l = d.least in
    let k = digits_five (0 * 10 + (c - 48)) n c₁ c₂ c₃ c₄ c₅ w d.rest in
    let i : c ≡ 48 → ⊥ = eqb-false c 48 z in
    absurd (i (omega arith)))

-- ---- numbers below 100

pub number_digits : (w : List ℕ) (n : ℕ) → number_of w ≡ Some n → n < 100 → w ≡ switch_digits n
unfolding number_of digits_from switch_digits
number_digits [] n e h = some_not_none (sym e)
number_digits (c ∷ []) n e h =
    let d = digit_first 0 c [] n e in
    let z : Some (0 * 10 + (c - 48)) ≡ Some n = d.rest in
    let i : 0 * 10 + (c - 48) ≡ n = cc in
    let k : c ≡ 48 + n = omega arith in
    rw (lt-ltb n 10 (omega arith)) (ap (λ (x : ℕ). x ∷ []) k)
number_digits (c ∷ c₁ ∷ []) n e h =
    refused_choice (eqb c 48) (digits_from 0 (c ∷ c₁ ∷ [])) n e
    (λ t q.
    let d = digit_first 0 c (c₁ ∷ []) n q in
    let d₁ = digit_first (0 * 10 + (c - 48)) c₁ [] n d.rest in
    let z : Some ((0 * 10 + (c - 48)) * 10 + (c₁ - 48)) ≡ Some n = d₁.rest in
    let i : (0 * 10 + (c - 48)) * 10 + (c₁ - 48) ≡ n = cc in
    let j : c ≡ 48 → ⊥ = eqb-false c 48 t in
    let k : c ≡ 48 + n / 10 = omega arith in
    let l : c₁ ≡ 48 + n % 10 = omega arith in
    rw (le-ltb n 10 (omega arith)) (ap (λ (x : ℕ). x ∷ c₁ ∷ []) k ∙ ap (λ (x : ℕ). (48 + n / 10) ∷ x ∷ []) l))
number_digits (c ∷ c₁ ∷ c₂ ∷ w) n e h =
    refused_choice (eqb c 48) (digits_from 0 (c ∷ c₁ ∷ c₂ ∷ w)) n e
    (λ t q.
    let d = digit_first 0 c (c₁ ∷ c₂ ∷ w) n q in
    let d₁ = digit_first _ c₁ (c₂ ∷ w) n d.rest in
    let d₂ = digit_first _ c₂ w n d₁.rest in
    let k = digits_least w _ n d₂.rest in
    let j : c ≡ 48 → ⊥ = eqb-false c 48 t in
    absurd (j (omega arith)))

digit_next : (n d : ℕ) (w : List ℕ) → d ≤ 9 → digits_from n ((48 + d) ∷ w) ≡ digits_from (n * 10 + d) w
unfolding digits_from is_digit
digit_next n d w h =
    let e : 48 + d - 48 ≡ d = omega arith in
    rw (le-leb 48 (48 + d) (omega arith), le-leb (48 + d) 57 (omega arith), e)

pub digits_number : (n : ℕ) → n < 100 → number_of (switch_digits n) ≡ Some n
unfolding number_of digits_from switch_digits
digits_number n h = step (ltb n 10) refl where
  step : (t : Bool) → ltb n 10 ≡ t → number_of (cond t ((48 + n) ∷ []) ((48 + n / 10) ∷ (48 + n % 10) ∷ [])) ≡ Some n
  step true e = digit_next 0 n [] (omega (arith, ltb-true n 10 e)) ∙ ap Some (omega arith)
  step false e =
      rw (ne_eqb (48 + n / 10) 48 (λ k. absurd (omega (arith, k, ltb-false n 10 e))))
      (digit_next 0 (n / 10) ((48 + n % 10) ∷ []) (omega arith) ∙ digit_next (0 * 10 + n / 10) (n % 10) [] (omega arith) ∙ ap Some (omega arith))

-- ---- numbers, letters, names

record Within (most : ℕ) (o : Option ℕ) (n : ℕ) : Type 0 where
  is : o ≡ Some n
  least : n ≤ most

up_to_lem : (most : ℕ) (o : Option ℕ) (n : ℕ) → up_to most o ≡ Some n → Within most o n
unfolding up_to
up_to_lem most None n e = some_not_none (sym e)
up_to_lem most (Some k) n e =
    chosen (leb k most) (Some k) n e (λ t q. let h : k ≡ n = cc in let l = leb-true k most t in record { is = q; least = omega arith })

module _ (most : ℕ) (w : List ℕ) (n : ℕ) (e : number_to most w ≡ Some n) where
  within : Within most (number_of w) n
  unfolding number_to
  within = up_to_lem most (number_of w) n e

  pub number_is : number_of w ≡ Some n
  number_is = within.is

  pub number_most : n ≤ most
  number_most = within.least

  pub number_short : most ≤ 65535 → length w ≤ 5
  number_short h = decimal_short w n within.is (omega (arith, within.least))

module _ (letter base most : ℕ) where
  above_is : (o : Option ℕ) (n : ℕ) → above base o ≡ Some n → (k : ℕ) × (o ≡ Some k) × (n ≡ base + k)
  unfolding above
  above_is None n e = some_not_none (sym e)
  above_is (Some k) n e = let h : base + k ≡ n = cc in (k, refl, sym h)

  -- what the word w is, where it says n
  pub record Lettered (w : List ℕ) (n : ℕ) : Type 0 where
    pub digits : List ℕ
    pub number : ℕ
    pub word : w ≡ letter ∷ digits
    pub says : number_to most digits ≡ Some number
    pub value : n ≡ base + number

  pub lettered_is : (w : List ℕ) (n : ℕ) → lettered letter base most w ≡ Some n → Lettered w n
  unfolding lettered
  lettered_is [] n e = some_not_none (sym e)
  lettered_is (c ∷ w) n e =
      chosen (eqb c letter) (above base (number_to most w)) n e
      (λ t q.
      let a = above_is (number_to most w) n q in
      record { digits = w; number = a.0; word = ap (λ (x : ℕ). x ∷ w) (eqb-true c letter t); says = a.1; value = a.2 })

  pub lettered_most : (w : List ℕ) (n : ℕ) → lettered letter base most w ≡ Some n → n ≤ base + most
  lettered_most w n e = let q = lettered_is w n e in omega (arith, q.value, number_most most q.digits q.number q.says)

  pub lettered_short : (w : List ℕ) (n : ℕ) → most ≤ 65535 → lettered letter base most w ≡ Some n → length w ≤ 6
  lettered_short w n h e =
      let q = lettered_is w n e in
      omega (arith, ap length q.word, number_short most q.digits q.number q.says h)

pub named_is : (word : List ℕ) (v : ℕ) (w : List ℕ) (n : ℕ) → named word v w ≡ Some n → (w ≡ word) × (n ≡ v)
unfolding named
named_is word v w n e = chosen (same w word) (Some v) n e (λ t q. (same_equal w word t, let h : v ≡ n = cc in sym h))
