-- Claim ConditionWords: `off`, `on`, and `s` with the digits of a switch. Assumes nothing.
use Prim.Native.Nat.{ℕ, zero, suc, ◌≤◌}
use mathlib.Core.Path.{◌≡◌, refl, sym, ap, ◌∙◌}
use Rattle.std.specs.Prelude.{Some}
use mathlib.Core.List.{List, ◌∷◌}
use native.Mathlib.Omega.{arith}
use borrow.Author.Tests.{le-leb}
use Rattle.format.proofs.Chain.{or_else_first, or_else_next, or_else_refuses}
use Rattle.text.specs.declared.Field.TheVariants.{Condition}
use Rattle.text.specs.Words.{ascii, same, up_to, number_to, named, above, lettered}
use Rattle.text.specs.Rows.{value_of}
use Rattle.text.specs.Claims.{condition_word, ConditionWords}
use Rattle.text.proofs.Words.{number_digits, digits_number, number_most, number_is, lettered_is, named_is}

each_word : (n : ℕ) → n ≤ 33 → value_of Condition (condition_word n) ≡ Some n
unfolding ascii same up_to number_to named above lettered value_of condition_word
each_word zero h = or_else_first _ refl
each_word (suc zero) h = or_else_next _ refl ∙ or_else_first _ refl
each_word (suc (suc k)) h =
    or_else_next _ refl ∙ or_else_next _ refl ∙ rw (digits_number k (omega arith), le-leb k 31 (omega arith)) (ap Some (omega arith))

IsWord : List ℕ → ℕ → Type 0
IsWord w n = (n ≤ 33) × (w ≡ condition_word n)

-- a word by its name, and by its letter
name_word : (v : ℕ) (w : List ℕ) (n : ℕ) → v ≤ 33 → named (condition_word v) v w ≡ Some n → IsWord w n
unfolding IsWord
name_word v w n h e = let q = named_is _ _ w n e in (omega (arith, q.1), q.0 ∙ ap condition_word (sym q.1))

switch_word : (base most : ℕ) (w : List ℕ) (n : ℕ) → base ≡ 2 → most ≤ 31 → lettered 115 base most w ≡ Some n → IsWord w n
unfolding IsWord condition_word
switch_word base most w n b m e =
    let q = lettered_is 115 base most w n e in
    let k = q.number in
    let small : k ≤ 31 = omega (arith, number_most most q.digits k q.says) in
    let value : n ≡ suc (suc k) = omega (arith, q.value) in
    let digits = number_digits q.digits k (number_is most q.digits k q.says) (omega arith) in
    (omega arith, q.word ∙ ap (λ (x : List ℕ). 115 ∷ x) digits ∙ ap condition_word (sym value))

only_word : (w : List ℕ) (n : ℕ) → value_of Condition w ≡ Some n → IsWord w n
unfolding value_of condition_word
only_word w n e =
    or_else_refuses (IsWord w) _ _ (λ x h. name_word 0 w x (omega arith) h)
    (λ _. or_else_refuses (IsWord w) _ _ (λ x h. name_word 1 w x (omega arith) h)
    (λ _ x h. switch_word _ _ w x (omega arith) (omega arith) h))
    n e

pub condition_words : ConditionWords
unfolding IsWord
condition_words = record { each = each_word; only = only_word }
