-- Groups have one record exactly where they have the same members: claim TwinsByMembers. Assumes nothing.
--     rising_same       two strictly rising lists with the same elements are equal
use Prim.Native.Nat.{ℕ, suc, ◌≤◌}
use native.Mathlib.Omega.{arith}
use mathlib.Core.Path.{◌≡◌, refl, sym, subst, ap, ap₂, ◌∙◌}
use mathlib.Core.Logic.{⊎_elim}
use mathlib.Core.List.Memᴰ
use mathlib.Core.List.{List, [], ◌∷◌, Memᴰ}
use lib.ListN.{length, get_or, drop, length-drop}
use Rattle.format.specs.declared.Section.TheVariants.{Groups}
use Rattle.format.specs.Bytes.{words, put_words}
use Rattle.format.specs.Format.{bad_group}
use Rattle.format.specs.Twins.{SameMembers}
use Rattle.format.specs.Claims.{IsRecord, TwinsByMembers}
use Rattle.format.proofs.Bytes.{bytes_drop, put_words_lem}
use Rattle.format.specs.Inner.Places.{Rising}
use Rattle.format.proofs.Fields.{members_rising, is_formed, field_group}

rising_least : (low : ℕ) (ms : List ℕ) (x : ℕ) → Rising low ms → Memᴰ x ms → low ≤ x
unfolding Rising
rising_least low [] x r m = absurd (Memᴰ.not-nil m)
rising_least low (y ∷ ms) x r m =
    ⊎_elim (λ e. omega (arith, r.0)) (λ k. let h = rising_least (suc y) ms x r.2 k in omega (arith, r.0)) (Memᴰ.cases_cons m)

abbrev Sub : List ℕ → List ℕ → Type 0
Sub a b = (x : ℕ) → Memᴰ x a → Memᴰ x b

sub_tail : (x y : ℕ) (xs ys : List ℕ) → x ≡ y → Rising (suc x) xs → Sub (x ∷ xs) (y ∷ ys) → Sub xs ys
sub_tail x y xs ys e r h z m =
    ⊎_elim (λ q. let l = rising_least (suc x) xs z r m in absurd (omega arith)) (λ k. k) (Memᴰ.cases_cons (h z (Memᴰ.tail m)))

heads_same :
    (low : ℕ) (x y : ℕ) (xs ys : List ℕ) → Rising low (x ∷ xs) → Rising low (y ∷ ys) → Sub (x ∷ xs) (y ∷ ys) → Sub (y ∷ ys) (x ∷ xs)
    → x ≡ y
unfolding Rising
heads_same low x y xs ys r s h k =
    ⊎_elim (λ e. e)
    (λ m. ⊎_elim (λ e. sym e)
    (λ n. let i = rising_least (suc y) ys x s.2 m in let j = rising_least (suc x) xs y r.2 n in absurd (omega arith))
    (Memᴰ.cases_cons (k y (Memᴰ.head refl))))
    (Memᴰ.cases_cons (h x (Memᴰ.head refl)))

any_low : (l : ℕ) (ms : List ℕ) → Rising l ms → Rising 0 ms
unfolding Rising
any_low l [] r = tt
any_low l (m ∷ ms) r = (omega arith, r.1, r.2)

rising_same : (xs ys : List ℕ) → Rising 0 xs → Rising 0 ys → Sub xs ys → Sub ys xs → xs ≡ ys
unfolding Rising
rising_same [] [] r s h k = refl
rising_same [] (y ∷ ys) r s h k = absurd (Memᴰ.not-nil (k y (Memᴰ.head refl)))
rising_same (x ∷ xs) [] r s h k = absurd (Memᴰ.not-nil (h x (Memᴰ.head refl)))
rising_same (x ∷ xs) (y ∷ ys) r s h k =
    let e = heads_same 0 x y xs ys r s h k in
    ap₂ (λ (z : ℕ) (zs : List ℕ). z ∷ zs) e
    (rising_same xs ys (any_low (suc x) xs r.2) (any_low (suc y) ys s.2) (sub_tail x y xs ys e r.2 h) (sub_tail y x ys xs (sym e) s.2 k))

members_of_lem : (g : ℕ) (r : List ℕ) → IsRecord Groups g r → Rising 0 (words (drop 2 r))
unfolding bad_group IsRecord
members_of_lem g r q =
    let f = is_formed g r Groups q in
    members_rising 2 0 (words (drop 2 r)) (sym (field_group g r q.1.kind) ∙ f.fields)

two : (r : List ℕ) → 2 ≤ length r → r ≡ get_or r 0 0 ∷ get_or r 1 0 ∷ drop 2 r
two [] h = absurd (omega arith)
two (x ∷ []) h = absurd (omega arith)
two (x ∷ y ∷ r) h = refl

same_self : (a b : List ℕ) → a ≡ b → SameMembers a b
same_self a b e =
    record {
      there = λ m k. subst (λ (r : List ℕ). Memᴰ m (words (drop 2 r))) e k;
      back = λ m k. subst (λ (r : List ℕ). Memᴰ m (words (drop 2 r))) (sym e) k;
    }

pub twins_by_members : TwinsByMembers
unfolding IsRecord
twins_by_members g a b p q c d = (
  λ t. (
      let e : words (drop 2 a) ≡ words (drop 2 b) = rising_same _ _ (members_of_lem g a p) (members_of_lem g b q) t.there t.back in
      let n = p.1 in
      let m = q.1 in
      let ln = n.size.1 in
      let lm = m.size.1 in
      let x : drop 2 a ≡ drop 2 b
      = sym (put_words_lem (drop 2 a) p.0 (omega (arith, length-drop 2 a)) (bytes_drop 2 a c))
      ∙ (ap put_words e ∙ put_words_lem (drop 2 b) q.0 (omega (arith, length-drop 2 b)) (bytes_drop 2 b d)) in
      let l : length a ≡ length b = omega (arith, ap length x, length-drop 2 a, length-drop 2 b) in
      two a (omega arith)
      ∙ (ap₂ (λ (i j : ℕ). i ∷ j ∷ drop 2 a) (n.size.0 ∙ (l ∙ sym m.size.0)) (n.kind ∙ sym m.kind)
      ∙ (ap (λ (z : List ℕ). get_or b 0 0 ∷ get_or b 1 0 ∷ z) x ∙ sym (two b (omega arith))))
      ),
  same_self a b,
)
