-- What type fields changed in place come to: records, one after the other, with their references rewritten. Assumes nothing.
--     renumbered_basic, renumbered_group   a type field, by what it is
--     low_put          its two bytes, the second changed
--     changed_is       the fields of a list
--     Put              a record that becomes another where its type fields are changed
--     rule_put, constraint_put   a rule and a constraint so, with their references rewritten
--     records_put      records one after the other, and that they lie there
use Prim.Native.Nat.{ℕ, suc, ◌+◌, ◌-◌, ◌*◌, ◌/◌, ◌%◌, ◌<◌, ◌≤◌}
use mathlib.Core.Path.{◌≡◌, refl, sym, ap, ap₂, ◌∙◌}
use mathlib.Core.List.{List, [], ◌∷◌, ◌++◌, append_assoc, map, flatten, Memᴰ}
use native.Mathlib.Omega.{arith}
use lib.ListN.{length, get_or, take, drop}
use lib.Dec.{ltb}
use borrow.Author.Tests.{lt-ltb, le-ltb, ltb-true, ltb-false}
use Rattle.format.specs.Bytes.{Bytes, word_at, words, put_word, put_words}
use Rattle.format.proofs.Bytes.{bytes_cons, bytes_drop, put_word_lem, word_at_lem, words_next, words_end, put_words_lem}
use Rattle.decision.proofs.Search.{by_test}
use Rattle.conversion.specs.Retype.{retype_rule, retype_constraint}
use Rattle.rewrite.specs.Inner.Retype.{renumbered, new_low, field_at, changed, two_in, record_in, records_in}
use Rattle.rewrite.specs.Inner.Kept.{Lie}
use Rattle.rewrite.proofs.KeptLaws.{lie_put, head_taken, head_dropped}
use Rattle.rewrite.proofs.FieldLaws.{changed_length, two_short}

-- ---- one field

module _ (to : List ℕ) (h x : ℕ) where
  low_basic : h < 128 → new_low to h x ≡ x
  unfolding new_low
  low_basic k = rw (lt-ltb h 128 k)

  low_group : 128 ≤ h → new_low to h x ≡ get_or to x 0
  unfolding new_low
  low_group k = rw (le-ltb h 128 k)

module _ (to : List ℕ) (small : Bytes to) where
  pub renumbered_basic : (t : ℕ) → t < 32768 → renumbered to t ≡ t
  unfolding renumbered
  renumbered_basic t h = rw (lt-ltb t 32768 h)

  pub renumbered_group : (t : ℕ) → 32768 ≤ t → renumbered to t ≡ t / 256 * 256 + get_or to (t % 256) 0
  unfolding renumbered
  renumbered_group t h = rw (le-ltb t 32768 h)

  word_put : (x y n : ℕ) (l : List ℕ) → y < 256 → n ≡ x * 256 + y → put_word n l ≡ x ∷ y ∷ l
  word_put x y n l h e =
      let p : n / 256 ≡ x = omega arith in
      let q : n % 256 ≡ y = omega arith in
      put_word_lem n l ∙ rw (p, q) refl

  low_small : (x y : ℕ) → y < 256 → new_low to x y < 256
  low_small x y h =
      by_test (ltb x 128)
      (λ t. omega (arith, low_basic to x y (ltb-true x 128 t)))
      (λ t. omega (arith, low_group to x y (ltb-false x 128 t), small y))

  -- a type field by its two bytes
  renumbered_is : (x y : ℕ) → y < 256 → renumbered to (x * 256 + y) ≡ x * 256 + new_low to x y
  renumbered_is x y h =
      by_test (ltb x 128)
      (λ t. let k = ltb-true x 128 t in
      renumbered_basic (x * 256 + y) (omega arith) ∙ ap (λ (z : ℕ). x * 256 + z) (sym (low_basic to x y k)))
      (λ t. let k = ltb-false x 128 t in
      let p : (x * 256 + y) / 256 ≡ x = omega arith in
      let q : (x * 256 + y) % 256 ≡ y = omega arith in
      renumbered_group (x * 256 + y) (omega arith) ∙ ap₂ (λ (i j : ℕ). i * 256 + get_or to j 0) p q
      ∙ ap (λ (z : ℕ). x * 256 + z) (sym (low_group to x y k)))

  pub low_put : (x y n : ℕ) (l : List ℕ) → y < 256 → n ≡ x * 256 + y → put_word (renumbered to n) l ≡ x ∷ new_low to x y ∷ l
  low_put x y n l h e =
      word_put x (new_low to x y) (renumbered to n) l (low_small x y h) (ap (renumbered to) e ∙ renumbered_is x y h)

-- ---- a list of fields

words_cons : (x y : ℕ) (l : List ℕ) → words (x ∷ y ∷ l) ≡ (x * 256 + y) ∷ words l
words_cons x y l = words_next (x ∷ y ∷ l) 0 (omega arith) ∙ ap (λ (n : ℕ). n ∷ words l) (word_at_lem (x ∷ y ∷ l) 0)

module _ (to : List ℕ) (small : Bytes to) where
  changed_bytes : (l : List ℕ) → Bytes l → Bytes (changed to l)
  unfolding changed
  changed_bytes [] b = b
  changed_bytes (x ∷ []) b = b
  changed_bytes (x ∷ y ∷ l) b =
      bytes_cons x (new_low to x y ∷ changed to l) (b 0)
      (bytes_cons (new_low to x y) (changed to l) (low_small to small x y (b 1)) (changed_bytes l (λ i. b (suc (suc i)))))

  changed_words : (l : List ℕ) (n : ℕ) → length l ≡ 2 * n → Bytes l → words (changed to l) ≡ map (renumbered to) (words l)
  unfolding changed
  changed_words [] n e b = let w = words_end [] 0 (omega arith) in w ∙ sym (ap (map (renumbered to)) w)
  changed_words (x ∷ []) n e b = absurd (omega arith)
  changed_words (x ∷ y ∷ l) n e b =
      words_cons x (new_low to x y) (changed to l)
      ∙ ap₂ (λ (a : ℕ) (ns : List ℕ). a ∷ ns) (sym (renumbered_is to small x y (b 1)))
      (changed_words l (n - 1) (omega arith) (λ i. b (suc (suc i))))
      ∙ sym (ap (map (renumbered to)) (words_cons x y l))

  changed_is : (l : List ℕ) (n : ℕ) → length l ≡ 2 * n → Bytes l → changed to l ≡ put_words (map (renumbered to) (words l))
  changed_is l n e b =
      sym (put_words_lem (changed to l) n (changed_length to l ∙ e) (changed_bytes l b)) ∙ ap put_words (changed_words l n e b)

-- ---- a record

-- the record r becomes r'
pub record Put (k : ℕ) (to r r' : List ℕ) : Type 0 where
  first : get_or r 0 0 ≡ length r
  long : k + 4 ≤ length r
  bytes : record_in k to r ≡ r'

module _ (to : List ℕ) (small : Bytes to) where
  rule_is :
      (a k s t d e : ℕ) (l : List ℕ) → Bytes (a ∷ k ∷ s ∷ t ∷ d ∷ e ∷ l)
      → retype_rule (renumbered to) (a ∷ k ∷ s ∷ t ∷ d ∷ e ∷ l) ≡ a ∷ k ∷ s ∷ new_low to s t ∷ d ∷ new_low to d e ∷ l
  unfolding retype_rule
  rule_is a k s t d e l b =
      let r : List ℕ = a ∷ k ∷ s ∷ t ∷ d ∷ e ∷ l in
      ap (λ (x : List ℕ). a ∷ k ∷ x)
      (low_put to small s t (word_at r 2) _ (b 3) (word_at_lem r 2)
      ∙ ap (λ (x : List ℕ). s ∷ new_low to s t ∷ x) (low_put to small d e (word_at r 4) l (b 5) (word_at_lem r 4)))

  pub rule_put :
      (r : List ℕ) → get_or r 0 0 ≡ length r → 6 ≤ length r → length r ≤ 11 → Bytes r
      → Put 2 to r (retype_rule (renumbered to) r)
  unfolding two_in field_at
  rule_put [] f m n b = absurd (omega (arith, m))
  rule_put (a ∷ []) f m n b = absurd (omega (arith, m))
  rule_put (a ∷ k ∷ []) f m n b = absurd (omega (arith, m))
  rule_put (a ∷ k ∷ s ∷ []) f m n b = absurd (omega (arith, m))
  rule_put (a ∷ k ∷ s ∷ t ∷ []) f m n b = absurd (omega (arith, m))
  rule_put (a ∷ k ∷ s ∷ t ∷ d ∷ []) f m n b = absurd (omega (arith, m))
  rule_put (a ∷ k ∷ s ∷ t ∷ d ∷ e ∷ l) f m n b =
      record { first = f; long = m; bytes = two_short 2 to (a ∷ k ∷ s ∷ t ∷ d ∷ e ∷ l) n ∙ sym (rule_is a k s t d e l b) }

  constraint_is :
      (a k c d e f g h i j p : ℕ) (l : List ℕ) (n : ℕ) → length l ≡ 2 * n → Bytes (a ∷ k ∷ c ∷ d ∷ e ∷ f ∷ g ∷ h ∷ i ∷ j ∷ p ∷ l)
      → retype_constraint (renumbered to) (a ∷ k ∷ c ∷ d ∷ e ∷ f ∷ g ∷ h ∷ i ∷ j ∷ p ∷ l)
      ≡ a ∷ k ∷ c ∷ d ∷ e ∷ f ∷ g ∷ new_low to g h ∷ i ∷ new_low to i j ∷ p ∷ changed to l
  unfolding retype_constraint
  constraint_is a k c d e f g h i j p l n q b =
      let r : List ℕ = a ∷ k ∷ c ∷ d ∷ e ∷ f ∷ g ∷ h ∷ i ∷ j ∷ p ∷ l in
      ap (λ (x : List ℕ). a ∷ k ∷ c ∷ d ∷ e ∷ f ∷ x)
      (low_put to small g h (word_at r 6) _ (b 7) (word_at_lem r 6)
      ∙ ap (λ (x : List ℕ). g ∷ new_low to g h ∷ x)
      (low_put to small i j (word_at r 8) _ (b 9) (word_at_lem r 8)
      ∙ ap (λ (x : List ℕ). i ∷ new_low to i j ∷ p ∷ x) (sym (changed_is to small l n q (bytes_drop 11 r b)))))

  pub constraint_put :
      (r : List ℕ) (n : ℕ) → get_or r 0 0 ≡ length r → length r ≡ 11 + 2 * n → Bytes r
      → Put 6 to r (retype_constraint (renumbered to) r)
  unfolding record_in two_in field_at
  constraint_put [] n w v b = absurd (omega (arith, v))
  constraint_put (a ∷ []) n w v b = absurd (omega (arith, v))
  constraint_put (a ∷ k ∷ []) n w v b = absurd (omega (arith, v))
  constraint_put (a ∷ k ∷ c ∷ []) n w v b = absurd (omega (arith, v))
  constraint_put (a ∷ k ∷ c ∷ d ∷ []) n w v b = absurd (omega (arith, v))
  constraint_put (a ∷ k ∷ c ∷ d ∷ e ∷ []) n w v b = absurd (omega (arith, v))
  constraint_put (a ∷ k ∷ c ∷ d ∷ e ∷ x ∷ []) n w v b = absurd (omega (arith, v))
  constraint_put (a ∷ k ∷ c ∷ d ∷ e ∷ x ∷ g ∷ []) n w v b = absurd (omega (arith, v))
  constraint_put (a ∷ k ∷ c ∷ d ∷ e ∷ x ∷ g ∷ h ∷ []) n w v b = absurd (omega (arith, v))
  constraint_put (a ∷ k ∷ c ∷ d ∷ e ∷ x ∷ g ∷ h ∷ i ∷ []) n w v b = absurd (omega (arith, v))
  constraint_put (a ∷ k ∷ c ∷ d ∷ e ∷ x ∷ g ∷ h ∷ i ∷ j ∷ []) n w v b = absurd (omega (arith, v))
  constraint_put (a ∷ k ∷ c ∷ d ∷ e ∷ x ∷ g ∷ h ∷ i ∷ j ∷ p ∷ l) n w v b =
      record { first = w; long = omega arith; bytes = sym (constraint_is a k c d e x g h i j p l n (omega (arith, v)) b) }

-- ---- records one after the other

module _ (k : ℕ) (to : List ℕ) (new : List ℕ → List ℕ) (post : List ℕ) where
  records_become :
      (rs : List (List ℕ)) → ((r : List ℕ) → Memᴰ r rs → Put k to r (new r))
      → records_in k to (flatten rs ++ post) (length rs) ≡ flatten (map new rs) ++ post
  unfolding records_in flatten
  records_become [] f = refl
  records_become (r ∷ rs) f =
      let rest : List ℕ = flatten rs ++ post in
      let p = f r (Memᴰ.head refl) in
      let e : (r ++ flatten rs) ++ post ≡ r ++ rest = append_assoc r (flatten rs) post in
      let t : take (get_or (r ++ rest) 0 0) (r ++ rest) ≡ r = head_taken r rest p.first (omega (arith, p.long)) in
      let d : drop (get_or (r ++ rest) 0 0) (r ++ rest) ≡ rest = head_dropped r rest p.first (omega (arith, p.long)) in
      rw (e, t, d)
      (ap₂ ◌++◌ p.bytes (records_become rs (λ x i. f x (Memᴰ.tail i))) ∙ sym (append_assoc (new r) (flatten (map new rs)) post))

  pub records_put :
      (rs : List (List ℕ)) → ((r : List ℕ) → Memᴰ r rs → Put k to r (new r))
      → Lie (k + 4) (flatten rs ++ post) (length rs)
      × (records_in k to (flatten rs ++ post) (length rs) ≡ flatten (map new rs) ++ post)
  records_put rs f = (lie_put (k + 4) rs post (omega arith) (λ r m. let p = f r m in (p.first, p.long)), records_become rs f)
