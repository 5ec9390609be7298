-- The type fields of a record: claim ReferencesHeld. Assumes nothing.
--     rule_types, constraint_types   the type fields of a rule and of a constraint, by the kind byte
use Prim.Native.Nat.{ℕ, suc, ◌<◌}
use mathlib.Core.Path.{◌≡◌, sym, subst, ◌∙◌}
use mathlib.Core.Logic.{◌⊎◌, inl, inr, ⊎_elim}
use mathlib.Core.List.Memᴰ
use mathlib.Core.List.{List, [], ◌∷◌, Memᴰ}
use native.Mathlib.Omega.{arith}
use lib.ListN.{length, get_or, drop, length-drop}
use Rattle.format.specs.declared.Section.{Section}
use Rattle.format.specs.declared.Section.TheVariants.{Groups, Rules, Constraints}
use Rattle.format.specs.Bytes.{word_at, words}
use Rattle.format.specs.Claims.{IsType, IsConstraint, IsRecord, type_fields, ReferencesHeld}
use Rattle.format.proofs.Bytes.{length_words, words_nth}
use Rattle.format.proofs.Fields.{formed_is}
use Rattle.format.proofs.Images.{policy_formed, group_count}

-- a member of a list stands at an index
mem_index : (t : ℕ) (ts : List ℕ) → Memᴰ t ts → (i : ℕ) × (i < length ts) × (t ≡ get_or ts i 0)
mem_index t [] m = absurd (Memᴰ.not-nil m)
mem_index t (x ∷ ts) m =
    ⊎_elim
    (λ e. (0, omega arith, e))
    (λ k. let q = mem_index t ts k in (suc q.0, omega (arith, q.1), q.2))
    (Memᴰ.cases_cons m)

module _ (g : ℕ) (r : List ℕ) (t : ℕ) (m : Memᴰ t (type_fields r)) where
  rule_fields : IsType g (word_at r 2) → IsType g (word_at r 4) → Memᴰ t (word_at r 2 ∷ word_at r 4 ∷ []) → IsType g t
  rule_fields a b q =
      ⊎_elim (λ h. subst (IsType g) (sym h) a)
      (λ n. ⊎_elim (λ h. subst (IsType g) (sym h) b) (λ o. absurd (Memᴰ.not-nil o)) (Memᴰ.cases_cons n))
      (Memᴰ.cases_cons q)

  constraint_fields : (n : ℕ) → IsConstraint g r n → Memᴰ t (word_at r 6 ∷ word_at r 8 ∷ words (drop 11 r)) → IsType g t
  constraint_fields n f q =
      ⊎_elim (λ h. subst (IsType g) (sym h) f.first)
      (λ k. ⊎_elim (λ h. subst (IsType g) (sym h) f.second) listed (Memᴰ.cases_cons k))
      (Memᴰ.cases_cons q)
    where
      listed : Memᴰ t (words (drop 11 r)) → IsType g t
      listed o =
          let i = mem_index t (words (drop 11 r)) o in
          let len = f.size.1 in
          let k : i.0 < n = omega (arith, i.1, length_words (drop 11 r), length-drop 11 r) in
          subst (IsType g) (sym (i.2 ∙ words_nth r 11 i.0 i.1)) (f.list i.0 k)

  -- each type field of a record is one
  pub fields_held : (s : Section) → IsRecord s g r → IsType g t
  unfolding IsRecord type_fields
  fields_held Groups f = absurd (Memᴰ.not-nil (rw f.1.kind at m))
  fields_held Rules (inl f) = rule_fields f.source f.dest (rw f.kind at m)
  fields_held Rules (inr f) = rule_fields f.source f.dest (rw f.kind at m)
  fields_held Constraints f = constraint_fields f.0 f.1 (rw f.1.kind at m)

pub references_held : ReferencesHeld
references_held l e s r m t h = rw (group_count l) (fields_held _ r t h s (formed_is _ r s (policy_formed l e s r m)))

-- ---- by the kind byte

pub rule_types : (r : List ℕ) → (get_or r 1 0 ≡ 2) ⊎ (get_or r 1 0 ≡ 3) → type_fields r ≡ word_at r 2 ∷ word_at r 4 ∷ []
unfolding type_fields
rule_types r (inl k) = rw k
rule_types r (inr k) = rw k

pub constraint_types : (r : List ℕ) → get_or r 1 0 ≡ 4 → type_fields r ≡ word_at r 6 ∷ word_at r 8 ∷ words (drop 11 r)
unfolding type_fields
constraint_types r k = rw k
