-- What a record reads as in two policies, the second with the first's groups. Assumes nothing.
--     set_kept            a type's set
--     Typed p             the records of a policy are well formed; `accepted_typed`: an accepted image's are
--     rule_kept, constraint_kept    a record that reads the same
--     set_basic, set_group          the set of a type field, and of a group's number
--     union_moved                   the union of types that are moved
--     RuleAlike, ConstraintAlike    two records of a policy each, with types that stand for the same sets and all else equal
--     rule_alike, constraint_alike  such records read the same; request_alike, such queries
--     rules_mapped, constraints_mapped   a policy's rules and constraints, record by record
use Prim.Native.Nat.{ℕ, suc, ◌+◌, ◌-◌, ◌<◌, ◌≤◌}
use native.Mathlib.Omega.{arith}
use mathlib.Core.Path.{◌≡◌, refl, sym, subst, ap, ap₂}
use mathlib.Core.Logic.{◌⊎◌, inl, inr, ⊎_elim}
use mathlib.Core.List.{List, [], ◌∷◌, ◌++◌, map, Memᴰ}
use lib.ListN.{length, get_or, drop, length-drop}
use borrow.Author.Tests.{lt-ltb, le-ltb}
use Rattle.format.specs.declared.Section.{Section}
use Rattle.format.specs.declared.Section.TheVariants.{Rules, Constraints}
use Rattle.format.specs.Bytes.{word_at, words}
use Rattle.format.specs.Policy.{Policy, records_of, policy_of}
use Rattle.format.specs.Check.{Accepted}
use Rattle.format.specs.Claims.{IsType, IsAllow, IsTransition, IsConstraint, IsRecord}
use Rattle.format.proofs.Bytes.{length_words, words_nth}
use Rattle.format.proofs.Shapes.{Formed}
use Rattle.format.proofs.ByCase.{records_of_rules, records_of_constraints}
use Rattle.format.proofs.Fields.{formed_is, record_rule, record_constraint}
use Rattle.format.proofs.Images.{policy_formed, group_count}
use Rattle.decision.specs.Sets.{set_of, union_of}
use Rattle.decision.specs.declared.Query.{Query}
use Rattle.decision.specs.Reading.{rule_of, constraint_of, request_of, rules_of, constraints_of}
use Rattle.decision.specs.Order.{Keeps}

-- ---- what a type field stands for, over the old groups and the new

module _ (gs₁ gs₂ : List (List ℕ)) (k : Keeps gs₁ gs₂) where
  pub set_kept : (t : ℕ) → IsType (length gs₁) t → set_of gs₁ t ≡ set_of gs₂ t
  unfolding set_of
  set_kept t (inl h) = simp (lt-ltb t 32768 (omega arith))
  set_kept t (inr q) =
      let e = q.2 in
      simp (le-ltb t 32768 (omega arith)) (ap (λ (r : List ℕ). words (drop 2 r)) (k.same (t - 32768) (omega (arith, q.1))))

  union_kept : (ts : List ℕ) → ((i : ℕ) → i < length ts → IsType (length gs₁) (get_or ts i 0)) → union_of gs₁ ts ≡ union_of gs₂ ts
  unfolding union_of
  union_kept [] h = refl
  union_kept (t ∷ ts) h = ap₂ (λ (a b : List ℕ). a ++ b) (set_kept t (h 0 (omega arith))) (union_kept ts (λ i j. h (suc i) (omega arith)))

-- ---- the records of an accepted image

pub record Typed (p : Policy) : Type 0 where
  pub rules : (r : List ℕ) → Memᴰ r p.rules → IsType (length p.groups) (word_at r 2) × IsType (length p.groups) (word_at r 4)
  pub conditions : (r : List ℕ) → Memᴰ r p.rules → get_or r 1 0 ≡ 2 → get_or r 10 0 ≤ 33
  pub transitions : (r : List ℕ) → Memᴰ r p.rules → get_or r 1 0 ≡ 3 → length r ≡ 8
  pub constraints : (c : List ℕ) → Memᴰ c p.constraints → (n : ℕ) × IsConstraint (length p.groups) c n

pub accepted_typed : (l : List ℕ) → Accepted l → Typed (policy_of l)
accepted_typed l e =
    record {
      rules = λ r m. ⊎_elim (λ f. (f.source, f.dest)) (λ f. (f.source, f.dest)) (rule r m);
      conditions = λ r m k. ⊎_elim (λ f. f.condition) (λ f. absurd (omega (arith, k, f.kind))) (rule r m);
      transitions = λ r m k. ⊎_elim (λ f. absurd (omega (arith, k, f.kind))) (λ f. f.size.1) (rule r m);
      constraints = λ c m. record_constraint _ c (typed Constraints c (rw (records_of_constraints (policy_of l)) m));
    }
  where
    typed : (s : Section) (r : List ℕ) → Memᴰ r (records_of (policy_of l) s) → IsRecord s (length (policy_of l).groups) r
    typed s r m = formed_is _ r s (subst (λ (g : ℕ). Formed s g r) (sym (group_count l)) (policy_formed l e s r m))

    rule : (r : List ℕ) → Memᴰ r (policy_of l).rules → IsAllow (length (policy_of l).groups) r ⊎ IsTransition (length (policy_of l).groups) r
    rule r m = record_rule _ r (typed Rules r (rw (records_of_rules (policy_of l)) m))

list_types : (g : ℕ) (r : List ℕ) (n : ℕ) → IsConstraint g r n → (i : ℕ) → i < length (words (drop 11 r)) → IsType g (get_or (words (drop 11 r)) i 0)
list_types g r n f i h =
    let len = f.size.1 in
    rw (words_nth r 11 i h) (f.list i (omega (arith, length_words (drop 11 r), length-drop 11 r)))

-- ---- records that read the same

module _ (p₁ p₂ : Policy) (typed : Typed p₁) (k : Keeps p₁.groups p₂.groups) where
  kept : (t : ℕ) → IsType (length p₁.groups) t → set_of p₁.groups t ≡ set_of p₂.groups t
  kept = set_kept p₁.groups p₂.groups k

  pub rule_kept : (w : ℕ) (r : List ℕ) → Memᴰ r p₁.rules → rule_of p₁ w r ≡ rule_of p₂ w r
  unfolding rule_of
  rule_kept w r m = let t = typed.rules r m in rw (kept (word_at r 2) t.0, kept (word_at r 4) t.1)

  pub constraint_kept : (c : List ℕ) → Memᴰ c p₁.constraints → constraint_of p₁ c ≡ constraint_of p₂ c
  unfolding constraint_of
  constraint_kept c m =
      let t = typed.constraints c m in
      rw (
        kept (word_at c 6) t.1.first,
        kept (word_at c 8) t.1.second,
        union_kept p₁.groups p₂.groups k (words (drop 11 c)) (list_types _ c t.0 t.1),
      )

-- ---- types that are moved

pub set_basic : (gs : List (List ℕ)) (t : ℕ) → t < 32768 → set_of gs t ≡ t ∷ []
unfolding set_of
set_basic gs t h = rw (lt-ltb t 32768 h)

pub set_group : (gs : List (List ℕ)) (k : ℕ) → set_of gs (32768 + k) ≡ words (drop 2 (get_or gs k []))
unfolding set_of
set_group gs k =
    let z : 32768 + k - 32768 ≡ k = omega arith in
    rw (le-ltb (32768 + k) 32768 (omega arith), z)

pub union_moved :
    (gs gs' : List (List ℕ)) (f : ℕ → ℕ) (ts : List ℕ) → ((t : ℕ) → Memᴰ t ts → set_of gs' (f t) ≡ set_of gs t)
    → union_of gs' (map f ts) ≡ union_of gs ts
unfolding union_of
union_moved gs gs' f [] h = refl
union_moved gs gs' f (t ∷ ts) h =
    ap₂ (λ (a b : List ℕ). a ++ b) (h t (Memᴰ.head refl)) (union_moved gs gs' f ts (λ u m. h u (Memᴰ.tail m)))

pub record RuleAlike (p p' : Policy) (r r' : List ℕ) : Type 0 where
  pub kind : get_or r' 1 0 ≡ get_or r 1 0
  pub source : set_of p'.groups (word_at r' 2) ≡ set_of p.groups (word_at r 2)
  pub dest : set_of p'.groups (word_at r' 4) ≡ set_of p.groups (word_at r 4)
  pub class : word_at r' 6 ≡ word_at r 6
  pub action : word_at r' 8 ≡ word_at r 8
  pub condition : get_or r' 10 0 ≡ get_or r 10 0

pub record ConstraintAlike (p p' : Policy) (r r' : List ℕ) : Type 0 where
  pub class : word_at r' 2 ≡ word_at r 2
  pub action : word_at r' 4 ≡ word_at r 4
  pub first : set_of p'.groups (word_at r' 6) ≡ set_of p.groups (word_at r 6)
  pub second : set_of p'.groups (word_at r' 8) ≡ set_of p.groups (word_at r 8)
  pub predicate : get_or r' 10 0 ≡ get_or r 10 0
  pub list : union_of p'.groups (words (drop 11 r')) ≡ union_of p.groups (words (drop 11 r))

module _ (p p' : Policy) where
  pub rule_alike : (w : ℕ) (r r' : List ℕ) → RuleAlike p p' r r' → rule_of p' w r' ≡ rule_of p w r
  unfolding rule_of
  rule_alike w r r' a = rw (a.kind, a.source, a.dest, a.class, a.action, a.condition)

  pub constraint_alike : (r r' : List ℕ) → ConstraintAlike p p' r r' → constraint_of p' r' ≡ constraint_of p r
  unfolding constraint_of
  constraint_alike r r' a = rw (a.class, a.action, a.first, a.second, a.predicate, a.list)

  pub request_alike :
      (q q' : Query) → set_of p'.groups q'.source ≡ set_of p.groups q.source
      → set_of p'.groups q'.dest ≡ set_of p.groups q.dest → q'.class ≡ q.class → q'.action ≡ q.action
      → request_of p' q' ≡ request_of p q
  unfolding request_of
  request_alike q q' s d c a = rw (s, d, c, a)

pub rules_mapped : (p : Policy) (w : ℕ) → rules_of p w ≡ map (rule_of p w) p.rules
unfolding rules_of
rules_mapped p w = refl

pub constraints_mapped : (p : Policy) → constraints_of p ≡ map (constraint_of p) p.constraints
unfolding constraints_of
constraints_mapped p = refl
