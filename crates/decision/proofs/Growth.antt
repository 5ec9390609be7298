-- What meets the order rule's terms. Claims AddedGrows, AddedOrder, SameRules, RulesReordered, MemberOrder. Assumes nothing.
use Prim.Native.Nat.{ℕ, ◌+◌, ◌≤◌, ◌<◌}
use native.Mathlib.Omega.{arith}
use mathlib.Core.Path.{◌≡◌, refl, sym, subst, ap}
use mathlib.Core.Logic.{inl, inr, ⊎_elim}
use mathlib.Core.Bool.{true}
use mathlib.Core.List.Memᴰ
use mathlib.Core.List.{List, [], ◌∷◌, reverse, reverse-cons, reverse-reverse, Memᴰ}
use lib.ListN.{length, get_or, length-append, length-reverse}
use borrow.Author.Tests.{lt-ltb}
use Rattle.format.specs.declared.Section.{Section}
use Rattle.format.specs.declared.Section.TheVariants.{Groups, Rules, Constraints}
use Rattle.format.specs.Bytes.{Bytes}
use Rattle.format.specs.Format.{is_type, count_of}
use Rattle.format.specs.Policy.{Policy, records_of, image_of, policy_of}
use Rattle.format.specs.Check.{Accepted, image_in}
use Rattle.std.specs.Prelude.{Ok}
use Rattle.format.specs.Claims.{IsType, WellFormed}
use Rattle.format.proofs.ByCase.{records_of_groups, records_of_rules, records_of_constraints}
use Rattle.format.proofs.Fields.{is_type_lem}
use Rattle.format.proofs.Front.{front_accepted}
use Rattle.format.proofs.Images.{group_count, accepted_is_well_formed, well_formed_is_accepted}
use Rattle.extension.specs.Add.{section_of, buffer_after}
use Rattle.extension.proofs.Adds.{with_groups_lem, with_rules, with_constraints, rules_with, added_accepted, groups_kept}
use Rattle.decision.specs.declared.Query.{Query}
use Rattle.decision.specs.Sets.{is_in, set_of, all_of, within}
use Rattle.decision.specs.declared.Decision.{Decision}
use Rattle.decision.specs.Decide.{answer}
use Rattle.decision.specs.Order.{height, Holds, Keeps}
use Rattle.decision.specs.Growth.{AddedGrows, AddedOrder, SameRules, reordered, DecidedLevel, RulesReordered, MemberOrder}
use Rattle.decision.proofs.Order.{answer_types, keeps_same, grown_order, query_order, decided}

-- ---- adding

pub added_grows : AddedGrows
added_grows b r by bytes e =
    let s : Section = section_of (get_or r 1 0) in
    let p : Policy = policy_of (image_in b) in
    let after = sym (added_accepted b r by bytes e).1 in
    record {
      rules = subst (λ (q : Policy). Holds p.rules q.rules) after (with_rules p r s);
      constraints = subst (λ (q : Policy). Holds p.constraints q.constraints) after (with_constraints p r s);
      groups = record {
        count = subst (λ (q : Policy). length p.groups ≤ length q.groups) after (with_groups_lem p r s);
        same = λ i h. sym (groups_kept b r by bytes e i h);
      };
    }

type_more : (g g' t : ℕ) → g ≤ g' → IsType g t → IsType g' t
type_more g g' t h (inl k) = inl k
type_more g g' t h (inr q) = inr (q.0, omega (arith, q.1), q.2)

-- a query that is valid on a policy is valid on an accepted one with at least as many groups
still_decided : (l₁ l₂ : List ℕ) (q : Query) (d : Decision) → answer l₁ q ≡ Ok d → Accepted l₂
    → length (policy_of l₁).groups ≤ length (policy_of l₂).groups → (d₂ : Decision) × (answer l₂ q ≡ Ok d₂)
still_decided l₁ l₂ q d e c h =
    let t = answer_types l₁ q d e in
    let valid : (x : ℕ) → IsType (length (policy_of l₁).groups) x → is_type (count_of l₂ Groups) x ≡ true =
    λ x k. is_type_lem (count_of l₂ Groups) x (subst (λ (g : ℕ). IsType g x) (group_count l₂) (type_more _ _ x h k)) in
    decided l₂ q c (valid q.source t.0, valid q.dest t.1)

pub added_order : AddedOrder
added_order b r by bytes e n q d a =
    let p : Policy = policy_of (image_in b) in
    let added = added_accepted b r by bytes e in
    let grows = added_grows b r by bytes e in
    let still = still_decided (image_in b) (image_in (buffer_after b r)) q d a (front_accepted (buffer_after b r) added.0) grows.groups.count in
    let back : (section_of (get_or r 1 0) ≡ Rules → ⊥) → Holds (policy_of (image_in (buffer_after b r))).rules p.rules =
    λ m. subst (λ (x : Policy). Holds x.rules p.rules) (sym added.1) (rules_with p r (section_of (get_or r 1 0)) m) in
    record {
      now = still.0;
      answered = still.1;
      above = grown_order (image_in b) (image_in (buffer_after b r)) q d still.0 a still.1 grows (⊎_elim inl (λ m. inr (back m)) n);
    }

-- ---- the same rules

not_lower :
    (l₁ l₂ : List ℕ) (q : Query) (d₁ d₂ : Decision) → answer l₁ q ≡ Ok d₁ → answer l₂ q ≡ Ok d₂
    → (policy_of l₁).groups ≡ (policy_of l₂).groups → Holds (policy_of l₁).constraints (policy_of l₂).constraints
    → Holds (policy_of l₁).rules (policy_of l₂).rules → Holds (policy_of l₂).rules (policy_of l₁).rules → height d₁ ≤ height d₂
not_lower l₁ l₂ q d₁ d₂ e₁ e₂ g c there back =
    grown_order l₁ l₂ q d₁ d₂ e₁ e₂
    (record { rules = there; constraints = c; groups = subst (Keeps (policy_of l₁).groups) g (keeps_same (policy_of l₁).groups) }) (inr back)

pub same_rules : SameRules
same_rules l₁ l₂ q d₁ d₂ e₁ e₂ g c c' there back =
    let up = not_lower l₁ l₂ q d₁ d₂ e₁ e₂ g c there back in
    let down = not_lower l₂ l₁ q d₂ d₁ e₂ e₁ (sym g) c' back there in
    omega arith

reverse_mem : {x : List ℕ} (xs : List (List ℕ)) → Memᴰ x (reverse xs) → Memᴰ x xs
reverse_mem [] m = m
reverse_mem {x} (y ∷ xs) m =
    ⊎_elim (λ k. Memᴰ.tail (reverse_mem xs k)) (λ k. Memᴰ.head (Memᴰ.eq_of_singleton k))
    (Memᴰ.append_cases (reverse xs) (subst (Memᴰ x) (reverse-cons y xs) m))

mem_reverse : {x : List ℕ} (xs : List (List ℕ)) → Memᴰ x xs → Memᴰ x (reverse xs)
mem_reverse {x} xs m = reverse_mem (reverse xs) (subst (Memᴰ x) (sym (reverse-reverse xs)) m)

-- two policies with the same groups, and each with the other's rules and constraints
record Alike (p₁ p₂ : Policy) : Type 0 where
  groups : p₁.groups ≡ p₂.groups
  constraints : Holds p₁.constraints p₂.constraints
  constraints_back : Holds p₂.constraints p₁.constraints
  rules : Holds p₁.rules p₂.rules
  rules_back : Holds p₂.rules p₁.rules

module _ (p : Policy) where
  reordered_alike : Alike p (reordered p)
  unfolding reordered
  reordered_alike =
      record {
        groups = refl;
        constraints = λ x m. mem_reverse p.constraints m;
        constraints_back = λ x m. reverse_mem p.constraints m;
        rules = λ x m. Memᴰ.append_right (reverse p.rules) m;
        rules_back = λ x m. ⊎_elim (reverse_mem p.rules) (λ k. k) (Memᴰ.append_cases (reverse p.rules) m);
      }

  -- what holds of each record holds of each record still
  reordered_all :
      (P : Section → List ℕ → Type 0) → ((s : Section) (r : List ℕ) → Memᴰ r (records_of p s) → P s r)
      → (s : Section) (r : List ℕ) → Memᴰ r (records_of (reordered p) s) → P s r
  unfolding reordered
  reordered_all P h Groups r m = h Groups r (rw (records_of_groups p) (rw (records_of_groups (reordered p)) at m))
  reordered_all P h Rules r m = h Rules r (rw (records_of_rules p) (reordered_alike.rules_back r (rw (records_of_rules (reordered p)) at m)))
  reordered_all P h Constraints r m =
      h Constraints r (rw (records_of_constraints p) (reordered_alike.constraints_back r (rw (records_of_constraints (reordered p)) at m)))

  reordered_formed : WellFormed p → length p.rules + length p.rules ≤ 1024 → WellFormed (reordered p)
  unfolding reordered
  reordered_formed w h =
      record {
        version = w.version;
        few_groups = w.few_groups;
        few_rules = omega (arith, length-append (reverse p.rules) p.rules, length-reverse p.rules);
        few_constraints = omega (arith, w.few_constraints, length-reverse p.constraints);
        records = reordered_all (λ s r. _) w.records;
        bytes = reordered_all (λ s r. Bytes r) w.bytes;
      }

reordered_accepted :
    (l : List ℕ) → Bytes l → Accepted l → length (policy_of l).rules + length (policy_of l).rules ≤ 1024
    → Bytes (image_of (reordered (policy_of l))) × Accepted (image_of (reordered (policy_of l))) × (policy_of (image_of (reordered (policy_of l))) ≡ reordered (policy_of l))
unfolding reordered
reordered_accepted l by e h =
    let w = accepted_is_well_formed l by e in
    well_formed_is_accepted (reordered (policy_of l)) (reordered_formed (policy_of l) w.0 h) w.2

pub rules_reordered : RulesReordered
rules_reordered l by e h = (ok.1, level)
  where
    p : Policy
    p = policy_of l

    l₂ : List ℕ
    l₂ = image_of (reordered (policy_of l))

    ok : Bytes l₂ × Accepted l₂ × (policy_of l₂ ≡ reordered p)
    ok = reordered_accepted l by e h

    alike : Alike p (policy_of l₂)
    alike = subst (Alike p) (sym ok.2) (reordered_alike p)

    level : (q : Query) (d : Decision) → answer l q ≡ Ok d → DecidedLevel l₂ q d
    level q d a =
        let still = still_decided l l₂ q d a ok.1 (omega (arith, ap length alike.groups)) in
        record {
          now = still.0;
          answered = still.1;
          level =
              same_rules l l₂ q d still.0 a still.1 alike.groups alike.constraints alike.constraints_back
              alike.rules alike.rules_back;
        }

-- ---- a member of a group

one_within : (m : ℕ) (gs : List (List ℕ)) (s : List ℕ) → m < 1024 → is_in m s ≡ true → within (set_of gs m) s ≡ true
unfolding set_of within all_of
one_within m gs s h e = simp (lt-ltb m 32768 (omega arith), e)

pub member_order : MemberOrder
member_order l q₁ q₂ d₁ d₂ e₁ e₂ c a w s d hs hd =
    query_order l q₁ q₂ d₁ d₂ e₁ e₂ c a w (one_within q₂.source _ _ s hs) (one_within q₂.dest _ _ d hd)
