-- Records and types after conversion. Claims RecordsStay, TypesFollow. Assumes nothing.
--     version_is, groups_are, rules_are, constraints_are   the parts of the converted policy
--     follow_is                        types move to the number of their group among the new ones
--     groups_held                      each old group is a new one
--     follow_basic, follow_group       where a basic type goes, and a group's number
--     follow_type                      a valid type stays valid
--     records_kept                     the records of a well-formed policy
use Prim.Native.Nat.{ℕ, ◌+◌, ◌≤◌, ◌<◌}
use native.Mathlib.Omega.{arith}
use mathlib.Core.Path.{◌≡◌, refl, sym, subst, ap, ◌∙◌}
use mathlib.Core.Logic.{◌⊎◌, inl, inr, ⊎_elim}
use mathlib.Core.List.{List, [], map, Memᴰ}
use lib.ListN.{length, get_or, length-map}
use Rattle.format.specs.declared.Section.TheVariants.{Rules, Constraints}
use Rattle.format.specs.Policy.{Policy, policy_of}
use Rattle.format.specs.Twins.{number_of}
use Rattle.format.specs.Claims.{IsType, IsRecord, WellFormed}
use Rattle.format.proofs.Twins.{get_or_mem, number_get}
use Rattle.format.proofs.Fields.{record_rule, record_constraint}
use Rattle.format.proofs.References.{rule_types, constraint_types}
use Rattle.format.proofs.Images.{laid_is_well_formed}
use Rattle.conversion.specs.Groups.{distinct, moved}
use Rattle.conversion.specs.Retype.{retype_rule, retype_constraint}
use Rattle.conversion.specs.Convert.{follow, converted}
use Rattle.conversion.specs.Claims.{Follows, RecordsKept, RecordsStay, TypesFollow}
use Rattle.conversion.proofs.Groups.{distinct_held, moved_basic, moved_group, moved_set, moved_type}
use Rattle.conversion.proofs.Retype.{map_nth, rule_fields, rule_long, constraint_fields, constraint_length, list_moved}
use Rattle.conversion.proofs.Moved.{rule_record_at, constraint_record_at}

-- ---- the parts of the converted policy

module _ (p : Policy) where
  pub version_is : (converted p).version ≡ p.version
  unfolding converted
  version_is = refl

  pub groups_are : (converted p).groups ≡ distinct p.groups
  unfolding converted
  groups_are = refl

  pub rules_are : (converted p).rules ≡ map (retype_rule (follow p)) p.rules
  unfolding converted
  rules_are = refl

  pub constraints_are : (converted p).constraints ≡ map (retype_constraint (follow p)) p.constraints
  unfolding converted
  constraints_are = refl

  pub follow_is : follow p ≡ moved p.groups (converted p).groups
  unfolding follow converted
  follow_is = refl

  pub groups_held : (g : List ℕ) → Memᴰ g p.groups → Memᴰ g (converted p).groups
  groups_held g m = rw groups_are (distinct_held p.groups g m)

  -- ---- types

  pub follow_basic : (t : ℕ) → t < 32768 → follow p t ≡ t
  unfolding follow
  follow_basic t h = moved_basic p.groups (distinct p.groups) t h

  pub follow_group : (k : ℕ) → follow p (32768 + k) ≡ 32768 + number_of (get_or p.groups k []) (distinct p.groups)
  unfolding follow
  follow_group k = moved_group p.groups (distinct p.groups) k

  pub follow_type : (t : ℕ) → IsType (length p.groups) t → IsType (length (converted p).groups) (follow p t)
  follow_type t h = rw follow_is (moved_type p.groups (converted p).groups groups_held t h)

pub types_follow : TypesFollow
types_follow =
    record {
      set = λ p t h. rw (follow_is p) (moved_set p.groups (converted p).groups (groups_held p) t h);
      valid = follow_type;
      basic = λ p t h. follow_basic p t (omega arith);
      group = λ p k h.
          let r = number_get (converted p).groups (groups_held p _ (get_or_mem p.groups k [] h)) in
          (number_of (get_or p.groups k []) (converted p).groups, r.0, rw (groups_are p) (follow_group p k), r.1);
    }

-- ---- records

module _ (f : ℕ → ℕ) (g : ℕ) (r : List ℕ) where
  kind_of_lem : IsRecord Rules g r → (get_or r 1 0 ≡ 2) ⊎ (get_or r 1 0 ≡ 3)
  kind_of_lem q = ⊎_elim (λ a. inl a.kind) (λ a. inr a.kind) (record_rule g r q)

  rule_follows : IsRecord Rules g r → Follows f r (retype_rule f r)
  rule_follows q =
      let c = rule_fields f r (rule_long f g r q) in
      let k = kind_of_lem q in
      let k' : (get_or (retype_rule f r) 1 0 ≡ 2) ⊎ (get_or (retype_rule f r) 1 0 ≡ 3)
      = ⊎_elim (λ e. inl (c.kind ∙ e)) (λ e. inr (c.kind ∙ e)) k in
      record { size = c.size; fields = rule_types (retype_rule f r) k' ∙ rw (c.source, c.dest, rule_types r k) refl }

  constraint_follows : IsRecord Constraints g r → Follows f r (retype_constraint f r)
  constraint_follows q =
      let a = (record_constraint g r q).1 in
      let long : 11 ≤ length r = omega (arith, a.size.1) in
      let c = constraint_fields f r long in
      record {
        size = constraint_length f g r q;
        fields =
            constraint_types (retype_constraint f r) (c.kind ∙ a.kind)
            ∙ rw (c.one, c.two, list_moved f r long, constraint_types r a.kind) refl;
      }

module _ (p : Policy) (w : WellFormed p) where
  rule_nth : (i : ℕ) → i < length p.rules → get_or (converted p).rules i [] ≡ retype_rule (follow p) (get_or p.rules i [])
  rule_nth i h = ap (λ (rs : List (List ℕ)). get_or rs i []) (rules_are p) ∙ map_nth (retype_rule (follow p)) p.rules i [] [] h

  constraint_nth : (i : ℕ) → i < length p.constraints
      → get_or (converted p).constraints i [] ≡ retype_constraint (follow p) (get_or p.constraints i [])
  constraint_nth i h = ap (λ (rs : List (List ℕ)). get_or rs i []) (constraints_are p)
      ∙ map_nth (retype_constraint (follow p)) p.constraints i [] [] h

  rule_is : (i : ℕ) → i < length p.rules → IsRecord Rules (length p.groups) (get_or p.rules i [])
  rule_is i h = rule_record_at p w _ (get_or_mem p.rules i [] h)

  constraint_is : (i : ℕ) → i < length p.constraints → IsRecord Constraints (length p.groups) (get_or p.constraints i [])
  constraint_is i h = constraint_record_at p w _ (get_or_mem p.constraints i [] h)

  pub records_kept : RecordsKept p
  records_kept =
      record {
        version = version_is p;
        groups = groups_are p;
        rule_count = ap length (rules_are p) ∙ length-map p.rules (retype_rule (follow p));
        rules = λ i h.
            subst (Follows (follow p) (get_or p.rules i [])) (sym (rule_nth i h)) (rule_follows (follow p) _ _ (rule_is i h));
        rule_bytes = λ i h k j.
            ap (λ (r : List ℕ). get_or r k 0) (rule_nth i h)
            ∙ (rule_fields (follow p) _ (rule_long (follow p) _ _ (rule_is i h))).other k j;
        constraint_count = ap length (constraints_are p) ∙ length-map p.constraints (retype_constraint (follow p));
        constraints = λ i h.
            subst (Follows (follow p) (get_or p.constraints i [])) (sym (constraint_nth i h))
            (constraint_follows (follow p) _ _ (constraint_is i h));
        constraint_bytes = λ i h k j.
            let long : 11 ≤ length (get_or p.constraints i [])
            = omega (arith, (record_constraint _ _ (constraint_is i h)).1.size.1) in
            ap (λ (r : List ℕ). get_or r k 0) (constraint_nth i h) ∙ (constraint_fields (follow p) _ long).other k j;
      }

pub records_stay : RecordsStay
records_stay l b e = records_kept (policy_of l) (laid_is_well_formed l b e).0
