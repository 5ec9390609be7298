-- A well-formed policy's records over the groups of another policy, among which are all of its own. Assumes nothing.
--     RuleTypes, ConstraintTypes         the types of a record that is well formed
--     rule_at, constraint_at             those of a policy's rule, and of a constraint
--     rule_record_at, constraint_record_at, rule_bytes_at, constraint_bytes_at   that they are well formed, and of bytes
--     rules_alike, constraints_alike     over the new groups, the moved records read as they did
--     request_moved                      and a query whose types are moved asks what it asked
--     rules_formed, constraints_formed   the moved records are well formed over the new groups
--     rules_bytes, constraints_bytes     and of bytes
use Prim.Native.Nat.{ℕ, ◌+◌, ◌*◌, ◌≤◌, ◌<◌}
use native.Mathlib.Omega.{arith}
use mathlib.Core.Path.{◌≡◌, refl, sym, subst, ap, ◌∙◌}
use mathlib.Core.Logic.{inl, inr, ⊎_elim}
use mathlib.Core.List.Memᴰ
use mathlib.Core.List.{List, map, map-map, Memᴰ}
use lib.ListN.{length, drop, length-drop}
use Rattle.format.specs.declared.Section.TheVariants.{Rules, Constraints}
use Rattle.format.specs.Bytes.{Bytes, word_at, words}
use Rattle.format.specs.Policy.{Policy}
use Rattle.format.specs.Claims.{IsType, IsRecord, WellFormed}
use Rattle.format.proofs.Bytes.{length_words, words_nth}
use Rattle.format.proofs.ByCase.{records_of_rules, records_of_constraints}
use Rattle.format.proofs.Twins.{mem_get_or}
use Rattle.format.proofs.Fields.{record_rule, record_constraint}
use Rattle.decision.specs.declared.Query.{Query}
use Rattle.decision.specs.Sets.{set_of}
use Rattle.decision.specs.Reading.{rule_of, constraint_of, request_of, rules_of, constraints_of}
use Rattle.decision.proofs.Kept.{union_moved, RuleAlike, ConstraintAlike, rule_alike, constraint_alike, request_alike, rules_mapped}
use Rattle.decision.proofs.Kept.{constraints_mapped}
use Rattle.decision.proofs.Settled.{map_same}
use Rattle.conversion.specs.Groups.{moved}
use Rattle.conversion.specs.Retype.{retype_rule, retype_constraint, retype_query}
use Rattle.conversion.proofs.Groups.{moved_set, moved_type}
use Rattle.conversion.proofs.Retype.{rule_fields, rule_formed, rule_bytes, constraint_fields, constraint_formed}
use Rattle.conversion.proofs.Retype.{constraint_bytes, list_moved}

-- ---- the types of a record

pub record RuleTypes (g : ℕ) (r : List ℕ) : Type 0 where
  pub long : 6 ≤ length r
  pub source : IsType g (word_at r 2)
  pub dest : IsType g (word_at r 4)

rule_held : (g : ℕ) (r : List ℕ) → IsRecord Rules g r → RuleTypes g r
rule_held g r q =
    ⊎_elim
    (λ a. record { long = omega (arith, a.size.1); source = a.source; dest = a.dest })
    (λ a. record { long = omega (arith, a.size.1); source = a.source; dest = a.dest })
    (record_rule g r q)

pub record ConstraintTypes (g : ℕ) (r : List ℕ) : Type 0 where
  pub more : ℕ
  pub size : length r ≡ 11 + 2 * more
  pub first : IsType g (word_at r 6)
  pub second : IsType g (word_at r 8)
  pub list : (t : ℕ) → Memᴰ t (words (drop 11 r)) → IsType g t

constraint_held : (g : ℕ) (r : List ℕ) → IsRecord Constraints g r → ConstraintTypes g r
constraint_held g r c =
    let f = record_constraint g r c in
    let q = f.1 in
    record {
      more = f.0;
      size = q.size.1;
      first = q.first;
      second = q.second;
      list = λ t m.
          let i = mem_get_or (words (drop 11 r)) 0 m in
          let n : i.0 < f.0 = omega (arith, i.1, q.size.1, length_words (drop 11 r), length-drop 11 r) in
          subst (IsType g) (sym (words_nth r 11 i.0 i.1) ∙ i.2) (q.list i.0 n);
    }

type_small : (g t : ℕ) → g ≤ 256 → IsType g t → t < 65536
type_small g t n (inl h) = omega arith
type_small g t n (inr q) = let e = q.2 in omega (arith, q.1)

-- what holds of f of each element holds of each element of the mapped list
map_all :
    {A B : Type 0} (f : A → B) (P : B → Type 0) (xs : List A) → ((x : A) → Memᴰ x xs → P (f x))
    → (y : B) → Memᴰ y (map f xs) → P y
map_all f P xs h y m = let x = Memᴰ.of_map f xs m in subst P x.2 (h x.0 x.1)

module _ (p : Policy) (w : WellFormed p) where
  pub rule_record_at : (r : List ℕ) → Memᴰ r p.rules → IsRecord Rules (length p.groups) r
  rule_record_at r m = w.records Rules r (rw (records_of_rules p) m)

  pub constraint_record_at : (r : List ℕ) → Memᴰ r p.constraints → IsRecord Constraints (length p.groups) r
  constraint_record_at r m = w.records Constraints r (rw (records_of_constraints p) m)

  pub rule_bytes_at : (r : List ℕ) → Memᴰ r p.rules → Bytes r
  rule_bytes_at r m = w.bytes Rules r (rw (records_of_rules p) m)

  pub constraint_bytes_at : (r : List ℕ) → Memᴰ r p.constraints → Bytes r
  constraint_bytes_at r m = w.bytes Constraints r (rw (records_of_constraints p) m)

  pub rule_at : (r : List ℕ) → Memᴰ r p.rules → RuleTypes (length p.groups) r
  rule_at r m = rule_held (length p.groups) r (rule_record_at r m)

  pub constraint_at : (r : List ℕ) → Memᴰ r p.constraints → ConstraintTypes (length p.groups) r
  constraint_at r m = constraint_held (length p.groups) r (constraint_record_at r m)

-- ---- over other groups

module _ (p p' : Policy) (held : (g : List ℕ) → Memᴰ g p.groups → Memᴰ g p'.groups) where
  abbrev to : ℕ → ℕ
  to = moved p.groups p'.groups

  set_of_lem : (t : ℕ) → IsType (length p.groups) t → set_of p'.groups (to t) ≡ set_of p.groups t
  set_of_lem = moved_set p.groups p'.groups held

  valid : (t : ℕ) → IsType (length p.groups) t → IsType (length p'.groups) (to t)
  valid = moved_type p.groups p'.groups held

  rule_reads : (r : List ℕ) → RuleTypes (length p.groups) r → RuleAlike p p' r (retype_rule to r)
  rule_reads r t =
      let c = rule_fields to r t.long in
      record {
        kind = c.kind;
        source = ap (set_of p'.groups) c.source ∙ set_of_lem _ t.source;
        dest = ap (set_of p'.groups) c.dest ∙ set_of_lem _ t.dest;
        class = c.class;
        action = c.action;
        condition = c.condition;
      }

  constraint_reads : (r : List ℕ) → ConstraintTypes (length p.groups) r → ConstraintAlike p p' r (retype_constraint to r)
  constraint_reads r t =
      let long : 11 ≤ length r = omega (arith, t.size) in
      let c = constraint_fields to r long in
      record {
        class = c.class;
        action = c.action;
        first = ap (set_of p'.groups) c.one ∙ set_of_lem _ t.first;
        second = ap (set_of p'.groups) c.two ∙ set_of_lem _ t.second;
        predicate = c.predicate;
        list =
            rw (list_moved to r long) (union_moved p.groups p'.groups to (words (drop 11 r)) (λ u m. set_of_lem u (t.list u m)));
      }

  pub request_moved :
      (q : Query) → IsType (length p.groups) q.source → IsType (length p.groups) q.dest
      → request_of p' (retype_query to q) ≡ request_of p q
  unfolding retype_query
  request_moved q s d = request_alike p p' q (retype_query to q) (set_of_lem q.source s) (set_of_lem q.dest d) refl refl

  module _ (w : WellFormed p) where
    pub rules_alike : p'.rules ≡ map (retype_rule to) p.rules → (v : ℕ) → rules_of p' v ≡ rules_of p v
    rules_alike e v =
        rules_mapped p' v ∙ ap (map (rule_of p' v)) e ∙ map-map (rule_of p' v) (retype_rule to) p.rules
        ∙ map_same (λ r. rule_of p' v (retype_rule to r)) (rule_of p v) p.rules
        (λ r m. rule_alike p p' v r _ (rule_reads r (rule_at p w r m)))
        ∙ sym (rules_mapped p v)

    pub constraints_alike : p'.constraints ≡ map (retype_constraint to) p.constraints → constraints_of p' ≡ constraints_of p
    constraints_alike e =
        constraints_mapped p' ∙ ap (map (constraint_of p')) e ∙ map-map (constraint_of p') (retype_constraint to) p.constraints
        ∙ map_same (λ r. constraint_of p' (retype_constraint to r)) (constraint_of p) p.constraints
        (λ r m. constraint_alike p p' r _ (constraint_reads r (constraint_at p w r m)))
        ∙ sym (constraints_mapped p)

    pub rules_formed : (r : List ℕ) → Memᴰ r (map (retype_rule to) p.rules) → IsRecord Rules (length p'.groups) r
    rules_formed =
        map_all (retype_rule to) (IsRecord Rules (length p'.groups)) p.rules
        (λ r m. rule_formed to (length p.groups) (length p'.groups) valid r (rule_record_at p w r m))

    pub constraints_formed :
        (r : List ℕ) → Memᴰ r (map (retype_constraint to) p.constraints) → IsRecord Constraints (length p'.groups) r
    constraints_formed =
        map_all (retype_constraint to) (IsRecord Constraints (length p'.groups)) p.constraints
        (λ r m. constraint_formed to (length p.groups) (length p'.groups) valid r (constraint_record_at p w r m))

    module _ (few : length p'.groups ≤ 256) where
      small : (t : ℕ) → IsType (length p.groups) t → to t < 65536
      small t h = type_small (length p'.groups) (to t) few (valid t h)

      pub rules_bytes : (r : List ℕ) → Memᴰ r (map (retype_rule to) p.rules) → Bytes r
      rules_bytes =
          map_all (retype_rule to) Bytes p.rules
          (λ r m. let t = rule_at p w r m in rule_bytes to r (rule_bytes_at p w r m) (small _ t.source) (small _ t.dest))

      pub constraints_bytes : (r : List ℕ) → Memᴰ r (map (retype_constraint to) p.constraints) → Bytes r
      constraints_bytes =
          map_all (retype_constraint to) Bytes p.constraints
          (λ r m. let t = constraint_at p w r m in
          constraint_bytes to r (constraint_bytes_at p w r m)
          (small _ t.first) (small _ t.second) (λ u k. small u (t.list u k)))
