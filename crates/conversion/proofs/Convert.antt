-- Conversion keeps every answer, leaves no twins, and leaves what has none as it is. Claims ConvertedReads, ConvertedAnswers,
-- ConvertedAccepted, ConvertedBytes, ConvertedOnce. Assumes nothing.
--     converted_formed     the converted policy is well formed
--     converted_same       a policy without twins stays as it is
--     converted_apart      the converted policy has no twins
--     rules_read, constraints_read, converted_decides   it reads and decides as the old one
--     body_length          the bytes of a policy's records
--     flatten_as_long, rules_as_long, constraints_as_long   moved records have as many bytes as the old ones
--     image_is             the new image is that of the converted policy
--     converted_length, length_converted   the new image's length: the header, the groups kept, and the old rules and constraints
use Prim.Native.Nat.{ℕ, ◌+◌, ◌≤◌}
use native.Mathlib.Omega.{arith}
use mathlib.Core.Path.{◌≡◌, refl, sym, subst, ap, ◌∙◌}
use mathlib.Core.List.{List, [], ◌∷◌, ◌++◌, map, map-id, flatten, Memᴰ}
use lib.ListN.{length, length-append}
use Rattle.format.specs.declared.Section.{Section}
use Rattle.format.specs.declared.Section.TheVariants.{Groups, Rules, Constraints}
use Rattle.format.specs.Bytes.{Bytes}
use Rattle.format.specs.Format.{count_of}
use Rattle.format.specs.Policy.{Policy, records_of, body_of, image_of, policy_of}
use Rattle.format.specs.Twins.{NoTwins}
use Rattle.format.specs.Check.{LaidOut}
use Rattle.std.specs.Prelude.{Ok}
use Rattle.format.specs.Claims.{IsType, IsRecord, WellFormed}
use Rattle.format.proofs.ByCase.{records_of_groups, records_of_rules, records_of_constraints}
use Rattle.format.proofs.Fields.{type_is, is_type_lem, record_group, group_record}
use Rattle.format.proofs.Images.{image_length, group_count, laid_is_well_formed, accepted_is_well_formed, well_formed_is_accepted}
use Rattle.format.proofs.Written.{body_parts}
use Rattle.decision.specs.declared.Query.{Query}
use Rattle.decision.specs.Reading.{rules_of, constraints_of}
use Rattle.decision.specs.Decide.{decide, Valid}
use Rattle.decision.proofs.Answers.{decide_alike, answer_gives}
use Rattle.decision.proofs.Settled.{map_same}
use Rattle.conversion.specs.Groups.{distinct, moved}
use Rattle.conversion.specs.Retype.{retype_rule, retype_constraint, retype_query}
use Rattle.conversion.specs.Convert.{follow, converted, converted_image}
use Rattle.conversion.specs.Claims.{ConvertedReads, ConvertedAnswers, ConvertedAccepted, ConvertedBytes, ConvertedOnce}
use Rattle.conversion.proofs.Groups.{distinct_from, distinct_apart, distinct_count, distinct_bytes, distinct_same}
use Rattle.conversion.proofs.Groups.{moved_same}
use Rattle.conversion.proofs.Retype.{rule_same, rule_length, constraint_same, constraint_length}
use Rattle.conversion.proofs.Moved.{rule_record_at, constraint_record_at, rule_bytes_at, constraint_bytes_at, rule_at}
use Rattle.conversion.proofs.Moved.{constraint_at, request_moved, rules_alike, constraints_alike, rules_formed}
use Rattle.conversion.proofs.Moved.{constraints_formed, rules_bytes, constraints_bytes}
use Rattle.conversion.proofs.Records.{version_is, groups_are, rules_are, constraints_are, follow_is, groups_held}
use Rattle.conversion.proofs.Records.{follow_type, records_kept}

-- ---- the converted policy is well formed

module _ (p : Policy) (w : WellFormed p) where
  pub few_groups : length (converted p).groups ≤ 256
  few_groups = omega (arith, ap length (groups_are p), distinct_count p.groups, w.few_groups)

  group_from : (r : List ℕ) → Memᴰ r (converted p).groups → Memᴰ r (records_of p Groups)
  group_from r m = rw (records_of_groups p) (distinct_from p.groups r (rw (groups_are p) at m))

  rules_with : (converted p).rules ≡ map (retype_rule (moved p.groups (converted p).groups)) p.rules
  rules_with = rules_are p ∙ ap (λ (f : ℕ → ℕ). map (retype_rule f) p.rules) (follow_is p)

  constraints_with : (converted p).constraints ≡ map (retype_constraint (moved p.groups (converted p).groups)) p.constraints
  constraints_with = constraints_are p ∙ ap (λ (f : ℕ → ℕ). map (retype_constraint f) p.constraints) (follow_is p)

  records : (s : Section) (r : List ℕ) → Memᴰ r (records_of (converted p) s) → IsRecord s (length (converted p).groups) r
  records Groups r m =
      group_record (length (converted p).groups) r
      (record_group (length p.groups) r (w.records Groups r (group_from r (rw (records_of_groups (converted p)) at m))))
  records Rules r m =
      rules_formed p (converted p) (groups_held p) w r
      (subst (λ (rs : List (List ℕ)). Memᴰ r rs) rules_with (rw (records_of_rules (converted p)) at m))
  records Constraints r m =
      constraints_formed p (converted p) (groups_held p) w r
      (subst (λ (rs : List (List ℕ)). Memᴰ r rs) constraints_with (rw (records_of_constraints (converted p)) at m))

  bytes : (s : Section) (r : List ℕ) → Memᴰ r (records_of (converted p) s) → Bytes r
  bytes Groups r m = w.bytes Groups r (group_from r (rw (records_of_groups (converted p)) at m))
  bytes Rules r m =
      rules_bytes p (converted p) (groups_held p) w few_groups r
      (subst (λ (rs : List (List ℕ)). Memᴰ r rs) rules_with (rw (records_of_rules (converted p)) at m))
  bytes Constraints r m =
      constraints_bytes p (converted p) (groups_held p) w few_groups r
      (subst (λ (rs : List (List ℕ)). Memᴰ r rs) constraints_with (rw (records_of_constraints (converted p)) at m))

  pub converted_formed : WellFormed (converted p)
  converted_formed =
      let k = records_kept p w in
      record {
        version = k.version ∙ w.version;
        few_groups = few_groups;
        few_rules = omega (arith, w.few_rules, k.rule_count);
        few_constraints = omega (arith, w.few_constraints, k.constraint_count);
        records = records;
        bytes = bytes;
      }

pub converted_apart : (p : Policy) → NoTwins (converted p).groups
converted_apart p = rw (groups_are p) (distinct_apart p.groups)

-- ---- it reads the same

module _ (p : Policy) (w : WellFormed p) where
  pub rules_read : (v : ℕ) → rules_of (converted p) v ≡ rules_of p v
  rules_read = rules_alike p (converted p) (groups_held p) w (rules_with p w)

  pub constraints_read : constraints_of (converted p) ≡ constraints_of p
  constraints_read = constraints_alike p (converted p) (groups_held p) w (constraints_with p w)

  pub converted_decides :
      (q : Query) → IsType (length p.groups) q.source → IsType (length p.groups) q.dest
      → decide (converted p) (retype_query (follow p) q) ≡ decide p q
  unfolding retype_query
  converted_decides q s d =
      decide_alike p (converted p) q (retype_query (follow p) q) (rules_read q.switches) constraints_read
      (rw (follow_is p) (request_moved p (converted p) (groups_held p) q s d))

pub converted_reads : ConvertedReads
converted_reads l b e = let w = (laid_is_well_formed l b e).0 in (rules_read (policy_of l) w, constraints_read (policy_of l) w)

-- ---- the new image

-- records as long as the old ones have as many bytes together
pub flatten_as_long : (f : List ℕ → List ℕ) (rs : List (List ℕ)) → ((r : List ℕ) → Memᴰ r rs → length (f r) ≡ length r)
    → length (flatten (map f rs)) ≡ length (flatten rs)
unfolding flatten
flatten_as_long f [] h = refl
flatten_as_long f (r ∷ rs) h =
    let e = flatten_as_long f rs (λ z m. h z (Memᴰ.tail m)) in
    omega (arith, h r (Memᴰ.head refl), length-append (f r) (flatten (map f rs)), length-append r (flatten rs))

pub body_length : (p : Policy) →
    length (body_of p) ≡ length (flatten p.groups) + length (flatten p.rules) + length (flatten p.constraints)
body_length p =
    let g : List ℕ = flatten p.groups in
    let r : List ℕ = flatten p.rules in
    let c : List ℕ = flatten p.constraints in
    omega (arith, ap length (body_parts p), length-append g (r ++ c), length-append r c)

module _ (p : Policy) (w : WellFormed p) where
  pub rules_as_long : (f : ℕ → ℕ) → length (flatten (map (retype_rule f) p.rules)) ≡ length (flatten p.rules)
  rules_as_long f = flatten_as_long (retype_rule f) p.rules (λ r m. rule_length f (length p.groups) r (rule_record_at p w r m))

  pub constraints_as_long : (f : ℕ → ℕ) →
      length (flatten (map (retype_constraint f) p.constraints)) ≡ length (flatten p.constraints)
  constraints_as_long f =
      flatten_as_long (retype_constraint f) p.constraints
      (λ r m. constraint_length f (length p.groups) r (constraint_record_at p w r m))

  pub converted_length :
      length (image_of (converted p))
      ≡ 9 + length (flatten (distinct p.groups)) + length (flatten p.rules) + length (flatten p.constraints)
  converted_length =
      let g : length (flatten (converted p).groups) ≡ length (flatten (distinct p.groups))
      = ap (λ (rs : List (List ℕ)). length (flatten rs)) (groups_are p) in
      let r : length (flatten (converted p).rules) ≡ length (flatten p.rules)
      = ap (λ (rs : List (List ℕ)). length (flatten rs)) (rules_are p) ∙ rules_as_long (follow p) in
      let c : length (flatten (converted p).constraints) ≡ length (flatten p.constraints)
      = ap (λ (rs : List (List ℕ)). length (flatten rs)) (constraints_are p) ∙ constraints_as_long (follow p) in
      omega (arith, image_length (converted p), body_length (converted p))

pub image_is : (l : List ℕ) → converted_image l ≡ image_of (converted (policy_of l))
unfolding converted_image
image_is l = refl

-- the new image's length, from the old image
pub length_converted :
    (l : List ℕ) → Bytes l → LaidOut l
    → length (converted_image l)
    ≡ 9 + length (flatten (distinct (policy_of l).groups))
    + length (flatten (policy_of l).rules) + length (flatten (policy_of l).constraints)
length_converted l b e = ap length (image_is l) ∙ converted_length (policy_of l) (laid_is_well_formed l b e).0

pub converted_accepted : ConvertedAccepted
converted_accepted l b e =
    let p : Policy = policy_of l in
    let f = laid_is_well_formed l b e in
    let a = well_formed_is_accepted (converted p) (converted_formed p f.0) (converted_apart p) in
    let old = ap length (sym f.1) ∙ image_length p in
    record {
      accepted = rw (image_is l) a.1;
      bytes = rw (image_is l) a.0;
      policy = ap policy_of (image_is l) ∙ a.2;
      shorter = omega (arith, length_converted l b e, old, body_length p, distinct_bytes p.groups);
    }

pub converted_answers : ConvertedAnswers
unfolding retype_query
converted_answers l q b e v =
    let p : Policy = policy_of l in
    let new = converted_accepted l b e in
    let f : ℕ → ℕ = follow p in
    let typed : (t : ℕ) → IsType (count_of l Groups) t → IsType (length p.groups) t
    = λ t h. subst (λ (g : ℕ). IsType g t) (sym (group_count l)) h in
    let s = typed q.source (type_is _ _ v.0) in
    let d = typed q.dest (type_is _ _ v.1) in
    let count : length (converted p).groups ≡ count_of (converted_image l) Groups
    = ap (λ (x : Policy). length x.groups) (sym new.policy) ∙ group_count (converted_image l) in
    let valid : Valid (converted_image l) (retype_query f q) = (
      is_type_lem _ _ (subst (λ (g : ℕ). IsType g (f q.source)) count (follow_type p q.source s)),
      is_type_lem _ _ (subst (λ (g : ℕ). IsType g (f q.dest)) count (follow_type p q.dest d)),
    ) in
    answer_gives (converted_image l) (retype_query f q) new.accepted valid
    ∙ ap Ok (ap (λ (x : Policy). decide x (retype_query f q)) new.policy
    ∙ converted_decides p (laid_is_well_formed l b e).0 q s d)

-- ---- a policy without twins

policy_alike :
    (p p' : Policy) → p'.version ≡ p.version → p'.groups ≡ p.groups → p'.rules ≡ p.rules → p'.constraints ≡ p.constraints
    → p' ≡ p
policy_alike p p' v g r c = λ i. record { version = v i; groups = g i; rules = r i; constraints = c i }

module _ (p : Policy) (w : WellFormed p) (e : NoTwins p.groups) where
  groups_same : (converted p).groups ≡ p.groups
  groups_same = groups_are p ∙ distinct_same p.groups e

  stays : follow p ≡ moved p.groups p.groups
  stays = follow_is p ∙ ap (moved p.groups) groups_same

  same : (t : ℕ) → IsType (length p.groups) t → follow p t ≡ t
  same t h = ap (λ (f : ℕ → ℕ). f t) stays ∙ moved_same p.groups e t h

  rules_same : map (retype_rule (follow p)) p.rules ≡ p.rules
  rules_same =
      map_same (retype_rule (follow p)) (λ r. r) p.rules
      (λ r m. let t = rule_at p w r m in
      rule_same (follow p) r t.long (rule_bytes_at p w r m) (same _ t.source) (same _ t.dest))
      ∙ map-id p.rules

  constraints_same : map (retype_constraint (follow p)) p.constraints ≡ p.constraints
  constraints_same =
      map_same (retype_constraint (follow p)) (λ r. r) p.constraints
      (λ r m. let t = constraint_at p w r m in
      constraint_same (follow p) r t.more t.size (constraint_bytes_at p w r m)
      (same _ t.first) (same _ t.second) (λ u k. same u (t.list u k)))
      ∙ map-id p.constraints

  pub converted_same : converted p ≡ p
  converted_same =
      policy_alike p (converted p) (version_is p) groups_same (rules_are p ∙ rules_same) (constraints_are p ∙ constraints_same)

pub converted_bytes : ConvertedBytes
converted_bytes l b e =
    let a = accepted_is_well_formed l b e in
    image_is l ∙ ap image_of (converted_same (policy_of l) a.0 a.2) ∙ a.1

pub converted_once : ConvertedOnce
converted_once l b e = let n = converted_accepted l b e in converted_bytes (converted_image l) n.bytes n.accepted
