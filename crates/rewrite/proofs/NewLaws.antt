-- Laws of the new image, by the parts that are written. Assumes nothing.
--     field_follows       a type field that is looked up goes where references go
--     rules_as, constraints_as   so the records with their fields changed are the new policy's
--     each_rule, each_constraint   each record becomes the new one where it stands
--     nine, image_split   an image: the nine bytes of its header, and its records
--     ready               what the code relies on before it writes
--     rules_lie, constraints_lie, whole   the buffer after the copy, and after each of the two loops over records
use Prim.Native.Nat.{ℕ, ◌+◌, ◌-◌, ◌*◌, ◌/◌, ◌%◌, ◌≤◌, ◌<◌}
use native.Mathlib.Omega.{arith}
use mathlib.Core.Path.{◌≡◌, refl, sym, subst, ap, ap₂, ◌∙◌}
use mathlib.Core.Logic.{inl, inr, ⊎_elim}
use mathlib.Core.Bool.{Bool}
use mathlib.Core.List.{List, [], ◌∷◌, ◌++◌, append_assoc, append-nil, map, flatten, Memᴰ}
use lib.ListN.{length, get_or, take, drop, length-append, length-map}
use lib.Seq.{take_all, take-length, length-take-le, take_at, drop_at}
use Rattle.std.proofs.lemmas.List.{drop_all}
use borrow.Rule.Slice.PartMut.{put_mid}
use Rattle.format.specs.declared.Section.TheVariants.{Groups, Rules, Constraints}
use Rattle.format.specs.declared.Starts.{Starts}
use Rattle.format.specs.Bytes.{Bytes, word_at, words, put_word}
use Rattle.format.specs.Policy.{Policy, image_of, body_of, policy_of, start_of}
use Rattle.format.specs.Check.{LaidOut}
use Rattle.format.specs.Claims.{IsType, WellFormed}
use Rattle.format.specs.Twins.{number_of, NoTwins}
use Rattle.format.specs.Answers.{starts}
use Rattle.format.proofs.ByCase.{records_of_groups, records_of_rules, records_of_constraints}
use Rattle.format.proofs.ByCase.{count_groups, count_rules, count_constraints}
use Rattle.format.proofs.Shapes.{length_least, shape_length, shape_kind}
use Rattle.format.proofs.Fields.{record_rule, record_constraint}
use Rattle.format.proofs.Accepted.{laid_header, laid_accepted, records_count}
use Rattle.format.proofs.Images.{Regular, laid_regular, laid_is_well_formed, image_length}
use Rattle.format.proofs.Images.{image_version, start_rules, start_constraints, group_count}
use Rattle.format.proofs.Written.{body_parts, image_nine}
use Rattle.format.proofs.Reach.{longest_image}
use Rattle.decision.proofs.Settled.{map_same}
use Rattle.conversion.specs.Groups.{distinct}
use Rattle.conversion.specs.Retype.{retype_rule, retype_constraint}
use Rattle.conversion.specs.Convert.{follow, converted, converted_image}
use Rattle.conversion.proofs.Moved.{rule_record_at, constraint_record_at, rule_bytes_at}
use Rattle.conversion.proofs.Moved.{constraint_bytes_at, rule_at, constraint_at}
use Rattle.conversion.proofs.Records.{version_is, groups_are, rules_are, constraints_are, follow_basic, follow_group}
use Rattle.conversion.proofs.Groups.{distinct_apart}
use Rattle.conversion.proofs.Convert.{few_groups, image_is, rules_as_long, length_converted, converted_accepted, converted_bytes}
use Rattle.rewrite.specs.declared.twins.Renumbering.{Renumbering}
use Rattle.rewrite.specs.Inner.Put.{put_at, Wrote}
use Rattle.rewrite.specs.Inner.Retype.{renumbered, records_in}
use Rattle.rewrite.specs.Inner.Kept.{Lie, pick, kept_of}
use Rattle.rewrite.specs.Inner.Settle.{Settled}
use Rattle.rewrite.specs.Inner.Ready.{Ready}
use Rattle.rewrite.proofs.PutLaws.{header_bytes, header_length_lem, put_length, wrote_then}
use Rattle.rewrite.proofs.RetypeLaws.{renumbered_basic, renumbered_group, Put, rule_put, constraint_put, records_put}
use Rattle.rewrite.proofs.KeptLaws.{Long, lie_put, kept_put}
use Rattle.rewrite.proofs.TwinLaws.{pick_all}

-- ---- type fields

rule_fields :
    (f g : ℕ → ℕ) (r : List ℕ) → f (word_at r 2) ≡ g (word_at r 2) → f (word_at r 4) ≡ g (word_at r 4)
    → retype_rule f r ≡ retype_rule g r
unfolding retype_rule
rule_fields f g r a b = rw (a, b) refl

constraint_fields :
    (f g : ℕ → ℕ) (r : List ℕ) → f (word_at r 6) ≡ g (word_at r 6) → f (word_at r 8) ≡ g (word_at r 8)
    → map f (words (drop 11 r)) ≡ map g (words (drop 11 r)) → retype_constraint f r ≡ retype_constraint g r
unfolding retype_constraint
constraint_fields f g r a b e = rw (a, b, e) refl

module _ (p : Policy) (w : WellFormed p) (to : List ℕ) (small : Bytes to)
    (numbers : (i : ℕ) → i < length p.groups → get_or to i 0 ≡ number_of (get_or p.groups i []) (distinct p.groups))
  where
    field_follows : (t : ℕ) → IsType (length p.groups) t → renumbered to t ≡ follow p t
    field_follows t (inl h) = renumbered_basic to small t (omega arith) ∙ sym (follow_basic p t (omega arith))
    field_follows t (inr q) =
        let k : ℕ = q.0 in
        let e : t ≡ 32768 + k = q.2 in
        let n = w.few_groups in
        let x : t / 256 * 256 ≡ 32768 = omega (arith, q.1) in
        let y : t % 256 ≡ k = omega (arith, q.1) in
        renumbered_group to small t (omega arith) ∙ ap₂ (λ (i j : ℕ). i + get_or to j 0) x y
        ∙ ap (λ (i : ℕ). 32768 + i) (numbers k q.1) ∙ sym (ap (follow p) e ∙ follow_group p k)

    pub rules_as : map (retype_rule (renumbered to)) p.rules ≡ (converted p).rules
    rules_as =
        map_same (retype_rule (renumbered to)) (retype_rule (follow p)) p.rules
        (λ r m. let t = rule_at p w r m in
        rule_fields (renumbered to) (follow p) r (field_follows _ t.source) (field_follows _ t.dest))
        ∙ sym (rules_are p)

    pub constraints_as : map (retype_constraint (renumbered to)) p.constraints ≡ (converted p).constraints
    constraints_as =
        map_same (retype_constraint (renumbered to)) (retype_constraint (follow p)) p.constraints
        (λ r m. let t = constraint_at p w r m in
        constraint_fields (renumbered to) (follow p) r (field_follows _ t.first) (field_follows _ t.second)
        (map_same (renumbered to) (follow p) (words (drop 11 r)) (λ x k. field_follows x (t.list x k))))
        ∙ sym (constraints_are p)

module _ (p : Policy) (w : WellFormed p) (to : List ℕ) (small : Bytes to) where
  each_rule : (r : List ℕ) → Memᴰ r p.rules → Put 2 to r (retype_rule (renumbered to) r)
  each_rule r m =
      let b = rule_bytes_at p w r m in
      ⊎_elim
      (λ a. rule_put to small r a.size.0 (omega (arith, a.size.1)) (omega (arith, a.size.1)) b)
      (λ a. rule_put to small r a.size.0 (omega (arith, a.size.1)) (omega (arith, a.size.1)) b)
      (record_rule (length p.groups) r (rule_record_at p w r m))

  each_constraint : (r : List ℕ) → Memᴰ r p.constraints → Put 6 to r (retype_constraint (renumbered to) r)
  each_constraint r m =
      let a = record_constraint (length p.groups) r (constraint_record_at p w r m) in
      constraint_put to small r a.0 a.1.size.0 a.1.size.1 (constraint_bytes_at p w r m)

-- ---- an old image, by its parts

pub nine : Policy → List ℕ
nine p =
    p.version
    ∷ put_word (9 + length (body_of p)) (put_word (length p.groups)
    (put_word (length p.rules) (put_word (length p.constraints) [])))

nine_length : (p : Policy) → length (nine p) ≡ 9
unfolding nine
nine_length p = header_length_lem p.version (9 + length (body_of p)) (length p.groups) (length p.rules)
    (length p.constraints)

image_split : (p : Policy) → image_of p ≡ nine p ++ (flatten p.groups ++ (flatten p.rules ++ flatten p.constraints))
unfolding nine
image_split p =
    image_nine p
    ∙ ap₂ ◌++◌
    (header_bytes p.version (9 + length (body_of p)) (length p.groups) (length p.rules)
    (length p.constraints) _ _ _ _ _ _ _ _ refl refl refl refl refl refl refl refl)
    (body_parts p)

module _ (l : List ℕ) (by : Bytes l) (e : LaidOut l) where
  p : Policy
  p = policy_of l

  formed : WellFormed (policy_of l)
  formed = (laid_is_well_formed l by e).0

  is : image_of (policy_of l) ≡ l
  is = (laid_is_well_formed l by e).1

  regular : Regular (policy_of l)
  regular = laid_regular l by e

  G : List ℕ
  G = flatten (policy_of l).groups

  T : List ℕ
  T = flatten (policy_of l).rules ++ flatten (policy_of l).constraints

  parts : l ≡ nine (policy_of l) ++ (G ++ T)
  unfolding G T
  parts = sym is ∙ image_split (policy_of l)

  total : length l ≡ 9 + (length G + length T)
  total =
      ap length parts ∙ length-append (nine (policy_of l)) (G ++ T)
      ∙ ap₂ ◌+◌ (nine_length (policy_of l)) (length-append G T)

  rules_from : start_of l Rules ≡ 9 + length G
  unfolding G
  rules_from = ap (λ (x : List ℕ). start_of x Rules) (sym is) ∙ start_rules (policy_of l) regular

  constraints_from : start_of l Constraints ≡ 9 + length G + length (flatten (policy_of l).rules)
  unfolding G
  constraints_from = ap (λ (x : List ℕ). start_of x Constraints) (sym is) ∙ start_constraints (policy_of l) regular

  long_groups : Long 1 (policy_of l).groups
  long_groups r m =
      let e = (regular.formed Groups r (rw records_of_groups m)).shape in
      (sym (shape_length r e), omega (arith, length_least (get_or r 1 0) (length r) (shape_kind r e)))

  old_groups : drop 9 l ≡ flatten (policy_of l).groups ++ T
  unfolding G
  old_groups = ap (drop 9) parts ∙ drop_at (nine (policy_of l)) (G ++ T) 9 (nine_length (policy_of l))

  old_tail : take (length l - start_of l Rules) (drop (start_of l Rules) l) ≡ T
  old_tail =
      let n : length (nine (policy_of l) ++ G) ≡ start_of l Rules
      = length-append (nine (policy_of l)) G ∙ ap (λ (m : ℕ). m + length G) (nine_length (policy_of l)) ∙ sym rules_from in
      let d : drop (start_of l Rules) l ≡ T
      = ap (drop (start_of l Rules)) (parts ∙ sym (append_assoc (nine (policy_of l)) G T))
      ∙ drop_at (nine (policy_of l) ++ G) T (start_of l Rules) n in
      ap (take (length l - start_of l Rules)) d ∙ take_all (length l - start_of l Rules) T (omega (arith, total, rules_from))

  old_between : start_of l Constraints - start_of l Rules ≡ length (flatten (policy_of l).rules)
  old_between = omega (arith, constraints_from, rules_from)

  new_small : length (converted_image l) < 65536
  new_small = omega (arith, longest_image (converted_image l) (converted_accepted l by e).accepted)

  -- the new image's length, from what stays of the groups
  new_length : length (converted_image l) ≡ 9 + length (flatten (distinct (policy_of l).groups)) + length T
  unfolding T
  new_length =
      length_converted l by e
      ∙ omega (arith, length-append (flatten (policy_of l).rules) (flatten (policy_of l).constraints))

-- ---- what the code relies on

module _ (l : List ℕ) (s : Starts) (new : Renumbering) (laid : LaidOut l) (places : s ≡ starts l) (by : Bytes l)
    (en : new.groups ≡ word_at l 3) (long : length new.keep ≡ 256)
    (settled : Settled (policy_of l).groups (length (policy_of l).groups) new.to new.keep new.kept)
  where
    count_is : new.groups ≡ length (policy_of l).groups
    count_is = en ∙ sym (count_groups l) ∙ sym (group_count l)

    stays : pick new.keep 0 (policy_of l).groups ≡ distinct (policy_of l).groups
    stays =
        let t : take (length (policy_of l).groups) (policy_of l).groups ≡ (policy_of l).groups = take-length (policy_of l).groups in
        ap (pick new.keep 0) (sym t) ∙ settled.kept ∙ ap distinct t

    all_kept : new.kept ≡ new.groups → converted_image l ≡ l
    all_kept q =
        let n : length (pick new.keep 0 (policy_of l).groups) ≡ length (policy_of l).groups
        = ap length stays ∙ ap (λ (x : List (List ℕ)). length (distinct x)) (sym (take-length (policy_of l).groups))
        ∙ sym settled.count ∙ q ∙ count_is in
        let d : distinct (policy_of l).groups ≡ (policy_of l).groups
        = sym stays ∙ pick_all new.keep 0 (policy_of l).groups n in
        converted_bytes l by (laid_accepted l laid (subst NoTwins d (distinct_apart (policy_of l).groups)))

    pub ready : Ready l s new
    unfolding T G
    ready =
        let r : s.rules ≡ start_of l Rules = ap (λ (x : Starts). x.rules) places in
        let c : s.constraints ≡ start_of l Constraints = ap (λ (x : Starts). x.constraints) places in
        let few : new.groups ≤ 256 = omega (arith, count_is, (formed l by laid).few_groups) in
        let k : new.kept ≡ length (converted (policy_of l)).groups
        = settled.count ∙ ap (λ (x : List (List ℕ)). length (distinct x)) (take-length (policy_of l).groups)
        ∙ ap length (sym (groups_are (policy_of l))) in
        let t : length l
        ≡ 9 + (length (flatten (policy_of l).groups) + length (flatten (policy_of l).rules ++ flatten (policy_of l).constraints))
        = total l by laid in
        let a = rules_from l by laid in
        let g : kept_of (drop 9 l) (take new.groups new.keep) ≡ flatten (distinct (policy_of l).groups)
        = ap₂ (λ (b : List ℕ) (n : ℕ). kept_of b (take n new.keep)) (old_groups l by laid) count_is
        ∙ kept_put new.keep 0 (policy_of l).groups (T l by laid) (long_groups l by laid) (omega (arith, count_is))
        ∙ ap flatten stays in
        let n : length (take new.groups new.keep) ≡ new.groups = length-take-le new.groups new.keep (omega arith) in
        record {
          laid = laid;
          numbers = settled.numbers;
          bytes = settled.small;
          few = few;
          fewer = omega (arith, few_groups (policy_of l) (formed l by laid));
          rows = rw (n, count_is, old_groups l by laid) (lie_put 1 (policy_of l).groups (T l by laid) (omega arith) (long_groups l by laid));
          groups = g ∙ ap flatten (sym (groups_are (policy_of l)));
          count = k;
          all = all_kept;
          inside = omega arith;
          order = omega (arith, constraints_from l by laid);
          tail = rw r (old_tail l by laid);
          rest = omega (arith, length-append (flatten (policy_of l).rules) (flatten (policy_of l).constraints));
          between = rw (r, c) (old_between l by laid);
          long = (laid_header l laid).long;
          size = omega (arith, ap length g, new_length l by laid);
          short = new_small l by laid;
        }

-- ---- the buffer after each step

-- what stands in the buffer b before the rules, before the constraints, and past the new image
module _ (l : List ℕ) where
  pub front : List ℕ
  front = nine (converted (policy_of l)) ++ flatten (converted (policy_of l)).groups

  pub more : List ℕ
  more = front ++ flatten (converted (policy_of l)).rules

  pub past : List ℕ → List ℕ
  past b = drop (length (converted_image l)) b

-- a buffer's end, from a place on, and what becomes of the buffer where the end becomes x
tail_put : (pre t x b : List ℕ) (at n : ℕ) → b ≡ pre ++ t → length pre ≡ at → n ≡ length b - at
    → (take n (drop at b) ≡ t) × (put_mid at n b x ≡ pre ++ x)
tail_put pre t x b at n e ea en =
    let d : drop at b ≡ t = ap (drop at) e ∙ drop_at pre t at ea in
    let p : take at b ≡ pre = ap (take at) e ∙ take_at pre t at ea in
    let m : length t ≤ n = omega (arith, ap length e, length-append pre t) in
    (rw d (take_all n t m), rw (d, p, drop_all n t m, append-nil) refl)

-- b is the lent buffer, b₁ has the header, b₂ the groups behind it, and b₃ the other records, as they were
module _ {l : List ℕ} {s : Starts} {new : Renumbering} (w : Ready l s new) (by : Bytes l) {b b₁ b₂ b₃ : List ℕ}
    {size m k at end : ℕ} {records : List ℕ} {marks : List Bool} (en : size ≡ length (converted_image l)) (em : m ≡ word_at l 5) (ek : k ≡ word_at l 7)
    (is_records : records ≡ drop 9 l) (is_marks : marks ≡ take new.groups new.keep)
    (w₁ : Wrote b b₁ 0 9 (get_or l 0 0 ∷ put_word size (put_word new.kept (put_word m (put_word k [])))))
    (w₂ : Wrote b₁ b₂ 9 at (kept_of records marks))
    (w₃ : Wrote b₂ b₃ at end (take (length l - s.rules) (drop s.rules l)))
  where
    rules_count : m ≡ length (policy_of l).rules
    rules_count = em ∙ sym (ap length (sym (records_of_rules (policy_of l))) ∙ records_count l Rules ∙ count_rules l)

    constraints_count : k ≡ length (policy_of l).constraints
    constraints_count =
        ek ∙ sym (ap length (sym (records_of_constraints (policy_of l))) ∙ records_count l Constraints ∙ count_constraints l)

    -- the header that is written is the new image's
    header_as : get_or l 0 0 ∷ put_word size (put_word new.kept (put_word m (put_word k []))) ≡ nine (converted (policy_of l))
    unfolding nine
    header_as =
        let p : Policy = policy_of l in
        let one : get_or l 0 0 ≡ (converted p).version
        = ap (λ (x : List ℕ). get_or x 0 0) (sym (is l by w.laid)) ∙ image_version p ∙ sym (version_is p) in
        let two : size ≡ 9 + length (body_of (converted p)) = en ∙ ap length (image_is l) ∙ image_length (converted p) in
        let three : m ≡ length (converted p).rules
        = rules_count ∙ sym (ap length (rules_are p) ∙ length-map p.rules (retype_rule (follow p))) in
        let four : k ≡ length (converted p).constraints
        = constraints_count ∙ sym (ap length (constraints_are p) ∙ length-map p.constraints (retype_constraint (follow p))) in
        rw (one, two, w.count, three, four) refl

    groups_as : kept_of records marks ≡ flatten (converted (policy_of l)).groups
    groups_as = ap₂ kept_of is_records is_marks ∙ w.groups

    front_length : length (front l) ≡ at
    unfolding front
    front_length =
        length-append (nine (converted (policy_of l))) (flatten (converted (policy_of l)).groups)
        ∙ ap₂ ◌+◌ (nine_length (converted (policy_of l))) (ap length (sym groups_as)) ∙ sym w₂.next

    -- as the records were copied
    copied : b₃ ≡ front l ++ (flatten (policy_of l).rules ++ (flatten (policy_of l).constraints ++ past l b))
    unfolding put_at front past
    copied =
        let p : Policy = policy_of l in
        let h : List ℕ = get_or l 0 0 ∷ put_word size (put_word new.kept (put_word m (put_word k []))) in
        let g : List ℕ = kept_of records marks in
        let t : List ℕ = take (length l - s.rules) (drop s.rules l) in
        let wrote : Wrote b b₃ 0 end ((h ++ g) ++ t)
        = wrote_then (wrote_then w₁ w₂ (omega arith)) w₃ (omega arith) in
        let z : 0 + length ((h ++ g) ++ t) ≡ length (converted_image l)
        = omega (
          arith,
          length-append (h ++ g) t,
          length-append h g,
          w₁.next,
          w.size,
          ap₂ (λ (rs : List ℕ) (ms : List Bool). length (kept_of rs ms)) is_records is_marks,
          ap length w.tail,
          length-append (flatten p.rules) (flatten p.constraints),
          w.rest,
        ) in
        let x : (h ++ g) ++ t ≡ front l ++ (flatten p.rules ++ flatten p.constraints) = ap₂ ◌++◌ (ap₂ ◌++◌ header_as groups_as) w.tail in
        wrote.bytes ∙ ap (λ (i : ℕ). ((h ++ g) ++ t) ++ drop i b) z
        ∙ ap (λ (y : List ℕ). y ++ drop (length (converted_image l)) b) x
        ∙ append_assoc (front l) (flatten p.rules ++ flatten p.constraints) (drop (length (converted_image l)) b)
        ∙ ap (λ (y : List ℕ). front l ++ y)
        (append_assoc (flatten p.rules) (flatten p.constraints) (drop (length (converted_image l)) b))

    -- x is what the rules become, and b₄ the buffer with them
    module _ {n : ℕ} (q : n ≡ length b₃ - at) where
      rules_tail : (x : List ℕ) → (take n (drop at b₃) ≡ flatten (policy_of l).rules ++ (flatten (policy_of l).constraints ++ past l b))
          × (put_mid at n b₃ x ≡ front l ++ x)
      rules_tail x = tail_put (front l) _ x b₃ at n copied front_length q

      rules_put :
          Lie 6 (take n (drop at b₃)) m
          × (records_in 2 new.to (take n (drop at b₃)) m
          ≡ flatten (converted (policy_of l)).rules ++ (flatten (policy_of l).constraints ++ past l b))
      rules_put =
          let f = formed l by w.laid in
          rw ((rules_tail []).0, rules_count, ← rules_as (policy_of l) f new.to w.bytes w.numbers)
          (records_put 2 new.to (retype_rule (renumbered new.to)) (flatten (policy_of l).constraints ++ past l b) (policy_of l).rules
          (each_rule (policy_of l) f new.to w.bytes))

      pub rules_lie : Lie 6 (take n (drop at b₃)) m
      rules_lie = rules_put.0

      module _ {x b₄ : List ℕ} (ex : x ≡ records_in 2 new.to (take n (drop at b₃)) m) (e₄ : b₄ ≡ put_mid at n b₃ x) {behind n₂ : ℕ}
          (eb : behind ≡ at + (s.constraints - s.rules)) (q₂ : n₂ ≡ length b₄ - behind)
        where
          ruled : b₄ ≡ more l ++ (flatten (policy_of l).constraints ++ past l b)
          unfolding more
          ruled =
              e₄ ∙ (rules_tail x).1 ∙ ap (λ (y : List ℕ). front l ++ y) (ex ∙ rules_put.1)
              ∙ sym (append_assoc (front l) (flatten (converted (policy_of l)).rules) (flatten (policy_of l).constraints ++ past l b))

          more_length : length (more l) ≡ behind
          unfolding more
          more_length =
              let p : Policy = policy_of l in
              let d : length (flatten (converted p).rules) ≡ length (flatten p.rules)
              = ap (λ (x : List (List ℕ)). length (flatten x)) (rules_are p) ∙ rules_as_long p (formed l by w.laid) (follow p) in
              omega (arith, length-append (front l) (flatten (converted p).rules), front_length, w.between)

          constraints_tail : (y : List ℕ) → (take n₂ (drop behind b₄) ≡ flatten (policy_of l).constraints ++ past l b)
              × (put_mid behind n₂ b₄ y ≡ more l ++ y)
          constraints_tail y = tail_put (more l) _ y b₄ behind n₂ ruled more_length q₂

          constraints_put :
              Lie 10 (take n₂ (drop behind b₄)) k
              × (records_in 6 new.to (take n₂ (drop behind b₄)) k ≡ flatten (converted (policy_of l)).constraints ++ past l b)
          constraints_put =
              let f = formed l by w.laid in
              rw ((constraints_tail []).0, constraints_count, ← constraints_as (policy_of l) f new.to w.bytes w.numbers)
              (records_put 6 new.to (retype_constraint (renumbered new.to)) (past l b) (policy_of l).constraints
              (each_constraint (policy_of l) f new.to w.bytes))

          pub constraints_lie : Lie 10 (take n₂ (drop behind b₄)) k
          constraints_lie = constraints_put.0

          pub whole :
              {y b₅ : List ℕ} → y ≡ records_in 6 new.to (take n₂ (drop behind b₄)) k → b₅ ≡ put_mid behind n₂ b₄ y → size ≤ length b
              → Wrote b b₅ 0 size (converted_image l)
          unfolding more front past put_at
          whole {y} {b₅} ey e₅ room =
              let p : Policy = policy_of l in
              let R : List ℕ = flatten (converted p).rules in
              let C : List ℕ = flatten (converted p).constraints in
              let G : List ℕ = flatten (converted p).groups in
              let N : List ℕ = nine (converted p) in
              let D : List ℕ = drop (length (converted_image l)) b in
              let i : converted_image l ≡ N ++ (G ++ (R ++ C)) = image_is l ∙ image_split (converted p) in
              let z : 0 + length (converted_image l) ≡ length (converted_image l) = omega arith in
              let x : ((N ++ G) ++ R) ++ (C ++ D) ≡ (N ++ (G ++ (R ++ C))) ++ D = simp append_assoc in
              let y : b₅ ≡ put_at b 0 (converted_image l)
              = e₅ ∙ (constraints_tail y).1 ∙ ap (λ (u : List ℕ). more l ++ u) (ey ∙ constraints_put.1) ∙ x
              ∙ ap (λ (u : List ℕ). u ++ D) (sym i) ∙ sym (ap (λ (j : ℕ). converted_image l ++ drop j b) z) in
              record { bytes = y; next = omega arith; size = ap length y ∙ put_length b 0 (converted_image l) (omega arith) }
