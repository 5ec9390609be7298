-- A policy whose conditions a word settles. Claim AnswersSettled. Assumes nothing.
--     settled_reads     a settled rule reads as the rule did under the word, whatever the word now
--     map_same          equal on each element, equal on the list
use Prim.Native.Nat.{ℕ, ◌+◌, ◌<◌}
use native.Mathlib.Omega.{arith}
use mathlib.Core.Path.{◌≡◌, refl, sym, subst, ap, ap₂, ◌∙◌}
use mathlib.Core.Logic.{inl, inr, ⊎_elim}
use mathlib.Core.Bool.{Bool, true, false, cond}
use mathlib.Core.List.Memᴰ
use mathlib.Core.List.{List, [], ◌∷◌, map, Memᴰ}
use lib.ListN.{length, get_or, set, length-set, length-map, get_or-eq_default}
use lib.Seq.{set_out, get_or-set_same, get_or-set_other}
use lib.Dec.{eqb, ltb}
use borrow.Author.Tests.{ltb-true, ltb-false, eqb-true, eqb-false}
use Rattle.format.specs.declared.Section.{Section}
use Rattle.format.specs.declared.Section.TheVariants.{Groups, Rules, Constraints}
use Rattle.format.specs.Bytes.{Bytes, word_at}
use Rattle.format.specs.Format.{count_of}
use Rattle.format.specs.Policy.{Policy, records_of, image_of, policy_of}
use Rattle.format.specs.Check.{Accepted}
use Rattle.format.specs.Answers.{outcome}
use Rattle.format.specs.Claims.{IsAllow, IsTransition, IsRecord, WellFormed}
use Rattle.format.proofs.Bytes.{word_at_lem}
use Rattle.format.proofs.ByCase.{records_of_groups, records_of_rules, records_of_constraints}
use Rattle.format.proofs.Fields.{record_rule, rule_record}
use Rattle.format.proofs.Chain.{or_else_next}
use Rattle.format.proofs.Images.{group_count, accepted_is_well_formed, well_formed_is_accepted}
use Rattle.decision.specs.declared.Query.{Query}
use Rattle.decision.specs.Conditions.{is_on}
use Rattle.decision.specs.Reading.{Rule, rule_of, request_of, rules_of, constraint_of, constraints_of}
use Rattle.decision.specs.Decide.{judge, decide, query_fault, answer_fault, answer}
use Rattle.decision.specs.Switches.{with_word, NoSwitches, settled_rule, settled, AnswersSettled}
use Rattle.decision.proofs.Search.{by_test}

-- ---- a settled rule reads the same under any word

settled_byte : (r : List ℕ) (b i : ℕ) → i < 10 → get_or (set r 10 b) i 0 ≡ get_or r i 0
settled_byte r b i h = get_or-set_other r 10 i b 0 (λ e. omega arith)

settled_word : (r : List ℕ) (b i : ℕ) → i + 1 < 10 → word_at (set r 10 b) i ≡ word_at r i
settled_word r b i h = word_at_lem (set r 10 b) i ∙ rw (settled_byte r b i (omega arith), settled_byte r b (i + 1) h, word_at_lem r i)

is_on_as : (w w' b : ℕ) (v : Bool) → is_on w b ≡ v → is_on w' (cond v 1 0) ≡ is_on w b
unfolding is_on
is_on_as w w' b true e = sym e
is_on_as w w' b false e = sym e

settled_on : (w w' : ℕ) (r : List ℕ) → is_on w' (get_or (settled_rule w r) 10 0) ≡ is_on w (get_or r 10 0)
unfolding settled_rule is_on
settled_on w w' r =
    by_test (ltb 10 (length r))
    (λ h. ap (is_on w') (get_or-set_same r 10 b 0 (ltb-true 10 (length r) h)) ∙ is_on_as w w' (get_or r 10 0) (is_on w (get_or r 10 0)) refl)
    (λ h. let short = ltb-false 10 (length r) h in
    let z : get_or r 10 0 ≡ 0 = get_or-eq_default r 0 short in
    ap (λ (x : List ℕ). is_on w' (get_or x 10 0)) (set_out r 10 b short) ∙ rw z)
  where
    b : ℕ
    b = cond (is_on w (get_or r 10 0)) 1 0

pub settled_reads : (p p' : Policy) → p'.groups ≡ p.groups → (w w' : ℕ) (r : List ℕ) → rule_of p' w' (settled_rule w r) ≡ rule_of p w r
unfolding rule_of settled_rule
settled_reads p p' e w w' r =
    let b : ℕ = cond (is_on w (get_or r 10 0)) 1 0 in
    rw (
      e,
      settled_on w w' r,
      settled_byte r b 1 (omega arith),
      settled_word r b 2 (omega arith),
      settled_word r b 4 (omega arith),
      settled_word r b 6 (omega arith),
      settled_word r b 8 (omega arith),
    )

pub map_same : {A B : Type 0} (f g : A → B) (xs : List A) → ((x : A) → Memᴰ x xs → f x ≡ g x) → map f xs ≡ map g xs
map_same f g [] h = refl
map_same f g (x ∷ xs) h = ap₂ ◌∷◌ (h x (Memᴰ.head refl)) (map_same f g xs (λ y m. h y (Memᴰ.tail m)))

map_map : {A B C : Type 0} (f : B → C) (g : A → B) (xs : List A) → map f (map g xs) ≡ map (λ x. f (g x)) xs
map_map f g [] = refl
map_map f g (x ∷ xs) = ap (λ ys. f (g x) ∷ ys) (map_map f g xs)

settled_decides : (p : Policy) (q : Query) (w : ℕ) → decide (settled q.switches p) (with_word w q) ≡ decide p q
unfolding decide with_word rules_of constraints_of constraint_of request_of settled
settled_decides p q w =
    let v = q.switches in
    let p' = settled v p in
    ap (λ (rs : List Rule). judge rs (constraints_of p) (request_of p q))
    (map_map (rule_of p' w) (settled_rule v) p.rules ∙ map_same (λ r. rule_of p' w (settled_rule v r)) (rule_of p v) p.rules (λ r m. settled_reads p p' refl v w r))

-- ---- a settled policy is well formed, and names no switch

small_byte : (w : ℕ) (r : List ℕ) → get_or (settled_rule w r) 10 0 < 2
unfolding settled_rule
small_byte w r =
    by_test (ltb 10 (length r))
    (λ h. rw (get_or-set_same r 10 (cond (is_on w (get_or r 10 0)) 1 0) 0 (ltb-true 10 (length r) h)) (small (is_on w (get_or r 10 0))))
    (λ h. let short = ltb-false 10 (length r) h in
    let z : get_or r 10 0 ≡ 0 = get_or-eq_default r 0 short in
    rw (set_out r 10 (cond (is_on w (get_or r 10 0)) 1 0) short, z) (omega arith))
  where
    small : (v : Bool) → cond v 1 0 < 2
    small true = omega arith
    small false = omega arith

module _ (w : ℕ) (g : ℕ) (r : List ℕ) where
  settled_allow : IsAllow g r → IsAllow g (settled_rule w r)
  unfolding settled_rule
  settled_allow f =
      let b : ℕ = cond (is_on w (get_or r 10 0)) 1 0 in
      let n : length (set r 10 b) ≡ length r = length-set r 10 b in
      record {
        size = (settled_byte r b 0 (omega arith) ∙ f.size.0 ∙ sym n, n ∙ f.size.1);
        kind = settled_byte r b 1 (omega arith) ∙ f.kind;
        source = rw (settled_word r b 2 (omega arith)) f.source;
        dest = rw (settled_word r b 4 (omega arith)) f.dest;
        condition = omega (arith, small_byte w r);
      }

  settled_transition : IsTransition g r → IsTransition g (settled_rule w r)
  unfolding settled_rule
  settled_transition f = rw (set_out r 10 (cond (is_on w (get_or r 10 0)) 1 0) (omega (arith, f.size.1))) f

  settled_record : IsRecord Rules g r → IsRecord Rules g (settled_rule w r)
  settled_record f = rule_record g (settled_rule w r) (⊎_elim (λ a. inl (settled_allow a)) (λ t. inr (settled_transition t)) (record_rule g r f))

settled_bytes : (w : ℕ) (r : List ℕ) → Bytes r → Bytes (settled_rule w r)
unfolding settled_rule
settled_bytes w r h i =
    by_test (eqb i 10)
    (λ e. let z = eqb-true i 10 e in rw z (omega (arith, small_byte w r)))
    (λ e. rw (get_or-set_other r 10 i (cond (is_on w (get_or r 10 0)) 1 0) 0 (eqb-false i 10 e)) (h i))

module _ (w : ℕ) (p : Policy) where
  settled_mem : (P : List ℕ → Type 0) → ((r : List ℕ) → Memᴰ r p.rules → P (settled_rule w r)) → (r : List ℕ) → Memᴰ r (map (settled_rule w) p.rules) → P r
  settled_mem P h r m = let x = Memᴰ.of_map (settled_rule w) p.rules m in subst P x.2 (h x.0 x.1)

  settled_plain : NoSwitches (settled w p)
  unfolding settled
  settled_plain r m k = settled_mem (λ x. get_or x 10 0 < 2) (λ r n. small_byte w r) r m

  -- what holds of each record, and of a settled rule where it held of the rule, holds of each record still
  settled_all :
      (P : Section → List ℕ → Type 0) → ((r : List ℕ) → P Rules r → P Rules (settled_rule w r))
      → ((s : Section) (r : List ℕ) → Memᴰ r (records_of p s) → P s r)
      → (s : Section) (r : List ℕ) → Memᴰ r (records_of (settled w p) s) → P s r
  unfolding settled
  settled_all P k h Groups r m = h Groups r (rw (records_of_groups p) (rw (records_of_groups (settled w p)) at m))
  settled_all P k h Rules r m = settled_mem (P Rules) (λ x n. k x (h Rules x (rw (records_of_rules p) n))) r (rw (records_of_rules (settled w p)) at m)
  settled_all P k h Constraints r m = h Constraints r (rw (records_of_constraints p) (rw (records_of_constraints (settled w p)) at m))

  settled_formed : WellFormed p → WellFormed (settled w p)
  unfolding settled
  settled_formed f =
      record {
        version = f.version;
        few_groups = f.few_groups;
        few_rules = rw (length-map p.rules (settled_rule w)) f.few_rules;
        few_constraints = f.few_constraints;
        records = settled_all (λ s r. IsRecord s (length p.groups) r) (λ r n. settled_record w (length p.groups) r n) f.records;
        bytes = settled_all (λ s r. Bytes r) (λ r n. settled_bytes w r n) f.bytes;
      }

-- of an accepted image, an answer is the fault of the query or the decision
answer_of_lem : (l : List ℕ) (q : Query) (p : Policy) → Accepted l → policy_of l ≡ p → answer l q ≡ outcome (query_fault (length p.groups) q) (decide p q)
unfolding answer answer_fault
answer_of_lem l q p e k = rw (or_else_next (query_fault (count_of l Groups) q) e, ← (group_count l), k)

answers : (l : List ℕ) (q : Query) (w : ℕ) → Bytes l → Accepted l → answer (image_of (settled q.switches (policy_of l))) (with_word w q) ≡ answer l q
unfolding query_fault settled with_word
answers l q w b e =
    let p : Policy = policy_of l in
    let p' : Policy = settled q.switches p in
    let f = accepted_is_well_formed l b e in
    let a = well_formed_is_accepted p' (settled_formed q.switches p f.0) f.2 in
    answer_of_lem (image_of p') (with_word w q) p' a.1 a.2
    ∙ ap (outcome (query_fault (length p.groups) q)) (settled_decides p q w)
    ∙ sym (answer_of_lem l q p e refl)

settled_accepted : (l : List ℕ) (w : ℕ) → Bytes l → Accepted l → Accepted (image_of (settled w (policy_of l)))
unfolding settled
settled_accepted l w b e =
    let f = accepted_is_well_formed l b e in
    (well_formed_is_accepted _ (settled_formed w (policy_of l) f.0) f.2).1

pub answers_settled : AnswersSettled
answers_settled =
    record {
      answers = answers;
      accepted = settled_accepted;
      plain = λ p w. settled_plain w p;
    }
