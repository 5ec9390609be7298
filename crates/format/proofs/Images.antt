-- Images and policies are each other's inverses: claims AcceptedIsWellFormed, WellFormedIsAccepted, LaidOutIsWellFormed,
-- WellFormedIsLaidOut. Assumes nothing.
--     Regular p              a policy that passes 1 to 7: one that is well formed, and no other
--     Sound p                a policy that passes the check: that, and no twins
--     laid_is_policy         an image that passes 1 to 7 is the image of its policy; image_of_policy, of an accepted one
--     policy_of_image        the policy of a regular policy's image is that policy
--     image_laid             and that image passes 1 to 7; image_accepted, where the policy is sound
--     policy_formed          each record of an accepted image's policy is formed
use Prim.Native.Nat.{ℕ, suc, ◌+◌, ◌≤◌, ◌<◌}
use mathlib.Core.Path.{◌≡◌, refl, sym, subst, ap, ◌∙◌}
use mathlib.Core.Bool.{true}
use Rattle.std.specs.Prelude.{None}
use mathlib.Core.List.{List, [], ◌∷◌, ◌++◌, flatten, append_assoc, append-nil, Memᴰ}
use native.Mathlib.Omega.{arith}
use lib.ListN.{length, get_or, drop, length-append, length-drop}
use lib.Seq.{drop-cons, drop-length}
use lib.Dec.{T, ltb, eqb, ltb→lt}
use borrow.Author.Tests.{eqb-true, le-leb, eq-eqb}
use Rattle.format.specs.declared.Section.{Section}
use Rattle.format.specs.declared.Section.TheVariants.{Groups, Rules, Constraints}
use Rattle.format.specs.Bytes.{Bytes, word_at, put_word}
use Rattle.format.specs.Format.{known_version, limit_of, count_place, count_of, first_record}
use Rattle.format.specs.Policy.{Policy, records_of, body_of, image_of, record_at, records_at, place_after, start_of, place_of, end_of, policy_of}
use Rattle.format.specs.Twins.{NoTwins}
use Rattle.format.specs.Check.{section_fault, header_fault, body_fault, layout_fault, LaidOut, Accepted}
use Rattle.format.specs.Claims.{WellFormed, AcceptedIsWellFormed, WellFormedIsAccepted, LaidOutIsWellFormed, WellFormedIsLaidOut}
use Rattle.format.proofs.Chain.{or_else_none, need_none}
use Rattle.format.proofs.Bytes.{bytes_cons, bytes_append, bytes_drop, bytes_take, bytes_flatten, bytes_word, word_bytes, word_back}
use Rattle.format.proofs.Shapes.{Formed}
use Rattle.format.proofs.Records.{records_mem, records_flatten, Runs, runs_records, runs_place, runs_fault, runs_flatten, Shaped}
use Rattle.format.proofs.Fields.{formed_is, is_formed}
use Rattle.format.proofs.Reach.{laid_longest}
use Rattle.format.proofs.Accepted.{holds_header, laid_header, laid_length, laid_end, laid_formed, accepted_laid, accepted_twins, laid_accepted, records_count, policy_records}

-- a policy that passes 1 to 7
pub record Regular (p : Policy) : Type 0 where
  pub version : known_version p.version ≡ true
  pub few : (s : Section) → length (records_of p s) ≤ limit_of s
  pub formed : (s : Section) (r : List ℕ) → Memᴰ r (records_of p s) → Formed s (length p.groups) r
  pub bytes : (s : Section) (r : List ℕ) → Memᴰ r (records_of p s) → Bytes r

-- and has no twins
pub record Sound (p : Policy) : Type 0 where
  pub regular : Regular p
  pub twins : NoTwins p.groups

module _ (p : Policy) where
  pub regular_well_formed : Regular p → WellFormed p
  unfolding known_version records_of limit_of
  regular_well_formed w =
      record {
        version = eqb-true p.version 1 w.version;
        few_groups = w.few Groups;
        few_rules = w.few Rules;
        few_constraints = w.few Constraints;
        records = λ s r m. formed_is (length p.groups) r s (w.formed s r m);
        bytes = w.bytes;
      }

  few : WellFormed p → (s : Section) → length (records_of p s) ≤ limit_of s
  unfolding records_of limit_of
  few w Groups = w.few_groups
  few w Rules = w.few_rules
  few w Constraints = w.few_constraints

  pub well_formed_regular : WellFormed p → Regular p
  unfolding known_version
  well_formed_regular w =
      record {
        version = eq-eqb p.version 1 w.version;
        few = few w;
        formed = λ s r m. is_formed (length p.groups) r s (w.records s r m);
        bytes = w.bytes;
      }

-- ---- from an image to its policy

ends : (l : List ℕ) → LaidOut l → place_after l (place_after l (place_after l 9 (count_of l Groups)) (count_of l Rules)) (count_of l Constraints) ≡ length l
unfolding end_of place_of start_of
ends l e = laid_end l e

body_of_policy : (l : List ℕ) → LaidOut l → body_of (policy_of l) ≡ drop 9 l
unfolding body_of policy_of start_of
body_of_policy l e =
    let a : ℕ = place_after l 9 (count_of l Groups) in
    let b : ℕ = place_after l a (count_of l Rules) in
    let c : ℕ = place_after l b (count_of l Constraints) in
    let n : drop c l ≡ [] = ap (λ (k : ℕ). drop k l) (ends l e) ∙ drop-length l in
    let r₃ : flatten (records_at l b (count_of l Constraints)) ≡ drop b l =
    sym (append-nil _) ∙ ap (λ (t : List ℕ). flatten (records_at l b (count_of l Constraints)) ++ t) (sym n) ∙ records_flatten l b (count_of l Constraints) in
    rw (r₃, records_flatten l a (count_of l Rules), records_flatten l 9 (count_of l Groups))

-- a list of nine elements and more, by its first nine
nine : (l : List ℕ) → 9 ≤ length l
    → l ≡ get_or l 0 0 ∷ get_or l 1 0 ∷ get_or l 2 0 ∷ get_or l 3 0 ∷ get_or l 4 0 ∷ get_or l 5 0 ∷ get_or l 6 0 ∷ get_or l 7 0 ∷ get_or l 8 0 ∷ drop 9 l
nine l h =
    step 0 tt ∙ ap (c 0) (step 1 tt ∙ ap (c 1) (step 2 tt ∙ ap (c 2) (step 3 tt ∙ ap (c 3) (step 4 tt ∙ ap (c 4) (step 5 tt ∙ ap (c 5) (step 6 tt ∙ ap (c 6) (step 7 tt ∙ ap (c 7) (step 8 tt))))))))
  where
    c : ℕ → List ℕ → List ℕ
    c i t = get_or l i 0 ∷ t

    step : (i : ℕ) → T (ltb i 9) → drop i l ≡ get_or l i 0 ∷ drop (suc i) l
    step i t = drop-cons l i 0 (omega (arith, ltb→lt i 9 t))

module _ (l : List ℕ) where
  groups_count : length (policy_of l).groups ≡ word_at l 3
  unfolding records_of count_of count_place
  groups_count = records_count l Groups

  rules_count : length (policy_of l).rules ≡ word_at l 5
  unfolding records_of count_of count_place
  rules_count = records_count l Rules

  constraints_count : length (policy_of l).constraints ≡ word_at l 7
  unfolding records_of count_of count_place
  constraints_count = records_count l Constraints

  policy_version : (policy_of l).version ≡ get_or l 0 0
  unfolding policy_of
  policy_version = refl

-- an image that passes 1 to 7 is the image of its policy
pub laid_is_policy : (l : List ℕ) → Bytes l → LaidOut l → image_of (policy_of l) ≡ l
unfolding image_of
laid_is_policy l b e = counts ∙ header ∙ sym (nine l (laid_header l e).long)
  where
    total : 9 + length (drop 9 l) ≡ word_at l 1
    total = rw (laid_length l e, length-drop 9 l) (omega (arith, (laid_header l e).long))

    counts : image_of (policy_of l) ≡ get_or l 0 0 ∷ put_word (word_at l 1) (put_word (word_at l 3) (put_word (word_at l 5) (put_word (word_at l 7) (drop 9 l))))
    counts = rw (body_of_policy l e, total, groups_count l, rules_count l, constraints_count l, policy_version l)

    header : ◌≡◌ {A = List ℕ} (get_or l 0 0 ∷ put_word (word_at l 1) (put_word (word_at l 3) (put_word (word_at l 5) (put_word (word_at l 7) (drop 9 l)))))
        (get_or l 0 0 ∷ get_or l 1 0 ∷ get_or l 2 0 ∷ get_or l 3 0 ∷ get_or l 4 0 ∷ get_or l 5 0 ∷ get_or l 6 0 ∷ get_or l 7 0 ∷ get_or l 8 0 ∷ drop 9 l)
    header = simp (word_bytes l b)

-- a record of a section of the policy of an image stands in the image
policy_record : (l : List ℕ) (s : Section) (r : List ℕ) → Memᴰ r (records_of (policy_of l) s) → (n : ℕ) × (n < count_of l s) × (r ≡ record_at l (place_of l s n))
unfolding place_of
policy_record l s r m = records_mem l (start_of l s) (count_of l s) r (rw policy_records at m)

record_bytes : (l : List ℕ) (at : ℕ) → Bytes l → Bytes (record_at l at)
unfolding record_at first_record
record_bytes l at b = bytes_take (get_or (drop at l) 0 0) (drop at l) (bytes_drop at l b)

pub laid_records : (l : List ℕ) → LaidOut l → (s : Section) (r : List ℕ) → Memᴰ r (records_of (policy_of l) s) → Formed s (count_of l Groups) r
laid_records l e s r m =
    let q = policy_record l s r m in
    subst (Formed s (count_of l Groups)) (sym q.2) (laid_formed l e s q.0 q.1)

pub group_count : (l : List ℕ) → length (policy_of l).groups ≡ count_of l Groups
unfolding records_of
group_count l = records_count l Groups

pub laid_regular : (l : List ℕ) → Bytes l → LaidOut l → Regular (policy_of l)
laid_regular l b e =
    record {
      version = rw (policy_version l) (laid_header l e).version;
      few = λ s. rw (records_count l s) ((laid_header l e).few s);
      formed = λ s r m. rw (group_count l) (laid_records l e s r m);
      bytes = λ s r m. let q = policy_record l s r m in subst Bytes (sym q.2) (record_bytes l (place_of l s q.0) b);
    }

pub laid_is_well_formed : LaidOutIsWellFormed
laid_is_well_formed l b e = (regular_well_formed (policy_of l) (laid_regular l b e), laid_is_policy l b e)

-- ---- of an accepted one

pub image_of_policy : (l : List ℕ) → Bytes l → Accepted l → image_of (policy_of l) ≡ l
image_of_policy l b e = laid_is_policy l b (accepted_laid l e)

pub policy_formed :
    (l : List ℕ) → Accepted l → (s : Section) (r : List ℕ) → Memᴰ r (records_of (policy_of l) s) → Formed s (count_of l Groups) r
policy_formed l e s r m = laid_records l (accepted_laid l e) s r m

pub policy_sound : (l : List ℕ) → Bytes l → Accepted l → Sound (policy_of l)
policy_sound l b e = record { regular = laid_regular l b (accepted_laid l e); twins = accepted_twins l e }

pub accepted_is_well_formed : AcceptedIsWellFormed
accepted_is_well_formed l b e = let q = laid_is_well_formed l b (accepted_laid l e) in (q.0, q.1, accepted_twins l e)

-- ---- from a policy to its image

header_of : Policy → List ℕ
header_of p =
    p.version
    ∷ put_word (9 + length (body_of p)) (put_word (length p.groups) (put_word (length p.rules) (put_word (length p.constraints) [])))

module _ (p : Policy) where
  image_split : image_of p ≡ header_of p ++ body_of p
  unfolding image_of header_of put_word
  image_split = refl

  header_nine : length (header_of p) ≡ 9
  unfolding header_of put_word
  header_nine = refl

  pub image_length : length (image_of p) ≡ 9 + length (body_of p)
  image_length = ap length image_split ∙ length-append (header_of p) (body_of p) ∙ ap (λ (n : ℕ). n + length (body_of p)) header_nine

  pub image_version : get_or (image_of p) 0 0 ≡ p.version
  unfolding image_of
  image_version = refl

  pub image_length_field : word_at (image_of p) 1 ≡ length (image_of p)
  unfolding word_at image_of put_word
  image_length_field = word_back (9 + length (body_of p)) ∙ sym image_length

  pub image_count : (s : Section) → count_of (image_of p) s ≡ length (records_of p s)
  unfolding count_of count_place word_at image_of put_word records_of
  image_count Groups = word_back _
  image_count Rules = word_back _
  image_count Constraints = word_back _

module _ (p : Policy) (w : Regular p) where
  shaped : (s : Section) → Shaped (records_of p s)
  shaped s r m = (w.formed s r m).shape

  formed : (s : Section) (r : List ℕ) → Memᴰ r (records_of p s) → Formed s (count_of (image_of p) Groups) r
  unfolding records_of
  formed s r m = subst (λ (g : ℕ). Formed s g r) (sym (image_count p Groups)) (w.formed s r m)

  rules_start : ℕ
  rules_start = 9 + length (flatten p.groups)

  constraints_start : ℕ
  constraints_start = rules_start + length (flatten p.rules)

  runs_groups : Runs (image_of p) 9 p.groups rules_start
  unfolding body_of records_of rules_start
  runs_groups =
      runs_flatten (image_of p) (header_of p) 9 p.groups (flatten p.rules ++ flatten p.constraints) (image_split p) (header_nine p) (shaped Groups)

  runs_rules : Runs (image_of p) rules_start p.rules constraints_start
  unfolding body_of records_of rules_start constraints_start
  runs_rules =
      runs_flatten (image_of p) (header_of p ++ flatten p.groups) rules_start p.rules (flatten p.constraints)
      (image_split p ∙ sym (append_assoc (header_of p) (flatten p.groups) _))
      (length-append (header_of p) (flatten p.groups) ∙ ap (λ (n : ℕ). n + length (flatten p.groups)) (header_nine p))
      (shaped Rules)

  runs_constraints : Runs (image_of p) constraints_start p.constraints (constraints_start + length (flatten p.constraints))
  unfolding body_of records_of rules_start constraints_start
  runs_constraints =
      let f : List ℕ = header_of p ++ flatten p.groups in
      runs_flatten (image_of p) (f ++ flatten p.rules) constraints_start p.constraints []
      (image_split p ∙ sym (append_assoc (header_of p) (flatten p.groups) _) ∙ sym (append_assoc f (flatten p.rules) (flatten p.constraints))
      ∙ ap (λ (t : List ℕ). (f ++ flatten p.rules) ++ t) (sym (append-nil (flatten p.constraints))))
      (length-append f (flatten p.rules)
      ∙ ap (λ (n : ℕ). n + length (flatten p.rules))
      (length-append (header_of p) (flatten p.groups) ∙ ap (λ (n : ℕ). n + length (flatten p.groups)) (header_nine p)))
      (shaped Constraints)

  pub start_rules : start_of (image_of p) Rules ≡ 9 + length (flatten p.groups)
  unfolding start_of records_of rules_start
  start_rules = ap (place_after (image_of p) 9) (image_count p Groups) ∙ runs_place runs_groups

  pub start_constraints : start_of (image_of p) Constraints ≡ 9 + length (flatten p.groups) + length (flatten p.rules)
  unfolding start_of records_of rules_start constraints_start
  start_constraints =
      ap (λ (at : ℕ). place_after (image_of p) at (count_of (image_of p) Rules)) start_rules
      ∙ ap (place_after (image_of p) rules_start) (image_count p Rules)
      ∙ runs_place runs_rules

  -- the records of each section run from where the section starts
  pub image_runs : (s : Section) → (e : ℕ) × Runs (image_of p) (start_of (image_of p) s) (records_of p s) e
  unfolding start_of records_of rules_start constraints_start
  image_runs Groups = (rules_start, runs_groups)
  image_runs Rules = (constraints_start, rw start_rules runs_rules)
  image_runs Constraints = (constraints_start + length (flatten p.constraints), rw start_constraints runs_constraints)

  image_end : end_of (image_of p) ≡ length (image_of p)
  unfolding end_of place_of records_of body_of rules_start constraints_start
  image_end =
      ap (λ (at : ℕ). place_after (image_of p) at (count_of (image_of p) Constraints)) start_constraints
      ∙ ap (place_after (image_of p) constraints_start) (image_count p Constraints)
      ∙ runs_place runs_constraints
      ∙ rw (image_length p, length-append (flatten p.groups) (flatten p.rules ++ flatten p.constraints), length-append (flatten p.rules) (flatten p.constraints))
      (omega arith)

  image_section : (s : Section) → section_fault (image_of p) s (start_of (image_of p) s) (count_of (image_of p) s) ≡ None
  image_section s = rw (image_count p s) (runs_fault s (image_runs s).1 (formed s))

  image_records : (s : Section) → records_at (image_of p) (start_of (image_of p) s) (count_of (image_of p) s) ≡ records_of p s
  image_records s = rw (image_count p s) (runs_records (image_runs s).1)

  pub policy_of_image : policy_of (image_of p) ≡ p
  unfolding policy_of records_of
  policy_of_image = λ i. record { version = image_version p i; groups = image_records Groups i; rules = image_records Rules i; constraints = image_records Constraints i }

  header_passes : header_fault eqb (image_of p) ≡ None
  header_passes =
      let n : 9 ≤ length (image_of p) = rw (image_length p) (omega arith) in
      holds_header eqb (image_of p)
      (record {
        long = n;
        version = rw (image_version p) w.version;
        least = rw (image_length_field p) n;
        fit = eq-eqb (word_at (image_of p) 1) (length (image_of p)) (image_length_field p);
        few = λ s. rw (image_count p s) (w.few s);
      })

  body_passes : body_fault (image_of p) ≡ None
  unfolding body_fault
  body_passes =
      or_else_none (image_section Groups)
      (or_else_none (image_section Rules)
      (or_else_none (image_section Constraints)
      (need_none _ (le-leb (length (image_of p)) (end_of (image_of p)) (rw image_end (omega arith))))))

  pub image_laid : LaidOut (image_of p)
  unfolding layout_fault
  image_laid = or_else_none header_passes body_passes

  body_bytes : Bytes (body_of p)
  unfolding body_of records_of
  body_bytes =
      bytes_append (flatten p.groups) (flatten p.rules ++ flatten p.constraints) (bytes_flatten p.groups (w.bytes Groups))
      (bytes_append (flatten p.rules) (flatten p.constraints) (bytes_flatten p.rules (w.bytes Rules))
      (bytes_flatten p.constraints (w.bytes Constraints)))

  pub image_bytes : Bytes (image_of p)
  unfolding image_of records_of limit_of known_version
  image_bytes =
      let x = w.few Groups in
      let y = w.few Rules in
      let z = w.few Constraints in
      let v = eqb-true p.version 1 w.version in
      let m = laid_longest (image_of p) image_laid in
      let n = image_length p in
      let l₁ : List ℕ = put_word (length p.constraints) (body_of p) in
      let l₂ : List ℕ = put_word (length p.rules) l₁ in
      let l₃ : List ℕ = put_word (length p.groups) l₂ in
      bytes_cons p.version (put_word (9 + length (body_of p)) l₃) (omega arith)
      (bytes_word (9 + length (body_of p)) l₃ (omega arith)
      (bytes_word (length p.groups) l₂ (omega arith)
      (bytes_word (length p.rules) l₁ (omega arith)
      (bytes_word (length p.constraints) (body_of p) (omega arith) body_bytes))))

pub image_accepted : (p : Policy) → Sound p → Accepted (image_of p)
image_accepted p w =
    laid_accepted (image_of p) (image_laid p w.regular) (rw (policy_of_image p w.regular) w.twins)

pub well_formed_is_laid : WellFormedIsLaidOut
well_formed_is_laid p w = let h = well_formed_regular p w in (image_bytes p h, image_laid p h, policy_of_image p h)

pub well_formed_is_accepted : WellFormedIsAccepted
well_formed_is_accepted p w n =
    let q = well_formed_is_laid p w in (q.0, image_accepted p (record { regular = well_formed_regular p w; twins = n }), q.2)
