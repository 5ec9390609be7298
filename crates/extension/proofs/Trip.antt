-- The round trip: an accepted policy's records, added in order to the empty policy, give it back. Assumes nothing.
--     add_section      a section's records added one after the other
--     round_trip, round_trip_exact   claims RoundTrip and RoundTripExact
use Prim.Native.Nat.{ℕ, ◌+◌, ◌≤◌, ◌<◌}
use mathlib.Core.Path.{◌≡◌, refl, sym, subst, ap, ap₂, ◌∙◌}
use mathlib.Core.Bool.{false}
use mathlib.Core.List.{List, [], ◌∷◌, ◌++◌, flatten, append_assoc, append-nil, Memᴰ}
use native.Mathlib.Omega.{arith}
use lib.ListN.{length, drop, length-append, length-drop}
use lib.Seq.{drop-drop, drop-append-add, drop-length}
use Rattle.format.specs.declared.Section.{Section}
use Rattle.format.specs.declared.Section.TheVariants.{Groups, Rules, Constraints}
use Rattle.format.specs.Bytes.{Bytes}
use Rattle.format.specs.Format.{limit_of}
use Rattle.format.specs.Policy.{Policy, records_of, body_of, image_of, policy_of}
use Rattle.format.specs.Twins.{NoTwins}
use Rattle.format.specs.Sample.{empty}
use Rattle.format.proofs.ByCase.{records_of_groups, records_of_rules, records_of_constraints, known_version_lem}
use Rattle.format.proofs.Shapes.{Formed}
use Rattle.format.proofs.Fields.{formed_more, group_any}
use Rattle.format.proofs.Twins.{no_twins_next}
use Rattle.format.proofs.Images.{Sound, policy_sound, image_of_policy, image_length}
use Rattle.format.proofs.Written.{body_parts, image_empty, length_empty, sound_empty}
use Rattle.extension.specs.Add.{with_record, added_twin, buffer_after, overwrite}
use Rattle.extension.specs.Claims.{add_all, all_records, RoundTrip, RoundTripExact}
use Rattle.extension.proofs.Adds.{with_records, with_groups_lem, with_sound, add_image}

add_append : (b : List ℕ) (xs ys : List (List ℕ)) → add_all b (xs ++ ys) ≡ add_all (add_all b xs) ys
unfolding add_all
add_append b [] ys = refl
add_append b (x ∷ xs) ys = add_append (buffer_after b x) xs ys

-- a policy with the records rs at the end of a section
with_all : Section → Policy → List (List ℕ) → Policy
with_all s p [] = p
with_all s p (r ∷ rs) = with_all s (with_record s p r) rs

record Section-added (s : Section) (p : Policy) (t : List ℕ) (rs : List (List ℕ)) : Type 0 where
  buffer : add_all (image_of p ++ t) rs ≡ image_of (with_all s p rs) ++ drop (length (flatten rs)) t
  sound : Sound (with_all s p rs)

-- none of the records, one after the other, will be a twin
Fresh : Section → Policy → List (List ℕ) → Type 0
Fresh Groups p rs = NoTwins (p.groups ++ rs)
Fresh Rules p rs = Unit {0}
Fresh Constraints p rs = Unit {0}

fresh_first : (s : Section) (p : Policy) (r : List ℕ) (rs : List (List ℕ)) → Fresh s p (r ∷ rs) → added_twin s p r ≡ false
unfolding Fresh added_twin
fresh_first Groups p r rs n = no_twins_next p.groups r rs n
fresh_first Rules p r rs n = refl
fresh_first Constraints p r rs n = refl

fresh_rest : (s : Section) (p : Policy) (r : List ℕ) (rs : List (List ℕ)) → Fresh s p (r ∷ rs) → Fresh s (with_record s p r) rs
unfolding Fresh with_record
fresh_rest Groups p r rs n = subst NoTwins (sym (append_assoc p.groups (r ∷ []) rs)) n
fresh_rest Rules p r rs n = tt
fresh_rest Constraints p r rs n = tt

add_section :
    (s : Section) (p : Policy) (t : List ℕ) (g : ℕ) (rs : List (List ℕ)) → Sound p → Fresh s p rs → g ≤ length p.groups
    → ((r : List ℕ) → Memᴰ r rs → Formed s g r) → ((r : List ℕ) → Memᴰ r rs → Bytes r)
    → length (records_of p s) + length rs ≤ limit_of s → length (flatten rs) ≤ length t
    → Section-added s p t rs
unfolding add_all with_all flatten
add_section s p t g [] w n h f b few room = record { buffer = refl; sound = w }
add_section s p t g (r ∷ rs) w fresh h f b few room =
    let n = length-append r (flatten rs) in
    let k = length-append (image_of p) t in
    let fr : Formed s (length p.groups) r = formed_more g (length p.groups) r s h (f r (Memᴰ.head refl)) in
    let lr : length (records_of p s) < limit_of s = omega arith in
    let p₁ : Policy = with_record s p r in
    let t₁ : List ℕ = drop (length r) t in
    let step : buffer_after (image_of p ++ t) r ≡ image_of p₁ ++ t₁ = add_image p t s r w fr (fresh_first s p r rs fresh) lr (omega arith) in
    let few₁ : length (records_of p₁ s) + length rs ≤ limit_of s =
    omega (arith, ap length (with_records p r s), length-append (records_of p s) (r ∷ [])) in
    let room₁ : length (flatten rs) ≤ length t₁ = omega (arith, length-drop (length r) t) in
    let rest = add_section s p₁ t₁ g rs (with_sound p r s w fr (b r (Memᴰ.head refl)) (fresh_first s p r rs fresh) lr)
    (fresh_rest s p r rs fresh) (omega (arith, with_groups_lem p r s))
    (λ x m. f x (Memᴰ.tail m)) (λ x m. b x (Memᴰ.tail m)) few₁ room₁ in
    record {
      buffer =
          ap (λ (x : List ℕ). add_all x rs) step ∙ rest.buffer
          ∙ ap (λ (x : List ℕ). image_of (with_all s p₁ rs) ++ x) (drop-drop (length (flatten rs)) (length r) t ∙ ap (λ (m : ℕ). drop m t) (sym n));
      sound = rest.sound;
    }

-- ---- a section filled

abbrev policy_for : ℕ → List (List ℕ) → List (List ℕ) → List (List ℕ) → Policy
policy_for v gs rs cs = record { version = v; groups = gs; rules = rs; constraints = cs }

module _ (v : ℕ) where
  fill_groups : (gs rs cs xs : List (List ℕ)) → with_all Groups (policy_for v gs rs cs) xs ≡ policy_for v (gs ++ xs) rs cs
  unfolding with_all with_record
  fill_groups gs rs cs [] = ap (λ (l : List (List ℕ)). policy_for v l rs cs) (sym (append-nil gs))
  fill_groups gs rs cs (x ∷ xs) =
      fill_groups (gs ++ (x ∷ [])) rs cs xs ∙ ap (λ (l : List (List ℕ)). policy_for v l rs cs) (append_assoc gs (x ∷ []) xs)

  fill_rules : (gs rs cs xs : List (List ℕ)) → with_all Rules (policy_for v gs rs cs) xs ≡ policy_for v gs (rs ++ xs) cs
  unfolding with_all with_record
  fill_rules gs rs cs [] = ap (λ (l : List (List ℕ)). policy_for v gs l cs) (sym (append-nil rs))
  fill_rules gs rs cs (x ∷ xs) =
      fill_rules gs (rs ++ (x ∷ [])) cs xs ∙ ap (λ (l : List (List ℕ)). policy_for v gs l cs) (append_assoc rs (x ∷ []) xs)

  fill_constraints : (gs rs cs xs : List (List ℕ)) → with_all Constraints (policy_for v gs rs cs) xs ≡ policy_for v gs rs (cs ++ xs)
  unfolding with_all with_record
  fill_constraints gs rs cs [] = ap (λ (l : List (List ℕ)). policy_for v gs rs l) (sym (append-nil cs))
  fill_constraints gs rs cs (x ∷ xs) =
      fill_constraints gs rs (cs ++ (x ∷ [])) xs ∙ ap (λ (l : List (List ℕ)). policy_for v gs rs l) (append_assoc cs (x ∷ []) xs)

abbrev empty_policy : Policy
empty_policy = policy_for 1 [] [] []

module _ (q : Policy) (w : Sound q) (t : List ℕ) (room : length (body_of q) ≤ length t) where
  version_one : q.version ≡ 1
  version_one = known_version_lem q.version w.regular.version

  p₁ : Policy
  p₁ = policy_for 1 q.groups [] []

  p₂ : Policy
  p₂ = policy_for 1 q.groups q.rules []

  t₁ : List ℕ
  t₁ = drop (length (flatten q.groups)) t

  t₂ : List ℕ
  t₂ = drop (length (flatten q.rules)) t₁

  body_length : length (body_of q) ≡ length (flatten q.groups) + (length (flatten q.rules) + length (flatten q.constraints))
  body_length =
      ap length (body_parts q)
      ∙ length-append (flatten q.groups) (flatten q.rules ++ flatten q.constraints)
      ∙ ap (λ (n : ℕ). length (flatten q.groups) + n) (length-append (flatten q.rules) (flatten q.constraints))

  in_groups : (r : List ℕ) → Memᴰ r q.groups → Memᴰ r (records_of q Groups)
  in_groups r m = rw (records_of_groups q) m

  in_rules : (r : List ℕ) → Memᴰ r q.rules → Memᴰ r (records_of q Rules)
  in_rules r m = rw (records_of_rules q) m

  in_constraints : (r : List ℕ) → Memᴰ r q.constraints → Memᴰ r (records_of q Constraints)
  in_constraints r m = rw (records_of_constraints q) m

  groups_fresh : Fresh Groups empty_policy q.groups
  unfolding Fresh
  groups_fresh = w.twins

  rules_fresh : Fresh Rules p₁ q.rules
  unfolding Fresh
  rules_fresh = tt

  constraints_fresh : Fresh Constraints p₂ q.constraints
  unfolding Fresh
  constraints_fresh = tt

  groups_added : Section-added Groups empty_policy t q.groups
  groups_added =
      add_section Groups empty_policy t 0 q.groups sound_empty groups_fresh (omega arith)
      (λ r m. group_any (length q.groups) 0 r (w.regular.formed Groups r (in_groups r m))) (λ r m. w.regular.bytes Groups r (in_groups r m))
      (omega (arith, w.regular.few Groups, ap length (records_of_groups q), ap length (records_of_groups empty_policy))) (omega (arith, body_length))

  groups_full : with_all Groups empty_policy q.groups ≡ p₁
  unfolding p₁
  groups_full = fill_groups 1 [] [] [] q.groups

  rules_added : Section-added Rules p₁ t₁ q.rules
  unfolding p₁ t₁
  rules_added =
      add_section Rules p₁ t₁ (length q.groups) q.rules (subst Sound groups_full groups_added.sound) rules_fresh (omega arith)
      (λ r m. w.regular.formed Rules r (in_rules r m)) (λ r m. w.regular.bytes Rules r (in_rules r m))
      (omega (arith, w.regular.few Rules, ap length (records_of_rules q), ap length (records_of_rules p₁))) (omega (arith, body_length, length-drop (length (flatten q.groups)) t))

  rules_full : with_all Rules p₁ q.rules ≡ p₂
  unfolding p₁ p₂
  rules_full = fill_rules 1 q.groups [] [] q.rules

  constraints_added : Section-added Constraints p₂ t₂ q.constraints
  unfolding p₂ t₁ t₂
  constraints_added =
      add_section Constraints p₂ t₂ (length q.groups) q.constraints (subst Sound rules_full rules_added.sound) constraints_fresh (omega arith)
      (λ r m. w.regular.formed Constraints r (in_constraints r m)) (λ r m. w.regular.bytes Constraints r (in_constraints r m))
      (omega (arith, w.regular.few Constraints, ap length (records_of_constraints q), ap length (records_of_constraints p₂)))
      (omega (arith, body_length, length-drop (length (flatten q.groups)) t, length-drop (length (flatten q.rules)) t₁))

  constraints_full : with_all Constraints p₂ q.constraints ≡ q
  unfolding p₂
  constraints_full = fill_constraints 1 q.groups q.rules [] q.constraints ∙ ap (λ (v : ℕ). policy_for v q.groups q.rules q.constraints) (sym version_one)

  rest_is : drop (length (flatten q.constraints)) t₂ ≡ drop (length (body_of q)) t
  unfolding t₁ t₂
  rest_is =
      let g : ℕ = length (flatten q.groups) in
      let r : ℕ = length (flatten q.rules) in
      let c : ℕ = length (flatten q.constraints) in
      drop-drop c r (drop g t) ∙ drop-drop (r + c) g t ∙ ap (λ (n : ℕ). drop n t) (sym body_length)

  all_added_lem : add_all (empty ++ t) (all_records q) ≡ image_of q ++ drop (length (body_of q)) t
  unfolding all_records t₁ t₂
  all_added_lem =
      add_append (empty ++ t) q.groups (q.rules ++ q.constraints)
      ∙ ap (λ (b : List ℕ). add_all b (q.rules ++ q.constraints))
      (ap (λ (e : List ℕ). add_all (e ++ t) q.groups) (sym image_empty) ∙ groups_added.buffer ∙ ap (λ (p : Policy). image_of p ++ t₁) groups_full)
      ∙ add_append (image_of p₁ ++ t₁) q.rules q.constraints
      ∙ ap (λ (b : List ℕ). add_all b q.constraints) (rules_added.buffer ∙ ap (λ (p : Policy). image_of p ++ t₂) rules_full)
      ∙ constraints_added.buffer
      ∙ ap₂ (λ (p : Policy) (x : List ℕ). image_of p ++ x) constraints_full rest_is

pub round_trip : RoundTrip
unfolding overwrite
round_trip l t b e room =
    let q : Policy = policy_of l in
    let is : image_of q ≡ l = image_of_policy l b e in
    let n : length l ≡ 9 + length (body_of q) = ap length (sym is) ∙ image_length q in
    let k : length (body_of q) ≤ length t = omega (arith, n, length-append empty t, length_empty) in
    all_added_lem q (policy_sound l b e) t k
    ∙ ap₂ ◌++◌ is (sym (ap (λ (m : ℕ). drop m (empty ++ t)) (n ∙ ap (λ (m : ℕ). m + length (body_of q)) (sym length_empty)) ∙ drop-append-add empty t (length (body_of q))))

pub round_trip_exact : RoundTripExact
unfolding overwrite
round_trip_exact l t b e n =
    round_trip l t b e (omega arith)
    ∙ ap (λ (k : ℕ). l ++ drop k (empty ++ t)) (sym n)
    ∙ ap (λ (x : List ℕ). l ++ x) (drop-length (empty ++ t))
    ∙ append-nil l

pub overwrite_is : (new b : List ℕ) → overwrite new b ≡ new ++ drop (length new) b
unfolding overwrite
overwrite_is new b = refl

pub add_all_none : (b : List ℕ) → add_all b [] ≡ b
unfolding add_all
add_all_none b = refl

pub add_all_next : (b r : List ℕ) (rs : List (List ℕ)) → add_all b (r ∷ rs) ≡ add_all (buffer_after b r) rs
unfolding add_all
add_all_next b r rs = refl
