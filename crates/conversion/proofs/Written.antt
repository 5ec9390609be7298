-- The new image byte by byte, and record by record, for the code that writes it. Assumes nothing.
--     image_written        the header's nine bytes, then the groups kept, the moved rules and the moved constraints
--     rules_front, constraints_front   the first k moved records have as many bytes as the first k old ones
--     records_next         the bytes of the first k + 1 moved records
use Prim.Native.Nat.{ℕ, ◌+◌, ◌/◌, ◌%◌, ◌<◌}
use native.Mathlib.Numerals.{add-one}
use mathlib.Core.Path.{◌≡◌, refl, sym, subst, ap, ◌∙◌}
use mathlib.Core.List.Memᴰ
use mathlib.Core.List.{List, [], ◌∷◌, ◌++◌, map, flatten, Memᴰ}
use lib.ListN.{length, get_or, take, drop, length-map, take-append-drop}
use lib.Seq.{take-suc}
use Rattle.format.specs.Policy.{Policy, body_of, policy_of}
use Rattle.format.specs.Claims.{WellFormed}
use Rattle.format.proofs.Images.{image_length}
use Rattle.format.proofs.Written.{body_parts, image_nine}
use Rattle.extension.proofs.Splices.{flatten_snoc}
use Rattle.conversion.specs.Groups.{distinct}
use Rattle.conversion.specs.Retype.{retype_rule, retype_constraint}
use Rattle.conversion.specs.Convert.{follow, converted, converted_image}
use Rattle.conversion.proofs.Retype.{rule_length, constraint_length}
use Rattle.conversion.proofs.Moved.{rule_record_at, constraint_record_at}
use Rattle.conversion.proofs.Records.{version_is, groups_are, rules_are, constraints_are}
use Rattle.conversion.proofs.Convert.{image_is, flatten_as_long}

-- ---- the header and the sections

abbrev written : ℕ → ℕ → ℕ → ℕ → ℕ → List ℕ → List ℕ
written v n g r c body = v ∷ n / 256 ∷ n % 256 ∷ g / 256 ∷ g % 256 ∷ r / 256 ∷ r % 256 ∷ c / 256 ∷ c % 256 ∷ body

written_alike :
    {v v' n n' g g' r r' c c' : ℕ} {body body' : List ℕ} → v ≡ v' → n ≡ n' → g ≡ g' → r ≡ r' → c ≡ c' → body ≡ body'
    → written v n g r c body ≡ written v' n' g' r' c' body'
written_alike e₀ e₁ e₂ e₃ e₄ e₅ = λ i. written (e₀ i) (e₁ i) (e₂ i) (e₃ i) (e₄ i) (e₅ i)

module _ (l : List ℕ) where
  abbrev p : Policy
  p = policy_of l

  rules_many : length (converted p).rules ≡ length p.rules
  rules_many = ap length (rules_are p) ∙ length-map p.rules (retype_rule (follow p))

  constraints_many : length (converted p).constraints ≡ length p.constraints
  constraints_many = ap length (constraints_are p) ∙ length-map p.constraints (retype_constraint (follow p))

  total : 9 + length (body_of (converted p)) ≡ length (converted_image l)
  total = sym (image_length (converted p)) ∙ ap length (sym (image_is l))

  body : body_of (converted p)
      ≡ flatten (distinct p.groups)
      ++ (flatten (map (retype_rule (follow p)) p.rules) ++ flatten (map (retype_constraint (follow p)) p.constraints))
  body = body_parts (converted p) ∙ rw (groups_are p, rules_are p, constraints_are p)

  pub image_written :
      converted_image l
      ≡ p.version
      ∷ length (converted_image l) / 256 ∷ length (converted_image l) % 256
      ∷ length (distinct p.groups) / 256 ∷ length (distinct p.groups) % 256
      ∷ length p.rules / 256 ∷ length p.rules % 256
      ∷ length p.constraints / 256 ∷ length p.constraints % 256
      ∷ (flatten (distinct p.groups)
      ++ (flatten (map (retype_rule (follow p)) p.rules) ++ flatten (map (retype_constraint (follow p)) p.constraints)))
  image_written =
      image_is l ∙ image_nine (converted p)
      ∙ written_alike (version_is p) total (ap length (groups_are p)) rules_many constraints_many body

-- ---- record by record

pub records_next :
    (f : List ℕ → List ℕ) (rs : List (List ℕ)) (k : ℕ) → k < length rs
    → flatten (map f (take (k + 1) rs)) ≡ flatten (map f (take k rs)) ++ f (get_or rs k [])
records_next f rs k h =
    let e : take (k + 1) rs ≡ take k rs ++ (get_or rs k [] ∷ []) = rw add-one (take-suc rs k [] h) in
    ap (λ (xs : List (List ℕ)). flatten (map f xs)) e
    ∙ ap flatten (map_snoc (take k rs)) ∙ flatten_snoc (map f (take k rs)) (f (get_or rs k []))
  where
    map_snoc : (xs : List (List ℕ)) → map f (xs ++ (get_or rs k [] ∷ [])) ≡ map f xs ++ (f (get_or rs k []) ∷ [])
    map_snoc [] = refl
    map_snoc (x ∷ xs) = ap (λ (ys : List (List ℕ)). f x ∷ ys) (map_snoc xs)

taken : (k : ℕ) (rs : List (List ℕ)) (r : List ℕ) → Memᴰ r (take k rs) → Memᴰ r rs
taken k rs r m = subst (λ (xs : List (List ℕ)). Memᴰ r xs) (take-append-drop k rs) (Memᴰ.append_left (drop k rs) m)

module _ (p : Policy) (w : WellFormed p) (f : ℕ → ℕ) (k : ℕ) where
  pub rules_front : length (flatten (map (retype_rule f) (take k p.rules))) ≡ length (flatten (take k p.rules))
  rules_front =
      flatten_as_long (retype_rule f) (take k p.rules)
      (λ r m. rule_length f (length p.groups) r (rule_record_at p w r (taken k p.rules r m)))

  pub constraints_front :
      length (flatten (map (retype_constraint f) (take k p.constraints))) ≡ length (flatten (take k p.constraints))
  constraints_front =
      flatten_as_long (retype_constraint f) (take k p.constraints)
      (λ r m. constraint_length f (length p.groups) r (constraint_record_at p w r (taken k p.constraints r m)))
