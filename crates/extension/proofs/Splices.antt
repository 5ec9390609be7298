-- A record spliced into the bytes of an image gives the image of the policy with that record. Assumes nothing.
--     before, behind       the bytes of a policy's records up to the end of a section, and those after it
--     flatten_snoc         the bytes of records, and of one record more
--     section_end          where that is in the image
--     inserted_image       the law
use Prim.Native.Nat.{ℕ, ◌+◌, ◌/◌, ◌%◌}
use mathlib.Core.Path.{◌≡◌, refl, sym, ap, ◌∙◌}
use mathlib.Core.List.{List, [], ◌∷◌, ◌++◌, flatten, append_assoc, append-nil}
use native.Mathlib.Omega.{arith}
use lib.ListN.{length, take, drop, length-append}
use lib.Seq.{slice, take_at, drop_at, drop-append-add}
use Rattle.format.specs.declared.Section.{Section}
use Rattle.format.specs.declared.Section.TheVariants.{Groups, Rules, Constraints}
use Rattle.format.specs.Format.{count_place}
use Rattle.format.specs.Policy.{Policy, records_of, body_of, image_of}
use Rattle.format.proofs.ByCase.{count_place_groups, count_place_rules, count_place_constraints, records_of_groups, records_of_rules, records_of_constraints}
use Rattle.format.proofs.Images.{Sound, image_length, start_rules, start_constraints}
use Rattle.format.proofs.Written.{body_parts, image_nine}
use Rattle.extension.specs.Add.{with_record}
use Rattle.extension.specs.Inner.Splice.{put_word_at, spliced, inserted, end_of_section}

unfoldable pub before : Section → Policy → List ℕ
before Groups p = flatten p.groups
before Rules p = flatten p.groups ++ flatten p.rules
before Constraints p = flatten p.groups ++ (flatten p.rules ++ flatten p.constraints)

unfoldable pub behind : Section → Policy → List ℕ
behind Groups p = flatten p.rules ++ flatten p.constraints
behind Rules p = flatten p.constraints
behind Constraints p = []

pub flatten_snoc : (rs : List (List ℕ)) (r : List ℕ) → flatten (rs ++ (r ∷ [])) ≡ flatten rs ++ r
unfolding flatten
flatten_snoc [] r = append-nil r
flatten_snoc (x ∷ rs) r = ap (λ (t : List ℕ). x ++ t) (flatten_snoc rs r) ∙ sym (append_assoc x (flatten rs) r)

pub body_split : (s : Section) (p : Policy) → body_of p ≡ before s p ++ behind s p
unfolding before behind
body_split Groups p = body_parts p
body_split Rules p = body_parts p ∙ sym (append_assoc (flatten p.groups) (flatten p.rules) (flatten p.constraints))
body_split Constraints p = body_parts p ∙ sym (append-nil _)

pub body_with : (s : Section) (p : Policy) (r : List ℕ) → body_of (with_record s p r) ≡ before s p ++ (r ++ behind s p)
unfolding before behind with_record
body_with Groups p r =
    body_parts (with_record Groups p r)
    ∙ ap (λ (t : List ℕ). t ++ (flatten p.rules ++ flatten p.constraints)) (flatten_snoc p.groups r)
    ∙ append_assoc (flatten p.groups) r _
body_with Rules p r =
    body_parts (with_record Rules p r)
    ∙ ap (λ (t : List ℕ). flatten p.groups ++ (t ++ flatten p.constraints)) (flatten_snoc p.rules r)
    ∙ ap (λ (t : List ℕ). flatten p.groups ++ t) (append_assoc (flatten p.rules) r (flatten p.constraints))
    ∙ sym (append_assoc (flatten p.groups) (flatten p.rules) _)
body_with Constraints p r =
    let g = flatten p.groups in
    let k = flatten p.constraints in
    body_parts (with_record Constraints p r)
    ∙ ap (λ (t : List ℕ). g ++ (flatten p.rules ++ t)) (flatten_snoc p.constraints r)
    ∙ ap (λ (t : List ℕ). g ++ t) (sym (append_assoc (flatten p.rules) k r))
    ∙ sym (append_assoc g (flatten p.rules ++ k) r)
    ∙ ap (λ (t : List ℕ). (g ++ (flatten p.rules ++ k)) ++ t) (sym (append-nil r))

pub section_end : (s : Section) (p : Policy) → Sound p → end_of_section (image_of p) s ≡ 9 + length (before s p)
unfolding end_of_section before
section_end Groups p w = start_rules p w.regular
section_end Rules p w = start_constraints p w.regular ∙ omega (arith, length-append (flatten p.groups) (flatten p.rules))
section_end Constraints p w = image_length p ∙ ap (λ (l : List ℕ). 9 + length l) (body_parts p)

-- the nine bytes of a header
header : ℕ → ℕ → ℕ → ℕ → ℕ → List ℕ
header v n g r c = v ∷ n / 256 ∷ n % 256 ∷ g / 256 ∷ g % 256 ∷ r / 256 ∷ r % 256 ∷ c / 256 ∷ c % 256 ∷ []

abbrev header_for : Policy → List ℕ
header_for p = header p.version (9 + length (body_of p)) (length p.groups) (length p.rules) (length p.constraints)

image_header : (p : Policy) → image_of p ≡ header_for p ++ body_of p
unfolding header
image_header p = image_nine p

module _ (v n g r c : ℕ) where
  header_nine : length (header v n g r c) ≡ 9
  unfolding header
  header_nine = refl

  grown_length : (m : ℕ) (t : List ℕ) → put_word_at (header v n g r c ++ t) 1 m ≡ header v m g r c ++ t
  unfolding put_word_at header
  grown_length m t = refl

  grown_groups : (m : ℕ) (t : List ℕ) → put_word_at (header v n g r c ++ t) 3 m ≡ header v n m r c ++ t
  unfolding put_word_at header
  grown_groups m t = refl

  grown_rules : (m : ℕ) (t : List ℕ) → put_word_at (header v n g r c ++ t) 5 m ≡ header v n g m c ++ t
  unfolding put_word_at header
  grown_rules m t = refl

  grown_constraints : (m : ℕ) (t : List ℕ) → put_word_at (header v n g r c ++ t) 7 m ≡ header v n g r m ++ t
  unfolding put_word_at header
  grown_constraints m t = refl

-- bytes r spliced between x and y, behind a front and before a rest
splice_parts :
    (h x y t r : List ℕ) (at size : ℕ) → length (h ++ x) ≡ at → length ((h ++ x) ++ y) ≡ size
    → spliced (((h ++ x) ++ y) ++ t) r at size ≡ h ++ (x ++ (r ++ (y ++ drop (length r) t)))
unfolding spliced
splice_parts h x y t r at size a s =
    let f : List ℕ = h ++ x in
    let e : (f ++ y) ++ t ≡ f ++ (y ++ t) = append_assoc f y t in
    let first : take at ((f ++ y) ++ t) ≡ f = ap (take at) e ∙ take_at f (y ++ t) at a in
    let mid : slice at size ((f ++ y) ++ t) ≡ y = ap (drop at) (take_at (f ++ y) t size s) ∙ drop_at f y at a in
    let last : drop (size + length r) ((f ++ y) ++ t) ≡ drop (length r) t =
    ap (λ (n : ℕ). drop (n + length r) ((f ++ y) ++ t)) (sym s) ∙ drop-append-add (f ++ y) t (length r) in
    rw (first, mid, last) (append_assoc h x (r ++ (y ++ drop (length r) t)))

-- a count grown in the header of a policy, and the header of the policy with one record more
module _ (p : Policy) (r t : List ℕ) (n : ℕ) where
  grown_count :
      (s : Section)
      → put_word_at (header p.version n (length p.groups) (length p.rules) (length p.constraints) ++ t) (count_place s) (length (records_of p s) + 1)
      ≡ header (with_record s p r).version n (length (with_record s p r).groups) (length (with_record s p r).rules) (length (with_record s p r).constraints) ++ t
  unfolding with_record
  grown_count Groups =
      rw (count_place_groups, records_of_groups)
      (grown_groups p.version n (length p.groups) (length p.rules) (length p.constraints) (length p.groups + 1) t
      ∙ ap (λ (k : ℕ). header p.version n k (length p.rules) (length p.constraints) ++ t) (sym (length-append p.groups (r ∷ []))))
  grown_count Rules =
      rw (count_place_rules, records_of_rules)
      (grown_rules p.version n (length p.groups) (length p.rules) (length p.constraints) (length p.rules + 1) t
      ∙ ap (λ (k : ℕ). header p.version n (length p.groups) k (length p.constraints) ++ t) (sym (length-append p.rules (r ∷ []))))
  grown_count Constraints =
      rw (count_place_constraints, records_of_constraints)
      (grown_constraints p.version n (length p.groups) (length p.rules) (length p.constraints) (length p.constraints + 1) t
      ∙ ap (λ (k : ℕ). header p.version n (length p.groups) (length p.rules) k ++ t) (sym (length-append p.constraints (r ∷ []))))

module _ (s : Section) (p : Policy) (r t : List ℕ) where
  x : List ℕ
  x = before s p

  y : List ℕ
  y = behind s p

  image_parts : image_of p ++ t ≡ ((header_for p ++ x) ++ y) ++ t
  unfolding x y
  image_parts = ap (λ (l : List ℕ). l ++ t) (image_header p ∙ ap (λ (l : List ℕ). header_for p ++ l) (body_split s p) ∙ sym (append_assoc (header_for p) x y))

  length_front : length (header_for p ++ x) ≡ 9 + length x
  length_front = length-append (header_for p) x ∙ ap (λ (n : ℕ). n + length x) (header_nine _ _ _ _ _)

  length_whole : length ((header_for p ++ x) ++ y) ≡ length (image_of p)
  unfolding x y
  length_whole = ap length (append_assoc (header_for p) x y ∙ ap (λ (l : List ℕ). header_for p ++ l) (sym (body_split s p)) ∙ sym (image_header p))

  pub length_with : length (image_of p) + length r ≡ 9 + length (body_of (with_record s p r))
  unfolding x y
  length_with =
      rw (image_length p, body_split s p, body_with s p r, length-append x (r ++ y), length-append r y, length-append x y) (omega arith)

  -- the law
  pub inserted_image :
      inserted (image_of p ++ t) r (9 + length (before s p)) (length (image_of p)) (count_place s) (length (records_of p s))
      ≡ image_of (with_record s p r) ++ drop (length r) t
  unfolding inserted x y
  inserted_image =
      let rest : List ℕ = x ++ (r ++ (y ++ drop (length r) t)) in
      let n : ℕ = length (image_of p) + length r in
      let sp : spliced (image_of p ++ t) r (9 + length x) (length (image_of p)) ≡ header_for p ++ rest =
      ap (λ (b : List ℕ). spliced b r (9 + length x) (length (image_of p))) image_parts
      ∙ splice_parts (header_for p) x y t r (9 + length x) (length (image_of p)) length_front length_whole in
      let body : rest ≡ body_of (with_record s p r) ++ drop (length r) t =
      ap (λ (l : List ℕ). x ++ l) (sym (append_assoc r y (drop (length r) t)))
      ∙ sym (append_assoc x (r ++ y) (drop (length r) t))
      ∙ ap (λ (l : List ℕ). l ++ drop (length r) t) (sym (body_with s p r)) in
      ap (λ (b : List ℕ). put_word_at (put_word_at b 1 n) (count_place s) (length (records_of p s) + 1)) sp
      ∙ ap (λ (b : List ℕ). put_word_at b (count_place s) (length (records_of p s) + 1)) (grown_length _ _ _ _ _ n rest)
      ∙ grown_count p r rest n s
      ∙ ap (λ (k : ℕ). header (with_record s p r).version k (length (with_record s p r).groups) (length (with_record s p r).rules) (length (with_record s p r).constraints) ++ rest) length_with
      ∙ ap (λ (l : List ℕ). header_for (with_record s p r) ++ l) body
      ∙ sym (append_assoc (header_for (with_record s p r)) (body_of (with_record s p r)) (drop (length r) t))
      ∙ ap (λ (l : List ℕ). l ++ drop (length r) t) (sym (image_header (with_record s p r)))
