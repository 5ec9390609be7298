-- Laws of records one after the other, from a place of an image on. Assumes nothing.
--     records_none, records_next, place_snoc, records_length, records_nth, records_mem, records_flatten   of `place_after` and `records_at`
--     section_prefix        a section without a refusal has none in its first records
--     section_formed        and each of its records is formed
--     Runs l at rs e        the records rs lie in l from a place on, and end at e
use Prim.Native.Nat.{ℕ, zero, suc, ◌+◌, ◌≤◌, ◌<◌}
use mathlib.Core.Path.{◌≡◌, refl, sym, ap, ap₂, ◌∙◌}
use mathlib.Core.Logic.{⊎_elim}
use mathlib.Core.Bool.{true}
use Rattle.std.specs.Prelude.{None}
use mathlib.Core.List.Memᴰ
use mathlib.Core.List.{List, [], ◌∷◌, ◌++◌, flatten, append_assoc, Memᴰ}
use native.Mathlib.Omega.{arith}
use native.Mathlib.Nat.{add-zero}
use lib.ListN.{length, get_or, take, drop, length-append, take-append-drop, get_or-append}
use lib.Seq.{take_at, drop_at, drop-drop, get_or-drop}
use Rattle.format.specs.declared.Section.{Section}
use Rattle.format.specs.declared.Section.TheVariants.{Groups}
use Rattle.format.specs.Format.{count_of, first_record, shape_ok}
use Rattle.format.specs.Policy.{record_at, place_after, records_at}
use Rattle.format.specs.Check.{read_of, read_fault, section_fault}
use Rattle.format.proofs.Chain.{or_else_split, or_else_none}
use Rattle.format.proofs.Shapes.{Formed, shape_length, shape_kind, length_least, read_whole, whole_read, read_fault_none}

module _ (l : List ℕ) (at n : ℕ) where
  pub records_none : n ≡ 0 → records_at l at n ≡ []
  unfolding records_at
  records_none e = rw e

  pub records_next : (k : ℕ) → n ≡ suc k → records_at l at n ≡ record_at l at ∷ records_at l (at + get_or l at 0) k
  unfolding records_at
  records_next k e = rw e

pub place_snoc : (l : List ℕ) (at n : ℕ) → place_after l at (suc n) ≡ place_after l at n + get_or l (place_after l at n) 0
unfolding place_after
place_snoc l at zero = refl
place_snoc l at (suc n) = place_snoc l (at + get_or l at 0) n

pub place_least : (l : List ℕ) (at n : ℕ) → at ≤ place_after l at n
unfolding place_after
place_least l at zero = omega arith
place_least l at (suc n) = let h = place_least l (at + get_or l at 0) n in omega arith

pub records_length : (l : List ℕ) (at n : ℕ) → length (records_at l at n) ≡ n
unfolding records_at
records_length l at zero = refl
records_length l at (suc n) = ap suc (records_length l (at + get_or l at 0) n)

pub records_nth : (l : List ℕ) (at n k : ℕ) → k < n → get_or (records_at l at n) k [] ≡ record_at l (place_after l at k)
unfolding records_at place_after
records_nth l at zero k h = absurd (omega arith)
records_nth l at (suc n) zero h = refl
records_nth l at (suc n) (suc k) h = records_nth l (at + get_or l at 0) n k (omega arith)

pub records_mem : (l : List ℕ) (at n : ℕ) (r : List ℕ) → Memᴰ r (records_at l at n) → (k : ℕ) × (k < n) × (r ≡ record_at l (place_after l at k))
unfolding records_at place_after
records_mem l at zero r m = absurd (Memᴰ.not-nil m)
records_mem l at (suc n) r m =
    ⊎_elim
    (λ e. (0, omega arith, e))
    (λ t. let q = records_mem l (at + get_or l at 0) n r t in (suc q.0, omega (arith, q.1), q.2))
    (Memᴰ.cases_cons m)

-- records and what lies past them make up the image from there on
pub records_flatten : (l : List ℕ) (at n : ℕ) → flatten (records_at l at n) ++ drop (place_after l at n) l ≡ drop at l
unfolding records_at place_after flatten record_at first_record
records_flatten l at zero = refl
records_flatten l at (suc n) =
    let k : get_or (drop at l) 0 0 ≡ get_or l at 0 = get_or-drop at l 0 0 ∙ ap (λ (i : ℕ). get_or l i 0) (add-zero at) in
    append_assoc (take (get_or (drop at l) 0 0) (drop at l)) (flatten (records_at l (at + get_or l at 0) n)) _
    ∙ ap (λ (t : List ℕ). take (get_or (drop at l) 0 0) (drop at l) ++ t) (records_flatten l (at + get_or l at 0) n ∙ sym (drop-drop (get_or l at 0) at l))
    ∙ ap (λ (j : ℕ). take (get_or (drop at l) 0 0) (drop at l) ++ drop j (drop at l)) (sym k)
    ∙ take-append-drop (get_or (drop at l) 0 0) (drop at l)

pub section_rest : (l : List ℕ) (s : Section) (at n : ℕ) → section_fault l s at (suc n) ≡ None → section_fault l s (at + get_or l at 0) n ≡ None
unfolding section_fault
section_rest l s at n e = (or_else_split (read_fault at (read_of s (count_of l Groups) (drop at l))) _ e).1

pub section_prefix : (l : List ℕ) (s : Section) (at n k : ℕ) → k ≤ n → section_fault l s at n ≡ None → section_fault l s at k ≡ None
unfolding section_fault
section_prefix l s at n zero h e = refl
section_prefix l s at zero (suc k) h e = absurd (omega arith)
section_prefix l s at (suc n) (suc k) h e =
    or_else_none
    (or_else_split (read_fault at (read_of s (count_of l Groups) (drop at l))) _ e).0
    (section_prefix l s (at + get_or l at 0) n k (omega arith) (section_rest l s at n e))

pub section_formed :
    (l : List ℕ) (s : Section) (at n k : ℕ) → k < n → section_fault l s at n ≡ None → Formed s (count_of l Groups) (record_at l (place_after l at k))
unfolding section_fault place_after record_at
section_formed l s at zero k h e = absurd (omega arith)
section_formed l s at (suc n) zero h e =
    let w = read_fault_none at _ (or_else_split _ _ e).0 in
    (read_whole s (count_of l Groups) w.0 (drop at l) w.1).0
section_formed l s at (suc n) (suc k) h e =
    section_formed l s (at + get_or l at 0) n k (omega arith) (section_rest l s at n e)

pub data Runs (l : List ℕ) : ℕ → List (List ℕ) → ℕ → Type 0 where
  done : {at : ℕ} → Runs l at [] at
  next : {at e : ℕ} {r : List ℕ} {rs : List (List ℕ)} → record_at l at ≡ r → Runs l (at + get_or l at 0) rs e → Runs l at (r ∷ rs) e

module _ {l : List ℕ} where
  pub runs_records : {at e : ℕ} {rs : List (List ℕ)} → Runs l at rs e → records_at l at (length rs) ≡ rs
  unfolding records_at
  runs_records done = refl
  runs_records (next h q) = ap₂ ◌∷◌ h (runs_records q)

  pub runs_place : {at e : ℕ} {rs : List (List ℕ)} → Runs l at rs e → place_after l at (length rs) ≡ e
  unfolding place_after
  runs_place done = refl
  runs_place (next h q) = runs_place q

  pub runs_fault :
      (s : Section) {at e : ℕ} {rs : List (List ℕ)} → Runs l at rs e → ((r : List ℕ) → Memᴰ r rs → Formed s (count_of l Groups) r)
      → section_fault l s at (length rs) ≡ None
  unfolding section_fault read_fault record_at
  runs_fault s done f = refl
  runs_fault s (next {at} h q) f =
      or_else_none
      (rw (whole_read s (count_of l Groups) (drop at l) (rw h (f _ (Memᴰ.head refl)))))
      (runs_fault s q (λ z m. f z (Memᴰ.tail m)))

-- a record of its shape, at the front of a list
module _ (r t : List ℕ) (h : shape_ok r ≡ true) where
  front_length : get_or (r ++ t) 0 0 ≡ length r
  front_length =
      let Some = length_least (get_or r 1 0) (length r) (shape_kind r h) in
      get_or-append r t 0 0 (omega arith) ∙ sym (shape_length r h)

  front_record : first_record (r ++ t) ≡ r
  unfolding first_record
  front_record = rw front_length (take_at r t (length r) refl)

abbrev pub Shaped : List (List ℕ) → Type 0
Shaped rs = (r : List ℕ) → Memᴰ r rs → shape_ok r ≡ true

-- records written one after the other behind some bytes
pub runs_flatten :
    (l front : List ℕ) (at : ℕ) (rs : List (List ℕ)) (t : List ℕ) → l ≡ front ++ (flatten rs ++ t) → length front ≡ at → Shaped rs
    → Runs l at rs (at + length (flatten rs))
unfolding flatten record_at
runs_flatten l front at [] t e q h = rw add-zero done
runs_flatten l front at (r ∷ rs) t e q h =
    let hr = h r (Memᴰ.head refl) in
    let e₁ : l ≡ front ++ (r ++ (flatten rs ++ t)) = e ∙ ap (λ (x : List ℕ). front ++ x) (append_assoc r (flatten rs) t) in
    let d : drop at l ≡ r ++ (flatten rs ++ t) = ap (drop at) e₁ ∙ drop_at front (r ++ (flatten rs ++ t)) at q in
    let n : get_or l at 0 ≡ length r =
    ap (λ (i : ℕ). get_or l i 0) (sym (add-zero at)) ∙ sym (get_or-drop at l 0 0) ∙ ap (λ (x : List ℕ). get_or x 0 0) d ∙ front_length r (flatten rs ++ t) hr in
    let e₂ : l ≡ (front ++ r) ++ (flatten rs ++ t) = e₁ ∙ sym (append_assoc front r (flatten rs ++ t)) in
    let q₂ : length (front ++ r) ≡ at + get_or l at 0 = length-append front r ∙ ap₂ ◌+◌ q (sym n) in
    let w : Runs l (at + get_or l at 0) rs (at + get_or l at 0 + length (flatten rs)) =
    runs_flatten l (front ++ r) (at + get_or l at 0) rs t e₂ q₂ (λ z m. h z (Memᴰ.tail m)) in
    let z : at + get_or l at 0 + length (flatten rs) ≡ at + length (r ++ flatten rs) = omega (arith, length-append r (flatten rs)) in
    next (ap first_record d ∙ front_record r (flatten rs ++ t) hr) (rw z at w)
