-- Laws of type fields changed in place, by the turns of the loops. Assumes nothing.
--     field_length               a field that is changed keeps the length
--     list_turn, list_end        a turn of the loop over a list's fields, and behind the last
--     record_short, record_long  a record, without a list and with one
--     record_length              a record keeps its length
--     lies_here, lies_in, record_first   the first of the records that lie at a place
--     records_turn, records_end  a turn of the loop over records, and behind the last
--     list_turns, record_ends, records   what the check is handed at the functions of retype.rt
use Prim.Native.Nat.{ℕ, suc, ◌+◌, ◌-◌, ◌≤◌, ◌<◌}
use mathlib.Core.Path.{◌≡◌, refl, sym, ap, ap₂, ◌∙◌}
use mathlib.Core.List.{List, [], ◌∷◌, ◌++◌, append_assoc, append-nil}
use native.Mathlib.Omega.{arith}
use lib.ListN.{length, get_or, take, drop, length-append, length-set, length-drop, take-append-drop}
use lib.Seq.{append_snoc, take_all, take_at, drop_at, length-take-le, get_or-drop}
use Rattle.std.proofs.lemmas.List.{drop_more, take_more, drop_all, take_rest, set_split}
use borrow.Rule.Slice.PartMut.{put_mid}
use Rattle.rewrite.specs.Inner.Retype.{new_low, field_at, changed, two_in, record_in, records_in}
use Rattle.rewrite.specs.Inner.Kept.{Lie}
use Rattle.rewrite.proofs.KeptLaws.{lie_here, lie_next}

-- ---- a list

pub changed_length : (to l : List ℕ) → length (changed to l) ≡ length l
unfolding changed
changed_length to [] = refl
changed_length to (x ∷ []) = refl
changed_length to (x ∷ y ∷ l) = ap (λ (n : ℕ). suc (suc n)) (changed_length to l)

changed_short : (to l : List ℕ) → length l ≤ 1 → changed to l ≡ l
unfolding changed
changed_short to [] h = refl
changed_short to (x ∷ []) h = refl
changed_short to (x ∷ y ∷ l) h = absurd (omega arith)

pub field_length : (to b : List ℕ) (at : ℕ) → length (field_at to b at) ≡ length b
unfolding field_at
field_length to b at = simp length-set

-- one turn of the loop over a list's fields, of which those before a place are changed: b₁ is the list after it
module _ (to b : List ℕ) (at : ℕ) where
  module _ (h : at + 1 < length b) where
    x : ℕ
    x = get_or b at 0

    z : ℕ
    z = new_low to (get_or b at 0) (get_or b (at + 1) 0)

    rest : List ℕ
    rest = drop (at + 2) b

    pair : drop at b ≡ get_or b at 0 ∷ get_or b (at + 1) 0 ∷ drop (at + 2) b
    pair =
        let n : at + 1 + 1 ≡ at + 2 = omega arith in
        drop_more b at 0 (omega arith)
        ∙ ap (λ (l : List ℕ). get_or b at 0 ∷ l)
        (drop_more b (at + 1) 0 h ∙ ap (λ (n : ℕ). get_or b (at + 1) 0 ∷ drop n b) n)

    turned : field_at to b at ≡ (take at b ++ (x ∷ z ∷ [])) ++ rest
    unfolding field_at x z rest
    turned =
        let n : suc (at + 1) ≡ at + 2 = omega arith in
        set_split b (at + 1) z h
        ∙ ap₂ (λ (p : List ℕ) (n : ℕ). p ++ (z ∷ drop n b)) (take_more b at 0 (omega arith)) n
        ∙ append_snoc (take at b) x (z ∷ rest)
        ∙ sym (append_assoc (take at b) (x ∷ z ∷ []) rest)

    pub list_turn :
        take at b ++ changed to (drop at b) ≡ take (at + 2) (field_at to b at) ++ changed to (drop (at + 2) (field_at to b at))
    unfolding changed x z rest
    list_turn =
        let p : List ℕ = take at b ++ (x ∷ z ∷ []) in
        let n : length p ≡ at + 2
        = length-append (take at b) (x ∷ z ∷ []) ∙ omega (arith, length-take-le at b (omega arith)) in
        let t : take (at + 2) (field_at to b at) ≡ p = ap (take (at + 2)) turned ∙ take_at p rest (at + 2) n in
        let d : drop (at + 2) (field_at to b at) ≡ rest = ap (drop (at + 2)) turned ∙ drop_at p rest (at + 2) n in
        ap (λ (l : List ℕ). take at b ++ changed to l) pair
        ∙ sym (append_assoc (take at b) (x ∷ z ∷ []) (changed to rest))
        ∙ sym (ap₂ (λ (u v : List ℕ). u ++ changed to v) t d)

  pub list_end : length b ≤ at + 1 → take at b ++ changed to (drop at b) ≡ b
  list_end h =
      ap (λ (l : List ℕ). take at b ++ l) (changed_short to (drop at b) (omega (arith, length-drop at b)))
      ∙ take-append-drop at b

pub ruleset list_turns = (field_length, list_turn, list_end)

-- ---- a record

two_length : (k : ℕ) (to r : List ℕ) → length (two_in k to r) ≡ length r
unfolding two_in field_at
two_length k to r = simp length-set

pub record_length : (k : ℕ) (to r : List ℕ) → length (record_in k to r) ≡ length r
unfolding record_in
record_length k to r =
    let t : List ℕ = two_in k to r in
    length-append (take 11 t) (changed to (drop 11 t)) ∙ ap (λ (n : ℕ). length (take 11 t) + n) (changed_length to (drop 11 t))
    ∙ sym (length-append (take 11 t) (drop 11 t)) ∙ ap length (take-append-drop 11 t) ∙ two_length k to r

pub two_short : (k : ℕ) (to r : List ℕ) → length r ≤ 11 → record_in k to r ≡ two_in k to r
unfolding record_in changed
two_short k to r h =
    let t : List ℕ = two_in k to r in
    let n : length t ≤ 11 = omega (arith, two_length k to r) in
    rw (drop_all 11 t n, take_all 11 t n) (append-nil t)

pub record_short : (k : ℕ) (to r : List ℕ) → length r ≤ 11 → field_at to (field_at to r k) (k + 2) ≡ record_in k to r
unfolding two_in
record_short k to r h = sym (two_short k to r h)

pub record_long :
    (k : ℕ) (to r : List ℕ) (n : ℕ) → n ≡ length r - 11
    → put_mid 11 n (field_at to (field_at to r k) (k + 2)) (changed to (take n (drop 11 (field_at to (field_at to r k) (k + 2)))))
    ≡ record_in k to r
unfolding record_in two_in
record_long k to r n q =
    let r₂ : List ℕ = field_at to (field_at to r k) (k + 2) in
    let e : n ≡ length r₂ - 11 = omega (arith, two_length k to r) in
    let t : take n (drop 11 r₂) ≡ drop 11 r₂ = rw e (take_rest r₂ 11) in
    let d : drop n (drop 11 r₂) ≡ [] = drop_all n (drop 11 r₂) (omega (arith, length-drop 11 r₂)) in
    rw (d, t, append-nil) refl

pub ruleset record_ends = (field_length, record_short, record_long)

-- ---- records one after the other

-- those before a place are changed, and n lie at it
module _ (k : ℕ) (to b : List ℕ) (at n j : ℕ) (q : n ≡ suc j) (w : Lie (k + 4) (drop at b) n) where
  length_byte : get_or (drop at b) 0 0 ≡ get_or b at 0
  length_byte = let z : at + 0 ≡ at = omega arith in get_or-drop at b 0 0 ∙ ap (λ (i : ℕ). get_or b i 0) z

  here : (k + 4 ≤ get_or (drop at b) 0 0) × (get_or (drop at b) 0 0 ≤ length (drop at b))
  here = lie_here (k + 4) (drop at b) n j q w

  pub lies_here : k + 4 ≤ get_or b at 0
  lies_here = omega (arith, length_byte, here.0)

  pub lies_in : at + get_or b at 0 ≤ length b
  lies_in = omega (arith, length_byte, here.0, here.1, length-drop at b)

  next_in :
      records_in k to (drop at b) n
      ≡ record_in k to (take (get_or (drop at b) 0 0) (drop at b)) ++ records_in k to (drop (get_or (drop at b) 0 0) (drop at b)) j
  unfolding records_in
  next_in = rw q

  -- one turn: m is the record's length, and r the record after it
  module _ (m s : ℕ) (r : List ℕ) (e : m ≡ get_or b at 0) (es : s ≡ m) (er : r ≡ record_in k to (take s (drop at b))) where
    pub records_turn :
        Lie (k + 4) (drop (at + m) (put_mid at s b r)) j
        × (take at b ++ records_in k to (drop at b) n
        ≡ take (at + m) (put_mid at s b r) ++ records_in k to (drop (at + m) (put_mid at s b r)) j)
    records_turn =
        let h : s ≡ get_or (drop at b) 0 0 = es ∙ e ∙ sym length_byte in
        let p : List ℕ = take at b ++ r in
        let i : put_mid at s b r ≡ p ++ drop s (drop at b) = sym (append_assoc (take at b) r (drop s (drop at b))) in
        let z : length (take s (drop at b)) ≡ s = length-take-le s (drop at b) (omega (arith, here.1)) in
        let pl : length p ≡ at + m
        = length-append (take at b) r
        ∙ omega (
          arith,
          ap length er,
          record_length k to (take s (drop at b)),
          z,
          lies_in,
          length-take-le at b (omega (arith, lies_in)),
        ) in
        let t : take (at + m) (put_mid at s b r) ≡ p = ap (take (at + m)) i ∙ take_at p (drop s (drop at b)) (at + m) pl in
        let d : drop (at + m) (put_mid at s b r) ≡ drop s (drop at b)
        = ap (drop (at + m)) i ∙ drop_at p (drop s (drop at b)) (at + m) pl in (
          lie_next (k + 4) (drop at b) n j q w s _ h d,
          ap (λ (x : List ℕ). take at b ++ x) (next_in ∙ rw (sym h, sym er) refl)
              ∙ sym (append_assoc (take at b) r (records_in k to (drop s (drop at b)) j))
              ∙ sym (ap₂ (λ (u v : List ℕ). u ++ records_in k to v j) t d),
        )

pub record_first :
    (k : ℕ) (b : List ℕ) (at n : ℕ) → Lie (k + 4) (drop at b) n → 0 < n → (k + 4 ≤ get_or b at 0) × (at + get_or b at 0 ≤ length b)
record_first k b at n w h =
    (lies_here k [] b at n (n - 1) (omega arith) w, lies_in k [] b at n (n - 1) (omega arith) w)

pub records_end : (k : ℕ) (to b : List ℕ) (at n : ℕ) → n ≡ 0 → take at b ++ records_in k to (drop at b) n ≡ b
unfolding records_in
records_end k to b at n e = rw e (take-append-drop at b)

pub ruleset records = (record_first, records_end)
