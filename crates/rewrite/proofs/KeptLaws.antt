-- Laws of records one after the other. Assumes nothing.
--     lie_here, lie_first, lie_next   the first of the records at the front of some bytes, and the others
--     head_length, head_taken, head_dropped   a record with others behind it
--     lie_put                records written one after the other lie so
--     mark_stays, mark_goes, marks_end   what is kept from a mark on, by the mark, and behind the last
--     kept_put               what is kept of records written one after the other
--     marks                  what the check is handed at the functions of section.rt
use Prim.Native.Nat.{ℕ, suc, ◌+◌, ◌-◌, ◌≤◌, ◌<◌}
use mathlib.Core.Path.{◌≡◌, refl, sym, ap, ◌∙◌}
use mathlib.Core.Bool.{Bool, true, false, cond}
use mathlib.Core.List.{List, [], ◌∷◌, ◌++◌, append_assoc, flatten, Memᴰ}
use native.Mathlib.Omega.{arith}
use lib.ListN.{length, get_or, take, drop, length-append}
use lib.Seq.{take_at, drop_at, drop-cons}
use Rattle.std.proofs.lemmas.List.{drop_more, drop_all, get_or_append_left}
use Rattle.rewrite.specs.Inner.Kept.{Lie, kept_of, keep_if, pick}

module _ (k : ℕ) (b : List ℕ) (n j : ℕ) (q : n ≡ suc j) (w : Lie k b n) where
  parts : (k ≤ get_or b 0 0) × (get_or b 0 0 ≤ length b) × Lie k (drop (get_or b 0 0) b) j
  unfolding Lie
  parts = rw q at w

  pub lie_here : (k ≤ get_or b 0 0) × (get_or b 0 0 ≤ length b)
  lie_here = (parts.0, parts.1)

  pub lie_next : (m : ℕ) (others : List ℕ) → m ≡ get_or b 0 0 → others ≡ drop m b → Lie k others j
  lie_next m others e d = rw (d, e) parts.2

pub lie_first : (k : ℕ) (b : List ℕ) (n : ℕ) → Lie k b n → 0 < n → (k ≤ get_or b 0 0) × (get_or b 0 0 ≤ length b)
lie_first k b n w h = lie_here k b n (n - 1) (omega arith) w

-- ---- records that are written

module _ (r rest : List ℕ) (e : get_or r 0 0 ≡ length r) (h : 0 < length r) where
  pub head_length : get_or (r ++ rest) 0 0 ≡ length r
  head_length = get_or_append_left r rest 0 0 h ∙ e

  pub head_taken : take (get_or (r ++ rest) 0 0) (r ++ rest) ≡ r
  head_taken = rw head_length (take_at r rest (length r) refl)

  pub head_dropped : drop (get_or (r ++ rest) 0 0) (r ++ rest) ≡ rest
  head_dropped = rw head_length (drop_at r rest (length r) refl)

-- each has its length in its first byte, and is long enough
abbrev pub Long : ℕ → List (List ℕ) → Type 0
Long k rs = (r : List ℕ) → Memᴰ r rs → (get_or r 0 0 ≡ length r) × (k ≤ length r)

pub lie_put : (k : ℕ) (rs : List (List ℕ)) (post : List ℕ) → 0 < k → Long k rs → Lie k (flatten rs ++ post) (length rs)
unfolding Lie flatten
lie_put k [] post p f = tt
lie_put k (r ∷ rs) post p f =
    let rest : List ℕ = flatten rs ++ post in
    let a = f r (Memᴰ.head refl) in
    let e : (r ++ flatten rs) ++ post ≡ r ++ rest = append_assoc r (flatten rs) post in
    let m = head_length r rest a.0 (omega (arith, a.1)) in
    let d = head_dropped r rest a.0 (omega (arith, a.1)) in
    rw e (omega (arith, m, a.1), omega (arith, m, length-append r rest), rw d (lie_put k rs post p (λ x i. f x (Memᴰ.tail i))))

kept_bytes : (b : Bool) (r : List ℕ) (rs : List (List ℕ)) → flatten (keep_if b r rs) ≡ cond b r [] ++ flatten rs
unfolding keep_if flatten
kept_bytes true r rs = refl
kept_bytes false r rs = refl

pub kept_put :
    (ms : List Bool) (k : ℕ) (rs : List (List ℕ)) (post : List ℕ) → Long 1 rs → k + length rs ≤ length ms
    → kept_of (flatten rs ++ post) (take (length rs) (drop k ms)) ≡ flatten (pick ms k rs)
unfolding kept_of pick flatten
kept_put ms k [] post f h = refl
kept_put ms k (r ∷ rs) post f h =
    let rest : List ℕ = flatten rs ++ post in
    let a = f r (Memᴰ.head refl) in
    let e : (r ++ flatten rs) ++ post ≡ r ++ rest = append_assoc r (flatten rs) post in
    let s : drop k ms ≡ get_or ms k false ∷ drop (suc k) ms = drop-cons ms k false (omega arith) in
    let t : take (get_or (r ++ rest) 0 0) (r ++ rest) ≡ r = head_taken r rest a.0 (omega (arith, a.1)) in
    let d : drop (get_or (r ++ rest) 0 0) (r ++ rest) ≡ rest = head_dropped r rest a.0 (omega (arith, a.1)) in
    let w : kept_of rest (take (length rs) (drop (suc k) ms)) ≡ flatten (pick ms (suc k) rs) =
    kept_put ms (suc k) rs post (λ x i. f x (Memᴰ.tail i)) (omega arith) in
    rw (e, s, t, d, w) (sym (kept_bytes (get_or ms k false) r (pick ms (suc k) rs)))

-- ---- one mark on

module _ (b : List ℕ) (ms : List Bool) (i : ℕ) where
  -- m is the record's length
  module _ (h : i < length ms) (m : ℕ) (others : List ℕ) (e : m ≡ get_or b 0 0) (d : others ≡ drop m b) where
    step :
        kept_of b (drop i ms)
        ≡ cond (get_or ms i false) (take (get_or b 0 0) b) [] ++ kept_of (drop (get_or b 0 0) b) (drop (i + 1) ms)
    unfolding kept_of
    step = ap (kept_of b) (drop_more ms i false h)

    pub mark_stays :
        (r : List ℕ) → r ≡ take m b → get_or ms i false ≡ true → kept_of b (drop i ms) ≡ r ++ kept_of others (drop (i + 1) ms)
    mark_stays r t s = step ∙ rw (d, t, s, e) refl

    pub mark_goes : get_or ms i false ≡ false → kept_of b (drop i ms) ≡ kept_of others (drop (i + 1) ms)
    mark_goes s = step ∙ rw (d, s, e) refl

  pub marks_end : length ms ≤ i → kept_of b (drop i ms) ≡ []
  unfolding kept_of
  marks_end h = ap (kept_of b) (drop_all i ms h)

pub ruleset marks = (lie_first, marks_end)
