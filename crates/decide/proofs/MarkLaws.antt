-- Laws of walks over the members of a part of the image, one for each way that a turn goes. Assumes nothing.
--     pairs_are, pairs_many, pairs_end   the members of a part as pairs of bytes: all, how many, and that there are no more
--     pair_in, pair_is, pair_basic   one of them
use Prim.Native.Nat.{ℕ, suc, ◌+◌, ◌*◌, ◌≤◌, ◌<◌}
use native.Mathlib.Numerals.{add-one}
use mathlib.Core.Path.{◌≡◌, refl, sym, ap, ◌∙◌}
use mathlib.Core.Bool.{Bool, beq, true, false, or-true, or-false, ◌||◌}
use mathlib.Core.List.{List, [], ◌∷◌, map}
use native.Mathlib.Omega.{arith}
use lib.ListN.{length, get_or, set, take, drop, length-map, get_or-map, drop_of_length-le}
use lib.Seq.{drop-cons, ext_get_or}
use Rattle.std.specs.Simd.{first_chunks}
use Rattle.std.specs.Int.{w16, from_be_bytes}
use Rattle.std.proofs.lemmas.List.{get_or-take, get_or-drop}
use Rattle.format.proofs.Bytes.{word_at_lem}
use Rattle.format.specs.Bytes.{word_at}
use Rattle.format.specs.Inner.Places.{words_at, Rising}
use Rattle.format.proofs.Fields.{rising_nil, rising_cons, rising_parts, rising_basic}
use Rattle.format.proofs.Places.{words_at_none, words_at_next, words_at_length, words_at_nth}
use Rattle.decision.specs.Sets.{any_of}
use Rattle.decide.specs.Inner.Marks.{mark_all, any_is, any_marked, tallied}
use Rattle.decide.proofs.ArrayLaws.{chunk_nth, chunks_many}

-- a rising list is rising from a lower bound too
pub rising_lower : (low k : ℕ) (ms : List ℕ) → k ≤ low → Rising low ms → Rising k ms
rising_lower low k [] h r = rising_nil k
rising_lower low k (m ∷ ms) h r = let q = rising_parts low m ms r in rising_cons k m ms (omega (arith, q.0)) q.1 q.2

module _ (l : List ℕ) (at n k : ℕ) (next : n ≡ suc k) (r : Rising 0 (words_at l n at)) where
  walk_parts : (0 ≤ word_at l at) × (word_at l at < 1024) × Rising (suc (word_at l at)) (words_at l k (at + 2))
  walk_parts = rising_parts 0 (word_at l at) (words_at l k (at + 2)) (rw (words_at_next l n at k next) at r)

  pub walk_small : word_at l at < 1024
  walk_small = walk_parts.1

  pub walk_rest : Rising 0 (words_at l k (at + 2))
  walk_rest = rising_lower (suc (word_at l at)) 0 (words_at l k (at + 2)) (omega arith) walk_parts.2

module _ (ms : List Bool) (l : List ℕ) (at n : ℕ) where
  pub mark_end : n ≡ 0 → mark_all ms (words_at l n at) ≡ ms
  unfolding mark_all
  mark_end e = rw (words_at_none l n at e)

  pub is_end : (v : Bool) → n ≡ 0 → any_is ms v (words_at l n at) ≡ false
  unfolding any_is any_of
  is_end v e = rw (words_at_none l n at e)

  pub tally_end : n ≡ 0 → tallied ms (words_at l n at) ≡ 0
  unfolding tallied
  tally_end e = rw (words_at_none l n at e)

  module _ (k : ℕ) (more : n ≡ suc k) (t : ℕ) (is : t ≡ word_at l at) where
    pub mark_next : mark_all ms (words_at l n at) ≡ mark_all (set ms t true) (words_at l k (at + 2))
    unfolding mark_all
    mark_next = rw (words_at_next l n at k more, is)

    pub is_yes : (v : Bool) → beq (get_or ms t false) v ≡ true → any_is ms v (words_at l n at) ≡ true
    unfolding any_is any_of
    is_yes v y = rw (words_at_next l n at k more) (simp (rw is at y))

    pub is_no : (v : Bool) → beq (get_or ms t false) v ≡ false
        → any_is ms v (words_at l n at) ≡ any_is ms v (words_at l k (at + 2))
    unfolding any_is any_of
    is_no v y = rw (words_at_next l n at k more) (simp (rw is at y))

    pub tally_yes : get_or ms t false ≡ true → tallied ms (words_at l n at) ≡ 1 + tallied ms (words_at l k (at + 2))
    unfolding tallied
    tally_yes y = rw (words_at_next l n at k more) (simp (rw is at y))

    pub tally_no : get_or ms t false ≡ false → tallied ms (words_at l n at) ≡ tallied ms (words_at l k (at + 2))
    unfolding tallied
    tally_no y = rw (words_at_next l n at k more) (simp (rw is at y) (omega arith))

pub hits_on : {total : ℕ} (hits : ℕ) {more : ℕ} (a b : ℕ) → total ≡ hits + a → a ≡ 1 + b → more ≡ hits + 1 → total ≡ more + b
hits_on hits a b e f g = omega arith

pub hits_off : {total : ℕ} (hits : ℕ) {more : ℕ} (a b : ℕ) → total ≡ hits + a → a ≡ b → more ≡ hits → total ≡ more + b
hits_off hits a b e f g = omega arith

-- whether there are any: what was found before, or is found in what is left
module _ {total : Bool} (ms : List Bool) (l : List ℕ) (at n : ℕ) (a : Bool)
    (sum : total ≡ a || any_marked ms (words_at l n at)) where
  pub found_end : n ≡ 0 → total ≡ a
  found_end e = sum ∙ ap (λ b. a || b) (is_end ms l at n true e) ∙ or-false a

  module _ (k : ℕ) (more : n ≡ suc k) (t : ℕ) (is : t ≡ word_at l at) {b : Bool} where
    pub found_yes : get_or ms t false ≡ true → b ≡ true → total ≡ b || any_marked ms (words_at l k (at + 2))
    found_yes y e = sum ∙ ap (λ x. a || x) (is_yes ms l at n k more t is true (ap (λ x. beq x true) y)) ∙ or-true a
        ∙ ap (λ x. x || any_marked ms (words_at l k (at + 2))) (sym e)

    pub found_no : get_or ms t false ≡ false → b ≡ a → total ≡ b || any_marked ms (words_at l k (at + 2))
    found_no y e = sum ∙ ap (λ x. a || x) (is_no ms l at n k more t is true (ap (λ x. beq x true) y))
        ∙ ap (λ x. x || any_marked ms (words_at l k (at + 2))) (sym e)

-- ---- the members of a part as pairs of bytes

module _ (l : List ℕ) (from count : ℕ) where
  pub pairs_are : (n : ℕ) (part : List ℕ) (ps : List (List ℕ)) → n ≡ count → part ≡ take (2 * count) (drop from l)
      → ps ≡ first_chunks 2 n part → map (from_be_bytes w16) ps ≡ words_at l count from
  pairs_are n' part ps q p e' =
      let e : ps ≡ first_chunks 2 count part = e' ∙ ap (λ k. first_chunks 2 k part) q in
      let n : length ps ≡ count = ap length e ∙ chunks_many 2 count part in
      let m : length (map (from_be_bytes w16) ps) ≡ count = length-map ps (from_be_bytes w16) ∙ n in
      ext_get_or 0 (map (from_be_bytes w16) ps) (words_at l count from) (m ∙ sym (words_at_length l count from)) (λ i h.
      let j : i < count = omega arith in
      get_or-map (from_be_bytes w16) ps i []
      ∙ ap (λ (xs : List (List ℕ)). from_be_bytes w16 (get_or xs i [])) e
      ∙ ap (from_be_bytes w16) (chunk_nth 2 count i part j)
      ∙ two (2 * i) (omega arith)
      ∙ sym (words_at_nth l count from i j))
    where
      one : (i : ℕ) → i < 2 * count → get_or part i 0 ≡ get_or l (from + i) 0
      one i h = ap (λ (xs : List ℕ). get_or xs i 0) p ∙ get_or-take (2 * count) (drop from l) i 0 h ∙ get_or-drop from l i 0

      two : (i : ℕ) → i + 1 < 2 * count → from_be_bytes w16 (take 2 (drop i part)) ≡ word_at l (from + i)
      two i h =
          let a : get_or (take 2 (drop i part)) 0 0 ≡ get_or l (from + i) 0 =
          get_or-take 2 (drop i part) 0 0 (omega arith) ∙ get_or-drop i part 0 0 ∙ ap (λ k. get_or part k 0) (omega arith)
          ∙ one i (omega arith) in
          let b : get_or (take 2 (drop i part)) 1 0 ≡ get_or l (from + i + 1) 0 =
          get_or-take 2 (drop i part) 1 0 (omega arith) ∙ get_or-drop i part 1 0 ∙ one (i + 1) h
          ∙ ap (λ k. get_or l k 0) (omega arith) in
          omega (arith, a, b, word_at_lem l (from + i))

  module _ (ps : List (List ℕ)) (are : map (from_be_bytes w16) ps ≡ words_at l count from) where
    pub pairs_many : length ps ≡ count
    pairs_many = sym (length-map ps (from_be_bytes w16)) ∙ ap length are ∙ words_at_length l count from

    module _ (i : ℕ) (h : i < length ps) (t : ℕ) (e : t ≡ from_be_bytes w16 (get_or ps i [])) where
      pub pair_in : i < length (words_at l count from)
      pair_in = omega (arith, h, pairs_many, words_at_length l count from)

      pub pair_is : t ≡ get_or (words_at l count from) i 0
      pair_is = e ∙ sym (get_or-map (from_be_bytes w16) ps i []) ∙ ap (λ ws. get_or ws i 0) are

      pub pair_basic : Rising 0 (words_at l count from) → t < 1024
      pair_basic r = omega (arith, pair_is, rising_basic 0 (words_at l count from) r i pair_in)

    pub pairs_end : (i : ℕ) → length ps ≤ i → length (words_at l count from) ≤ i
    pairs_end i h = omega (arith, h, pairs_many, words_at_length l count from)

-- ---- a walk over a list by index, one for each way that a turn goes

module _ (ws : List ℕ) (i : ℕ) (ms : List Bool) where
  module _ (end : length ws ≤ i) where
    pub mark_done : mark_all ms (drop i ws) ≡ ms
    unfolding mark_all
    mark_done = rw (drop_of_length-le ws end) refl

    pub is_done : (v : Bool) → any_is ms v (drop i ws) ≡ false
    unfolding any_is any_of
    is_done v = rw (drop_of_length-le ws end) refl

    pub tally_done : tallied ms (drop i ws) ≡ 0
    unfolding tallied
    tally_done = rw (drop_of_length-le ws end) refl

  module _ (more : i < length ws) (t : ℕ) (is : t ≡ get_or ws i 0) where
    here : drop i ws ≡ t ∷ drop (i + 1) ws
    here = drop-cons ws i 0 more ∙ ap (λ x. x ∷ drop (suc i) ws) (sym is) ∙ ap (λ k. t ∷ drop k ws) (sym (add-one i))

    pub mark_more : mark_all ms (drop i ws) ≡ mark_all (set ms t true) (drop (i + 1) ws)
    unfolding mark_all
    mark_more = ap (mark_all ms) here

    pub is_hit : (v : Bool) → beq (get_or ms t false) v ≡ true → any_is ms v (drop i ws) ≡ true
    unfolding any_is any_of
    is_hit v y = rw here (simp y)

    pub is_miss : (v : Bool) → beq (get_or ms t false) v ≡ false → any_is ms v (drop i ws) ≡ any_is ms v (drop (i + 1) ws)
    unfolding any_is any_of
    is_miss v y = rw here (simp y)

    pub tally_hit : get_or ms t false ≡ true → tallied ms (drop i ws) ≡ 1 + tallied ms (drop (i + 1) ws)
    unfolding tallied
    tally_hit y = rw here (simp y)

    pub tally_miss : get_or ms t false ≡ false → tallied ms (drop i ws) ≡ tallied ms (drop (i + 1) ws)
    unfolding tallied
    tally_miss y = rw here (simp y (omega arith))
