-- The groups kept of the first k, and the new numbers, group by group, for the code that goes through them. Assumes nothing.
--     first_or_twin        group k is the first with its record, or has a lower one's
--     distinct_start       of no group none is kept
--     distinct_first, distinct_twin   group k is kept where it is the first with its record, and only there
--     distinct_whole       of all groups, what is kept of them
--     bytes_first, bytes_twin         the same for the bytes of the groups kept
--     distinct_front, distinct_few    what is kept of the first k stands at the front of what is kept, and is no more
--     number_first         a group that is kept gets the next number
--     number_twin          a twin gets the number of the first with its record
use Prim.Native.Nat.{ℕ, ◌+◌, ◌≤◌, ◌<◌}
use native.Mathlib.Omega.{arith}
use native.Mathlib.Numerals.{add-one}
use mathlib.Core.Path.{◌≡◌, refl, sym, subst, ap, ◌∙◌}
use mathlib.Core.Logic.{◌⊎◌, inl, inr}
use mathlib.Core.Bool.{Bool, true, false, cond}
use mathlib.Core.List.Memᴰ
use mathlib.Core.List.{List, [], ◌∷◌, ◌++◌, flatten, append_assoc, append-nil, Memᴰ}
use lib.ListN.{length, get_or, take, drop, length-append, take-append-drop}
use lib.Seq.{length-take-le, take-length, take-suc, take_at, get_or-take}
use lib.Dec.{ltb}
use borrow.Author.Tests.{ltb-true, ltb-false}
use Rattle.format.specs.Twins.{listed, number_of}
use Rattle.format.proofs.Twins.{get_or_mem, mem_listed, unlisted, number_self, number_least}
use Rattle.extension.proofs.Splices.{flatten_snoc}
use Rattle.decision.proofs.Search.{by_test}
use Rattle.conversion.specs.Groups.{with_groups, distinct}
use Rattle.conversion.proofs.Groups.{number_front, number_snoc, with_append, distinct_nil, distinct_snoc, distinct_listed}

-- the groups kept stay at the front as more come
with_front : (kept gs : List (List ℕ)) → (rest : List (List ℕ)) × (with_groups kept gs ≡ kept ++ rest)
unfolding with_groups
with_front kept [] = ([], sym (append-nil kept))
with_front kept (g ∷ gs) = go (listed g kept) (λ ks. with_front ks gs)
  where
    go : (b : Bool) → ((ks : List (List ℕ)) → (rest : List (List ℕ)) × (with_groups ks gs ≡ ks ++ rest))
        → (rest : List (List ℕ)) × (with_groups (cond b kept (kept ++ (g ∷ []))) gs ≡ kept ++ rest)
    go true rec = rec kept
    go false rec = let r = rec (kept ++ (g ∷ [])) in ((g ∷ []) ++ r.0, r.1 ∙ append_assoc kept (g ∷ []) r.0)

distinct_rest : (gs hs : List (List ℕ)) → (rest : List (List ℕ)) × (distinct (gs ++ hs) ≡ distinct gs ++ rest)
unfolding distinct
distinct_rest gs hs = let r = with_front (with_groups [] gs) hs in (r.0, with_append [] gs hs ∙ r.1)

module _ (gs : List (List ℕ)) where
  pub distinct_start : distinct (take 0 gs) ≡ []
  distinct_start = distinct_nil

  pub distinct_whole : distinct (take (length gs) gs) ≡ distinct gs
  distinct_whole = ap distinct (take-length gs)

  front_rest : (k : ℕ) → (rest : List (List ℕ)) × (distinct gs ≡ distinct (take k gs) ++ rest)
  front_rest k = let r = distinct_rest (take k gs) (drop k gs) in (r.0, ap distinct (sym (take-append-drop k gs)) ∙ r.1)

  pub distinct_front : (k : ℕ) → take (length (distinct (take k gs))) (distinct gs) ≡ distinct (take k gs)
  distinct_front k = let r = front_rest k in
      ap (take (length (distinct (take k gs)))) r.1 ∙ take_at (distinct (take k gs)) r.0 _ refl

  pub distinct_few : (k : ℕ) → length (distinct (take k gs)) ≤ length (distinct gs)
  distinct_few k = let r = front_rest k in omega (arith, ap length r.1, length-append (distinct (take k gs)) r.0)

  module _ (k : ℕ) (h : k < length gs) where
    pub first_or_twin : (number_of (get_or gs k []) gs ≡ k) ⊎ (number_of (get_or gs k []) gs < k)
    first_or_twin =
        let n : ℕ = number_of (get_or gs k []) gs in
        let m = (number_self gs k h).0 in
        by_test (ltb n k) (λ t. inr (ltb-true n k t)) (λ t. let l = ltb-false n k t in inl (omega arith))

    taken : take (k + 1) gs ≡ take k gs ++ (get_or gs k [] ∷ [])
    taken = rw add-one (take-suc gs k [] h)

    long : length (take k gs) ≡ k
    long = length-take-le k gs (omega arith)

    next : (b : Bool) → listed (get_or gs k []) (take k gs) ≡ b
        → distinct (take (k + 1) gs) ≡ cond b (distinct (take k gs)) (distinct (take k gs) ++ (get_or gs k [] ∷ []))
    next b e =
        ap distinct taken ∙ distinct_snoc (take k gs) (get_or gs k [])
        ∙ ap (λ (b : Bool). cond b (distinct (take k gs)) (distinct (take k gs) ++ (get_or gs k [] ∷ []))) e

    -- the groups before a first one do not have its record
    fresh : number_of (get_or gs k []) gs ≡ k → listed (get_or gs k []) (take k gs) ≡ false
    fresh e =
        unlisted (get_or gs k []) (take k gs)
        (λ i j q. let l : i < k = omega (arith, long) in
        let m = number_least gs (get_or gs k []) i (omega arith) (sym (get_or-take k gs i [] l) ∙ q) in
        omega arith)

    pub distinct_first : number_of (get_or gs k []) gs ≡ k → distinct (take (k + 1) gs) ≡ distinct (take k gs) ++ (get_or gs k [] ∷ [])
    distinct_first e = next false (fresh e)

    pub distinct_twin : number_of (get_or gs k []) gs < k → distinct (take (k + 1) gs) ≡ distinct (take k gs)
    distinct_twin l =
        let n : ℕ = number_of (get_or gs k []) gs in
        let at : get_or (take k gs) n [] ≡ get_or gs k [] = get_or-take k gs n [] l ∙ (number_self gs k h).1 in
        let m = get_or_mem (take k gs) n [] (omega (arith, long)) in
        next true (mem_listed (take k gs) (subst (λ (g : List ℕ). Memᴰ g (take k gs)) at m))

    pub bytes_first : number_of (get_or gs k []) gs ≡ k
        → length (flatten (distinct (take (k + 1) gs))) ≡ length (flatten (distinct (take k gs))) + length (get_or gs k [])
    bytes_first e =
        ap (λ (ks : List (List ℕ)). length (flatten ks)) (distinct_first e)
        ∙ ap length (flatten_snoc (distinct (take k gs)) (get_or gs k []))
        ∙ length-append (flatten (distinct (take k gs))) (get_or gs k [])

    pub bytes_twin :
        number_of (get_or gs k []) gs < k → length (flatten (distinct (take (k + 1) gs))) ≡ length (flatten (distinct (take k gs)))
    bytes_twin l = ap (λ (ks : List (List ℕ)). length (flatten ks)) (distinct_twin l)

    pub number_first : number_of (get_or gs k []) gs ≡ k → number_of (get_or gs k []) (distinct gs) ≡ length (distinct (take k gs))
    number_first e =
        let g : List ℕ = get_or gs k [] in
        let ks : List (List ℕ) = distinct (take k gs) in
        let r = front_rest (k + 1) in
        ap (number_of g) (r.1 ∙ ap (λ (xs : List (List ℕ)). xs ++ r.0) (distinct_first e))
        ∙ number_front (ks ++ (g ∷ [])) r.0 (Memᴰ.append_right ks (Memᴰ.head refl))
        ∙ number_snoc g ks (distinct_listed g (take k gs) ∙ fresh e)

    pub number_twin :
        number_of (get_or gs k []) (distinct gs) ≡ number_of (get_or gs (number_of (get_or gs k []) gs) []) (distinct gs)
    number_twin = ap (λ (g : List ℕ). number_of g (distinct gs)) (sym (number_self gs k h).1)
