-- Laws of groups without twins, and of where a type field goes. Claim GroupsStay. Assumes nothing.
--     by_last                        by the last group
--     number_front, number_snoc      a group's number stays as more groups come, and a new one gets the next
--     with_append                    groups one list after the other
--     distinct_nil, distinct_snoc    no groups, and one group more: it is kept unless it is listed
--     distinct_held, distinct_from   each group is kept, and each one kept is one of the groups
--     distinct_listed                so a group is listed among the ones kept as it was
--     distinct_count, distinct_bytes no more groups, and no more bytes
--     distinct_apart                 there are no twins
--     distinct_same                  groups without twins stay as they are
--     moved_basic, moved_group       where a basic type goes, and a group's number
--     moved_set, moved_type          where each old group is a new one, a valid type stands for its set and is valid
--     moved_same                     where there are no twins, nothing moves
use Prim.Native.Nat.{ℕ, suc, ◌+◌, ◌-◌, ◌≤◌, ◌<◌}
use native.Mathlib.Omega.{arith}
use mathlib.Core.Path.{◌≡◌, refl, sym, subst, ap, ◌∙◌}
use mathlib.Core.Logic.{inl, inr, ⊎_elim}
use mathlib.Core.Bool.{Bool, true, false, cond}
use Rattle.std.specs.Prelude.{None}
use mathlib.Core.List.Memᴰ
use mathlib.Core.List.{List, [], ◌∷◌, ◌++◌, flatten, append_assoc, append-nil, Memᴰ}
use lib.ListN.{length, get_or, drop, length-append, get_or-append}
use lib.Seq.{get_or-append_seam}
use lib.Dec.{ltb}
use borrow.Author.Tests.{ltb-true, ltb-false, lt-ltb, le-ltb}
use Rattle.format.specs.Bytes.{words}
use Rattle.format.specs.Twins.{listed, first_twin, NoTwins, number_of}
use Rattle.format.specs.Claims.{IsType}
use Rattle.format.proofs.Tests.{false_not_true}
use Rattle.format.proofs.Twins.{get_or_mem, listed_mem, mem_listed, twin_fresh, twin_rest, no_twins_nil, no_twins_snoc, number_get}
use Rattle.format.proofs.Twins.{number_least, number_own}
use Rattle.extension.proofs.Splices.{flatten_snoc}
use Rattle.decision.specs.Sets.{set_of}
use Rattle.decision.proofs.Search.{by_test}
use Rattle.decision.proofs.Kept.{set_basic, set_group}
use Rattle.conversion.specs.Groups.{with_groups, distinct, moved}
use Rattle.conversion.specs.Claims.{GroupsStay}

-- what holds of no groups, and of one group more where it holds of the groups before
pub by_last :
    (P : List (List ℕ) → Type 0) → P [] → ((gs : List (List ℕ)) (g : List ℕ) → P gs → P (gs ++ (g ∷ [])))
    → (gs : List (List ℕ)) → P gs
by_last P start more gs = go [] gs start
  where
    go : (fs bs : List (List ℕ)) → P fs → P (fs ++ bs)
    go fs [] h = subst P (sym (append-nil fs)) h
    go fs (b ∷ bs) h = subst P (append_assoc fs (b ∷ []) bs) (go (fs ++ (b ∷ [])) bs (more fs b h))

-- ---- numbers

pub number_front :
    {g : List ℕ} (gs hs : List (List ℕ)) → Memᴰ g gs → number_of g (gs ++ hs) ≡ number_of g gs
number_front {g} gs hs m =
    let n : ℕ = number_of g gs in
    let k : ℕ = number_of g (gs ++ hs) in
    let a = number_get gs m in
    let b = number_get (gs ++ hs) (Memᴰ.append_left hs m) in
    let len = length-append gs hs in
    let up : k ≤ n = number_least (gs ++ hs) g n (omega (arith, a.0)) (get_or-append gs hs [] n a.0 ∙ a.1) in
    let in-front : k < length gs = omega (arith, a.0) in
    let down : n ≤ k = number_least gs g k in-front (sym (get_or-append gs hs [] k in-front) ∙ b.1) in
    omega arith

pub number_snoc : (g : List ℕ) (gs : List (List ℕ)) → listed g gs ≡ false → number_of g (gs ++ (g ∷ [])) ≡ length gs
number_snoc g gs e =
    let k : ℕ = number_of g (gs ++ (g ∷ [])) in
    let len = length-append gs (g ∷ []) in
    let b = number_get (gs ++ (g ∷ [])) (Memᴰ.append_right gs (Memᴰ.head refl)) in
    let up : k ≤ length gs = number_least (gs ++ (g ∷ [])) g (length gs) (omega arith) (get_or-append_seam gs g [] []) in
    by_test (ltb k (length gs))
    (λ t. let h = ltb-true k (length gs) t in
    let at : get_or gs k [] ≡ g = sym (get_or-append gs (g ∷ []) [] k h) ∙ b.1 in
    false_not_true (sym e ∙ mem_listed gs (subst (λ (x : List ℕ). Memᴰ x gs) at (get_or_mem gs k [] h))))
    (λ t. let h = ltb-false k (length gs) t in omega arith)

-- ---- the groups kept, and more

pub with_append : (kept gs hs : List (List ℕ)) → with_groups kept (gs ++ hs) ≡ with_groups (with_groups kept gs) hs
unfolding with_groups
with_append kept [] hs = refl
with_append kept (g ∷ gs) hs = with_append (cond (listed g kept) kept (kept ++ (g ∷ []))) gs hs

pub distinct_nil : distinct [] ≡ []
unfolding distinct with_groups
distinct_nil = refl

-- by what is kept so far
distinct_last :
    (gs : List (List ℕ)) (g : List ℕ)
    → distinct (gs ++ (g ∷ [])) ≡ cond (listed g (distinct gs)) (distinct gs) (distinct gs ++ (g ∷ []))
unfolding distinct with_groups
distinct_last gs g = with_append [] gs (g ∷ [])

listed_as : (g : List ℕ) (gs hs : List (List ℕ)) → (Memᴰ g gs → Memᴰ g hs) → (Memᴰ g hs → Memᴰ g gs)
    → listed g hs ≡ listed g gs
listed_as g gs hs to back = go (listed g gs) (listed g hs) refl refl
  where
    go : (a b : Bool) → listed g gs ≡ a → listed g hs ≡ b → listed g hs ≡ listed g gs
    go true b e k = mem_listed hs (to (listed_mem g gs e)) ∙ sym e
    go false true e k = false_not_true (sym e ∙ mem_listed gs (back (listed_mem g hs k)))
    go false false e k = k ∙ sym e

-- what is kept of gs: the same groups, each once, in the order in which they first stand
record Kept (gs kept : List (List ℕ)) : Type 0 where
  held : (g : List ℕ) → Memᴰ g gs → Memᴰ g kept
  from : (g : List ℕ) → Memᴰ g kept → Memᴰ g gs
  apart : NoTwins kept
  rising : (j k : ℕ) → j < k → k < length kept → number_of (get_or kept j []) gs < number_of (get_or kept k []) gs
  few : length kept ≤ length gs
  short : length (flatten kept) ≤ length (flatten gs)

module _ (gs kept : List (List ℕ)) (h : List ℕ) (s : Kept gs kept) where
  one : (g : List ℕ) → Memᴰ g (h ∷ []) → g ≡ h
  one g m = Memᴰ.eq_of_singleton m

  -- the new one is not kept where it is listed
  kept_listed : listed h kept ≡ true → Kept (gs ++ (h ∷ [])) kept
  kept_listed e =
      record {
        held = λ g m. ⊎_elim (s.held g) (λ k. Memᴰ.cast (one g k) (listed_mem h kept e)) (Memᴰ.append_cases gs m);
        from = λ g m. Memᴰ.append_left (h ∷ []) (s.from g m);
        apart = s.apart;
        rising = λ j k l n.
            let i : j < length kept = omega arith in
            let a = number_front gs (h ∷ []) (s.from _ (get_or_mem kept j [] i)) in
            let b = number_front gs (h ∷ []) (s.from _ (get_or_mem kept k [] n)) in
            omega (arith, s.rising j k l n);
        few = omega (arith, s.few, length-append gs (h ∷ []));
        short = omega (arith, s.short, ap length (flatten_snoc gs h), length-append (flatten gs) h);
      }

  kept_fresh : listed h kept ≡ false → Kept (gs ++ (h ∷ [])) (kept ++ (h ∷ []))
  kept_fresh e =
      record {
        held = λ g m.
            ⊎_elim (λ k. Memᴰ.append_left (h ∷ []) (s.held g k)) (λ k. Memᴰ.append_right kept k) (Memᴰ.append_cases gs m);
        from = λ g m.
            ⊎_elim (λ k. Memᴰ.append_left (h ∷ []) (s.from g k)) (λ k. Memᴰ.append_right gs k) (Memᴰ.append_cases kept m);
        apart = no_twins_snoc kept h s.apart e;
        rising = rising;
        few = omega (arith, s.few, length-append gs (h ∷ []), length-append kept (h ∷ []));
        short =
            omega (
              arith,
              s.short,
              ap length (flatten_snoc gs h),
              length-append (flatten gs) h,
              ap length (flatten_snoc kept h),
              length-append (flatten kept) h,
            );
      }
    where
      old : (j : ℕ) → j < length kept
          → (number_of (get_or (kept ++ (h ∷ [])) j []) (gs ++ (h ∷ [])) ≡ number_of (get_or kept j []) gs)
          × (number_of (get_or kept j []) gs < length gs)
      old j n =
          let m = s.from _ (get_or_mem kept j [] n) in
          (rw (get_or-append kept (h ∷ []) [] j n) (number_front gs (h ∷ []) m), (number_get gs m).0)

      fresh : listed h gs ≡ false
      fresh = sym (listed_as h gs kept (s.held h) (s.from h)) ∙ e

      last : number_of (get_or (kept ++ (h ∷ [])) (length kept) []) (gs ++ (h ∷ [])) ≡ length gs
      last = rw (get_or-append_seam kept h [] []) (number_snoc h gs fresh)

      rising : (j k : ℕ) → j < k → k < length (kept ++ (h ∷ []))
          → number_of (get_or (kept ++ (h ∷ [])) j []) (gs ++ (h ∷ [])) < number_of (get_or (kept ++ (h ∷ [])) k []) (gs ++ (h ∷ []))
      rising j k l n =
          let len = length-append kept (h ∷ []) in
          by_test (ltb k (length kept))
          (λ t. let i = ltb-true k (length kept) t in
          let a = old j (omega arith) in
          let b = old k i in
          omega (arith, a.0, b.0, s.rising j k l i))
          (λ t. let i = ltb-false k (length kept) t in
          let z : k ≡ length kept = omega arith in
          let a = old j (omega arith) in
          let b : number_of (get_or (kept ++ (h ∷ [])) k []) (gs ++ (h ∷ [])) ≡ length gs
          = ap (λ (i : ℕ). number_of (get_or (kept ++ (h ∷ [])) i []) (gs ++ (h ∷ []))) z ∙ last in
          omega (arith, a.0, a.1))

  kept_last : Kept (gs ++ (h ∷ [])) (cond (listed h kept) kept (kept ++ (h ∷ [])))
  kept_last = go (listed h kept) refl
    where
      go : (b : Bool) → listed h kept ≡ b → Kept (gs ++ (h ∷ [])) (cond b kept (kept ++ (h ∷ [])))
      go true e = kept_listed e
      go false e = kept_fresh e

kept_none : Kept [] []
kept_none =
    record {
      held = λ g m. m;
      from = λ g m. m;
      apart = no_twins_nil;
      rising = λ j k l n. absurd (omega arith);
      few = omega arith;
      short = omega arith;
    }

kept : (gs : List (List ℕ)) → Kept gs (distinct gs)
kept =
    by_last (λ gs. Kept gs (distinct gs)) (rw distinct_nil kept_none)
    (λ gs g s. subst (Kept (gs ++ (g ∷ []))) (sym (distinct_last gs g)) (kept_last gs (distinct gs) g s))

pub distinct_held : (gs : List (List ℕ)) (g : List ℕ) → Memᴰ g gs → Memᴰ g (distinct gs)
distinct_held gs = (kept gs).held

pub distinct_from : (gs : List (List ℕ)) (g : List ℕ) → Memᴰ g (distinct gs) → Memᴰ g gs
distinct_from gs = (kept gs).from

pub distinct_apart : (gs : List (List ℕ)) → NoTwins (distinct gs)
distinct_apart gs = (kept gs).apart

pub distinct_count : (gs : List (List ℕ)) → length (distinct gs) ≤ length gs
distinct_count gs = (kept gs).few

pub distinct_bytes : (gs : List (List ℕ)) → length (flatten (distinct gs)) ≤ length (flatten gs)
distinct_bytes gs = (kept gs).short

pub distinct_listed : (g : List ℕ) (gs : List (List ℕ)) → listed g (distinct gs) ≡ listed g gs
distinct_listed g gs = listed_as g gs (distinct gs) (distinct_held gs g) (distinct_from gs g)

pub distinct_snoc :
    (gs : List (List ℕ)) (g : List ℕ) → distinct (gs ++ (g ∷ [])) ≡ cond (listed g gs) (distinct gs) (distinct gs ++ (g ∷ []))
distinct_snoc gs g = distinct_last gs g ∙ ap (λ (b : Bool). cond b (distinct gs) (distinct gs ++ (g ∷ []))) (distinct_listed g gs)

-- the number that a kept group had
abbrev before : List (List ℕ) → ℕ → ℕ
before gs k = number_of (get_or (distinct gs) k []) gs

pub groups_stay : GroupsStay
groups_stay gs = (
  record {
    from = before gs;
    inside = λ k n. (was k n).0;
    same = λ k n. sym (was k n).1;
    lowest = λ k n i l e.
        let w = was k n in
        let m = number_least gs (get_or (distinct gs) k []) i (omega (arith, w.0)) (e ∙ w.1) in
        omega arith;
    in_order = (kept gs).rising;
    all = distinct_held gs;
  },
  distinct_apart gs,
)
  where
    was : (k : ℕ) → k < length (distinct gs) → (before gs k < length gs) × (get_or gs (before gs k) [] ≡ get_or (distinct gs) k [])
    was k n = number_get gs (distinct_from gs _ (get_or_mem (distinct gs) k [] n))

same_from : (kept : List (List ℕ)) (n : ℕ) (gs : List (List ℕ)) → first_twin kept n gs ≡ None → with_groups kept gs ≡ kept ++ gs
unfolding with_groups
same_from kept n [] e = sym (append-nil kept)
same_from kept n (g ∷ gs) e =
    ap (λ (b : Bool). with_groups (cond b kept (kept ++ (g ∷ []))) gs) (twin_fresh kept n g gs e)
    ∙ same_from (kept ++ (g ∷ [])) (suc n) gs (twin_rest kept n g gs e)
    ∙ append_assoc kept (g ∷ []) gs

pub distinct_same : (gs : List (List ℕ)) → NoTwins gs → distinct gs ≡ gs
unfolding distinct
distinct_same gs e = same_from [] 0 gs e

-- ---- where a type field goes

module _ (old new : List (List ℕ)) where
  pub moved_basic : (t : ℕ) → t < 32768 → moved old new t ≡ t
  unfolding moved
  moved_basic t h = rw (lt-ltb t 32768 h)

  pub moved_group : (k : ℕ) → moved old new (32768 + k) ≡ 32768 + number_of (get_or old k []) new
  unfolding moved
  moved_group k =
      let z : 32768 + k - 32768 ≡ k = omega arith in
      rw (le-ltb (32768 + k) 32768 (omega arith), z)

  module _ (held : (g : List ℕ) → Memᴰ g old → Memᴰ g new) where
    found : (k : ℕ) → k < length old
        → (number_of (get_or old k []) new < length new) × (get_or new (number_of (get_or old k []) new) [] ≡ get_or old k [])
    found k h = number_get new (held _ (get_or_mem old k [] h))

    pub moved_set : (t : ℕ) → IsType (length old) t → set_of new (moved old new t) ≡ set_of old t
    moved_set t (inl h) = rw (moved_basic t (omega arith), set_basic new t (omega arith), set_basic old t (omega arith))
    moved_set t (inr q) =
        subst (λ (u : ℕ). set_of new (moved old new u) ≡ set_of old u) (sym q.2)
        (ap (set_of new) (moved_group q.0) ∙ set_group new _
        ∙ ap (λ (r : List ℕ). words (drop 2 r)) (found q.0 q.1).1 ∙ sym (set_group old q.0))

    pub moved_type : (t : ℕ) → IsType (length old) t → IsType (length new) (moved old new t)
    moved_type t (inl h) = inl (rw (moved_basic t (omega arith)) h)
    moved_type t (inr q) =
        inr (number_of (get_or old q.0 []) new, (found q.0 q.1).0, ap (moved old new) q.2 ∙ moved_group q.0)

pub moved_same : (gs : List (List ℕ)) → NoTwins gs → (t : ℕ) → IsType (length gs) t → moved gs gs t ≡ t
moved_same gs e t (inl h) = moved_basic gs gs t (omega arith)
moved_same gs e t (inr q) =
    ap (moved gs gs) q.2 ∙ moved_group gs gs q.0 ∙ ap (λ (n : ℕ). 32768 + n) (number_own gs e q.0 q.1) ∙ sym q.2
