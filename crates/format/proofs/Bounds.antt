-- How large a refusal's number and place are, for the layers above, which never open the chain. Assumes nothing.
--     check_small          a refusal of the check: its number is at most 7, or 19, and its place at most 55,561
--     layout_small         a refusal from 1 to 7
--     front_small          the same of the image that a buffer starts with
--     front_number        20 is none of these
--     give_refused         a refusal of giving a record is one of these, or 14 with the place 0
use Prim.Native.Nat.{ℕ, ◌≤◌}
use mathlib.Core.Path.{◌≡◌, refl, sym, subst, ◌∙◌}
use mathlib.Core.Logic.{◌⊎◌, inl, inr, ⊎_elim}
use mathlib.Core.Bool.{Bool, ◌&&◌}
use Rattle.std.specs.Prelude.{Option, None, Some}
use mathlib.Core.List.{List, []}
use native.Mathlib.Omega.{arith}
use lib.ListN.{length, get_or}
use lib.Dec.{leb, ltb, eqb}
use Rattle.format.specs.declared.Section.{Section}
use Rattle.format.specs.declared.Section.TheVariants.{Groups, Rules, Constraints}
use Rattle.format.specs.declared.Refusal.{Refusal}
use Rattle.format.specs.Bytes.{word_at}
use Rattle.format.specs.Refusals.{refusal, need}
use Rattle.format.specs.Format.{known_version, limit_of, count_place, count_of}
use Rattle.format.specs.Policy.{policy_of, place_of}
use Rattle.format.specs.Twins.{first_twin, twin_at, twin_fault}
use Rattle.format.specs.Check.{count_fault, header_fault, body_fault, layout_fault, LaidOut, check, check_front, leading}
use Rattle.format.specs.Give.{give_fault}
use Rattle.format.specs.Longest.{longest_length}
use Rattle.format.specs.Reach.{StopsAt}
use Rattle.format.proofs.Chain.{some_not_none, or_else_refuses, need_refuses}
use Rattle.format.proofs.ByCase.{count_place_most}
use Rattle.format.proofs.Stops.{stops_reached}
use Rattle.format.proofs.Front.{leading_check}
use Rattle.format.proofs.Twins.{first_twin_lem}
use Rattle.format.proofs.Accepted.{check_split}
use Rattle.format.proofs.Reach.{laid_bounded}
use Rattle.format.proofs.Images.{group_count}

-- a refusal of the check, with its place no further than n
abbrev Near : ℕ → Refusal → Type 0
Near n f = (f.number ≤ 7) × (f.place ≤ n)

-- ---- the header: the place is 0, 3, 5 or 7

header_refused : (fits : ℕ → ℕ → Bool) (l : List ℕ) (f : Refusal) → header_fault fits l ≡ Some f → Near 7 f
unfolding header_fault count_fault
header_refused fits l =
    or_else_refuses (Near 7) (need (leb 9 (length l)) (refusal 1 0)) _ (need_refuses (Near 7) (leb 9 (length l)) (refusal 1 0) (omega arith, omega arith))
    (λ _. or_else_refuses (Near 7) (need (known_version (get_or l 0 0)) (refusal 2 0)) _
    (need_refuses (Near 7) (known_version (get_or l 0 0)) (refusal 2 0) (omega arith, omega arith))
    (λ _. or_else_refuses (Near 7) (need (leb 9 (word_at l 1) && fits (word_at l 1) (length l)) (refusal 3 0)) _
    (need_refuses (Near 7) (leb 9 (word_at l 1) && fits (word_at l 1) (length l)) (refusal 3 0) (omega arith, omega arith))
    (λ _. or_else_refuses (Near 7) (count_fault l Groups) _ (count_refused Groups)
    (λ _. or_else_refuses (Near 7) (count_fault l Rules) (count_fault l Constraints) (count_refused Rules) (λ _. count_refused Constraints)))))
  where
    count_refused : (s : Section) (f : Refusal) → count_fault l s ≡ Some f → Near 7 f
    count_refused s =
        need_refuses (Near 7) (leb (count_of l s) (limit_of s)) (refusal 4 (count_place s)) (omega arith, count_place_most s)

-- ---- the records

known_number : (n p : ℕ) (f : Refusal) → f ≡ refusal n p → n ≤ 7 → f.number ≤ 7
known_number n p f e h = subst (λ f. f.number ≤ 7) (sym e) h

stop_number : (l : List ℕ) (s : Section) (k : ℕ) (f : Refusal) → StopsAt l s k f → f.number ≤ 7
stop_number l s k f =
    ⊎_elim (λ e. known_number 5 _ f e.1 (omega arith))
    (⊎_elim (λ e. known_number 6 _ f e.1.2 (omega arith)) (λ e. known_number 7 _ f e.2 (omega arith)))

pub layout_small : (l : List ℕ) (f : Refusal) → layout_fault l ≡ Some f → (f.number ≤ 7) × (f.place ≤ longest_length)
unfolding layout_fault
layout_small l =
    or_else_refuses (Near longest_length) (header_fault eqb l) (body_fault l)
    (λ f e. let q = header_refused eqb l f e in (q.0, omega (arith, q.1)))
    (λ h f e. let q = stops_reached eqb l h f e in (stop_number l _ _ f q.place, q.whole))

-- ---- the twins

abbrev Refuses : Refusal → Type 0
Refuses f = (f.number ≤ 19) × (f.place ≤ longest_length)

-- the number of a twin is that of a group
twin_refused : (l : List ℕ) → LaidOut l → (f : Refusal) → twin_fault l ≡ Some f → Refuses f
unfolding twin_fault twin_at
twin_refused l e f = go (first_twin [] 0 (policy_of l).groups) refl
  where
    go : (o : Option ℕ) → first_twin [] 0 (policy_of l).groups ≡ o → twin_at l o ≡ Some f → Refuses f
    go None q t = some_not_none (sym t)
    go (Some n) q t =
        let i = (first_twin_lem (policy_of l).groups n q).inside in
        let b = (laid_bounded l e Groups n (omega (arith, group_count l))).whole in
        let z : refusal 19 (place_of l Groups n) ≡ f = cc in
        subst Refuses z (omega arith, b)

pub check_small : (l : List ℕ) (f : Refusal) → check l ≡ Some f → (f.number ≤ 19) × (f.place ≤ longest_length)
check_small l f e =
    or_else_refuses Refuses (layout_fault l) (twin_fault l)
    (λ x q. let k = layout_small l x q in (omega (arith, k.0), k.1)) (λ h x q. twin_refused l h x q)
    f (sym (check_split l) ∙ e)

pub front_small : (b : List ℕ) (f : Refusal) → check_front b ≡ Some f → (f.number ≤ 19) × (f.place ≤ longest_length)
front_small b f e = check_small (leading b) f (leading_check b ∙ e)

-- 20 is none of these
pub front_number : (b : List ℕ) (f : Refusal) → check_front b ≡ Some f → f.number ≡ 20 → ⊥
front_number b f e k = omega (arith, (front_small b f e).0)

pub give_refused : (l : List ℕ) (s : Section) (n : ℕ) (f : Refusal) → give_fault l s n ≡ Some f → (check l ≡ Some f) ⊎ (f ≡ refusal 14 0)
unfolding give_fault
give_refused l s n =
    or_else_refuses (λ f. (check l ≡ Some f) ⊎ (f ≡ refusal 14 0)) (check l) (need (ltb n (count_of l s)) (refusal 14 0)) (λ f e. inl e)
    (λ _. need_refuses (λ f. (check l ≡ Some f) ⊎ (f ≡ refusal 14 0)) (ltb n (count_of l s)) (refusal 14 0) (inr refl))
