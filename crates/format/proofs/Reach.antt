-- How far a walk over the records reaches: claims PlacesBounded and LongestImage. Assumes nothing.
--     longest_of s        the greatest length of a record of a section (record_most)
--     before_groups, before_rules, before_constraints   what stands before a section passes
--     reached_most       a place that a walk reaches, by section; most_further, most_whole: as many lengths further, and in all
--     laid_reaches, laid_bounded, laid_longest   a walk over an image that passes 1 to 7 reaches every record, and the place
--                        past the last; accepted_reaches, accepted_bounded of an accepted one
--     most_groups, most_rules, most_constraints   the bound of each section, written out
use Prim.Native.Nat.{ℕ, zero, suc, ◌+◌, ◌*◌, ◌≤◌, ◌<◌}
use mathlib.Core.Path.{◌≡◌, refl}
use mathlib.Core.Bool.{true}
use Rattle.std.specs.Prelude.{None}
use mathlib.Core.List.{List}
use native.Mathlib.Omega.{arith}
use lib.ListN.{length, get_or}
use lib.Dec.{eqb}
use Rattle.format.specs.declared.Section.{Section}
use Rattle.format.specs.declared.Section.TheVariants.{Groups, Rules, Constraints}
use Rattle.format.specs.Format.{limit_of, count_of, kind_in, shape_ok}
use Rattle.format.specs.Policy.{record_at, place_after, start_of, place_of, end_of}
use Rattle.format.specs.Check.{section_fault, LaidOut, Accepted}
use Rattle.format.specs.Longest.{longest_length, LongestImage}
use Rattle.format.specs.Reach.{fault_before, Reaches, most_place, Bounded, PlacesBounded}
use Rattle.format.proofs.Chain.{or_else_split, or_else_none}
use Rattle.format.proofs.ByCase.{groups_kind, rules_kind, constraints_kind}
use Rattle.format.proofs.Shapes.{Formed, length_cases, shape_kind, stands}
use Rattle.format.proofs.Records.{place_snoc, section_prefix, section_formed}
use Rattle.format.proofs.Accepted.{header_holds, laid_header, holds_header, laid_body, body_sections, laid_end, accepted_laid}

unfoldable pub longest_of : Section → ℕ
longest_of Groups = 130
longest_of Rules = 11
longest_of Constraints = 43

pub record_most : (s : Section) (r : List ℕ) → shape_ok r ≡ true → kind_in s (get_or r 1 0) ≡ true → length r ≤ longest_of s
unfolding longest_of
record_most Groups r h k =
    let e = groups_kind (get_or r 1 0) k in
    length_cases (get_or r 1 0) (length r) (shape_kind r h)
    (λ _ _ h _. h) (λ j _. absurd (omega arith)) (λ j _. absurd (omega arith)) (λ j _ _ _. absurd (omega arith))
record_most Rules r h k =
    let e = rules_kind (get_or r 1 0) k in
    length_cases (get_or r 1 0) (length r) (shape_kind r h)
    (λ j _ _ _. absurd (omega (arith, e.0))) (λ _ h. omega arith) (λ _ h. omega arith) (λ j _ _ _. absurd (omega (arith, e.1)))
record_most Constraints r h k =
    let e = constraints_kind (get_or r 1 0) k in
    length_cases (get_or r 1 0) (length r) (shape_kind r h)
    (λ j _ _ _. absurd (omega arith)) (λ j _. absurd (omega arith)) (λ j _. absurd (omega arith)) (λ _ _ h _. h)

-- records that are each at most so long
place_most : (l : List ℕ) (at c n : ℕ) → ((k : ℕ) → k < n → get_or l (place_after l at k) 0 ≤ c) → place_after l at n ≤ at + c * n
unfolding place_after
place_most l at c zero h = omega arith
place_most l at c (suc n) h =
    let m = place_most l at c n (λ k j. h k (omega arith)) in
    let b = h n (omega arith) in
    rw (place_snoc l at n) (omega arith)

section_most : (l : List ℕ) (s : Section) (at n : ℕ) → section_fault l s at n ≡ None → place_after l at n ≤ at + longest_of s * n
section_most l s at n e = place_most l at (longest_of s) n (λ k h. short k (section_formed l s at n k h e))
  where
    short : (k : ℕ) → Formed s (count_of l Groups) (record_at l (place_after l at k)) → get_or l (place_after l at k) 0 ≤ longest_of s
    short k f =
        let z = (stands l (place_after l at k) f.shape).size in
        let m = record_most s (record_at l (place_after l at k)) f.shape f.kind in
        omega arith

-- past k records of a section, as many lengths further
pub most_further : (s : Section) (k : ℕ) → most_place s k ≡ most_place s 0 + longest_of s * k
unfolding most_place longest_of
most_further Groups k = omega arith
most_further Rules k = omega arith
most_further Constraints k = omega arith

-- what stands before a section
module _ (l : List ℕ) where
  pub before_groups : fault_before l Groups ≡ None
  unfolding fault_before
  before_groups = refl

  pub before_rules : section_fault l Groups (start_of l Groups) (count_of l Groups) ≡ None → fault_before l Rules ≡ None
  unfolding fault_before
  before_rules e = e

  pub before_constraints :
      section_fault l Groups (start_of l Groups) (count_of l Groups) ≡ None
      → section_fault l Rules (start_of l Rules) (count_of l Rules) ≡ None
      → fault_before l Constraints ≡ None
  unfolding fault_before
  before_constraints e h = or_else_none e h

module _ (l : List ℕ) (few : (s : Section) → count_of l s ≤ limit_of s) where
  -- where a section starts, behind sections that are full at most
  start_most : (s : Section) → fault_before l s ≡ None → start_of l s ≤ most_place s 0
  unfolding fault_before start_of most_place limit_of longest_of
  start_most Groups e = omega arith
  start_most Rules e =
      let m = section_most l Groups 9 (count_of l Groups) e in
      let n = few Groups in
      omega arith
  start_most Constraints e =
      let q = or_else_split (section_fault l Groups 9 (count_of l Groups)) _ e in
      let m = section_most l Groups 9 (count_of l Groups) q.0 in
      let j = section_most l Rules (place_after l 9 (count_of l Groups)) (count_of l Rules) q.1 in
      let n = few Groups in
      let k = few Rules in
      omega arith

  pub reached_most : (s : Section) (k : ℕ) → Reaches l s k → place_of l s k ≤ most_place s k
  unfolding place_of
  reached_most s k r =
      let a = start_most s r.before in
      let b = section_most l s (start_of l s) k r.passed in
      let c = most_further s k in
      omega arith

pub most_whole : (s : Section) (k : ℕ) → k ≤ limit_of s → most_place s k ≤ 55561
unfolding most_place limit_of
most_whole Groups k h = omega arith
most_whole Rules k h = omega arith
most_whole Constraints k h = omega arith

pub places_bounded : PlacesBounded
places_bounded fits l e s k r =
    let few = (header_holds fits l e).few in
    let m = reached_most l few s k r in
    let c = r.counted in
    let n = few s in
    let w = most_whole s k (omega arith) in
    record { by_section = m; whole = omega arith; length_added = λ b. (let i = b (place_of l s k) in omega arith) }

-- ---- an image that passes 1 to 7, and an accepted one

module _ (l : List ℕ) (e : LaidOut l) where
  none_before : (s : Section) → fault_before l s ≡ None
  none_before Groups = before_groups l
  none_before Rules = before_rules l (body_sections l (laid_body l e) Groups)
  none_before Constraints = before_constraints l (body_sections l (laid_body l e) Groups) (body_sections l (laid_body l e) Rules)

  pub laid_reaches : (s : Section) (k : ℕ) → k ≤ count_of l s → Reaches l s k
  laid_reaches s k h =
      record {
        before = none_before s;
        counted = h;
        passed = section_prefix l s (start_of l s) (count_of l s) k h (body_sections l (laid_body l e) s);
      }

  pub laid_bounded : (s : Section) (k : ℕ) → k ≤ count_of l s → Bounded l s k
  laid_bounded s k h = places_bounded eqb l (holds_header eqb l (laid_header l e)) s k (laid_reaches s k h)

  pub laid_longest : length l ≤ longest_length
  unfolding end_of
  laid_longest =
      let b = (laid_bounded Constraints (count_of l Constraints) (omega arith)).whole in
      let n = laid_end l e in
      omega arith

module _ (l : List ℕ) (e : Accepted l) where
  pub accepted_reaches : (s : Section) (k : ℕ) → k ≤ count_of l s → Reaches l s k
  accepted_reaches s k h = laid_reaches l (accepted_laid l e) s k h

  pub accepted_bounded : (s : Section) (k : ℕ) → k ≤ count_of l s → Bounded l s k
  accepted_bounded s k h = laid_bounded l (accepted_laid l e) s k h

pub longest_image : LongestImage
longest_image l e = laid_longest l (accepted_laid l e)

-- ---- the bound, by section

pub most_groups : (k : ℕ) → most_place Groups k ≡ 9 + 130 * k
unfolding most_place
most_groups k = refl

pub most_rules : (k : ℕ) → most_place Rules k ≡ 9 + 130 * 256 + 11 * k
unfolding most_place
most_rules k = refl

pub most_constraints : (k : ℕ) → most_place Constraints k ≡ 9 + 130 * 256 + 11 * 1024 + 43 * k
unfolding most_place
most_constraints k = refl
