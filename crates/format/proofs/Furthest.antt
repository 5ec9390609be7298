-- A walk over the longest image reaches the furthest places: claim BoundReached. Assumes nothing.
use Prim.Native.Nat.{ℕ, zero, suc, ◌+◌, ◌*◌, ◌≤◌, ◌<◌}
use mathlib.Core.Path.{◌≡◌, refl, sym, ap, ◌∙◌}
use mathlib.Core.List.{List, []}
use native.Mathlib.Omega.{arith}
use lib.ListN.{length, get_or, get_or-replicate}
use lib.Dec.{eqb}
use Rattle.format.specs.declared.Section.{Section}
use Rattle.format.specs.declared.Section.TheVariants.{Groups, Rules, Constraints}
use Rattle.format.specs.Format.{limit_of, count_of}
use Rattle.format.specs.Policy.{Policy, records_of, image_of, place_after, start_of, place_of}
use Rattle.format.specs.Check.{Accepted}
use Rattle.format.specs.Longest.{long_groups, long_rule, long_constraint, longest}
use Rattle.format.specs.Reach.{most_place, BoundReached}
use Rattle.format.proofs.Records.{place_snoc}
use Rattle.format.proofs.Accepted.{holds_header, accepted_header, accepted_end, record_stands, record_nth}
use Rattle.format.proofs.Reach.{longest_of, most_further, accepted_reaches}
use Rattle.format.proofs.Images.{image_count}
use Rattle.format.proofs.Longest.{group_length, rule_length, constraint_length, longest_full, longest_reached}

nth_group : (n k : ℕ) → k < n → length (get_or (long_groups n) k []) ≡ 130
unfolding long_groups
nth_group zero k h = absurd (omega arith)
nth_group (suc n) zero h = group_length n
nth_group (suc n) (suc k) h = nth_group n k (omega arith)

nth_length : (s : Section) (k : ℕ) → k < limit_of s → length (get_or (records_of longest s) k []) ≡ longest_of s
unfolding records_of limit_of longest longest_of
nth_length Groups k h = nth_group 256 k h
nth_length Rules k h = ap length (get_or-replicate 1024 k long_rule [] h) ∙ rule_length
nth_length Constraints k h = ap length (get_or-replicate 256 k long_constraint [] h) ∙ constraint_length

-- records that are each just so long
place_even : (l : List ℕ) (at c n : ℕ) → ((k : ℕ) → k < n → get_or l (place_after l at k) 0 ≡ c) → place_after l at n ≡ at + c * n
unfolding place_after
place_even l at c zero h = omega arith
place_even l at c (suc n) h =
    let m = place_even l at c n (λ k j. h k (omega arith)) in
    let b = h n (omega arith) in
    rw (place_snoc l at n) (omega arith)

abbrev l : List ℕ
l = image_of longest

abbrev ok : Accepted l
ok = longest_reached.accepted

full : (s : Section) → count_of l s ≡ limit_of s
full s = image_count longest s ∙ longest_full s

length_byte : (s : Section) (k : ℕ) → k < limit_of s → get_or l (place_of l s k) 0 ≡ longest_of s
length_byte s k h =
    let j : k < count_of l s = omega (arith, full s) in
    sym (record_stands l ok s k j).size
    ∙ ap length (sym (record_nth l s k j) ∙ ap (λ (p : Policy). get_or (records_of p s) k []) longest_reached.policy)
    ∙ nth_length s k h

section_even : (s : Section) (k : ℕ) → k ≤ limit_of s → place_of l s k ≡ start_of l s + longest_of s * k
unfolding place_of
section_even s k h = place_even l (start_of l s) (longest_of s) k (λ i j. length_byte s i (omega arith))

section_end : (s : Section) → place_after l (start_of l s) (count_of l s) ≡ start_of l s + longest_of s * limit_of s
unfolding place_of
section_end s = ap (place_after l (start_of l s)) (full s) ∙ section_even s (limit_of s) (omega arith)

rules_start : start_of l Rules ≡ most_place Rules 0
unfolding start_of most_place limit_of longest_of
rules_start = section_end Groups

section_start : (s : Section) → start_of l s ≡ most_place s 0
unfolding start_of most_place limit_of longest_of
section_start Groups = refl
section_start Rules = rules_start
section_start Constraints = section_end Rules ∙ ap (λ (at : ℕ). at + 11 * 1024) rules_start

pub bound_reached : BoundReached
bound_reached =
    record {
      header = holds_header eqb l (accepted_header l ok);
      reaches = λ s k h. accepted_reaches l ok s k (omega (arith, full s));
      each = λ s k h. section_even s k h ∙ ap (λ (at : ℕ). at + longest_of s * k) (section_start s) ∙ sym (most_further s k);
      last = accepted_end l ok ∙ longest_reached.reached;
    }
