-- What meets the terms of request 4's claims, from the statement: no claim's own proof is cited. Assumes nothing.
use Prim.Native.Nat.{ℕ, ◌+◌, ◌*◌, ◌≤◌, ◌<◌}
use native.Mathlib.Omega.{arith}
use mathlib.Core.Path.{◌≡◌, subst, ap, ◌∙◌}
use mathlib.Core.Logic.{⊎_elim}
use mathlib.Core.Bool.{Bool}
use Rattle.std.specs.Prelude.{None, Some}
use mathlib.Core.List.{List}
use lib.ListN.{get_or}
use lib.Dec.{eqb}
use Rattle.format.specs.declared.Section.{Section}
use Rattle.format.specs.declared.Section.TheVariants.{Groups, Rules, Constraints}
use Rattle.format.specs.declared.Refusal.{Refusal}
use Rattle.format.specs.Refusals.{refusal}
use Rattle.format.specs.Format.{limit_of, count_of}
use Rattle.format.specs.Policy.{place_of}
use Rattle.format.specs.Check.{header_fault, body_fault}
use Rattle.format.specs.Reach.{Reaches, most_place}
use Rattle.format.proofs.ByCase.{limit_groups, limit_rules, limit_constraints}
use Rattle.format.proofs.Reach.{before_groups, before_rules, before_constraints, most_groups, most_rules, most_constraints}
use Rattle.claims.specs.Promises.{Promises}
use Rattle.claims.specs.Terms.{cut_sample, long_sample, bad_sample, Pass, AllPass, LongestAt, ReachingMet}
use Rattle.claims.proofs.Cases.{refused_samples}

-- refusals of different numbers are apart
apart : {C : Type 0} (n m a b : ℕ) → refusal n a ≡ refusal m b → (n ≡ m → ⊥) → C
apart n m a b e k = absurd (k (ap (λ (f : Refusal). f.number) e))

same_place : (n m a b : ℕ) → refusal n a ≡ refusal m b → a ≡ b
same_place n m a b e = ap (λ (f : Refusal). f.place) e

module _ (p : Promises) where
  module _ (fits : ℕ → ℕ → Bool) (l : List ℕ) (h : header_fault fits l ≡ None) where
    -- the furthest places, in numbers
    group_places :
        (k : ℕ) → k ≤ count_of l Groups → Pass l Groups k → (place_of l Groups k ≤ 9 + 130 * k) × (place_of l Groups k ≤ 55561)
    group_places k c e =
        let b = p.reaching.places_bounded fits l h Groups k (record { before = before_groups l; counted = c; passed = e }) in
        (omega (arith, b.by_section, most_groups k), b.whole)

    rule_places :
        AllPass l Groups → (k : ℕ) → k ≤ count_of l Rules → Pass l Rules k
        → (place_of l Rules k ≤ 33289 + 11 * k) × (place_of l Rules k ≤ 55561)
    rule_places g k c e =
        let b = p.reaching.places_bounded fits l h Rules k (record { before = before_rules l g; counted = c; passed = e }) in
        (omega (arith, b.by_section, most_rules k), b.whole)

    constraint_places :
        AllPass l Groups → AllPass l Rules → (k : ℕ) → k ≤ count_of l Constraints → Pass l Constraints k
        → (place_of l Constraints k ≤ 44553 + 43 * k) × (place_of l Constraints k ≤ 55561)
    constraint_places g r k c e =
        let w : Reaches l Constraints k = record { before = before_constraints l g r; counted = c; passed = e } in
        let b = p.reaching.places_bounded fits l h Constraints k w in
        (omega (arith, b.by_section, most_constraints k), b.whole)

    -- where a refusal of the records stands, by its number
    module _ (at : ℕ) where
      malformed :
          body_fault l ≡ Some (refusal 5 at) → (s : Section) × (k : ℕ) × Reaches l s k × (k < count_of l s) × (at ≡ place_of l s k)
      malformed e =
          let q = p.reaching.stops_reached fits l h (refusal 5 at) e in
          ⊎_elim (λ z. (q.section, q.past, q.reached, z.0, same_place 5 5 at _ z.1))
          (⊎_elim (λ z. apart 5 6 at _ z.1.2 (λ n. omega arith)) (λ z. apart 5 7 at _ z.2 (λ n. omega arith)))
          q.place

      bad_field_lem :
          body_fault l ≡ Some (refusal 6 at)
          → (s : Section) × (k : ℕ) × (i : ℕ) × Reaches l s k
          × (k < count_of l s) × (i < get_or l (place_of l s k) 0) × (at ≡ place_of l s k + i)
      bad_field_lem e =
          let q = p.reaching.stops_reached fits l h (refusal 6 at) e in
          ⊎_elim (λ z. apart 6 5 at _ z.1 (λ n. omega arith))
          (⊎_elim (λ z. (q.section, q.past, z.1.0, q.reached, z.0, z.1.1, same_place 6 6 at _ z.1.2))
          (λ z. apart 6 7 at _ z.2 (λ n. omega arith)))
          q.place

      bytes_behind :
          body_fault l ≡ Some (refusal 7 at)
          → Reaches l Constraints (count_of l Constraints) × (at ≡ place_of l Constraints (count_of l Constraints))
      bytes_behind e =
          let q = p.reaching.stops_reached fits l h (refusal 7 at) e in
          ⊎_elim (λ z. apart 7 5 at _ z.1 (λ n. omega arith))
          (⊎_elim (λ z. apart 7 6 at _ z.1.2 (λ n. omega arith))
          (λ z. last q.section q.past q.reached z.0 z.1 (same_place 7 7 at _ z.2)))
          q.place
        where
          last :
              (s : Section) (k : ℕ) → Reaches l s k → s ≡ Constraints → k ≡ count_of l s → at ≡ place_of l s k
              → Reaches l Constraints (count_of l Constraints) × (at ≡ place_of l Constraints (count_of l Constraints))
          last s k r e₁ e₂ e₃ =
              subst (λ t. Reaches l t (count_of l t) × (at ≡ place_of l t (count_of l t))) e₁
              (subst (λ n. Reaches l s n × (at ≡ place_of l s n)) e₂ (r, e₃))

  longest_at : (s : Section) (k n m : ℕ) → limit_of s ≡ n → k ≤ n → most_place s k ≡ m → LongestAt s k m
  longest_at s k n m e h q =
      let j : k ≤ limit_of s = omega arith in
      let b = p.reaching.bound_reached in
      (b.reaches s k j, b.each s k j ∙ q)

  pub reaching_met : ReachingMet
  reaching_met =
      let b = p.reaching.bound_reached in
      let w = refused_samples in
      record {
        group_places = group_places;
        rule_places = rule_places;
        constraint_places = constraint_places;
        next_length = λ fits l y h s k r. (p.reaching.places_bounded fits l h s k r).length_added y;
        malformed = malformed;
        bad_field_lem = bad_field_lem;
        bytes_behind = bytes_behind;
        stop_places = λ fits l h f e. (p.reaching.stops_reached fits l h f e).whole;
        cut_stops = p.reaching.stops_reached eqb cut_sample w.cut_header (refusal 5 69) w.cut_refused;
        bad_stops = p.reaching.stops_reached eqb bad_sample w.bad_header (refusal 6 25) w.bad_refused;
        long_stops = p.reaching.stops_reached eqb long_sample w.long_header (refusal 7 80) w.long_refused;
        longest_header = b.header;
        longest_groups = λ k h. longest_at Groups k 256 _ limit_groups h (most_groups k);
        longest_rules = λ k h. longest_at Rules k 1024 _ limit_rules h (most_rules k);
        longest_constraints = λ k h. longest_at Constraints k 256 _ limit_constraints h (most_constraints k);
        longest_end = b.last;
      }
