-- Laws of a walk over the records of a section: what each way that a turn goes does to its one invariant. Assumes nothing.
--     walk_start, walk_next, walk_hit, walk_end   its laws
--     walk_rule, walk_constraint            what stands at the running place
--     FirstOf, AnyOf                        a walk for the first record that passes a test, and for any
use Prim.Native.Nat.{ℕ, ◌+◌, ◌-◌, ◌<◌}
use mathlib.Core.Path.{◌≡◌, sym, ap, ◌∙◌}
use mathlib.Core.Bool.{Bool, true, false}
use mathlib.Core.List.{List, [], ◌∷◌, map}
use native.Mathlib.Omega.{arith}
use native.Mathlib.Numerals.{add-one}
use lib.ListN.{get_or}
use Rattle.format.specs.declared.Section.{Section}
use Rattle.format.specs.declared.Section.TheVariants.{Rules, Constraints}
use Rattle.format.specs.Format.{count_of}
use Rattle.format.specs.Policy.{policy_of, record_at, records_at, start_of}
use Rattle.format.specs.Check.{Accepted}
use Rattle.format.proofs.Accepted.{accepted_header, place_first, place_next, policy_rules, policy_constraints}
use Rattle.format.proofs.ByCase.{limit_constraints}
use Rattle.format.proofs.Records.{records_none, records_next}
use Rattle.format.proofs.Places.{rule_at, constraint_at}
use Rattle.decision.specs.Sets.{any_of}
use Rattle.decision.specs.Reading.{rule_of, constraint_of, rules_of, constraints_of}
use Rattle.decision.specs.Decide.{first_at}
use Rattle.std.specs.Prelude.{Option, Some, None}
use Rattle.decide.specs.Inner.Parts.{rules_in, RuleHere, NthConstraint}
use Rattle.decide.specs.Inner.Walks.{Walk}

module _ {A R : Type 0} where
  module _ (s : Section) (read : List ℕ → R) (l : List ℕ) (whole : A) (rest : ℕ → List R → A) where
    pub walk_start :
        (from count : ℕ) → from ≡ start_of l s → count ≡ count_of l s
        → whole ≡ rest 0 (map read (records_at l (start_of l s) (count_of l s)))
        → Walk s read l whole rest count 0 from
    walk_start from count e h w =
        let z : count - 0 ≡ count_of l s = omega arith in
        record { few = omega arith; all = h; place = e ∙ sym (place_first l s); same = rw (z, e) w }

    module _ (count n at : ℕ) (w : Walk s read l whole rest count n at) where
      pub walk_end : (n < count → ⊥) → whole ≡ rest n []
      walk_end h = w.same ∙ ap (λ rs. rest n (map read rs)) (records_none l at (count - n) (omega arith))

      module _ (more : n < count) where
        step : whole ≡ rest n (read (record_at l at) ∷ map read (records_at l (at + get_or l at 0) (count - (n + 1))))
        step = w.same ∙ ap (λ rs. rest n (map read rs)) (records_next l at (count - n) (count - (n + 1)) (omega arith))

        pub walk_hit : (x : A) → ((rs : List R) → rest n (read (record_at l at) ∷ rs) ≡ x) → whole ≡ x
        walk_hit x h = step ∙ h (map read (records_at l (at + get_or l at 0) (count - (n + 1))))

        pub walk_next :
            (rest' : ℕ → List R → A) (to : ℕ) → ((rs : List R) → rest n (read (record_at l at) ∷ rs) ≡ rest' (n + 1) rs)
            → to ≡ at + get_or l at 0
            → Walk s read l whole rest' count (n + 1) to
        walk_next rest' to h e =
            record {
              few = omega arith;
              all = w.all;
              place = e ∙ ap (λ x. x + get_or l x 0) w.place ∙ sym (place_next l s n);
              same = step ∙ h (map read (records_at l (at + get_or l at 0) (count - (n + 1))))
                  ∙ ap (λ a. rest' (n + 1) (map read (records_at l a (count - (n + 1))))) (sym e);
            }

-- what stands at the running place
module _ {A R : Type 0} {read : List ℕ → R} {l : List ℕ} {whole : A} {rest : ℕ → List R → A} {count n at : ℕ} where
  pub walk_rule : Walk Rules read l whole rest count n at → n < count → Accepted l → RuleHere l at
  walk_rule w more c = rw w.place (rule_at l c n (omega (arith, w.all)))

  pub walk_constraint : Walk Constraints read l whole rest count n at → n < count → Accepted l → NthConstraint l n at
  walk_constraint w more c =
      record {
        here = rw w.place (constraint_at l c n (omega (arith, w.all)));
        few = omega (arith, w.all, (accepted_header l c).few Constraints, limit_constraints);
        place = w.place;
      }

-- ---- the first record that passes a test, and any

module _ {R : Type 0} where
  abbrev pub FirstOf : Section → (List ℕ → R) → List ℕ → (R → Bool) → Option ℕ → ℕ → ℕ → ℕ → Type 0
  FirstOf s read l f whole = Walk s read l whole (λ n rs. first_at f n rs)

  abbrev pub AnyOf : Section → (List ℕ → R) → List ℕ → (R → Bool) → Bool → ℕ → ℕ → ℕ → Type 0
  AnyOf s read l f whole = Walk s read l whole (λ n rs. any_of f rs)

  module _ {s : Section} {read : List ℕ → R} {l : List ℕ} (f : R → Bool) {whole : Option ℕ} {count n at : ℕ}
      (w : FirstOf s read l f whole count n at) where
    pub first_end : (n < count → ⊥) → None ≡ whole
    unfolding first_at
    first_end h = sym (walk_end s read l whole (λ n rs. first_at f n rs) count n at w h)

    pub first_hit : n < count → f (read (record_at l at)) ≡ true → Some n ≡ whole
    unfolding first_at
    first_hit more y = sym
        (walk_hit s read l whole (λ n rs. first_at f n rs) count n at w more (Some n) (λ rs. simp y))

    pub first_next : n < count → f (read (record_at l at)) ≡ false → (to : ℕ) → to ≡ at + get_or l at 0
        → FirstOf s read l f whole count (n + 1) to
    unfolding first_at
    first_next more y to =
        walk_next s read l whole (λ n rs. first_at f n rs) count n at w more
        (λ n rs. first_at f n rs) to (λ rs. rw add-one (simp y))

  module _ {s : Section} {read : List ℕ → R} {l : List ℕ} (f : R → Bool) {whole : Bool} {count n at : ℕ}
      (w : AnyOf s read l f whole count n at) where
    pub any_end : (n < count → ⊥) → false ≡ whole
    unfolding any_of
    any_end h = sym (walk_end s read l whole (λ n rs. any_of f rs) count n at w h)

    pub any_hit : n < count → f (read (record_at l at)) ≡ true → true ≡ whole
    unfolding any_of
    any_hit more y = sym (walk_hit s read l whole (λ n rs. any_of f rs) count n at w more true (λ rs. simp y))

    pub any_next : n < count → f (read (record_at l at)) ≡ false → (to : ℕ) → to ≡ at + get_or l at 0
        → AnyOf s read l f whole count (n + 1) to
    unfolding any_of
    any_next more y to = walk_next s read l whole (λ n rs. any_of f rs) count n at w more (λ n rs. any_of f rs) to
        (λ rs. simp y)

-- ---- all rules, and all constraints

pub all_rules : (l : List ℕ) (w : ℕ) → rules_in l w
    ≡ map (rule_of (policy_of l) w) (records_at l (start_of l Rules) (count_of l Rules))
unfolding rules_of
all_rules l w = ap (map (rule_of (policy_of l) w)) (policy_rules l)

pub all_constraints : (l : List ℕ) → constraints_of (policy_of l)
    ≡ map (constraint_of (policy_of l)) (records_at l (start_of l Constraints) (count_of l Constraints))
unfolding constraints_of
all_constraints l = ap (map (constraint_of (policy_of l))) (policy_constraints l)

-- where a loop stands: its walk, and what is kept
pub record Turn (W K : Type 0) : Type 0 where
  pub walk : W
  pub kept : K
