-- Laws of the check's body and of giving a record, by the ways that the code goes. Assumes nothing.
use Prim.Native.Nat.{ℕ, ◌+◌, ◌-◌, ◌≤◌, ◌<◌}
use mathlib.Core.Path.{◌≡◌, refl, sym, ap, ap₂, ◌∙◌}
use mathlib.Core.List.{List}
use Rattle.std.specs.Prelude.{None, Some}
use native.Mathlib.Omega.{arith}
use native.Mathlib.Nat.{add-sub_cancel_left}
use lib.ListN.{length, get_or, take, drop, length-drop}
use lib.Seq.{length-take-le}
use lib.Dec.{eqb, leb}
use borrow.Author.Tests.{le-ltb}
use Rattle.format.specs.declared.Section.{Section}
use Rattle.format.specs.declared.Section.TheVariants.{Groups, Rules, Constraints}
use Rattle.format.specs.declared.Refusal.{Refusal}
use Rattle.format.specs.declared.Extent.{Extent}
use Rattle.format.specs.Refusals.{refusal, need}
use Rattle.format.specs.Format.{count_of}
use Rattle.format.specs.Policy.{record_at, place_after, start_of, place_of, end_of}
use Rattle.format.specs.Check.{section_fault, header_fault, body_fault, layout_fault, check, Accepted}
use Rattle.format.specs.Give.{give_fault, given_record}
use Rattle.std.specs.Prelude.{Ok, Err}
use Rattle.format.specs.Answers.{Outcome, outcome, starts, extent}
use Rattle.format.specs.Reach.{fault_before, Reaches}
use Rattle.format.proofs.Chain.{or_else_next, or_else_first, need_some, outcome_gives, outcome_refused}
use Rattle.format.proofs.Reach.{before_groups, before_rules, before_constraints, places_bounded, accepted_bounded}
use Rattle.format.proofs.Accepted.{section_inside, place_first, record_stands, record_is, give_none, given_at}
use Rattle.image.specs.Inner.Walk.{walk_of, Fits, ends_of, start_in, Hops}

module _ (l : List ℕ) (s : Section) (at n : ℕ) where
  walk_passes : (e : ℕ) → walk_of l s at n ≡ Ok e → (section_fault l s at n ≡ None) × (place_after l at n ≡ e)
  unfolding walk_of
  walk_passes e q =
      let p = outcome_gives (section_fault l s at n) (place_after l at n) (sym q) in
      (p.0, sym p.1)

  walk_stops : (f : Refusal) → walk_of l s at n ≡ Err f → section_fault l s at n ≡ Some f
  unfolding walk_of
  walk_stops f q = outcome_refused (section_fault l s at n) (place_after l at n) (sym q)

  -- a walk over a whole section answers as the definition says
  pub walked : {r w : Outcome ℕ} → n ≡ count_of l s → r ≡ walk_of l s at n → r ≡ w → walk_of l s at (count_of l s) ≡ w
  walked c e q = ap (walk_of l s at) (sym c) ∙ sym e ∙ q

  -- a walk ends within the image
  pub walk_inside : (e : ℕ) → at ≤ length l → walk_of l s at n ≡ Ok e → e ≤ length l
  walk_inside e h q =
      let p = walk_passes e q in
      let i = section_inside l s at n h p.0 in
      omega (arith, p.1)

  -- no place that a walk over a section reaches is above 55,561, where the header passes
  section_fits : header_fault eqb l ≡ None → fault_before l s ≡ None → at ≡ start_of l s → n ≡ count_of l s → Fits l s at n
  unfolding place_of
  section_fits h f a c =
      record {
        place = λ k j e.
            (let r : Reaches l s k = record { before = f; counted = omega arith; passed = rw a at e } in
            rw a (places_bounded eqb l h s k r).whole);
      }

module _ (l : List ℕ) where
  abbrev groups_walk : Outcome ℕ
  groups_walk = walk_of l Groups 9 (count_of l Groups)

  abbrev rules_walk : ℕ → Outcome ℕ
  rules_walk at = walk_of l Rules at (count_of l Rules)

  abbrev constraints_walk : ℕ → Outcome ℕ
  constraints_walk at = walk_of l Constraints at (count_of l Constraints)

  pub groups_fit : header_fault eqb l ≡ None → (n : ℕ) → n ≡ count_of l Groups → Fits l Groups 9 n
  unfolding start_of
  groups_fit h n c = section_fits l Groups 9 n h (before_groups l) refl c

  -- where a section stops, so does the body
  pub groups_stop : (f : Refusal) → groups_walk ≡ Err f → body_fault l ≡ Some f
  unfolding body_fault start_of
  groups_stop f e = or_else_first _ (walk_stops l Groups 9 (count_of l Groups) f e)

  module _ (a : ℕ) (e₁ : groups_walk ≡ Ok a) where
    pub rules_at : start_of l Rules ≡ a
    unfolding start_of
    rules_at = (walk_passes l Groups 9 (count_of l Groups) a e₁).1

    groups_none : section_fault l Groups 9 (count_of l Groups) ≡ None
    groups_none = (walk_passes l Groups 9 (count_of l Groups) a e₁).0

    pub rules_fit : header_fault eqb l ≡ None → (n : ℕ) → n ≡ count_of l Rules → Fits l Rules a n
    unfolding start_of
    rules_fit h n c = section_fits l Rules a n h (before_rules l groups_none) (sym rules_at) c

    pub rules_stop : (f : Refusal) → rules_walk a ≡ Err f → body_fault l ≡ Some f
    unfolding body_fault start_of
    rules_stop f e = or_else_next _ groups_none ∙ or_else_first _ (walk_stops l Rules (start_of l Rules) (count_of l Rules) f (rw rules_at e))

    module _ (b : ℕ) (e₂ : rules_walk a ≡ Ok b) where
      rules_pass : (section_fault l Rules (start_of l Rules) (count_of l Rules) ≡ None) × (place_after l (start_of l Rules) (count_of l Rules) ≡ b)
      rules_pass = walk_passes l Rules (start_of l Rules) (count_of l Rules) b (rw rules_at e₂)

      pub constraints_at : start_of l Constraints ≡ b
      unfolding start_of
      constraints_at = rules_pass.1

      pub constraints_fit : header_fault eqb l ≡ None → (n : ℕ) → n ≡ count_of l Constraints → Fits l Constraints b n
      unfolding start_of
      constraints_fit h n c =
          section_fits l Constraints b n h (before_constraints l groups_none rules_pass.0) (sym constraints_at) c

      pub constraints_stop : (f : Refusal) → constraints_walk b ≡ Err f → body_fault l ≡ Some f
      unfolding body_fault start_of
      constraints_stop f e =
          or_else_next _ groups_none ∙ or_else_next _ rules_pass.0
          ∙ or_else_first _ (walk_stops l Constraints (start_of l Constraints) (count_of l Constraints) f (rw constraints_at e))

      starts_are : starts l ≡ record { rules = a; constraints = b }
      starts_are = λ i. record { rules = rules_at i; constraints = constraints_at i }

      module _ (e : ℕ) (q : constraints_walk b ≡ Ok e) where
        constraints_pass : (section_fault l Constraints (start_of l Constraints) (count_of l Constraints) ≡ None) × (end_of l ≡ e)
        unfolding end_of place_of
        constraints_pass = walk_passes l Constraints (start_of l Constraints) (count_of l Constraints) e (rw constraints_at q)

        body_end : body_fault l ≡ need (leb (length l) e) (refusal 7 e)
        unfolding body_fault start_of
        body_end =
            or_else_next _ groups_none ∙ or_else_next _ rules_pass.0 ∙ or_else_next _ constraints_pass.0
            ∙ ap (λ (x : ℕ). need (leb (length l) x) (refusal 7 x)) constraints_pass.1

        pub body_ends : ends_of l a b e ≡ outcome (body_fault l) (starts l)
        unfolding ends_of
        body_ends = sym (ap₂ outcome body_end starts_are)

  pub header_stops : (f : Refusal) → header_fault eqb l ≡ Some f → layout_fault l ≡ Some f
  unfolding layout_fault
  header_stops f e = or_else_first _ e

  pub header_passes : header_fault eqb l ≡ None → layout_fault l ≡ body_fault l
  unfolding layout_fault
  header_passes e = or_else_next _ e

  pub start_in_lem : (s : Section) → start_in (starts l) s ≡ start_of l s
  unfolding start_of
  start_in_lem Groups = refl
  start_in_lem Rules = refl
  start_in_lem Constraints = refl

  pub start_fits : Accepted l → (s : Section) → start_of l s ≤ 55561
  start_fits e s = rw (place_first l s) at (accepted_bounded l e s 0 (omega arith)).whole

  module _ (s : Section) (n : ℕ) where
    pub give_refused : (f : Refusal) → check l ≡ Some f → give_fault l s n ≡ Some f
    unfolding give_fault
    give_refused f e = or_else_first _ e

    module _ (e : Accepted l) where
      pub give_past : count_of l s ≤ n → give_fault l s n ≡ Some (refusal 14 0)
      unfolding give_fault
      give_past h = or_else_next _ e ∙ need_some _ (le-ltb n (count_of l s) h)

      module _ (h : n < count_of l s) where
        pub place_byte : place_of l s n < length l
        place_byte = let f = record_stands l e s n h in omega (arith, f.some, f.inside)

        pub extent_is : (p k : ℕ) → p ≡ place_of l s n → k ≡ get_or l p 0 → Ok (record { place = p; length = k }) ≡ outcome (give_fault l s n) (extent l s n)
        extent_is p k a b =
            let size : k ≡ length (record_at l (place_of l s n)) = b ∙ ap (λ (i : ℕ). get_or l i 0) a ∙ sym (record_stands l e s n h).size in
            rw (give_none l e s n h, record_is l e s n h, a, size)

pub hops : (l : List ℕ) (s : Section) (n : ℕ) → Accepted l → n < count_of l s → Hops l (start_of l s) n
unfolding place_of
hops l s n e h =
    record {
      byte = λ k j. place_byte l s k e (omega arith);
      inside = λ k j. let m : place_of l s k < length l = place_byte l s k e (omega arith) in omega arith;
      fits = λ k j. (accepted_bounded l e s k (omega arith)).whole;
    }

-- the bytes between a record's place and its end
module _ (l : List ℕ) (s : Section) (n : ℕ) (e : give_fault l s n ≡ None) (x : Extent) (is : x ≡ extent l s n) where
  pub extent_inside : x.place + x.length ≤ length l
  extent_inside = rw is (given_at l s n e).inside

  pub extent_bytes : take (x.place + x.length - x.place) (drop x.place l) ≡ given_record l s n
  extent_bytes = rw add-sub_cancel_left (rw is (sym (given_at l s n e).part))

  pub extent_size : length (take (x.place + x.length - x.place) (drop x.place l)) ≡ x.place + x.length - x.place
  extent_size =
      length-take-le (x.place + x.length - x.place) (drop x.place l) (omega (arith, extent_inside, length-drop x.place l))
