-- Where a walk over the records stops: claim StopsReached. Assumes nothing.
--     section_stops      a section's first refusal: the records before it have none
--     read_stops         the refusal of one record: at its place, or at a field of it
use Prim.Native.Nat.{ℕ, zero, suc, ◌+◌, ◌≤◌, ◌<◌}
use mathlib.Core.Path.{◌≡◌, refl, sym, subst}
use mathlib.Core.Logic.{◌⊎◌, inl, inr, ⊎_elim}
use mathlib.Core.Bool.{Bool}
use Rattle.std.specs.Prelude.{Option, None, Some, Ok, Err}
use mathlib.Core.List.{List}
use native.Mathlib.Omega.{arith}
use lib.ListN.{length, get_or, drop}
use lib.Dec.{leb}
use Rattle.format.specs.declared.Section.{Section}
use Rattle.format.specs.declared.Section.TheVariants.{Groups, Rules, Constraints}
use Rattle.format.specs.declared.Refusal.{Refusal}
use Rattle.format.specs.Check.{Read}
use Rattle.format.specs.declared.Misread.TheVariants.{Malformed, BadField}
use Rattle.format.specs.Refusals.{refusal}
use Rattle.format.specs.Format.{count_of, first_record}
use Rattle.format.specs.Policy.{record_at, place_after, start_of, place_of, end_of}
use Rattle.format.specs.Check.{read_of, read_fault, section_fault, header_fault, body_fault}
use Rattle.format.specs.Reach.{fault_before, Reaches, Stops, StopsReached}
use Rattle.format.proofs.Chain.{some_not_none, or_else_none, or_else_refuses, need_refuses}
use Rattle.format.proofs.Shapes.{stands, read_bad_field}
use Rattle.format.proofs.Fields.{field_inside}
use Rattle.format.proofs.Accepted.{header_holds}
use Rattle.format.proofs.Reach.{longest_of, record_most, before_groups, before_rules, before_constraints}
use Rattle.format.proofs.Reach.{reached_most, most_further, most_whole, places_bounded}

-- what is refused of the record at a place
abbrev record_fault : List ℕ → Section → ℕ → Option Refusal
record_fault l s at = read_fault at (read_of s (count_of l Groups) (drop at l))

-- a section's first refusal: the records before it have none
section_stops :
    (l : List ℕ) (s : Section) (at n : ℕ) (f : Refusal) → section_fault l s at n ≡ Some f
    → (k : ℕ) × (k < n) × (section_fault l s at k ≡ None) × (record_fault l s (place_after l at k) ≡ Some f)
unfolding section_fault place_after
section_stops l s at zero = λ f e. some_not_none (sym e)
section_stops l s at (suc n) =
    or_else_refuses
    (λ f. (k : ℕ) × (k < suc n) × (section_fault l s at k ≡ None) × (record_fault l s (place_after l at k) ≡ Some f))
    (record_fault l s at)
    (section_fault l s (at + get_or l at 0) n)
    (λ f e. (0, omega arith, refl, e))
    (λ h f e. let q = section_stops l s (at + get_or l at 0) n f e in (suc q.0, omega (arith, q.1), or_else_none h q.2, q.3))

-- the refusal of one record: at its place, or at a field of it
abbrev RecordStops : List ℕ → ℕ → ℕ → Refusal → Type 0
RecordStops l at most f =
    ((f ≡ refusal 5 at) ⊎ ((i : ℕ) × (i < get_or l at 0) × (f ≡ refusal 6 (at + i)))) × (f.place ≤ at + most)

read_stops :
    (l : List ℕ) (s : Section) (g at : ℕ) (x : Read) → read_of s g (drop at l) ≡ x → (f : Refusal) → read_fault at x ≡ Some f
    → RecordStops l at (longest_of s) f
unfolding read_fault record_at
read_stops l s g at (Ok n) e f q = some_not_none (sym q)
read_stops l s g at (Err Malformed) e f q =
    let z : refusal 5 at ≡ f = cc in
    subst (RecordStops l at (longest_of s)) z (inl refl, omega arith)
read_stops l s g at (Err (BadField i)) e f q =
    let b = read_bad_field s g i (drop at l) e in
    let r = first_record (drop at l) in
    let k = field_inside g r i b.0 b.1 in
    let m = record_most s r b.0 b.2 in
    let n = (stands l at b.0).size in
    let z : refusal 6 (at + i) ≡ f = cc in
    subst (RecordStops l at (longest_of s)) z (inr (i, omega arith, refl), omega arith)

module _ (fits : ℕ → ℕ → Bool) (l : List ℕ) (h : header_fault fits l ≡ None) where
  -- the section's record that is refused is one of those counted, and the bound past it holds
  stops_in :
      (s : Section) → fault_before l s ≡ None → (f : Refusal) → section_fault l s (start_of l s) (count_of l s) ≡ Some f → Stops l f
  unfolding place_of
  stops_in s b f e =
      let few = (header_holds fits l h).few in
      let q = section_stops l s (start_of l s) (count_of l s) f e in
      let at = place_after l (start_of l s) q.0 in
      let t = read_stops l s (count_of l Groups) at (read_of s (count_of l Groups) (drop at l)) refl f q.3 in
      let r : Reaches l s q.0 = record { before = b; counted = omega (arith, q.1); passed = q.2 } in
      let m = reached_most l few s q.0 r in
      let n = few s in
      let w = most_whole s (suc q.0) (omega (arith, q.1)) in
      let c = most_further s q.0 in
      let d = most_further s (suc q.0) in
      record {
        section = s;
        past = q.0;
        reached = r;
        place = ⊎_elim (λ z. inl (q.1, z)) (λ z. inr (inl (q.1, z))) t.0;
        whole = omega (arith, t.1);
      }

  stops : (f : Refusal) → body_fault l ≡ Some f → Stops l f
  unfolding body_fault end_of
  stops =
      or_else_refuses (Stops l) (section_fault l Groups (start_of l Groups) (count_of l Groups)) _
      (stops_in Groups (before_groups l))
      (λ e. or_else_refuses (Stops l) (section_fault l Rules (start_of l Rules) (count_of l Rules)) _
      (stops_in Rules (before_rules l e))
      (λ e₁. let b = before_constraints l e e₁ in
      or_else_refuses (Stops l) (section_fault l Constraints (start_of l Constraints) (count_of l Constraints)) _
      (stops_in Constraints b)
      (λ e₂. let r : Reaches l Constraints (count_of l Constraints) = record { before = b; counted = omega arith; passed = e₂ } in
      need_refuses (Stops l) (leb (length l) (end_of l)) (refusal 7 (end_of l))
      (record {
        section = Constraints;
        past = count_of l Constraints;
        reached = r;
        place = inr (inr (refl, refl, refl));
        whole = (places_bounded fits l h Constraints (count_of l Constraints) r).whole;
      }))))

pub stops_reached : StopsReached
stops_reached fits l h f e = stops fits l h f e
