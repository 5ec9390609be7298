-- Laws of the table that the check leaves, slot by slot. Assumes nothing.
--     noted_slot       slot i of a walk's records
--     tabled, slot_placed   the groups' places, slot by slot
--     survey_placed    where the image is accepted, each group's place is in its slot
--     checks_refused, checks_laid, checks_groups, checks_placed   what 1 to 7 answer, and the table
--     check_refused, check_twin, check_none, check_few   the twins behind them
--     alike_refused, alike_filled, alike_slot_lem   the table of alike groups
use Prim.Native.Nat.{ℕ, zero, suc, ◌+◌, ◌≤◌, ◌<◌}
use mathlib.Core.Path.{◌≡◌, refl, sym, ap, ◌∙◌}
use mathlib.Core.Bool.{Bool, true, false, cond}
use Rattle.std.specs.Prelude.{Option, None, Some}
use mathlib.Core.List.{List, []}
use native.Mathlib.Omega.{arith}
use native.Mathlib.Nat.{add-zero, zero-add}
use lib.ListN.{length, get_or, set, length-set}
use lib.Seq.{get_or-set_same, get_or-set_other}
use lib.Dec.{ltb, eqb}
use borrow.Author.Tests.{lt-ltb, le-ltb, ltb-true, ltb-false}
use Rattle.format.specs.declared.Section.{Section}
use Rattle.format.specs.declared.Section.TheVariants.{Groups}
use Rattle.format.specs.declared.Refusal.{Refusal}
use Rattle.format.specs.declared.Starts.{Starts}
use Rattle.format.specs.Refusals.{◌or_else◌, unless_refused}
use Rattle.format.specs.Format.{count_of}
use Rattle.format.specs.Policy.{place_after, start_of, place_of, policy_of}
use Rattle.format.specs.Twins.{twin_fault, number_of}
use Rattle.format.specs.Check.{section_fault, header_fault, layout_fault, LaidOut, check, Accepted}
use Rattle.std.specs.Prelude.{Ok, Err}
use Rattle.format.specs.Answers.{outcome, starts, Outcome}
use Rattle.format.proofs.Chain.{or_else_none, or_else_nothing, or_else_next, or_else_first, unless_accepted, unless_refused_lem, outcome_gives, outcome_refused}
use Rattle.format.proofs.Records.{section_prefix}
use Rattle.format.proofs.Accepted.{header_holds, laid_header, holds_header, laid_body, body_sections, accepted_laid, check_split}
use Rattle.format.proofs.ByCase.{limit_groups}
use Rattle.image.specs.Survey.{group_slot, alike_slot, Surveys}
use Rattle.image.specs.Inner.Walk.{noted_from, noted, Checks}
use Rattle.image.specs.Inner.Alike.{Placed, Fills}

ltb_next : (i n : ℕ) → ltb (suc i) (suc n) ≡ ltb i n
ltb_next i n = go (ltb i n) refl
  where
    go : (b : Bool) → ltb i n ≡ b → ltb (suc i) (suc n) ≡ b
    go true e = let h = ltb-true i n e in lt-ltb (suc i) (suc n) (omega arith)
    go false e = let h = ltb-false i n e in le-ltb (suc i) (suc n) (omega arith)

unless_same : {A : Type 0} (f : Option Refusal) (a : A) → unless_refused f a a ≡ a
unfolding unless_refused
unless_same None a = refl
unless_same (Some x) a = refl

-- a slot of the one or the other of two tables
slot_either : (f g : Option Refusal) (a b : List ℕ) (j x was : ℕ) → get_or a j 0 ≡ unless_refused g x was → get_or b j 0 ≡ was → get_or (unless_refused f a b) j 0 ≡ unless_refused (f or_else g) x was
unfolding unless_refused ◌or_else◌
slot_either None g a b j x was h k = h
slot_either (Some y) g a b j x was h k = k

slot_same : (f : Option Refusal) (a b : List ℕ) (j x : ℕ) → get_or a j 0 ≡ x → get_or b j 0 ≡ x → get_or (unless_refused f a b) j 0 ≡ x
unfolding unless_refused
slot_same None a b j x h k = h
slot_same (Some y) a b j x h k = k

module _ (l : List ℕ) (s : Section) where
  -- slots below the first stay
  noted_below : (n at k : ℕ) (ps : List ℕ) (j : ℕ) → j < k → get_or (noted_from l s at k n ps) j 0 ≡ get_or ps j 0
  unfolding noted_from
  noted_below zero at k ps j h = refl
  noted_below (suc n) at k ps j h =
      let stays : get_or (set ps k at) j 0 ≡ get_or ps j 0 = get_or-set_other ps k j at 0 (λ e. absurd (omega arith)) in
      slot_same _ _ _ j _ (noted_below n (at + get_or l at 0) (suc k) (set ps k at) j (omega arith) ∙ stays) stays

  -- slot i of the walk
  noted_slot :
      (n at k : ℕ) (ps : List ℕ) (i : ℕ) → k + n ≤ length ps
      → get_or (noted_from l s at k n ps) (k + i) 0 ≡ unless_refused (section_fault l s at i) (cond (ltb i n) (place_after l at i) (get_or ps (k + i) 0)) (get_or ps (k + i) 0)
  unfolding noted_from section_fault place_after
  noted_slot zero at k ps i h =
      let was : ℕ = get_or ps (k + i) 0 in
      sym (ap (λ b. unless_refused (section_fault l s at i) (cond b (place_after l at i) was) was) (le-ltb i 0 (omega arith)) ∙ unless_same (section_fault l s at i) was)
  noted_slot (suc n) at k ps zero h =
      let here : get_or (set ps k at) k 0 ≡ at = get_or-set_same ps k at 0 (omega arith) in
      let below = noted_below n (at + get_or l at 0) (suc k) (set ps k at) k (omega arith) in
      rw (add-zero, lt-ltb 0 (suc n) (omega arith)) (slot_same _ _ _ k at (below ∙ here) here ∙ sym (unless_accepted at (get_or ps k 0) refl))
  noted_slot (suc n) at k ps (suc i) h =
      let e : k + suc i ≡ suc k + i = omega arith in
      let was : get_or (set ps k at) (suc k + i) 0 ≡ get_or ps (suc k + i) 0 = get_or-set_other ps k (suc k + i) at 0 (λ q. absurd (omega arith)) in
      let next = noted_slot n (at + get_or l at 0) (suc k) (set ps k at) i (omega (arith, length-set ps k at)) in
      rw (e, ltb_next i n) (slot_either _ (section_fault l s (at + get_or l at 0) i) _ _ (suc k + i) _ _ (rw was at next) was)

-- the table, where it has a slot for each group
tabled : (l before after : List ℕ) → length before ≡ 256 → after ≡ unless_refused (header_fault eqb l) (noted l before) before
    → (g : ℕ) → get_or after g 0 ≡ group_slot l g (get_or before g 0)
unfolding group_slot place_of start_of unless_refused ◌or_else◌
tabled l before after n t g = ap (λ (ps : List ℕ). get_or ps g 0) t ∙ go g (header_fault eqb l) refl
  where
    go :
        (g : ℕ) (f : Option Refusal) → header_fault eqb l ≡ f
        → get_or (unless_refused f (noted l before) before) g 0
        ≡ unless_refused (f or_else section_fault l Groups 9 g) (cond (ltb g (count_of l Groups)) (place_after l 9 g) (get_or before g 0)) (get_or before g 0)
    go g None e = let h = (header_holds eqb l e).few Groups in rw zero-add at (noted_slot l Groups (count_of l Groups) 9 0 before g (omega (arith, limit_groups)))
    go g (Some x) e = refl

-- each group's place is in its slot, where the image passes 1 to 7
slot_placed : (l : List ℕ) → LaidOut l → (g was : ℕ) → g < count_of l Groups → group_slot l g was ≡ place_of l Groups g
unfolding group_slot
slot_placed l e g was h =
    let none-header = holds_header eqb l (laid_header l e) in
    let none_before = section_prefix l Groups (start_of l Groups) (count_of l Groups) g (omega arith) (body_sections l (laid_body l e) Groups) in
    unless_accepted _ _ (or_else_none none-header none_before) ∙ simp (lt-ltb g (count_of l Groups) h)

module _ (l before after : List ℕ) (r : Outcome Starts) where
  pub survey_placed : Surveys l before r after → Accepted l → (g : ℕ) → g < count_of l Groups → get_or after g 0 ≡ place_of l Groups g
  survey_placed q e g h = q.groups g ∙ slot_placed l (accepted_laid l e) g _ h

module _ (l before after : List ℕ) (r : Outcome Starts) (c : Checks l before r after) where
  -- what 1 to 7 answer
  pub checks_refused : (f : Refusal) → Err f ≡ r → layout_fault l ≡ Some f
  checks_refused f e = outcome_refused (layout_fault l) (starts l) (e ∙ c.sections)

  pub checks_laid : (s : Starts) → Ok s ≡ r → LaidOut l × (s ≡ starts l)
  checks_laid s e = outcome_gives (layout_fault l) (starts l) (e ∙ c.sections)

  -- and the table
  module _ (n : length before ≡ 256) where
    pub checks_groups : (g : ℕ) → get_or after g 0 ≡ group_slot l g (get_or before g 0)
    checks_groups = tabled l before after n c.table

    pub checks_placed : LaidOut l → Placed l after (count_of l Groups)
    checks_placed e =
        record { laid = e; count = refl; place = λ g h. checks_groups g ∙ slot_placed l e g (get_or before g 0) h }

-- the twins behind 1 to 7
pub check_refused : (l : List ℕ) (f : Refusal) → layout_fault l ≡ Some f → Err f ≡ outcome (check l) (starts l)
check_refused l f e = rw (check_split l ∙ or_else_first _ e)

pub check_twin : (l : List ℕ) {f : Refusal} → LaidOut l → twin_fault l ≡ Some f → Err f ≡ outcome (check l) (starts l)
check_twin l e t = rw (check_split l ∙ or_else_next _ e ∙ t)

pub check_none : (l : List ℕ) → LaidOut l → twin_fault l ≡ None → Ok (starts l) ≡ outcome (check l) (starts l)
check_none l e t = rw (check_split l ∙ or_else_next _ e ∙ t)

-- and where there is one group or none
pub check_few : (l : List ℕ) → twin_fault l ≡ None → layout_fault l ≡ check l
check_few l e = sym (check_split l ∙ ap (λ (o : Option Refusal). layout_fault l or_else o) e ∙ or_else_nothing (layout_fault l))

-- the table of alike groups
pub alike_refused : (l : List ℕ) (f : Refusal) → layout_fault l ≡ Some f → (g was : ℕ) → was ≡ alike_slot l g was
unfolding alike_slot
alike_refused l f e g was = sym (unless_refused_lem _ _ e)

pub alike_filled :
    (l before after : List ℕ) → LaidOut l → Fills (policy_of l).groups (count_of l Groups) before after
    → (g : ℕ) → get_or after g 0 ≡ alike_slot l g (get_or before g 0)
unfolding alike_slot
alike_filled l before after e s g = s.slot g ∙ sym (unless_accepted _ _ e)

-- what a slot of it holds, for a caller
pub alike_slot_lem :
    (l : List ℕ) (g was : ℕ) → LaidOut l → g < count_of l Groups
    → alike_slot l g was ≡ number_of (get_or (policy_of l).groups g []) (policy_of l).groups
unfolding alike_slot
alike_slot_lem l g was e h = unless_accepted _ _ e ∙ simp (lt-ltb g (count_of l Groups) h)
