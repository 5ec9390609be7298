-- What a text does, by the statement: for BuildingTerms. No claim's own proof is cited. Assumes nothing.
use Prim.Native.Nat.{ℕ, suc, ◌≤◌}
use native.Mathlib.Omega.{arith}
use mathlib.Core.Path.{◌≡◌, sym, subst, ap, ◌∙◌}
use mathlib.Core.Bool.{true, false, ◌||◌}
use Rattle.std.specs.Prelude.{None, Some}
use mathlib.Core.List.{List, [], ◌∷◌, ◌++◌}
use lib.ListN.{length, get_or, drop, replicate, length-replicate}
use lib.Seq.{drop-append_seam, get_or-append_seam}
use lib.Dec.{eqb}
use borrow.Author.Tests.{ne_eqb}
use Rattle.format.specs.declared.Refusal.{Refusal}
use Rattle.format.specs.Refusals.{refusal}
use Rattle.format.specs.Policy.{image_of, policy_of}
use Rattle.format.specs.Check.{image_in}
use Rattle.std.specs.Prelude.{Ok, Err}
use Rattle.format.specs.Claims.{WellFormed}
use Rattle.format.specs.Sample.{empty}
use Rattle.format.proofs.Chain.{some_not_none}
use Rattle.format.proofs.Tests.{false_not_true}
use Rattle.format.proofs.Front.{image_in_of}
use Rattle.extension.specs.Add.{add_fault, overwrite}
use Rattle.extension.specs.Claims.{add_all}
use Rattle.extension.proofs.Trip.{overwrite_is}
use Rattle.text.specs.Words.{ascii, split}
use Rattle.text.specs.Rows.{record_of_row}
use Rattle.text.specs.Build.{Made, built}
use Rattle.text.specs.Claims.{records_in, record_count, complete, all_added, RowAt, first, behind, Cause, outside, not_added, Leaves, Kept}
use Rattle.text.proofs.Rows.{answer_of, gives_not_refused}
use Rattle.text.proofs.Follow.{built_long, by_length}
use Rattle.claims.specs.Promises.{Promises}
use Rattle.claims.specs.Terms.{left, outside_behind}
use Rattle.claims.proofs.Worked.{texts, feeds_rows, none_added, none_after, outside_rows_lem}

-- a place where a row starts, but the first, stands behind a line feed
pub behind_feed : (text : List ℕ) (at n : ℕ) → RowAt text at → at ≡ suc n → get_or text n 0 ≡ 10
behind_feed text at n (first e) h = absurd (omega arith)
behind_feed text at n (behind before more t e) h =
    let i : n ≡ length before = omega arith in
    ap (λ (x : List ℕ). get_or x n 0) t ∙ ap (λ (k : ℕ). get_or (before ++ (10 ∷ more)) k 0) i ∙ get_or-append_seam before 10 more 0

-- a cause, by the row that is refused
pub cause_outside : (row b : List ℕ) (n : ℕ) → Cause row b n → record_of_row row ≡ None → n ≡ 18
cause_outside row b n (outside e h) k = h
cause_outside row b n (not_added r f e h i) k = some_not_none (sym e ∙ k)

pub cause_added :
    (row b r : List ℕ) (n : ℕ) → Cause row b n → record_of_row row ≡ Some r → (g : Refusal) × (add_fault b r ≡ Some g) × (n ≡ g.number)
cause_added row b r n (outside e h) k = some_not_none (sym k ∙ e)
cause_added row b r n (not_added q f e h i) k =
    let z : Some q ≡ Some r = sym e ∙ k in
    let j : q ≡ r = cc in
    (f, ap (add_fault b) (sym j) ∙ h, i)

-- the row that is refused is the one that is there
pub cause_there :
    (text b row : List ℕ) (rows : List (List ℕ)) (f : Refusal) → Kept text b f → split 10 (drop f.place text) ≡ row ∷ rows
    → Cause row (left text b) f.number
cause_there text b row rows f k e =
    let z : k.own ∷ k.later ≡ row ∷ rows = sym k.rows ∙ e in
    let i : k.own ≡ row = cc in
    subst (λ (x : List ℕ). Cause x (left text b) f.number) i k.cause

module _ (p : Promises) where
  -- ---- what a text leaves

  -- no record
  pub none_built : (text b : List ℕ) → 9 ≤ length b → records_in (split 10 text) ≡ Some [] → built text b ≡ complete (overwrite empty b)
  none_built text b h e =
      p.building.rows_enough text b [] h e (none_added (overwrite empty b))
      ∙ ap (λ (x : List ℕ). complete x) (none_after (overwrite empty b))

  pub empty_built : (b : List ℕ) → 9 ≤ length b → built [] b ≡ complete (overwrite empty b)
  empty_built b h = none_built [] b h texts.no_rows

  -- where a text is not refused, the buffer has 9 bytes, and no text leaves no record
  long : {C : Type 0} (text b : List ℕ) (n : ℕ) → (built text b).answer ≡ Ok n → (9 ≤ length b → C) → C
  long text b n e f = by_length b (λ h. gives_not_refused (sym e ∙ ap answer_of (p.building.refused_short text b h))) f

  none_counted : (b : List ℕ) → 9 ≤ length b → record_count (left [] b) ≡ 0
  none_counted b h =
      let a = p.building.each_row_added [] b _ (ap answer_of (empty_built b h)) in
      let z : Some a.records ≡ Some [] = sym a.from_rows ∙ texts.no_rows in
      let i : a.records ≡ [] = cc in
      a.count ∙ ap length i

  pub row_counts :
      (row b : List ℕ) (n : ℕ) → split 10 row ≡ row ∷ [] → 1 ≤ length row → (built row b).answer ≡ Ok n → record_count (left row b) ≡ 1
  row_counts row b n alone some_bytes e =
      long row b n e (λ h. (p.building.last_row_counts row b alone (omega arith)).0 n e ∙ ap suc (none_counted b h))

  pub rows_left :
      (text b : List ℕ) (n : ℕ) (rs : List (List ℕ)) → (built text b).answer ≡ Ok n → records_in (split 10 text) ≡ Some rs
      → (left text b ≡ add_all (overwrite empty b) rs) × (record_count (left text b) ≡ length rs) × all_added (overwrite empty b) rs
  rows_left text b n rs e h =
      let a = p.building.each_row_added text b n e in
      let z : Some a.records ≡ Some rs = sym a.from_rows ∙ h in
      let i : a.records ≡ rs = cc in
      let w : List ℕ = overwrite empty b in
      subst (λ (x : List (List ℕ)). (left text b ≡ add_all w x) × (record_count (left text b) ≡ length x) × all_added w x) i
      (a.buffer, a.count, a.none_refused)

  module _ (text b : List ℕ) (h : 9 ≤ length b) where
    holds : Leaves b (left text b)
    holds = p.building.built_accepted text b h

    i : List ℕ
    i = image_of holds.policy

    whole : left text b ≡ i ++ drop (length i) b
    unfolding i
    whole = holds.image ∙ overwrite_is (image_of holds.policy) b

    image_is : image_in (left text b) ≡ i
    unfolding i
    image_is =
        ap image_in whole ∙ image_in_of i (drop (length i) b) (p.reading.well_formed_is_accepted holds.policy holds.well_formed holds.twins).1

    pub left_well_formed : WellFormed (policy_of (image_in (left text b)))
    unfolding i
    left_well_formed =
        subst WellFormed (sym (ap policy_of image_is ∙ (p.reading.well_formed_is_accepted holds.policy holds.well_formed holds.twins).2))
        holds.well_formed

    pub left_behind :
        (drop (length (image_in (left text b))) (left text b) ≡ drop (length (image_in (left text b))) b) × (length (left text b) ≡ length b)
    left_behind = (
      ap (λ (x : List ℕ). drop (length x) (left text b)) image_is ∙ ap (drop (length i)) whole ∙ drop-append_seam i (drop (length i) b)
          ∙ ap (λ (x : List ℕ). drop (length x) b) (sym image_is),
      holds.same_length,
    )

  -- ---- rows behind others

  pub next_outside :
      (text b : List ℕ) (n : ℕ) → (built text b).answer ≡ Ok n
      → built (text ++ (10 ∷ ascii "x")) b ≡ record { answer = Err (refusal 18 (suc (length text))); buffer = left text b }
  next_outside text b n e =
      p.building.next_rows text (ascii "x") b n e ∙ outside_rows_lem p.building.worked_outside (suc (length text)) (left text b)

  pub far_outside :
      (n : ℕ) (b : List ℕ) → 9 ≤ length b
      → built (outside_behind n) b ≡ record { answer = Err (refusal 18 (suc n)); buffer = overwrite empty b }
  far_outside n b h =
      let q = none_built (replicate n 10) b h (feeds_rows n) in
      let place : suc (length (replicate {A = ℕ} n 10)) ≡ suc n = ap suc (length-replicate {A = ℕ} n 10) in
      let m : List ℕ → Made = λ x. record { answer = Err (refusal 18 (suc n)); buffer = x } in
      next_outside (replicate n 10) b _ (ap answer_of q)
      ∙ ap (λ (k : ℕ). record { answer = Err (refusal 18 k); buffer = left (replicate n 10) b }) place
      ∙ ap (λ (x : Made). m x.buffer) q

  pub first_built : (b : List ℕ) → 9 ≤ length b → built (ascii "x") b ≡ record { answer = Err (refusal 18 0); buffer = overwrite empty b }
  first_built b h = built_long (ascii "x") b h ∙ outside_rows_lem p.building.worked_outside 0 (overwrite empty b)

  pub own_alone :
      (text b : List ℕ) (f : Refusal) → (built text b).answer ≡ Err f → (f.number ≡ 11 → ⊥) → (f.number ≡ 12 → ⊥)
      → (f.number ≡ 13 → ⊥) → (f.number ≡ 18 → ⊥) → (f.number ≡ 20 → ⊥) → ⊥
  own_alone text b f e h₁ h₂ h₃ h₄ h₅ =
      let n = f.number in
      false_not_true (rw (ne_eqb n 11 h₁, ne_eqb n 12 h₂, ne_eqb n 13 h₃, ne_eqb n 18 h₄, ne_eqb n 20 h₅) at (p.building.own_numbers text b f e))

  pub never :
      (text b : List ℕ) (f : Refusal) → (built text b).answer ≡ Err f → (n : ℕ) → f.number ≡ n
      → (eqb n 11 || eqb n 12 || eqb n 13 || eqb n 18 || eqb n 20) ≡ false → ⊥
  never text b f e n h z =
      let own = p.building.own_numbers text b f e in
      false_not_true (sym z ∙ subst (λ (k : ℕ). (eqb k 11 || eqb k 12 || eqb k 13 || eqb k 18 || eqb k 20) ≡ true) h own)
