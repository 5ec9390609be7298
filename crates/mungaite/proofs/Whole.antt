-- No part of an answer is cut: claims CheckWhole, RecordWhole, AddWhole, ConvertWhole, RunWhole. Assumes nothing.
--     give_fits, add_fits, convert_fits, run_fits   a refusal fits, by the laws that say how large one is
use Prim.Native.Nat.{ℕ}
use mathlib.Core.Path.{◌≡◌, refl, sym, subst}
use mathlib.Core.Logic.{⊎_elim}
use Rattle.std.specs.Prelude.{Option, None, Some}
use mathlib.Core.List.{List}
use native.Mathlib.Omega.{arith}
use lib.ListN.{length, get_or}
use Rattle.format.specs.declared.Section.{Section}
use Rattle.format.specs.declared.Refusal.{Refusal}
use Rattle.format.specs.Refusals.{refusal, ◌or_else◌}
use Rattle.format.specs.Bytes.{Bytes}
use Rattle.format.specs.Policy.{record_at, place_of}
use Rattle.format.specs.Check.{check}
use Rattle.format.specs.Answers.{outcome, extent}
use Rattle.format.specs.Give.{give_fault}
use Rattle.format.proofs.Chain.{or_else_refuses}
use Rattle.format.proofs.ByCase.{limit_most}
use Rattle.format.proofs.Shapes.{shape_most}
use Rattle.format.proofs.Accepted.{accepted_header, record_formed, record_is, give_split, given_at}
use Rattle.format.proofs.Reach.{longest_image}
use Rattle.format.proofs.Bounds.{layout_small, front_small, give_refused}
use Rattle.extension.specs.Add.{section_of, new_number, add_fault}
use Rattle.extension.proofs.Adds.{own_refused, add_refused, number_few}
use Rattle.decision.specs.Numbers.{RefusalFits, OutcomeFits}
use Rattle.decision.proofs.Numbers.{known_fits, check_fits}
use Rattle.conversion.specs.Convert.{converted_image, convert_fault}
use Rattle.conversion.proofs.Buffers.{fault_parts, convert_refused}
use Rattle.conversion.proofs.Convert.{converted_accepted}
use Rattle.runs.specs.Runs.{first_unfit}
use Rattle.runs.specs.Numbers.{rows_of, numbers_fault}
use Rattle.runs.proofs.Faults.{numbers_named}
use Rattle.runs.proofs.Numbered.{row_below, numbers_run_is}
use Rattle.mungaite.specs.Claims.{FaultFits, ExtentFits, NumberFits, ConvertedFits, RowFits, CheckWhole, RecordWhole, AddWhole, ConvertWhole, RunWhole}

fault_fits : (o : Option Refusal) → ((f : Refusal) → o ≡ Some f → RefusalFits f) → FaultFits o
fault_fits None h = tt
fault_fits (Some f) h = h f refl

outcome_fits : {A : Type 0} (P : A → Type 0) (o : Option Refusal) (a : A) → ((f : Refusal) → o ≡ Some f → RefusalFits f) → (o ≡ None → P a) → OutcomeFits P (outcome o a)
outcome_fits P None a h k = k refl
outcome_fits P (Some f) a h k = h f refl

-- ---- the check

pub check_whole : CheckWhole
check_whole l b = fault_fits (check l) (check_fits l)

-- ---- a record's place and length

give_fits : (l : List ℕ) (s : Section) (n : ℕ) (f : Refusal) → give_fault l s n ≡ Some f → RefusalFits f
give_fits l s n f e = ⊎_elim (check_fits l f) (λ z. known_fits 14 0 f (sym z) (omega arith) (omega arith)) (give_refused l s n f e)

extent_fits : (l : List ℕ) (s : Section) (n : ℕ) → give_fault l s n ≡ None → ExtentFits (extent l s n)
extent_fits l s n e =
    let q = give_split l s n e in
    let g = (given_at l s n e).inside in
    let m = longest_image l q.0 in
    let k = shape_most (record_at l (place_of l s n)) (record_formed l q.0 s n q.1).shape in
    (omega arith, rw (record_is l q.0 s n q.1) k)

pub record_whole : RecordWhole
record_whole l b = (
  λ s n. outcome_fits ExtentFits (give_fault l s n) (extent l s n) (give_fits l s n) (extent_fits l s n),
  fault_fits (check l or_else Some (refusal 14 0))
      (or_else_refuses RefusalFits (check l) (Some (refusal 14 0)) (check_fits l)
      (λ _ f e. let z : refusal 14 0 ≡ f = cc in known_fits 14 0 f z (omega arith) (omega arith))),
)

-- ---- an added record's number

add_fits : (b r : List ℕ) (f : Refusal) → add_fault b r ≡ Some f → RefusalFits f
add_fits b r f e =
    ⊎_elim (λ k. let q = front_small b f k in (omega (arith, q.0), omega (arith, q.1)))
    (λ k. let q = own_refused b r f k in (omega (arith, q.1), omega (arith, q.2)))
    (add_refused b r f e)

number_fits : (b r : List ℕ) → add_fault b r ≡ None → NumberFits (new_number b r)
number_fits b r e = omega (arith, number_few b r e, limit_most (section_of (get_or r 1 0)))

pub add_whole : AddWhole
add_whole b h r = outcome_fits NumberFits (add_fault b r) (new_number b r) (add_fits b r) (number_fits b r)

-- ---- a new image's length

convert_fits : (l : List ℕ) (n : ℕ) (f : Refusal) → convert_fault l n ≡ Some f → RefusalFits f
convert_fits l n f e =
    ⊎_elim (λ k. let q = layout_small l f k in (omega (arith, q.0), omega (arith, q.1)))
    (λ z. known_fits 13 0 f (sym z) (omega arith) (omega arith)) (convert_refused l n f e)

converted_fits : (l : List ℕ) → Bytes l → (n : ℕ) → convert_fault l n ≡ None → ConvertedFits (length (converted_image l))
converted_fits l b n e =
    let a = (converted_accepted l b (fault_parts l n e).0).accepted in
    ((accepted_header (converted_image l) a).long, longest_image (converted_image l) a)

pub convert_whole : ConvertWhole
convert_whole l b n = outcome_fits ConvertedFits (convert_fault l n) (length (converted_image l)) (convert_fits l n) (converted_fits l b n)

-- ---- what a run comes to

run_fits : (l : List ℕ) (n m : ℕ) (f : Refusal) → numbers_fault l n m ≡ Some f → RefusalFits f
run_fits l n m f e =
    ⊎_elim (check_fits l f)
    (⊎_elim (λ z. known_fits 16 0 f (sym z) (omega arith) (omega arith)) (λ z. known_fits 17 0 f (sym z) (omega arith) (omega arith)))
    (numbers_named l n m f e)

row_fits : (l ns : List ℕ) (m : ℕ) → numbers_fault l (length ns) m ≡ None → RowFits (first_unfit l (rows_of ns))
row_fits l ns m e = go (first_unfit l (rows_of ns)) refl
  where
    go : (o : Option ℕ) → first_unfit l (rows_of ns) ≡ o → RowFits o
    go None k = tt
    go (Some n) k = row_below l ns m n e k

pub run_whole : RunWhole
run_whole l b ns m =
    subst (OutcomeFits RowFits) (sym (numbers_run_is l ns m))
    (outcome_fits RowFits (numbers_fault l (length ns) m) (first_unfit l (rows_of ns)) (run_fits l (length ns) m) (row_fits l ns m))
