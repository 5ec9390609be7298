-- What a host reads from a number is the answer: claims CheckRead, RecordRead, AddRead, RunRead. Each follows from the claim
-- that no part is cut and from PartsRead alone. Assumes nothing.
use Prim.Native.Nat.{ℕ, ◌+◌, ◌*◌, ◌<◌}
use mathlib.Core.Path.{◌≡◌, refl, ap, ◌∙◌}
use Rattle.std.specs.Prelude.{Option, None, Some}
use native.Mathlib.Omega.{arith}
use lib.ListN.{length, get_or}
use Rattle.format.specs.declared.Section.{Section}
use Rattle.format.specs.declared.Section.TheVariants.{Groups, Rules, Constraints}
use Rattle.format.specs.declared.Refusal.{Refusal}
use Rattle.format.specs.declared.Extent.{Extent}
use Rattle.format.specs.Refusals.{refusal, ◌or_else◌}
use Rattle.format.specs.Check.{check}
use Rattle.std.specs.Prelude.{Ok, Err}
use Rattle.format.specs.Answers.{Outcome, outcome, extent}
use Rattle.format.specs.Give.{give_fault}
use Rattle.extension.specs.Add.{add_fault, new_number}
use Rattle.decision.specs.Numbers.{parts_of, code_of, OutcomeFits}
use Rattle.decision.specs.Decide.{query_of}
use Rattle.decision.specs.Numbers.{host_decision}
use Rattle.decision.proofs.Numbers.{parts_read, refused_kind, refused_back, decide_read}
use Rattle.runs.specs.Numbers.{numbers_run, run_code}
use Rattle.conversion.specs.Convert.{converted_image, convert_fault}
use Rattle.runs.proofs.Numbered.{numbers_answered}
use Rattle.mungaite.specs.Code.{fault_code, extent_code, record_in, record_code, add_code, convert_code}
use Rattle.mungaite.specs.Host.{section_number, host_checked, host_found, host_added, host_run}
use Rattle.mungaite.specs.Claims.{FaultFits, ExtentFits, NumberFits, ConvertedFits, RowFits, CheckRead, RecordRead, AddRead, ConvertRead, RunRead}
use Rattle.mungaite.proofs.CodeLaws.{record_groups, record_rules, record_constraints, record_nowhere}
use Rattle.mungaite.proofs.Whole.{check_whole, record_whole, add_whole, convert_whole, run_whole}

fault_back : (o : Option Refusal) → FaultFits o → host_checked (fault_code o) ≡ o
unfolding host_checked
fault_back None h = refl
fault_back (Some f) h = simp (refused_kind f h, refused_back f h)

pub check_read : CheckRead
check_read l b = fault_back (check l) (check_whole l b)

extent_back : (o : Outcome Extent) → OutcomeFits ExtentFits o → host_found (code_of extent_code o) ≡ o
unfolding host_found
extent_back (Err f) h = simp (refused_kind f h, refused_back f h)
extent_back (Ok e) h =
    let p = parts_read 1 e.place e.length (omega arith) h.0 (omega (arith, h.1)) in
    simp (p.0, p.1, p.2)

pub record_read : RecordRead
unfolding record_in
record_read l b = (
  λ s n. ap host_found (in_section s n) ∙ extent_back (outcome (give_fault l s n) (extent l s n)) ((record_whole l b).0 s n),
  λ s n h. ap host_checked (record_nowhere l s n (λ e. absurd (omega arith)) (λ e. absurd (omega arith)) (λ e. absurd (omega arith)))
      ∙ fault_back (check l or_else Some (refusal 14 0)) (record_whole l b).1,
)
  where
    in_section : (s : Section) (n : ℕ) → record_code l (section_number s) n ≡ record_in l s n
    in_section Groups n = record_groups l 0 n refl
    in_section Rules n = record_rules l 1 n refl
    in_section Constraints n = record_constraints l 2 n refl

number_back : (P : ℕ → Type 0) → ((n : ℕ) → P n → n < 65536) → (o : Outcome ℕ) → OutcomeFits P o → host_added (code_of (parts_of 1 0) o) ≡ o
unfolding host_added
number_back P small (Err f) h = simp (refused_kind f h, refused_back f h)
number_back P small (Ok n) h =
    let p = parts_read 1 0 n (omega arith) (omega arith) (small n h) in
    simp (p.0, p.2)

pub add_read : AddRead
unfolding add_code
add_read b h r = number_back NumberFits (λ n k. omega arith) (outcome (add_fault b r) (new_number b r)) (add_whole b h r)

pub convert_read : ConvertRead
unfolding convert_code
convert_read l b n =
    number_back ConvertedFits (λ m k. omega (arith, k.1)) (outcome (convert_fault l n) (length (converted_image l))) (convert_whole l b n)

run_back : (o : Outcome (Option ℕ)) → OutcomeFits RowFits o → host_run (run_code o) ≡ o
unfolding host_run
run_back (Err f) h = simp (refused_kind f h, refused_back f h)
run_back (Ok None) h =
    let p = parts_read 1 0 0 (omega arith) (omega arith) (omega arith) in
    simp p.0
run_back (Ok (Some n)) h =
    let p = parts_read 0 0 n (omega arith) (omega arith) (omega arith) in
    simp (p.0, p.2)

pub run_read : RunRead
run_read l b ns ys = (
  run_back (numbers_run l ns (length ys)) (run_whole l b ns (length ys)),
  λ i e k. ap host_decision (numbers_answered l ns ys i 0 e k) ∙ decide_read l b (query_of (get_or ns (6 * i) 0) (get_or ns (6 * i + 1) 0) (get_or ns (6 * i + 2) 0) (get_or ns (6 * i + 3) 0) (get_or ns (6 * i + 4) 0 * 65536 + get_or ns (6 * i + 5) 0)),
)
