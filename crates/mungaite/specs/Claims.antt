-- What is claimed of the other answers as numbers, as it is of a decision's (DecideWhole, DecideRead), and proved in proofs/.
-- No part is cut:
--     FaultFits o         a refusal's parts fit, where there is one
--     ExtentFits e        a record's place fits, and its length is at most 130, the longest record's
--     NumberFits n        the number of an added record is below 1,024
--     RowFits o           the row that a run names is below 64
--     CheckWhole          the check's refusal, of any image
--     RecordWhole         record n of any section of any image; and where there is no such section
--     AddWhole            the refusal or the new record's number, of any buffer and any record
--     RunWhole            what any run on any image comes to
--     ConvertedFits n     the length of a new image is 9 to 55,561
--     ConvertWhole        the refusal or that length, of any image and any buffer
--     BuiltFits o         the image's length is 9 to 55,561; a refusal's number is at most 20, and its place below 2^48
--     BuildWhole          what any text below 2^48 bytes builds in any buffer
-- So what a host reads from the number is the answer itself, of every image of bytes:
--     CheckRead, RecordRead, AddRead, ConvertRead   by each of the other functions
--     RunRead             by a run, and in the slot of each of its rows
--     BuildRead           by building from a text
use Rattle.std.specs.Prelude.{ℕ, ◌+◌, ◌*◌, ◌≤◌, ◌<◌, ◌≡◌, List, length, get_or}
use Rattle.std.specs.Prelude.{Option, None, Some}
use Rattle.format.specs.declared.Section.{Section}
use Rattle.format.specs.declared.Refusal.{Refusal}
use Rattle.format.specs.declared.Extent.{Extent}
use Rattle.format.specs.Bytes.{Bytes}
use Rattle.format.specs.Refusals.{refusal, ◌or_else◌}
use Rattle.format.specs.Check.{check}
use Rattle.std.specs.Prelude.{Ok, Err}
use Rattle.format.specs.Answers.{Outcome, outcome, extent}
use Rattle.format.specs.Give.{give_fault}
use Rattle.extension.specs.Add.{add_fault, new_number}
use Rattle.decision.specs.Decide.{answer, query_of}
use Rattle.decision.specs.Numbers.{Part, RefusalFits, OutcomeFits, host_decision}
use Rattle.conversion.specs.Convert.{converted_image, convert_fault}
use Rattle.runs.specs.Numbers.{numbers_fault, numbers_run, codes_after, run_code}
use Rattle.text.specs.Build.{built}
use Rattle.mungaite.specs.Code.{fault_code, record_code, add_code, convert_code, place_span, build_code}
use Rattle.mungaite.specs.Host.{section_number, host_checked, host_found, host_added, host_run, host_built}

abbrev pub FaultFits : Option Refusal → Type 0
FaultFits None = Unit
FaultFits (Some f) = RefusalFits f

abbrev pub ExtentFits : Extent → Type 0
ExtentFits e = Part e.place × (e.length ≤ 130)

abbrev pub NumberFits : ℕ → Type 0
NumberFits n = n < 1024

abbrev pub RowFits : Option ℕ → Type 0
RowFits None = Unit
RowFits (Some n) = n < 64

abbrev pub CheckWhole : Type 0
CheckWhole = (l : List ℕ) → Bytes l → FaultFits (check l)

abbrev pub RecordWhole : Type 0
RecordWhole =
    (l : List ℕ) → Bytes l
    → ((s : Section) (n : ℕ) → OutcomeFits ExtentFits (outcome (give_fault l s n) (extent l s n)))
    × FaultFits (check l or_else Some (refusal 14 0))

abbrev pub AddWhole : Type 0
AddWhole = (b : List ℕ) → Bytes b → (r : List ℕ) → OutcomeFits NumberFits (outcome (add_fault b r) (new_number b r))

abbrev pub RunWhole : Type 0
RunWhole = (l : List ℕ) → Bytes l → (ns : List ℕ) (slots : ℕ) → OutcomeFits RowFits (numbers_run l ns slots)

abbrev pub ConvertedFits : ℕ → Type 0
ConvertedFits n = (9 ≤ n) × (n ≤ 55561)

abbrev pub ConvertWhole : Type 0
ConvertWhole = (l : List ℕ) → Bytes l → (n : ℕ) → OutcomeFits ConvertedFits (outcome (convert_fault l n) (length (converted_image l)))

abbrev pub CheckRead : Type 0
CheckRead = (l : List ℕ) → Bytes l → host_checked (fault_code (check l)) ≡ check l

abbrev pub RecordRead : Type 0
RecordRead =
    (l : List ℕ) → Bytes l
    → ((s : Section) (n : ℕ) → host_found (record_code l (section_number s) n) ≡ outcome (give_fault l s n) (extent l s n))
    × ((s n : ℕ) → 2 < s → host_checked (record_code l s n) ≡ check l or_else Some (refusal 14 0))

abbrev pub AddRead : Type 0
AddRead = (b : List ℕ) → Bytes b → (r : List ℕ) → host_added (add_code b r) ≡ outcome (add_fault b r) (new_number b r)

abbrev pub ConvertRead : Type 0
ConvertRead = (l : List ℕ) → Bytes l → (n : ℕ) → host_added (convert_code l n) ≡ outcome (convert_fault l n) (length (converted_image l))

abbrev pub RunRead : Type 0
RunRead =
    (l : List ℕ) → Bytes l → (ns ys : List ℕ)
    → (host_run (run_code (numbers_run l ns (length ys))) ≡ numbers_run l ns (length ys))
    × ((i : ℕ) → numbers_fault l (length ns) (length ys) ≡ None → i < length ys
    → host_decision (get_or (codes_after l ns ys) i 0)
    ≡ answer l (query_of (get_or ns (6 * i) 0) (get_or ns (6 * i + 1) 0) (get_or ns (6 * i + 2) 0) (get_or ns (6 * i + 3) 0)
    (get_or ns (6 * i + 4) 0 * 65536 + get_or ns (6 * i + 5) 0)))

abbrev pub BuiltFits : Outcome ℕ → Type 0
BuiltFits (Ok n) = (9 ≤ n) × (n ≤ 55561)
BuiltFits (Err f) = (0 < f.number) × (f.number ≤ 20) × (f.place < place_span)

abbrev pub BuildWhole : Type 0
BuildWhole = (text b : List ℕ) → length text < place_span → BuiltFits (built text b).answer

abbrev pub BuildRead : Type 0
BuildRead = (text b : List ℕ) → length text < place_span → host_built (build_code (built text b).answer) ≡ (built text b).answer
