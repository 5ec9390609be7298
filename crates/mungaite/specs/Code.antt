-- The other answers as numbers of four 16-bit parts, as a decision's is (`decision_code`).
--     fault_code f         0 where nothing is refused, else the refusal
--     record_code l s n    0, 1, place, length of record n of section s: 0 groups, 1 rules, 2 constraints; or the refusal,
--                         which is 14 where there is no such section
--     add_code b r         0, 1, 0, number of the new record, or the refusal
--     convert_code l n     0, 1, 0, length of the new image of l, for a buffer of n bytes, or the refusal
-- What a text builds is a number of two parts, the highest 16 bits and the other 48:
--     build_code o         0 and the length of the image, or the refusal's number and the low 48 bits of its place in the text
use Rattle.std.specs.Prelude.{ℕ, ◌+◌, ◌*◌, ◌%◌, cond, List, length, eqb}
use Rattle.std.specs.Prelude.{Option, None, Some}
use Rattle.format.specs.declared.Section.{Section}
use Rattle.format.specs.declared.Section.TheVariants.{Groups, Rules, Constraints}
use Rattle.format.specs.declared.Refusal.{Refusal}
use Rattle.format.specs.declared.Extent.{Extent}
use Rattle.format.specs.Refusals.{refusal, ◌or_else◌}
use Rattle.format.specs.Check.{check}
use Rattle.std.specs.Prelude.{Ok, Err}
use Rattle.format.specs.Answers.{Outcome, outcome, extent}
use Rattle.format.specs.Give.{give_fault}
use Rattle.extension.specs.Add.{add_fault, new_number}
use Rattle.decision.specs.Numbers.{parts_of, refusal_code, code_of}
use Rattle.conversion.specs.Convert.{converted_image, convert_fault}

abbrev pub fault_code : Option Refusal → ℕ
fault_code None = 0
fault_code (Some f) = refusal_code f

abbrev pub extent_code : Extent → ℕ
extent_code e = parts_of 1 e.place e.length

unfoldable pub record_in : List ℕ → Section → ℕ → ℕ
record_in l s n = code_of extent_code (outcome (give_fault l s n) (extent l s n))

unfoldable pub record_code : List ℕ → ℕ → ℕ → ℕ
record_code l s n =
    cond (eqb s 0) (record_in l Groups n)
    (cond (eqb s 1) (record_in l Rules n) (cond (eqb s 2) (record_in l Constraints n) (fault_code (check l or_else Some (refusal 14 0)))))

unfoldable pub add_code : List ℕ → List ℕ → ℕ
add_code b r = code_of (parts_of 1 0) (outcome (add_fault b r) (new_number b r))

unfoldable pub convert_code : List ℕ → ℕ → ℕ
convert_code l n = code_of (parts_of 1 0) (outcome (convert_fault l n) (length (converted_image l)))

-- 48 bits
abbrev pub place_span : ℕ
place_span = 281474976710656

unfoldable pub build_code : Outcome ℕ → ℕ
build_code (Ok n) = n
build_code (Err f) = f.number * place_span + f.place % place_span
