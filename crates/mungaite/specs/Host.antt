-- How a host reads the other numbers that it is answered, as it does a decision's (`host_decision`).
--     section_number s     MUNGAITE_GROUPS, MUNGAITE_RULES, MUNGAITE_CONSTRAINTS
--     host_checked n       what mungaite_check says: the refusal, where there is one
--     host_found n         what mungaite_record says
--     host_added n         what mungaite_add and mungaite_convert say
--     host_run n           what mungaite_run says: fit, which is no row, or the first row that is not Permitted
--     host_built n         what mungaite_build says, by MUNGAITE_BUILD_REFUSAL and MUNGAITE_BUILD_REST
use Rattle.std.specs.Prelude.{ℕ, ◌/◌, ◌%◌, cond, eqb}
use Rattle.std.specs.Prelude.{Option, None, Some}
use Rattle.format.specs.declared.Section.{Section}
use Rattle.format.specs.declared.Section.TheVariants.{Groups, Rules, Constraints}
use Rattle.format.specs.declared.Refusal.{Refusal}
use Rattle.format.specs.declared.Extent.{Extent}
use Rattle.format.specs.Refusals.{refusal}
use Rattle.std.specs.Prelude.{Ok, Err}
use Rattle.format.specs.Answers.{Outcome}
use Rattle.decision.specs.Numbers.{kind_part, third_part, fourth_part, host_refusal}
use Rattle.mungaite.specs.Code.{place_span}

abbrev pub section_number : Section → ℕ
section_number Groups = 0
section_number Rules = 1
section_number Constraints = 2

unfoldable pub host_checked : ℕ → Option Refusal
host_checked n = cond (eqb (kind_part n) 2) (Some (host_refusal n)) None

unfoldable pub host_found : ℕ → Outcome Extent
host_found n = cond (eqb (kind_part n) 2) (Err (host_refusal n)) (Ok (record { place = third_part n; length = fourth_part n }))

unfoldable pub host_added : ℕ → Outcome ℕ
host_added n = cond (eqb (kind_part n) 2) (Err (host_refusal n)) (Ok (fourth_part n))

unfoldable pub host_run : ℕ → Outcome (Option ℕ)
host_run n = cond (eqb (kind_part n) 2) (Err (host_refusal n)) (cond (eqb (kind_part n) 1) (Ok None) (Ok (Some (fourth_part n))))

unfoldable pub host_built : ℕ → Outcome ℕ
host_built n = cond (eqb (n / place_span) 0) (Ok (n % place_span)) (Err (refusal (n / place_span) (n % place_span)))
