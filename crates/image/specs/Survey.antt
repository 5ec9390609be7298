-- What the check of an image hands out beside its answer (document 01, "When the engine says no": the check goes through the
-- header and then through the records, one after the other, to the first refusal).
--     group_slot l g was          slot g of a table of places after the check of an image, where it was a number before: the
--                                place of group g, where the check comes to it (the header passes, there is a group g, and
--                                the groups before it are whole); else as it was
--     alike_slot l g was          slot g of a table of alike groups, where it was a number before: the number of the first group
--                                that has group g's record, where the image passes 1 to 7 and there is a group g; else as it was
--     Surveys l before r after   what `survey` answers, and its table before and after; the table is an array of 256, so that
--                                this fixes all of it
--     SurveysOld l before same r after same'   the same of `survey_old`, which passes twins, and its two tables
use Rattle.std.specs.Prelude.{ℕ, ◌≡◌, cond, List, [], get_or, ltb, eqb}
use Rattle.format.specs.declared.Section.TheVariants.{Groups}
use Rattle.format.specs.Refusals.{◌or_else◌, unless_refused}
use Rattle.format.specs.Format.{count_of}
use Rattle.format.specs.Policy.{start_of, place_of, policy_of}
use Rattle.format.specs.Twins.{number_of}
use Rattle.format.specs.Check.{section_fault, header_fault, layout_fault, check}
use Rattle.format.specs.Answers.{outcome, starts, Outcome}
use Rattle.format.specs.declared.Starts.{Starts}

unfoldable pub group_slot : List ℕ → ℕ → ℕ → ℕ
group_slot l g was =
    unless_refused (header_fault eqb l or_else section_fault l Groups (start_of l Groups) g)
    (cond (ltb g (count_of l Groups)) (place_of l Groups g) was)
    was

pub record Surveys (l before : List ℕ) (r : Outcome Starts) (after : List ℕ) : Type 0 where
  pub sections : r ≡ outcome (check l) (starts l)
  pub groups : (g : ℕ) → get_or after g 0 ≡ group_slot l g (get_or before g 0)

unfoldable pub alike_slot : List ℕ → ℕ → ℕ → ℕ
alike_slot l g was =
    unless_refused (layout_fault l)
    (cond (ltb g (count_of l Groups)) (number_of (get_or (policy_of l).groups g []) (policy_of l).groups) was)
    was

pub record SurveysOld (l before same : List ℕ) (r : Outcome Starts) (after same' : List ℕ) : Type 0 where
  pub sections : r ≡ outcome (layout_fault l) (starts l)
  pub groups : (g : ℕ) → get_or after g 0 ≡ group_slot l g (get_or before g 0)
  pub alike : (g : ℕ) → get_or same' g 0 ≡ alike_slot l g (get_or same g 0)
