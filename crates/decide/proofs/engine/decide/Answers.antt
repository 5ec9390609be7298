-- `decide` meets its contract: the check first, then what it gave. Assumes nothing.
use Rattle.image.proofs.SurveyLaws.{survey_placed}
use Rattle.decide.proofs.VerdictLaws.{tables_first}
use Rattle.decide.proofs.engine.decide.Goals as goal

pub invariant_of-surveyed : goal.invariant_of-surveyed
invariant_of-surveyed c =
    let k = c.survey-sections.ensures in
    record { surveyed = record { sections = k.sections; placed = survey_placed _ _ _ _ k } }

pub answer-requires : goal.answer-requires
answer-requires c = tables_first _ _ _ c.new-tables.ensures

pub returns : goal.returns
returns c = c.answer.ensures.is
