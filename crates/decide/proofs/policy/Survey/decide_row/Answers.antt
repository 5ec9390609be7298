-- `decide_row` meets its contract: the single decision, and what the run comes to after it. Assumes nothing.
use Rattle.decide.proofs.BatchLaws.{step_is}
use Rattle.decide.proofs.VerdictLaws.{tables_for, rows_after}
use Rattle.decide.proofs.policy.Survey.decide_row.Goals as goal

pub answer-answer-requires : goal.answer-answer-requires
answer-answer-requires c = tables_for _ _ _ _ c.recall-held.ensures _ _ c.requires

pub returns : goal.returns
returns c =
    let r = c.answer-answer.ensures in
    let a = c.args in (
      step_is _ _ a.progress.run a.i _ _ r.is c.next.ensures,
      rows_after _ _ _ _ _ c.recall-held.ensures r.kept,
    )
