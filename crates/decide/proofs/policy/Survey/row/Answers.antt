-- `row` meets its contract. Assumes nothing.
use mathlib.Core.Path.{ap, ◌∙◌}
use Rattle.decision.specs.Decide.{answer}
use Rattle.decision.specs.Numbers.{decision_code}
use Rattle.decide.proofs.VerdictLaws.{tables_for, rows_after}
use Rattle.decide.proofs.policy.Survey.row.Goals as goal

pub answer-answer-requires : goal.answer-answer-requires
answer-answer-requires c = tables_for _ _ _ _ c.recall-held.ensures _ _ c.requires

pub returns : goal.returns
returns c =
    let r = c.answer-answer.ensures in
    let q = c.query_in-q.ensures in (
      c.number.ensures ∙ ap decision_code (r.is ∙ ap (answer c.args.self.image.now) q),
      rows_after _ _ _ _ _ c.recall-held.ensures r.kept,
    )
