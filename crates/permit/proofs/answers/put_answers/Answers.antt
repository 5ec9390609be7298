use Rattle.std.proofs.Common.{◌∙◌, get_or, get_or-take, ap, arith}
use Rattle.std.proofs.Math.Seq.{length-take-le}
use Rattle.decision.proofs.Rows.{rows_answered}
use Rattle.permit.proofs.Laws.{lines_start, lines_next, lines_end}
use Rattle.permit.proofs.answers.put_answers.Goals as goal

pub loop-number-init : goal.loop-number-init
loop-number-init c = record { whole = omega arith; few = omega arith; put = lines_start _ _ c.args.output.now }

pub loop-number-preserved : goal.loop-number-preserved
loop-number-preserved c =
    let now = c.loop-number in
    let decided = c.decide_all-rows.ensures in
    let k = now.number-index in
    let long = length-take-le c.decide_all-rows.result c.decide_all-rows.new.answers (omega arith) in
    let number = get_or-take c.decide_all-rows.result c.decide_all-rows.new.answers k 0 (omega arith)
    ∙ ap (λ x. get_or x k 0) decided.answers_after ∙ rows_answered _ _ _ k (omega (arith, decided.value)) in
    record {
      whole = now.invariant.whole;
      few = omega arith;
      put = lines_next _ _ now.output _ k now.end _ _ c.requires.0 (omega arith) number c.put_line-end.ensures.0 now.invariant.put;
    }

pub returns : goal.returns
returns c =
    let now = c.loop-number in
    let long = length-take-le c.decide_all-rows.result c.decide_all-rows.new.answers (omega arith) in
    record { fits = omega arith; bytes = lines_end _ _ now.output now.number-index now.end (omega arith) now.invariant.put }
