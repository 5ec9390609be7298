-- Where bytes came.
use Rattle.std.proofs.Common.{◌≡◌, ◌+◌, Ok, Some, ap, arith, rules}
use Rattle.permit.specs.Inner.Turn.{count}
use Rattle.permit.proofs.Laws.{rest_front}
use Rattle.permit.proofs.Turns.{turn_more}
use Rattle.permit.proofs.serve.take_turn.Goals as goal

pub returns-in-Ok-Some : goal.returns-in-Ok-Some
returns-in-Ok-Some c =
    let start = c.args in
    let is : start.came ≡ Ok (Some c.in-Ok-Some.n) = search rules in
    let came = ap count is in
    let kept = rest_front start.input.now _ (start.kept + c.in-Ok-Some.n) _ (omega arith) (omega arith) (omega arith) c.keep_rest.ensures in
    turn_more _ start.input.now _ start.kept _ start.came _ _ _ is c.put_answers-end.ensures (omega arith) kept
