use Rattle.std.proofs.Common.{arith}
use Rattle.streams.proofs.Puts.{front_put}
use Rattle.permit.proofs.Laws.{ending_none, ending_some}
use Rattle.permit.proofs.answers.put_ending.Goals as goal

pub returns-then-left-eq0 : goal.returns-then-left-eq0
returns-then-left-eq0 c = ending_none _ _ c.if-left-eq0.true

pub returns : goal.returns
returns c = ending_some _ _ _ c.if-left-eq0.false (front_put (omega arith) (rw c.at.ensures at c.put_refusal.ensures))
