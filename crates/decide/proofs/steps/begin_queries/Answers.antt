-- `begin_queries` meets its contract: the list of answers fits where it is as long. Assumes nothing.
use mathlib.Core.Path.{sym, subst}
use Rattle.runs.proofs.Faults.{queries_fault_lem}
use Rattle.decide.specs.Inner.Steps.{Begins}
use Rattle.decide.proofs.steps.begin_queries.Goals as goal

pub returns : goal.returns
returns c =
    let a = c.args in
    subst (λ f. Begins a.image.now a.rows f c.begin.result)
    (sym (queries_fault_lem a.image.now a.rows a.slots)) c.begin.ensures
