-- `retype_records` meets its contract: the records from `at` on are still to come. Assumes nothing.
use native.Mathlib.Omega.{arith}
use Prim.Native.Nat.{◌+◌, ◌-◌}
use mathlib.Core.Path.{◌∙◌}
use Rattle.rewrite.proofs.FieldLaws.{records_turn}
use Rattle.rewrite.proofs.retype.retype_records.Goals as goal

pub loop-preserved : goal.loop-preserved
loop-preserved c = let L = c.loop in
    let t = records_turn c.args.first c.args.to.now L.records L.at _ (c.args.count - (L.counter + 1)) (omega arith) L.invariant.0
    c.from.result (L.at + c.from.result - L.at) c.retype_record.new.part c.from.ensures (omega arith) c.retype_record.ensures in
    (t.0, L.invariant.1 ∙ t.1)
