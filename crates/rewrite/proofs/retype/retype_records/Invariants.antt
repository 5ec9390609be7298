-- `retype_records` meets its contract: the records from `at` on are still to come. Assumes nothing.
use Prim.Native.Nat.{◌+◌, ◌-◌}
use mathlib.Core.Path.{◌≡◌}
use mathlib.Core.List.{◌++◌}
use lib.ListN.{take, drop}
use Rattle.rewrite.specs.Inner.Retype.{records_in}
use Rattle.rewrite.specs.Inner.Kept.{Lie}
use Rattle.rewrite.proofs.retype.retype_records.Given as goal

abbrev pub invariant-loop : goal.invariant-loop
invariant-loop l = let left = l.count - l.counter in
    Lie (l.first + 4) (drop l.at l.records) left
    × (records_in l.first l.to l.initial.records l.count ≡ take l.at l.records ++ records_in l.first l.to (drop l.at l.records) left)
