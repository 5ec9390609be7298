-- `kept_length` meets its contract: what is counted, and what the records left add to it. Assumes nothing.
use Prim.Native.Nat.{◌+◌, ◌-◌, ◌≤◌}
use mathlib.Core.Path.{◌≡◌}
use lib.ListN.{length, drop}
use Rattle.rewrite.specs.Inner.Kept.{Lie, kept_of}
use Rattle.rewrite.proofs.section.kept_length.Given as goal

abbrev pub invariant-loop-stays : goal.invariant-loop-stays
invariant-loop-stays l =
    Lie 1 l.rest (length l.marks - l.stays-index) × (l.total + length l.rest ≤ length l.records)
    × (l.total + length (kept_of l.rest (drop l.stays-index l.marks)) ≡ length (kept_of l.records l.marks))
