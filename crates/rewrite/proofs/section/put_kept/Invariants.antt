-- `put_kept` meets its contract: what is kept of the records left is still to come. Assumes nothing.
use Prim.Native.Nat.{◌-◌}
use lib.ListN.{length, drop}
use Rattle.rewrite.specs.Inner.Put.{Writing}
use Rattle.rewrite.specs.Inner.Kept.{Lie, kept_of}
use Rattle.rewrite.proofs.section.put_kept.Given as goal

abbrev pub invariant-loop-stays : goal.invariant-loop-stays
invariant-loop-stays l =
    Lie 1 l.rest (length l.marks - l.stays-index)
    × Writing l.initial.buffer l.buffer l.at l.next (kept_of l.records l.marks) (kept_of l.rest (drop l.stays-index l.marks))
