-- `settle` meets its contract: the groups before g are settled. Assumes nothing.
use Prim.Native.Nat.{ℕ, ◌≤◌}
use mathlib.Core.Path.{◌≡◌}
use mathlib.Core.List.{List}
use lib.ListN.{length}
use Rattle.rewrite.specs.Inner.Settle.{Alike, Settled}
use Rattle.rewrite.proofs.twins.settle.Given as goal

abbrev pub invariant-loop-g : goal.invariant-loop-g
invariant-loop-g l =
    (l.kept ≤ l.g) × (length l.to ≡ 256) × (length l.keep ≡ 256)
    × ((gs : List (List ℕ)) → Alike gs (length l.alike) l.alike → Settled gs l.g l.to l.keep l.kept)
