-- `place_after` meets its contract: it has come past so many records, to a place that fits, and the part starts there. Assumes
-- nothing.
use native.Mathlib.Omega.{arith}
use mathlib.Core.Path.{ap, ◌∙◌}
use Rattle.format.specs.Policy.{place_after}
use Rattle.image.proofs.WalkLaws.{hop_first, hop_starts, hop_room, hop_inside, hop_fits, hop_next}
use Rattle.image.proofs.give.place_after.Goals as goal

pub slice_bounds-part-count : goal.slice_bounds-part-count
slice_bounds-part-count c = omega (arith, hop_starts _ _ _ c.requires)

pub slice_bounds-part-start : goal.slice_bounds-part-start
slice_bounds-part-start c = omega (arith, hop_starts _ _ _ c.requires)

pub loop-init : goal.loop-init
loop-init c = hop_first _ _ _ c.requires _ c.from.ensures

pub bounds-part-0 : goal.bounds-part-0
bounds-part-0 c = hop_room _ _ _ c.requires _ _ _ c.loop.invariant c.loop-test.true

pub slice_bounds-part-count-in-loop : goal.slice_bounds-part-count-in-loop
slice_bounds-part-count-in-loop c = hop_inside _ _ _ c.requires _ _ _ c.loop.invariant c.loop-test.true _ c.from-in-loop.ensures

pub slice_bounds-part-start-in-loop : goal.slice_bounds-part-start-in-loop
slice_bounds-part-start-in-loop c = hop_inside _ _ _ c.requires _ _ _ c.loop.invariant c.loop-test.true _ c.from-in-loop.ensures

pub overflow_add-at : goal.overflow_add-at
overflow_add-at c = omega (arith, hop_fits _ _ _ c.requires _ _ _ c.loop.invariant c.loop-test.true _ c.from-at.ensures)

pub loop-preserved : goal.loop-preserved
loop-preserved c =
    hop_next _ _ _ c.requires _ _ _ c.loop.invariant c.loop-test.true _ c.from-at.ensures _ c.from-in-loop.ensures

pub returns : goal.returns
returns c = c.loop.invariant.place ∙ ap (place_after c.args.image.now c.args.from) (omega arith)
