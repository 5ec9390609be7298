-- `group_span` meets its contract: a group's members stand after its length and its kind. Assumes nothing.
use native.Mathlib.Omega.{arith}
use mathlib.Core.List.{[]}
use lib.ListN.{get_or}
use Rattle.format.specs.Inner.Places.{GroupAt}
use Rattle.decide.specs.Inner.Parts.{groups_in}
use Rattle.decide.proofs.TypeLaws.{few_groups, group_placed, group_span_is}
use Rattle.decide.proofs.types.group_span.Goals as goal

pub offset_bounds-groups-g : goal.offset_bounds-groups-g
offset_bounds-groups-g c = omega (arith, c.requires.1, few_groups _ c.requires.0.accepted)

pub bounds-groups-g : goal.bounds-groups-g
bounds-groups-g c = omega (arith, c.requires.1, few_groups _ c.requires.0.accepted)

pub overflow_add-result : goal.overflow_add-result
overflow_add-result c =
    let placed : GroupAt c.args.image.now c.from-at.result (get_or (groups_in c.args.image.now) c.args.g []) =
    rw c.from-at.ensures (group_placed _ _ _ c.requires.0 c.requires.1) in
    let g = placed in omega (arith, g.here.some, g.here.inside)

pub bounds-image-at : goal.bounds-image-at
bounds-image-at c =
    let placed : GroupAt c.args.image.now c.from-at.result (get_or (groups_in c.args.image.now) c.args.g []) =
    rw c.from-at.ensures (group_placed _ _ _ c.requires.0 c.requires.1) in
    let g = placed in omega (arith, g.here.some, g.here.inside)

pub overflow_sub-result : goal.overflow_sub-result
overflow_sub-result c =
    let placed : GroupAt c.args.image.now c.from-at.result (get_or (groups_in c.args.image.now) c.args.g []) =
    rw c.from-at.ensures (group_placed _ _ _ c.requires.0 c.requires.1) in
    let g = placed in omega (arith, g.here.some, g.here.size, c.from.ensures)

pub returns : goal.returns
returns c = group_span_is _ _ _ c.requires.0 c.requires.1 _ _ c.from-at.ensures c.from.ensures
