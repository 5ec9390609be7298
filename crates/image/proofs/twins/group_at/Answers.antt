-- `group_at` meets its contract: the record stands at its place. Assumes nothing.
use native.Mathlib.Omega.{arith}
use mathlib.Core.Path.{◌≡◌, ap, ◌∙◌}
use lib.ListN.{get_or}
use Rattle.image.proofs.AlikeLaws.{placed_few, placed_inside, placed_end, placed_part}
use Rattle.image.proofs.twins.group_at.Goals as goal

pub offset_bounds-places-g : goal.offset_bounds-places-g
offset_bounds-places-g c = omega (arith, c.requires.1, placed_few _ _ _ c.requires.0)

pub bounds-places-g : goal.bounds-places-g
bounds-places-g c = omega (arith, c.requires.1, placed_few _ _ _ c.requires.0)

pub bounds-image-from : goal.bounds-image-from
bounds-image-from c = omega (arith, placed_inside _ _ _ c.requires.0 c.args.g c.requires.1)

pub slice_bounds-result-end : goal.slice_bounds-result-end
slice_bounds-result-end c =
    let size_is : c.from.result ≡ get_or c.args.image.now (get_or c.args.places.now c.args.g 0) 0 = c.from.ensures
    ∙ ap (λ i. get_or c.args.image.now i 0) c.from-from.ensures in
    omega (arith, size_is, placed_end _ _ _ c.requires.0 c.args.g c.requires.1)

pub returns : goal.returns
returns c =
    rw (c.from.ensures, c.from-from.ensures) (placed_part _ _ _ c.requires.0 c.args.g c.requires.1)
