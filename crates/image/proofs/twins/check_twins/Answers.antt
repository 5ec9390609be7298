-- `check_twins` meets its contract: the first group that is not the first of its kind. Assumes nothing.
use native.Mathlib.Omega.{arith}
use mathlib.Core.Path.{sym, ap, ◌∙◌}
use lib.Seq.{length-take-le}
use Rattle.format.specs.Answers.{outcome}
use Rattle.image.specs.Inner.Alike.{Placed}
use Rattle.image.proofs.AlikeLaws.{placed_long, placed_few, placed_word, twins_end, twins_here, twins_own}
use Rattle.image.proofs.twins.check_twins.Goals as goal

pub word_in-count-requires : goal.word_in-count-requires
word_in-count-requires c = placed_long _ _ _ c.requires

pub fill_alike-requires : goal.fill_alike-requires
fill_alike-requires c = (placed_word _ _ _ c.word_in-count.ensures.0 c.requires, omega arith)

pub slice_bounds-alike-end : goal.slice_bounds-alike-end
slice_bounds-alike-end c = omega (arith, placed_few _ _ _ (placed_word _ _ _ c.word_in-count.ensures.0 c.requires))

pub slice_bounds-first_twin-end : goal.slice_bounds-first_twin-end
slice_bounds-first_twin-end c =
    let few = placed_few _ _ _ (placed_word _ _ _ c.word_in-count.ensures.0 c.requires) in
    omega (arith, length-take-le c.word_in-count.result c.fill_alike.new.alike (omega arith))

pub offset_bounds-places-first : goal.offset_bounds-places-first
offset_bounds-places-first c =
    let placed : Placed c.args.image.now c.args.places.now c.word_in-count.result = placed_word _ _ _ c.word_in-count.ensures.0 c.requires in
    let n = placed_few _ _ _ placed in
    omega (arith, twins_own _ _ _ _ placed.count c.fill_alike.ensures (omega arith) _ c.first_twin.ensures _ c.in-Some.is)

pub bounds-places-first : goal.bounds-places-first
bounds-places-first c =
    let placed : Placed c.args.image.now c.args.places.now c.word_in-count.result = placed_word _ _ _ c.word_in-count.ensures.0 c.requires in
    let n = placed_few _ _ _ placed in
    omega (arith, twins_own _ _ _ _ placed.count c.fill_alike.ensures (omega arith) _ c.first_twin.ensures _ c.in-Some.is)

pub returns-in-Some : goal.returns-in-Some
returns-in-Some c =
    let placed : Placed c.args.image.now c.args.places.now c.word_in-count.result = placed_word _ _ _ c.word_in-count.ensures.0 c.requires in
    let n = placed_few _ _ _ placed in
    rw (c.at.ensures, c.from.ensures ∙ placed.place _ (twins_own _ _ _ _ placed.count c.fill_alike.ensures (omega arith) _ c.first_twin.ensures _ c.in-Some.is))
    (sym (ap (λ f. outcome f tt) (twins_here _ _ _ _ placed.count c.fill_alike.ensures (omega arith) _ c.first_twin.ensures _ c.in-Some.is)))

pub returns : goal.returns
returns c =
    let placed : Placed c.args.image.now c.args.places.now c.word_in-count.result = placed_word _ _ _ c.word_in-count.ensures.0 c.requires in
    let n = placed_few _ _ _ placed in
    sym (ap (λ f. outcome f tt) (twins_end _ _ _ _ placed.count c.fill_alike.ensures (omega arith) _ c.first_twin.ensures c.in_default.is))
