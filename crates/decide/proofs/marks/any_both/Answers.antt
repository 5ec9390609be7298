-- `any_both` meets its contract: what was found is told of the numbers so far. Assumes nothing.
use native.Mathlib.Omega.{arith}
use mathlib.Core.Path.{◌≡◌, refl, sym, ap, ap₂, ◌∙◌}
use mathlib.Core.Bool.{false, ◌&&◌, ◌||◌}
use lib.ListN.{length}
use Rattle.std.proofs.lemmas.List.{length_push}
use Rattle.std.proofs.lemmas.Slice.Zip.{zip_turn, zip_end}
use Rattle.decide.specs.Inner.Marks.{both_below}
use Rattle.decide.proofs.SourceLaws.{both_next}
use Rattle.decide.proofs.marks.any_both.Goals as goal

pub loop-x-init : goal.loop-x-init
unfolding both_below
loop-x-init c = refl

pub loop-x-preserved : goal.loop-x-preserved
loop-x-preserved c =
    let a = c.args.a.now in
    let b = c.args.b.now in
    let L = c.loop-x in
    let t = zip_turn a b L.yielded _ L.x-iterator c.next.new.self _ (cc) (cc) L.yielded_by _ c.in-Some.is c.next.ensures.steps in
    ap₂ (λ f m. f || m) L.invariant (ap₂ (λ x y. x && y) (t.2 false) (t.3 false)) ∙ sym (both_next a b (length L.yielded))
    ∙ ap (both_below a b) (sym (length_push L.yielded (c.in-Some.x, c.in-Some.y)))

pub returns : goal.returns
returns c =
    let a = c.args.a.now in
    let b = c.args.b.now in
    let L = c.loop-x in
    let n = zip_end a b L.yielded _ L.x-iterator c.next.new.self _ (cc) (cc) L.yielded_by c.in-None.is c.next.ensures.steps in
    let e : length L.yielded ≡ 1024 = omega (arith, n, c.told-a, c.told-b) in
    L.invariant ∙ ap (both_below a b) e
