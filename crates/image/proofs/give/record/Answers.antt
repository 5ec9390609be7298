-- `record` meets its contract, from what `find` answers. Assumes nothing.
use native.Mathlib.Omega.{arith}
use Prim.Native.Nat.{◌+◌, ◌≤◌}
use mathlib.Core.Path.{◌≡◌, refl, sym, ap, ◌∙◌}
use Rattle.std.specs.Prelude.{None}
use native.Mathlib.Nat.{add-zero}
use lib.ListN.{length}
use Rattle.format.specs.Give.{give_fault}
use Rattle.format.specs.Answers.{extent}
use Rattle.format.proofs.Chain.{outcome_gives, outcome_refused, some_not_none}
use Rattle.format.proofs.Accepted.{given_none}
use Rattle.image.proofs.BodyLaws.{extent_inside, extent_bytes, extent_size}
use Rattle.image.proofs.give.record.Goals as goal

pub overflow_add-to : goal.overflow_add-to
overflow_add-to c =
    let found : (give_fault c.args.image.now c.args.section c.args.n ≡ None) × (c.in-Ok.extent ≡ extent c.args.image.now c.args.section c.args.n) = outcome_gives _ _ (sym c.in-Ok.is ∙ c.find.ensures) in
    let inside : c.in-Ok.extent.place + c.in-Ok.extent.length ≤ length c.args.image.now = extent_inside _ _ _ found.0 _ found.1 in
    omega (arith, inside)

pub slice_bounds-result-end : goal.slice_bounds-result-end
slice_bounds-result-end c =
    let found : (give_fault c.args.image.now c.args.section c.args.n ≡ None) × (c.in-Ok.extent ≡ extent c.args.image.now c.args.section c.args.n) = outcome_gives _ _ (sym c.in-Ok.is ∙ c.find.ensures) in
    let inside : c.in-Ok.extent.place + c.in-Ok.extent.length ≤ length c.args.image.now = extent_inside _ _ _ found.0 _ found.1 in
    omega (arith, inside)

pub returns-in-Err : goal.returns-in-Err
returns-in-Err c = let f = outcome_refused _ _ (sym c.in-Err.is ∙ c.find.ensures) in
    record {
      bytes = sym (given_none _ _ _ f);
      place = 0;
      part = record { block = refl; offset = sym (add-zero _); inside = omega arith; bytes = refl };
      stands = λ e. some_not_none (sym f ∙ e);
    }

pub returns-in-Ok : goal.returns-in-Ok
returns-in-Ok c =
    let found : (give_fault c.args.image.now c.args.section c.args.n ≡ None) × (c.in-Ok.extent ≡ extent c.args.image.now c.args.section c.args.n) = outcome_gives _ _ (sym c.in-Ok.is ∙ c.find.ensures) in
    let inside : c.in-Ok.extent.place + c.in-Ok.extent.length ≤ length c.args.image.now = extent_inside _ _ _ found.0 _ found.1 in
    let q = found in
    let n = extent_size _ _ _ q.0 _ q.1 in
    record {
      bytes = extent_bytes _ _ _ q.0 _ q.1;
      place = c.in-Ok.extent.place;
      part = record { block = refl; offset = omega arith; inside = omega (arith, n, inside); bytes = rw n };
      stands = λ _. ap (λ x. x.place) q.1;
    }
