-- `walk` meets its contract. The walk comes to a place, and the part starts there: the rest of the walk from there answers as the
use native.Mathlib.Omega.{arith}
use Prim.Native.Nat.{ℕ, ◌+◌, ◌-◌}
use mathlib.Core.Path.{◌≡◌, refl, sym, ap, ◌∙◌}
use mathlib.Core.List.{List}
use native.Mathlib.Nat.{sub-zero}
use lib.ListN.{length, drop, set, length-set}
use Rattle.format.specs.declared.Section.TheVariants.{Groups}
use Rattle.format.specs.Check.{Read}
use Rattle.format.specs.declared.Misread.TheVariants.{BadField}
use Rattle.format.specs.Format.{count_of}
use Rattle.format.specs.Check.{read_of, read_fault}
use Rattle.image.specs.Inner.Walk.{Fits}
use Rattle.image.proofs.WalkLaws.{part_from, part_length, part_next, whole_inside, bad_inside}
use Rattle.image.proofs.WalkLaws.{walk_end, walk_whole, walk_stops, fits_here, fits_whole}
use Rattle.image.proofs.WalkLaws.{note_end, note_whole, note_stops}
use Rattle.image.proofs.checker.walk.Goals as goal
use Rattle.std.specs.Prelude.{Ok, Err}

pub slice_bounds-part-count : goal.slice_bounds-part-count
slice_bounds-part-count c = omega (arith, c.from.ensures, c.requires.inside)

pub loop-k-init : goal.loop-k-init
loop-k-init c =
    let image = c.args.image.now in (
      omega arith,
      c.requires.inside,
      refl,
      rw sub-zero,
      rw sub-zero,
      rw sub-zero c.requires.fits,
      part_from image _ ∙ ap (λ at. drop at image) c.from.ensures,
    )

pub slice_bounds-part-count-in-Ok : goal.slice_bounds-part-count-in-Ok
slice_bounds-part-count-in-Ok c =
    let l : List ℕ = c.args.image.now in
    let reading : Read = read_of c.args.section (count_of l Groups) (drop c.loop-k.at l) in
    let read : c.read_record.result ≡ reading = let a = c.args in
    c.read_record.ensures
    ∙ ap (λ p. read_of a.section a.groups p) c.loop-k.invariant.6
    ∙ ap (λ g. read_of a.section g (drop c.loop-k.at l)) c.requires.groups in
    let whole : reading ≡ Ok c.in-Ok.length = sym read ∙ c.in-Ok.is in
    omega (arith, part_length l _ c.loop-k.at c.loop-k.invariant.6, whole_inside l _ c.loop-k.at _ whole)

pub slice_bounds-part-start-in-Ok : goal.slice_bounds-part-start-in-Ok
slice_bounds-part-start-in-Ok c =
    let l : List ℕ = c.args.image.now in
    let reading : Read = read_of c.args.section (count_of l Groups) (drop c.loop-k.at l) in
    let read : c.read_record.result ≡ reading = let a = c.args in
    c.read_record.ensures
    ∙ ap (λ p. read_of a.section a.groups p) c.loop-k.invariant.6
    ∙ ap (λ g. read_of a.section g (drop c.loop-k.at l)) c.requires.groups in
    let whole : reading ≡ Ok c.in-Ok.length = sym read ∙ c.in-Ok.is in
    omega (arith, part_length l _ c.loop-k.at c.loop-k.invariant.6, whole_inside l _ c.loop-k.at _ whole)

pub overflow_cast-at : goal.overflow_cast-at
overflow_cast-at c =
    let l : List ℕ = c.args.image.now in
    let reading : Read = read_of c.args.section (count_of l Groups) (drop c.loop-k.at l) in
    let read : c.read_record.result ≡ reading = let a = c.args in
    c.read_record.ensures
    ∙ ap (λ p. read_of a.section a.groups p) c.loop-k.invariant.6
    ∙ ap (λ g. read_of a.section g (drop c.loop-k.at l)) c.requires.groups in
    let whole : reading ≡ Ok c.in-Ok.length = sym read ∙ c.in-Ok.is in
    let fits : Fits l c.args.section (c.loop-k.at + c.in-Ok.length)
    (c.args.count - (c.loop-k.k + 1)) = fits_whole _ _ _ _ _ _ (omega arith) whole c.loop-k.invariant.5 in
    omega (arith, fits_here _ _ _ _ fits)

pub overflow_add-at : goal.overflow_add-at
overflow_add-at c =
    let l : List ℕ = c.args.image.now in
    let reading : Read = read_of c.args.section (count_of l Groups) (drop c.loop-k.at l) in
    let read : c.read_record.result ≡ reading = let a = c.args in
    c.read_record.ensures
    ∙ ap (λ p. read_of a.section a.groups p) c.loop-k.invariant.6
    ∙ ap (λ g. read_of a.section g (drop c.loop-k.at l)) c.requires.groups in
    let whole : reading ≡ Ok c.in-Ok.length = sym read ∙ c.in-Ok.is in
    let fits : Fits l c.args.section (c.loop-k.at + c.in-Ok.length)
    (c.args.count - (c.loop-k.k + 1)) = fits_whole _ _ _ _ _ _ (omega arith) whole c.loop-k.invariant.5 in
    omega (arith, fits_here _ _ _ _ fits)

pub misread-requires : goal.misread-requires
misread-requires c i e =
    let l : List ℕ = c.args.image.now in
    let reading : Read = read_of c.args.section (count_of l Groups) (drop c.loop-k.at l) in
    let read : c.read_record.result ≡ reading = let a = c.args in
    c.read_record.ensures
    ∙ ap (λ p. read_of a.section a.groups p) c.loop-k.invariant.6
    ∙ ap (λ g. read_of a.section g (drop c.loop-k.at l)) c.requires.groups in
    let bad : reading ≡ Err (BadField i) = sym read ∙ c.in-Err.is ∙ ap Err e in
    omega (arith, c.from-in-Err.ensures, bad_inside _ _ c.loop-k.at _ bad)

pub returns-in-Err : goal.returns-in-Err
returns-in-Err c =
    let l : List ℕ = c.args.image.now in
    let reading : Read = read_of c.args.section (count_of l Groups) (drop c.loop-k.at l) in
    let read : c.read_record.result ≡ reading = let a = c.args in
    c.read_record.ensures
    ∙ ap (λ p. read_of a.section a.groups p) c.loop-k.invariant.6
    ∙ ap (λ g. read_of a.section g (drop c.loop-k.at l)) c.requires.groups in
    let table : c.note.new.places ≡ set c.loop-k.places c.loop-k.k c.loop-k.at = c.note.ensures in
    let e = sym read ∙ c.in-Err.is in
    let f = ap (λ p. read_fault p (Err c.in-Err.error)) (sym c.from-in-Err.ensures) ∙ c.misread.ensures in
    record {
      comes = sym (c.loop-k.invariant.3 ∙ walk_stops _ _ _ _ _ _ (omega arith) e f);
      table = table ∙ sym (c.loop-k.invariant.4 ∙ note_stops _ _ _ _ _ _ _ _ (omega arith) e f);
    }

pub loop-k-preserved : goal.loop-k-preserved
loop-k-preserved c =
    let l : List ℕ = c.args.image.now in
    let places : List ℕ = c.note.new.places in
    let table : places ≡ set c.loop-k.places c.loop-k.k c.loop-k.at = c.note.ensures in
    let kept : length places ≡ length c.args.places.now = let t = c.loop-k in ap length table ∙ length-set t.places t.k t.at ∙ t.invariant.2 in
    let reading : Read = read_of c.args.section (count_of l Groups) (drop c.loop-k.at l) in
    let read : c.read_record.result ≡ reading = let a = c.args in
    c.read_record.ensures
    ∙ ap (λ p. read_of a.section a.groups p) c.loop-k.invariant.6
    ∙ ap (λ g. read_of a.section g (drop c.loop-k.at l)) c.requires.groups in
    let whole : reading ≡ Ok c.in-Ok.length = sym read ∙ c.in-Ok.is in
    let fits : Fits l c.args.section (c.loop-k.at + c.in-Ok.length)
    (c.args.count - (c.loop-k.k + 1)) = fits_whole _ _ _ _ _ _ (omega arith) whole c.loop-k.invariant.5 in
    let t = c.loop-k in
    let e = whole in (
      omega arith,
      omega (arith, whole_inside _ _ t.at _ e),
      kept,
      t.invariant.3 ∙ walk_whole _ _ _ _ _ _ (omega arith) e,
      rw table (t.invariant.4 ∙ note_whole _ _ _ _ _ _ _ _ (omega arith) e),
      fits,
      part_next l _ t.at _ t.invariant.6,
    )

pub returns : goal.returns
returns c =
    record {
      comes = sym (c.loop-k.invariant.3 ∙ walk_end _ _ _ _ (omega arith));
      table = sym (c.loop-k.invariant.4 ∙ note_end _ _ _ _ _ _ (omega arith));
    }
