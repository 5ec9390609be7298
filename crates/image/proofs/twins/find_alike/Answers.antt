-- `find_alike` meets its contract: an earlier group that is alike is at most the next one. Assumes nothing.
use native.Mathlib.Omega.{arith}
use Prim.Native.Nat.{◌+◌}
use mathlib.Core.Path.{◌≡◌, refl, sym, ap, subst, ◌∙◌}
use Rattle.std.specs.Prelude.{Some}
use Rattle.image.proofs.AlikeLaws.{Sought, sought_at, left, looks_key, looks_own, looks_first, looks_next, looks_less, looks_here, looks_none}
use Rattle.image.proofs.twins.find_alike.Goals as goal

pub loop-next-init : goal.loop-next-init
loop-next-init c = looks_first _ _ _ _ _ _ c.requires.0

pub group_at-requires : goal.group_at-requires
group_at-requires c =
    let sought = sought_at c.loop-next.invariant _ _ c.in-Some.is c.from-g.ensures in
    (c.requires.0.placed, looks_own _ _ _ _ _ _ c.requires.0 _ sought)

pub returns-then-same_record : goal.returns-then-same_record
returns-then-same_record c =
    let sought = sought_at c.loop-next.invariant _ _ c.in-Some.is c.from-g.ensures in
    looks_here _ _ _ _ _ _ c.requires.0 _ sought (sym (c.same_record.ensures ∙ (rw (c.requires.1, c.group_at.ensures) refl)) ∙ c.if-same_record.true)

pub loop-next-smaller : goal.loop-next-smaller
loop-next-smaller c =
    let sought = sought_at c.loop-next.invariant _ _ c.in-Some.is c.from-g.ensures in
    let left_is : left c.loop-next.next ≡ c.from-g.result + 1 = ap left (c.in-Some.is ∙ ap Some (sym c.from-g.ensures)) in
    omega (arith, left_is, looks_less _ _ _ _ _ _ c.requires.0 _ sought)

pub loop-next-preserved : goal.loop-next-preserved
loop-next-preserved c =
    let sought = sought_at c.loop-next.invariant _ _ c.in-Some.is c.from-g.ensures in
    looks_next _ _ _ _ _ _ c.requires.0 _ sought (sym (c.same_record.ensures ∙ (rw (c.requires.1, c.group_at.ensures) refl)) ∙ c.if-same_record.false)

pub returns : goal.returns
returns c = looks_none _ _ _ _ _ _ c.requires.0 (subst (Sought _ _) c.in_default.is c.loop-next.invariant)

pub offset_bounds-heads-key : goal.offset_bounds-heads-key
offset_bounds-heads-key c = omega (arith, looks_key _ _ _ _ _ _ c.requires.0)

pub bounds-heads-key : goal.bounds-heads-key
bounds-heads-key c = looks_key _ _ _ _ _ _ c.requires.0
