-- `is_known_to_stop` meets its contract: what is known of a type is asked where it may tell. Assumes nothing.
use native.Mathlib.Omega.{arith}
use Prim.Native.Nat.{◌+◌, ◌<◌}
use mathlib.Core.Path.{refl, sym, ap, ◌∙◌}
use mathlib.Core.Bool.{false, not}
use lib.ListN.{get_or}
use Rattle.format.specs.Bytes.{word_at}
use Rattle.decide.specs.declared.kept.Kept.TheVariants.{Unasked}
use Rattle.decide.specs.Inner.Kept.{says_no}
use Rattle.decide.proofs.TypeLaws.{type_basic, type_small}
use Rattle.decide.proofs.KeptLaws.{no_says, says_no_not, outside_basic, outside_group}
use Rattle.decide.proofs.NearerLaws.{stops_few, stops_known, high_group, high_basic}
use Rattle.decide.proofs.passes.is_known_to_stop.Goals as goal

pub returns-then-most-passed : goal.returns-then-most-passed
returns-then-most-passed c = sym (stops_few _ _ _ _ _ _ c.if-most-passed.true)

pub bounds-image-at : goal.bounds-image-at
bounds-image-at c = omega (arith, c.requires.1.room)

pub bounds-image-at-then-image-at-gt127 : goal.bounds-image-at-then-image-at-gt127
bounds-image-at-then-image-at-gt127 c = omega (arith, c.requires.1.room)

pub returns-in-No : goal.returns-in-No
returns-in-No c =
    let g = high_group _ _ (type_small _ _ _ refl c.requires.0 c.requires.1.is) (omega (arith, c.if-image-at-gt127.true)) in
    no_says _ c.in-No.is
    ∙ ap (λ i. says_no (get_or c.args.side.now.kept i Unasked)) (c.from.ensures ∙ sym g.1)
    ∙ sym (stops_known _ _ _ _ _ _ c.if-most-passed.false ∙ outside_group _ _ _ g.0)

pub returns-in_default : goal.returns-in_default
returns-in_default c =
    let g = high_group _ _ (type_small _ _ _ refl c.requires.0 c.requires.1.is) (omega (arith, c.if-image-at-gt127.true)) in
    says_no_not _ c.in_default.not-No
    ∙ ap (λ i. says_no (get_or c.args.side.now.kept i Unasked)) (c.from.ensures ∙ sym g.1)
    ∙ sym (stops_known _ _ _ _ _ _ c.if-most-passed.false ∙ outside_group _ _ _ g.0)

pub word_in-requires : goal.word_in-requires
word_in-requires c = c.requires.1.room

pub bounds-side-word_in : goal.bounds-side-word_in
bounds-side-word_in c =
    let basic : word_at c.args.image.now c.args.at < 32768 =
    high_basic _ _ (omega (arith, c.if-image-at-gt127.false)) (omega (arith, c.type_inv.image (c.args.at + 1))) in
    omega (arith, c.word_in.ensures.0, type_basic _ _ c.requires.1.is basic)

pub returns : goal.returns
returns c =
    let basic : word_at c.args.image.now c.args.at < 32768 =
    high_basic _ _ (omega (arith, c.if-image-at-gt127.false)) (omega (arith, c.type_inv.image (c.args.at + 1))) in
    ap (λ i. not (get_or c.args.side.now.marks.now i false)) c.word_in.ensures.0
    ∙ sym (stops_known _ _ _ _ _ _ c.if-most-passed.false ∙ outside_basic _ _ _ basic)

pub bounds : goal.bounds
bounds c =
    omega (arith, c.from.ensures)
