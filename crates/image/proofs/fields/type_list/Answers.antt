-- `type_list` meets its contract: what is bad from a type's place on is what is bad in all. Assumes nothing.
use native.Mathlib.Omega.{arith}
use Prim.Native.Nat.{◌+◌, ◌*◌}
use mathlib.Core.Path.{◌≡◌, sym, ap, ◌∙◌}
use Rattle.format.specs.Format.{is_type}
use Rattle.image.proofs.FieldLaws.{read_bad, read_good, types_end, types_bad, types_next, Pairs, pairs_of, pairs_inside, pairs_past, pairs_word}
use Rattle.image.proofs.fields.type_list.Goals as goal

pub returns-then-not-is_type : goal.returns-then-not-is_type
returns-then-not-is_type c =
    let pairs : Pairs c.args.part.now c.args.from c.as_chunks.result.0.now = pairs_of _ _ _ c.as_chunks.ensures.front c.as_chunks.ensures.front_len in
    let told = c.is_type.ensures ∙ ap (is_type c.args.groups) (c.from.ensures ∙ c.from_be_bytes.ensures ∙ pairs_word _ _ _ pairs c.loop-i.i _ (omega arith)) in
    read_bad _ (c.loop-i.invariant ∙ types_bad _ _ _ (pairs_inside _ _ _ pairs c.loop-i.i (omega arith)) (sym told ∙ c.if-not-is_type.true))

pub loop-i-preserved : goal.loop-i-preserved
loop-i-preserved c =
    let pairs : Pairs c.args.part.now c.args.from c.as_chunks.result.0.now = pairs_of _ _ _ c.as_chunks.ensures.front c.as_chunks.ensures.front_len in
    let told = c.is_type.ensures ∙ ap (is_type c.args.groups) (c.from.ensures ∙ c.from_be_bytes.ensures ∙ pairs_word _ _ _ pairs c.loop-i.i _ (omega arith)) in
    let next : c.args.from + 2 * c.loop-i.i + 2 ≡ c.args.from + 2 * (c.loop-i.i + 1) = omega arith in
    rw (sym next) (c.loop-i.invariant ∙ types_next _ _ _ (pairs_inside _ _ _ pairs c.loop-i.i (omega arith)) (sym told ∙ c.if-not-is_type.false))

pub returns : goal.returns
returns c =
    let pairs : Pairs c.args.part.now c.args.from c.as_chunks.result.0.now = pairs_of _ _ _ c.as_chunks.ensures.front c.as_chunks.ensures.front_len in
    read_good _ (c.loop-i.invariant ∙ types_end _ _ _ (omega (arith, pairs_past _ _ _ pairs (omega arith))))
