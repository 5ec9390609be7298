-- `first_member` meets its contract: what is bad from a member's place on is what is bad in all. Assumes nothing.
use native.Mathlib.Omega.{arith}
use Prim.Native.Nat.{◌+◌, ◌*◌}
use mathlib.Core.Path.{◌≡◌, refl, sym, ◌∙◌}
use Rattle.format.specs.Format.{bad_group}
use Rattle.image.proofs.FieldLaws.{read_bad, read_good, members_end, members_low, members_high, members_next}
use Rattle.image.proofs.FieldLaws.{Pairs, pairs_of, pairs_inside, pairs_past, pairs_word}
use Rattle.image.proofs.fields.first_member.Goals as goal

pub loop-i-init : goal.loop-i-init
unfolding bad_group
loop-i-init c = (omega arith, refl)

pub returns-then-member-low : goal.returns-then-member-low
returns-then-member-low c =
    let pairs : Pairs c.args.part.now 2 c.as_chunks.result.0.now = pairs_of _ _ _ c.as_chunks.ensures.front c.as_chunks.ensures.front_len in
    let is = c.from_be_bytes-member.ensures ∙ pairs_word _ _ _ pairs c.loop-i.i _ (omega arith) in
    let inside = pairs_inside _ _ _ pairs c.loop-i.i (omega arith) in
    read_bad _ (c.loop-i.invariant.1 ∙ members_low _ _ _ _ is inside (omega arith))

pub returns-then-member-ge1024 : goal.returns-then-member-ge1024
returns-then-member-ge1024 c =
    let pairs : Pairs c.args.part.now 2 c.as_chunks.result.0.now = pairs_of _ _ _ c.as_chunks.ensures.front c.as_chunks.ensures.front_len in
    let is = c.from_be_bytes-member.ensures ∙ pairs_word _ _ _ pairs c.loop-i.i _ (omega arith) in
    let inside = pairs_inside _ _ _ pairs c.loop-i.i (omega arith) in
    read_bad _ (c.loop-i.invariant.1 ∙ members_high _ _ _ _ is inside (omega arith) (omega arith))

pub loop-i-preserved : goal.loop-i-preserved
loop-i-preserved c =
    let pairs : Pairs c.args.part.now 2 c.as_chunks.result.0.now = pairs_of _ _ _ c.as_chunks.ensures.front c.as_chunks.ensures.front_len in
    let is = c.from_be_bytes-member.ensures ∙ pairs_word _ _ _ pairs c.loop-i.i _ (omega arith) in
    let inside = pairs_inside _ _ _ pairs c.loop-i.i (omega arith) in
    let next : 2 + 2 * c.loop-i.i + 2 ≡ 2 + 2 * (c.loop-i.i + 1) = omega arith in
    (omega arith, rw (sym next) (c.loop-i.invariant.1 ∙ members_next _ _ _ _ is inside (omega arith) (omega arith)))

pub returns : goal.returns
returns c =
    let pairs : Pairs c.args.part.now 2 c.as_chunks.result.0.now = pairs_of _ _ _ c.as_chunks.ensures.front c.as_chunks.ensures.front_len in
    read_good _ (c.loop-i.invariant.1 ∙ members_end _ _ _ (omega (arith, pairs_past _ _ _ pairs (omega arith))))
