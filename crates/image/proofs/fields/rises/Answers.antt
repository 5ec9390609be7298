-- `rises` meets its contract: each member is below the next, and the last is a basic type. Assumes nothing.
use native.Mathlib.Omega.{arith}
use mathlib.Core.Path.{sym, ◌∙◌}
use Rattle.image.proofs.FieldLaws.{Pairs, pairs_of, folded_rise, first_word, next_many, next_word, rise_more, rising_group}
use Rattle.image.proofs.fields.rises.Goals as goal

pub returns-then-members-ge-MANY : goal.returns-then-members-ge-MANY
returns-then-members-ge-MANY c t =
    let pairs : Pairs c.args.part.now 2 c.as_chunks.result.0.now = pairs_of _ _ _ c.as_chunks.ensures.front c.as_chunks.ensures.front_len in
    rising_group c.args.part.now _ pairs (omega arith) (omega arith) (omega (arith, c.word_in.ensures.0))
    (folded_rise _ _ pairs (sym c.all_below.ensures ∙ t))

pub loop-member-init : goal.loop-member-init
loop-member-init c =
    let pairs : Pairs c.args.part.now 2 c.as_chunks.result.0.now = pairs_of _ _ _ c.as_chunks.ensures.front c.as_chunks.ensures.front_len in
    record { here = c.from_be_bytes-last.ensures ∙ first_word _ _ pairs (omega arith); rise = λ k h. absurd (omega arith) }

pub loop-member-preserved : goal.loop-member-preserved
loop-member-preserved c =
    let pairs : Pairs c.args.part.now 2 c.as_chunks.result.0.now = pairs_of _ _ _ c.as_chunks.ensures.front c.as_chunks.ensures.front_len in
    let l = c.loop-member in
    let many = next_many _ _ pairs in
    let next = c.from_be_bytes-next.ensures ∙ next_word _ _ pairs l.member-index (omega (arith, many)) in
    record { here = next; rise = rise_more _ l.member-index _ _ l.invariant.here next c.if-next-last.false l.invariant.rise }

pub returns : goal.returns
returns c t =
    let pairs : Pairs c.args.part.now 2 c.as_chunks.result.0.now = pairs_of _ _ _ c.as_chunks.ensures.front c.as_chunks.ensures.front_len in
    let many = next_many _ _ pairs in
    rising_group c.args.part.now _ pairs (omega arith) (omega arith) (omega (arith, c.word_in.ensures.0))
    (λ k h. c.loop-member.invariant.rise k (omega (arith, many)))
