-- `put_image` meets its contract: its five steps, one after the other. Assumes nothing.
use native.Mathlib.Omega.{arith}
use mathlib.Core.Path.{refl}
use Rattle.std.proofs.lemmas.List.{take_rest}
use Rattle.rewrite.proofs.NewLaws.{rules_lie, constraints_lie, whole}
use Rattle.rewrite.proofs.new_image.put_image.Goals as goal

pub retype_records-requires : goal.retype_records-requires
retype_records-requires c =
    rules_lie c.requires.ready (λ i. omega (arith, c.type_inv.image i)) c.requires.size c.word_at-rules.ensures.0
    c.word_at-constraints.ensures.0 (take_rest c.args.image.now 9) c.marks.ensures c.put_header.ensures c.put_kept-at.ensures c.copy.ensures refl

pub retype_records-requires-2 : goal.retype_records-requires-2
retype_records-requires-2 c =
    constraints_lie c.requires.ready (λ i. omega (arith, c.type_inv.image i)) c.requires.size c.word_at-rules.ensures.0
    c.word_at-constraints.ensures.0 (take_rest c.args.image.now 9) c.marks.ensures c.put_header.ensures c.put_kept-at.ensures c.copy.ensures refl
    c.retype_records.ensures refl refl refl

pub returns : goal.returns
returns c =
    whole c.requires.ready (λ i. omega (arith, c.type_inv.image i)) c.requires.size c.word_at-rules.ensures.0
    c.word_at-constraints.ensures.0 (take_rest c.args.image.now 9) c.marks.ensures c.put_header.ensures c.put_kept-at.ensures c.copy.ensures refl
    c.retype_records.ensures refl refl refl c.retype_records-2.ensures refl c.requires.room
