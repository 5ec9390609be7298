-- `constraint_fields` meets its contract: the tests are the definition's, in its order. Assumes nothing.
use Rattle.format.specs.Refusals.{need, ◌or_else◌}
use Rattle.format.specs.Check.{read_fields}
use Rattle.image.proofs.FieldLaws.{told_false, told_true}
use mathlib.Core.Path.{◌≡◌, ap, sym, ◌∙◌}
use Prim.Native.Nat.{◌/◌}
use lib.ListN.{length, get_or, drop, length-drop}
use Rattle.format.specs.Bytes.{words}
use Rattle.format.specs.Format.{bad_constraint, list_ok}
use Rattle.format.proofs.Bytes.{length_words}
use Rattle.image.proofs.fields.constraint_fields.Goals as goal

pub returns-then-not-type_at : goal.returns-then-not-type_at
unfolding bad_constraint need ◌or_else◌ read_fields
returns-then-not-type_at c = simp (told_false c.type_at.ensures c.if-not-type_at.true)

pub returns-then-not-type_at-2 : goal.returns-then-not-type_at-2
unfolding bad_constraint need ◌or_else◌ read_fields
returns-then-not-type_at-2 c = simp (told_true c.type_at.ensures c.if-not-type_at.false, told_false c.type_at-2.ensures c.if-not-type_at-2.true)

pub returns-then-not-list_ok : goal.returns-then-not-list_ok
unfolding bad_constraint need ◌or_else◌ read_fields
returns-then-not-list_ok c =
    let listed : c.list_ok.result
    ≡ list_ok (get_or c.args.part.now 10 0)
    (length (words (drop 11 c.args.part.now))) = let p = c.args.part.now in
    c.list_ok.ensures ∙ ap (list_ok (get_or p 10 0)) (sym (length_words (drop 11 p) ∙ ap (λ n. n / 2) (length-drop 11 p))) in
    simp (told_true c.type_at.ensures c.if-not-type_at.false, told_true c.type_at-2.ensures c.if-not-type_at-2.false, told_false listed c.if-not-list_ok.true)

pub returns : goal.returns
unfolding bad_constraint need ◌or_else◌
returns c =
    let listed : c.list_ok.result
    ≡ list_ok (get_or c.args.part.now 10 0)
    (length (words (drop 11 c.args.part.now))) = let p = c.args.part.now in
    c.list_ok.ensures ∙ ap (list_ok (get_or p 10 0)) (sym (length_words (drop 11 p) ∙ ap (λ n. n / 2) (length-drop 11 p))) in
    simp (told_true c.type_at.ensures c.if-not-type_at.false, told_true c.type_at-2.ensures c.if-not-type_at-2.false, told_true listed c.if-not-list_ok.false) c.type_list.ensures
