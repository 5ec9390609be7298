-- `allow_fields` meets its contract: the tests are the definition's, in its order. Assumes nothing.
use Rattle.format.specs.Refusals.{need, ◌or_else◌}
use Rattle.format.specs.Check.{read_fields}
use Rattle.image.proofs.FieldLaws.{told_false, told_true}
use Rattle.format.specs.Format.{bad_allow}
use Rattle.image.proofs.fields.allow_fields.Goals as goal

pub returns-then-not-type_at : goal.returns-then-not-type_at
unfolding bad_allow need ◌or_else◌ read_fields
returns-then-not-type_at c = simp (told_false c.type_at.ensures c.if-not-type_at.true)

pub returns-then-not-type_at-2 : goal.returns-then-not-type_at-2
unfolding bad_allow need ◌or_else◌ read_fields
returns-then-not-type_at-2 c = simp (told_true c.type_at.ensures c.if-not-type_at.false, told_false c.type_at-2.ensures c.if-not-type_at-2.true)

pub returns-then-not-is_condition : goal.returns-then-not-is_condition
unfolding bad_allow need ◌or_else◌ read_fields
returns-then-not-is_condition c = simp (told_true c.type_at.ensures c.if-not-type_at.false, told_true c.type_at-2.ensures c.if-not-type_at-2.false, told_false c.is_condition.ensures c.if-not-is_condition.true)

pub returns : goal.returns
unfolding bad_allow need ◌or_else◌ read_fields
returns c = simp (told_true c.type_at.ensures c.if-not-type_at.false, told_true c.type_at-2.ensures c.if-not-type_at-2.false, told_true c.is_condition.ensures c.if-not-is_condition.false)
