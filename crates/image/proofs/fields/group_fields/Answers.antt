-- `group_fields` meets its contract: a group that is not seen to be well is searched for its first bad member. Assumes nothing.
use Rattle.image.proofs.FieldLaws.{read_good}
use Rattle.image.proofs.fields.group_fields.Goals as goal

pub returns-then-rises : goal.returns-then-rises
returns-then-rises c = read_good _ (c.rises.ensures c.if-rises.true)
