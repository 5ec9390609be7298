-- `same_record` meets its contract: what is asked of all bytes is asked of the records. Assumes nothing.
use mathlib.Core.Path.{◌∙◌}
use Rattle.image.proofs.AlikeLaws.{same_fold}
use Rattle.image.proofs.twins.same_record.Goals as goal

pub returns : goal.returns
returns c = c.all_same.ensures ∙ same_fold _ _ c.if-a-b.false
