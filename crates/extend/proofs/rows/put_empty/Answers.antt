-- `put_empty` meets its contract: the nine bytes of the empty policy. Assumes nothing.
use Rattle.format.specs.Sample.{empty}
use Rattle.extension.specs.Add.{overwrite}
use Rattle.extend.proofs.rows.put_empty.Goals as goal

pub returns : goal.returns
unfolding overwrite empty
returns c = rw c.copy_from_slice.ensures.after
