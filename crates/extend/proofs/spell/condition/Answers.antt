-- `condition` meets its contract. Assumes nothing.
use Rattle.std.proofs.Common.{rules}
use Rattle.text.specs.Words.{ascii}
use Rattle.text.specs.Rows.{value_of}
use Rattle.extend.proofs.WordLaws.{said_or_or}
use Rattle.extend.proofs.spell.condition.Goals as goal

pub returns : goal.returns
unfolding value_of ascii
returns c =
    said_or_or _ _ _ c.args.text.now c.named.result c.or_else.result c.or_else-2.result (search rules) (search rules) (search rules)
