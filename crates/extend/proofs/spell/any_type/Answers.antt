-- `any_type` meets its contract. Assumes nothing.
use Rattle.std.proofs.Common.{rules}
use Rattle.text.specs.Rows.{value_of}
use Rattle.extend.proofs.WordLaws.{said_or}
use Rattle.extend.proofs.spell.any_type.Goals as goal

pub returns : goal.returns
unfolding value_of
returns c = said_or _ _ c.args.text.now c.number.result c.or_else.result c.number.ensures (search rules)
