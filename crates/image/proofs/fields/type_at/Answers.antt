-- `type_at` meets its contract. Assumes nothing.
use mathlib.Core.Path.{ap, ◌∙◌}
use Rattle.format.specs.Format.{is_type}
use Rattle.image.proofs.fields.type_at.Goals as goal

pub returns : goal.returns
returns c = c.is_type.ensures ∙ ap (is_type c.args.groups) c.word_in.ensures.0
