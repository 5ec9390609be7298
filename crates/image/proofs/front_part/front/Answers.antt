-- `front` meets its contract: the check of the leading bytes is the check of the front. Assumes nothing.
use mathlib.Core.Path.{ap, ◌∙◌}
use Rattle.format.specs.Check.{check}
use Rattle.format.specs.Answers.{outcome, starts}
use Rattle.image.proofs.FrontLaws.{front_outcome}
use Rattle.image.proofs.front_part.front.Goals as goal

pub returns : goal.returns
returns c = c.layout.ensures ∙ ap (λ l. outcome (check l) (starts l)) c.leading.ensures.bytes ∙ front_outcome _
