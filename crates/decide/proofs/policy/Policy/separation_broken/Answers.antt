-- `separation_broken` meets its contract: the arguments' marks are those of their sets. Assumes nothing.
use mathlib.Core.Path.{◌∙◌}
use Rattle.decide.specs.Inner.Parts.{constraint_in}
use Rattle.decide.proofs.ConstraintLaws.{marks_first, marks_second, separation_is}
use Rattle.decide.proofs.policy.Policy.separation_broken.Goals as goal

pub returns : goal.returns
returns c = c.any_shared.ensures
    ∙ separation_is _ (constraint_in c.args.self.image.now c.args.at) _ _
    (marks_first _ _ _ c.requires c.args.self.ready.known.accepted _ c.mark_at.ensures)
    (marks_second _ _ _ c.requires c.args.self.ready.known.accepted _ c.mark_at-2.ensures)
