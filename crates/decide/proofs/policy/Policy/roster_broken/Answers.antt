-- `roster_broken` meets its contract: the marks are those of the second argument and of the list. Assumes nothing.
use mathlib.Core.Path.{◌∙◌}
use Rattle.decide.specs.Inner.Parts.{constraint_in}
use Rattle.decide.proofs.PartLaws.{constraint_types}
use Rattle.decide.proofs.MarkedLaws.{union_small}
use Rattle.decide.proofs.ConstraintLaws.{marks_small, marks_second, roster_is, list_is}
use Rattle.decide.proofs.policy.Policy.roster_broken.Goals as goal

pub mark_types-requires : goal.mark_types-requires
mark_types-requires c = constraint_types _ _ _ c.requires _ c.from.ensures

pub returns : goal.returns
returns c = let w = c.from.ensures in
    c.any_rule.ensures
    ∙ roster_is _ (constraint_in c.args.self.image.now c.args.at) _ _
    (marks_second _ _ _ c.requires c.args.self.ready.known.accepted _ c.mark_at.ensures)
    (marks_small _ _ _ (union_small _ _ _ c.args.self.ready.known.accepted (constraint_types _ _ _ c.requires _ w).are)
    (list_is _ _ _ c.requires _ w) c.mark_types.ensures)
