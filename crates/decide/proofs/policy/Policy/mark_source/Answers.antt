-- `mark_source` meets its contract: the source of a rule that reaches the marks is joined, and no other. Assumes nothing.
use mathlib.Core.Path.{sym, ◌∙◌}
use Rattle.decide.proofs.SourceLaws.{joined_reaching, joined_far}
use Rattle.decide.proofs.policy.Policy.mark_source.Goals as goal

pub returns-then-reaches : goal.returns-then-reaches
returns-then-reaches c = let r = c.reaches.ensures in
    let k = c.mark_once.ensures in (
      joined_reaching c.args.self.image.now c.args.at c.args.reach.now c.args.marks.now c.args.live _
          (sym r.is ∙ c.if-reaches.true) k.0,
      record { reach = r.kept; marking = k.1 },
    )

pub returns-else-reaches : goal.returns-else-reaches
returns-else-reaches c = let r = c.reaches.ensures in (
  joined_far c.args.self.image.now c.args.at c.args.reach.now c.args.marks.now c.args.live (sym r.is ∙ c.if-reaches.false),
  record { reach = r.kept; marking = c.requires.1.marking },
)
