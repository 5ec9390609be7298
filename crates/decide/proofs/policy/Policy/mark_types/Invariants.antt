-- `mark_types` meets its contract: the sets that are left to mark, on top of what is marked, are all. Assumes nothing.
use mathlib.Core.Path.{◌≡◌}
use lib.ListN.{drop}
use Rattle.format.specs.Inner.Places.{words_at}
use Rattle.decision.specs.Sets.{union_of}
use Rattle.decide.specs.Inner.Parts.{groups_in}
use Rattle.decide.specs.Inner.Marks.{mark_all}
use Rattle.decide.proofs.policy.Policy.mark_types.Given as goal

abbrev pub invariant-loop-field : goal.invariant-loop-field
invariant-loop-field l =
    mark_all l.initial.marks (union_of (groups_in l.self.image.now) (words_at l.self.image.now l.count l.from))
    ≡ mark_all l.marks (union_of (groups_in l.self.image.now) (drop l.field-index (words_at l.self.image.now l.count l.from)))
