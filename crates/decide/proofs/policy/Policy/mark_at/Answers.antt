-- `mark_at` meets its contract: the number in the field is the type. Assumes nothing.
use mathlib.Core.Path.{sym, ap, subst, ◌∙◌}
use Rattle.format.specs.Claims.{IsType}
use Rattle.decide.specs.Inner.Parts.{set_in}
use Rattle.decide.specs.Inner.Marks.{mark_all}
use Rattle.decide.proofs.policy.Policy.mark_at.Goals as goal

pub mark_type-requires : goal.mark_type-requires
mark_type-requires c = subst (IsType _) (sym c.word_in.ensures.0) c.requires.is

pub returns : goal.returns
returns c = let a = c.args in
    c.mark_type.ensures.0 ∙ ap (λ t. mark_all a.marks.now (set_in a.self.image.now t)) c.word_in.ensures.0
