-- `layout` meets its contract: the survey, whose table is not kept; of one group or none, 1 to 7 alone. Assumes nothing.
use mathlib.Core.Path.{◌≡◌, ap, ◌∙◌}
use Rattle.std.specs.Prelude.{None}
use native.Mathlib.Omega.{arith}
use Rattle.format.specs.Twins.{twin_fault}
use Rattle.format.specs.Answers.{outcome, starts}
use Rattle.format.proofs.ByCase.{count_groups}
use Rattle.image.proofs.AlikeLaws.{twins_few}
use Rattle.image.proofs.SurveyLaws.{check_few}
use Rattle.image.proofs.checker.layout.Goals as goal

pub returns-then-word_at-lt2 : goal.returns-then-word_at-lt2
returns-then-word_at-lt2 c =
    let few : twin_fault c.args.image.now ≡ None = let l = c.args.image.now in
    twins_few l (omega (arith, count_groups l, c.word_at.ensures.0)) in
    let l = c.args.image.now in
    c.check_all.ensures.sections ∙ ap (λ f. outcome f (starts l)) (check_few l few)
