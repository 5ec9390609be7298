-- `is_switched` meets its contract: only an allow rule has a condition. Assumes nothing.
use native.Mathlib.Omega.{arith}
use mathlib.Core.Path.{◌≡◌, sym, ◌∙◌}
use mathlib.Core.Bool.{true}
use Rattle.decide.specs.Inner.Rules.{allow_at}
use Rattle.decide.proofs.RuleLaws.{allow_long}
use Rattle.decide.proofs.VerdictLaws.{names_not, names_allow}
use Rattle.decide.proofs.verdicts.is_switched.Goals as goal

pub bounds-image-at : goal.bounds-image-at
bounds-image-at c =
    let allow : allow_at c.args.image.now c.args.at ≡ true = sym c.requires.1 ∙ c.if-allow.true in
    let h = c.requires.0 in omega (arith, h.here.inside, h.here.size, allow_long _ _ _ h allow)

pub returns-then-allow : goal.returns-then-allow
returns-then-allow c =
    let allow : allow_at c.args.image.now c.args.at ≡ true = sym c.requires.1 ∙ c.if-allow.true in
    let h = c.requires.0 in sym (names_allow _ _ _ h allow (allow_long _ _ _ h allow))

pub returns-else-allow : goal.returns-else-allow
returns-else-allow c =
    c.if-allow.false ∙ sym (names_not _ _ _ c.requires.0 (sym c.requires.1 ∙ c.if-allow.false))
