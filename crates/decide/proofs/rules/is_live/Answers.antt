-- `is_live` meets its contract: only an allow rule has a condition. Assumes nothing.
use native.Mathlib.Omega.{arith}
use mathlib.Core.Path.{◌≡◌, sym, ◌∙◌}
use mathlib.Core.Bool.{true}
use Rattle.decide.specs.Inner.Rules.{allow_at}
use Rattle.decide.proofs.RuleLaws.{live_off, live_on, allow_long, allow_condition}
use Rattle.decide.proofs.rules.is_live.Goals as goal

pub bounds-image-at : goal.bounds-image-at
bounds-image-at c =
    let allow : allow_at c.args.image.now c.args.at ≡ true = sym c.is_allow.ensures ∙ c.if-is_allow.true in
    let h = c.requires in omega (arith, h.here.inside, h.here.size, allow_long _ _ _ h allow)

pub is_on-requires : goal.is_on-requires
is_on-requires c =
    let allow : allow_at c.args.image.now c.args.at ≡ true = sym c.is_allow.ensures ∙ c.if-is_allow.true in
    allow_condition _ _ _ c.requires allow

pub returns-then-is_allow : goal.returns-then-is_allow
returns-then-is_allow c = c.is_on.ensures ∙ sym (live_on _ _ _ (sym c.is_allow.ensures ∙ c.if-is_allow.true))

pub returns-else-is_allow : goal.returns-else-is_allow
returns-else-is_allow c =
    c.if-is_allow.false ∙ sym (live_off _ _ _ (sym c.is_allow.ensures ∙ c.if-is_allow.false))
