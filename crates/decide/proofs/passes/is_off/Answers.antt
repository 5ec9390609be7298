-- `is_off` meets its contract: only an allow rule has a condition. Assumes nothing.
use native.Mathlib.Omega.{arith}
use mathlib.Core.Path.{◌≡◌, sym, ap, ◌∙◌}
use mathlib.Core.Bool.{true, not}
use Rattle.decide.specs.Inner.Rules.{allow_at}
use Rattle.decide.proofs.RuleLaws.{allow_long, allow_condition}
use Rattle.decide.proofs.NearerLaws.{off_no, off_yes}
use Rattle.decide.proofs.passes.is_off.Goals as goal

pub returns-then-not-allow : goal.returns-then-not-allow
returns-then-not-allow c = sym (off_no _ _ (sym c.requires.1 ∙ c.if-not-allow.true) _)

pub bounds-image-at : goal.bounds-image-at
bounds-image-at c =
    let allow : allow_at c.args.image.now c.args.at ≡ true = sym c.requires.1 ∙ c.if-not-allow.false in
    let h = c.requires.0 in omega (arith, h.here.inside, h.here.size, allow_long _ _ _ h allow)

pub is_on-requires : goal.is_on-requires
is_on-requires c =
    let allow : allow_at c.args.image.now c.args.at ≡ true = sym c.requires.1 ∙ c.if-not-allow.false in
    allow_condition _ _ _ c.requires.0 allow

pub returns : goal.returns
returns c =
    let allow : allow_at c.args.image.now c.args.at ≡ true = sym c.requires.1 ∙ c.if-not-allow.false in
    ap not c.is_on.ensures ∙ sym (off_yes _ _ allow _)
