-- `may` meets its contract: the tests are the definition's. Assumes nothing.
use native.Mathlib.Omega.{arith}
use mathlib.Core.Path.{◌≡◌, sym, ap, ◌∙◌}
use mathlib.Core.Bool.{true}
use lib.Dec.{eqb}
use Rattle.decide.proofs.RuleLaws.{allow_long, allow_condition}
use Rattle.decide.proofs.CoverLaws.{may_transition, may_other, may_off, may_class, may_action, low_byte}
use Rattle.decide.specs.Inner.Rules.{allow_at}
use Prim.Native.Nat.{◌+◌, ◌<◌}
use Rattle.decide.proofs.cover.may.Goals as goal

pub returns-then-not-allow : goal.returns-then-not-allow
returns-then-not-allow c = sym (may_transition _ _ _ (sym c.requires.1 ∙ c.if-not-allow.true))

pub returns-then-from : goal.returns-then-from
returns-then-from c =
    let allow : allow_at c.args.image.now c.args.at ≡ true = sym c.requires.1 ∙ c.if-not-allow.false in
    let small : c.from.result < 256 = omega (arith, c.from.ensures, c.type_inv.image (c.args.at + 7)) in
    sym (may_other _ _ _ allow
    (λ e. c.if-from.true (low_byte _ _ _ _ c.from.ensures small (e ∙ sym c.from-2.ensures))))

pub bounds-image-at-2 : goal.bounds-image-at-2
bounds-image-at-2 c =
    let allow : allow_at c.args.image.now c.args.at ≡ true = sym c.requires.1 ∙ c.if-not-allow.false in
    let h = c.requires.0 in omega (arith, h.here.inside, h.here.size, allow_long _ _ _ h allow)

pub is_on-requires : goal.is_on-requires
is_on-requires c =
    let allow : allow_at c.args.image.now c.args.at ≡ true = sym c.requires.1 ∙ c.if-not-allow.false in
    allow_condition _ _ _ c.requires.0 allow

pub returns-then-not-is_on : goal.returns-then-not-is_on
returns-then-not-is_on c =
    let allow : allow_at c.args.image.now c.args.at ≡ true = sym c.requires.1 ∙ c.if-not-allow.false in
    sym (may_off _ _ _ allow (sym c.is_on.ensures ∙ c.if-not-is_on.true))

pub returns-then-word_in-from : goal.returns-then-word_in-from
returns-then-word_in-from c =
    let allow : allow_at c.args.image.now c.args.at ≡ true = sym c.requires.1 ∙ c.if-not-allow.false in
    sym (may_class _ _ _ allow _ c.word_in.ensures.0 (sym c.is_on.ensures ∙ c.if-not-is_on.false)
    (λ e. c.if-word_in-from.true (e ∙ sym c.from-3.ensures)))

pub word_in-requires-2 : goal.word_in-requires-2
word_in-requires-2 c =
    let allow : allow_at c.args.image.now c.args.at ≡ true = sym c.requires.1 ∙ c.if-not-allow.false in
    let h = c.requires.0 in omega (arith, h.here.inside, h.here.size, allow_long _ _ _ h allow)

pub returns : goal.returns
returns c =
    let allow : allow_at c.args.image.now c.args.at ≡ true = sym c.requires.1 ∙ c.if-not-allow.false in
    ap (eqb c.word_in-2.result) c.from-4.ensures
    ∙ sym (may_action _ _ _ allow _ _ c.word_in.ensures.0 c.word_in-2.ensures.0 (sym c.is_on.ensures ∙ c.if-not-is_on.false)
    (c.if-word_in-from.false ∙ c.from-3.ensures))
