-- `any_switched` meets its contract: the rules from the running one on answer as all do. Assumes nothing.
use native.Mathlib.Omega.{arith}
use mathlib.Core.Path.{sym, ◌∙◌}
use Rattle.format.proofs.Accepted.{accepted_header}
use Rattle.format.proofs.ByCase.{count_rules}
use Rattle.decide.specs.Inner.Parts.{RuleHere}
use Rattle.decide.proofs.PartLaws.{ready_rules}
use Rattle.decide.proofs.RuleLaws.{allow_long}
use Rattle.decide.proofs.VerdictLaws.{any_named_lem}
use Rattle.decide.proofs.WalkLaws.{walk_start, walk_rule, any_end, any_hit, any_next}
use Rattle.decide.proofs.policy.Policy.any_switched.Goals as goal

pub word_in-count-requires : goal.word_in-count-requires
word_in-count-requires c = omega (arith, (accepted_header _ c.args.self.ready.known.accepted).long)

pub loop-n-init : goal.loop-n-init
loop-n-init c = walk_start _ _ _ _ _ _ _ (ready_rules _ _ _ c.args.self.ready) (c.word_in-count.ensures.0 ∙ sym (count_rules _))
    (any_named_lem _)

pub is_allow-allow-requires : goal.is_allow-allow-requires
is_allow-allow-requires c =
    let here : RuleHere c.args.self.image.now c.loop-n.at =
    walk_rule c.loop-n.invariant (omega arith) c.args.self.ready.known.accepted in
    here

pub is_switched-requires : goal.is_switched-requires
is_switched-requires c =
    let here : RuleHere c.args.self.image.now c.loop-n.at =
    walk_rule c.loop-n.invariant (omega arith) c.args.self.ready.known.accepted in
    (here, c.is_allow-allow.ensures)

pub returns-then-is_switched : goal.returns-then-is_switched
returns-then-is_switched c = any_hit _ c.loop-n.invariant (omega arith) (sym c.is_switched.ensures ∙ c.if-is_switched.true)

pub past-at-requires : goal.past-at-requires
past-at-requires c =
    let here : RuleHere c.args.self.image.now c.loop-n.at =
    walk_rule c.loop-n.invariant (omega arith) c.args.self.ready.known.accepted in
    (here, λ e. allow_long _ _ _ here (sym c.is_allow-allow.ensures ∙ e))

pub loop-n-preserved : goal.loop-n-preserved
loop-n-preserved c = any_next _ c.loop-n.invariant (omega arith)
    (sym c.is_switched.ensures ∙ c.if-is_switched.false) _ c.past-at.ensures

pub returns : goal.returns
returns c = any_end _ c.loop-n.invariant (λ z. absurd (omega arith))
