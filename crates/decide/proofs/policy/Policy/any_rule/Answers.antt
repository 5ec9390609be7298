-- `any_rule` meets its contract: the rules from the running one on answer as all do. Assumes nothing.
use native.Mathlib.Omega.{arith}
use mathlib.Core.Path.{sym, ap, ◌∙◌}
use Rattle.format.proofs.Accepted.{accepted_header}
use Rattle.format.proofs.ByCase.{count_rules}
use Rattle.decision.specs.Sets.{any_of}
use Rattle.decide.specs.Inner.Parts.{RuleHere}
use Rattle.decide.specs.Inner.Marks.{any_is}
use Rattle.decide.proofs.PartLaws.{ready_rules, rule_source}
use Rattle.decide.proofs.KeptLaws.{kept_none}
use Rattle.decide.proofs.RuleLaws.{source_is, reaching_is, not_reaching, reaching_source, live_length}
use Rattle.decide.proofs.WalkLaws.{walk_start, walk_rule, any_end, any_hit, any_next, all_rules}
use Rattle.decide.proofs.policy.Policy.any_rule.Goals as goal
use Rattle.decide.proofs.policy.Policy.any_rule.Goals.{then-reaches+else-meets, else-reaches}

pub word_in-count-requires : goal.word_in-count-requires
word_in-count-requires c = omega (arith, (accepted_header _ c.args.self.ready.known.accepted).long)

pub loop-n-init : goal.loop-n-init
loop-n-init c = record {
  walk = walk_start _ _ _ _ _ _ _ (ready_rules _ _ _ c.args.self.ready) (c.word_in-count.ensures.0 ∙ sym (count_rules _))
      (ap (any_of _) (all_rules _ _));
  kept = record { reach = kept_none _ 256; source = kept_none _ 256 };
}

pub is_live-live-requires : goal.is_live-live-requires
is_live-live-requires c =
    walk_rule c.loop-n.invariant.walk (omega arith) c.args.self.ready.known.accepted

pub reaches-requires : goal.reaches-requires
reaches-requires c =
    let here : RuleHere c.args.self.image.now c.loop-n.at =
    walk_rule c.loop-n.invariant.walk (omega arith) c.args.self.ready.known.accepted in
    (here, c.loop-n.invariant.kept.reach)

pub overflow_add-at : goal.overflow_add-at
overflow_add-at c =
    let h = walk_rule c.loop-n.invariant.walk (omega arith) c.args.self.ready.known.accepted in
    omega (arith, h.long, h.here.inside)

pub meets-requires : goal.meets-requires
meets-requires c =
    let here : RuleHere c.args.self.image.now c.loop-n.at =
    walk_rule c.loop-n.invariant.walk (omega arith) c.args.self.ready.known.accepted in
    (rule_source _ _ _ here, c.loop-n.invariant.kept.source)

pub returns-then-meets : goal.returns-then-meets
returns-then-meets c =
    let here : RuleHere c.args.self.image.now c.loop-n.at =
    walk_rule c.loop-n.invariant.walk (omega arith) c.args.self.ready.known.accepted in
    any_hit _ c.loop-n.invariant.walk (omega arith)
    (reaching_source _ _ _
    (reaching_is _ _ _ _ here _ _ c.is_live-live.ensures ∙ sym c.reaches.ensures.is ∙ c.if-reaches.true)
    ∙ ap (any_is _ _) (source_is _ _ _ _ here) ∙ sym c.meets.ensures.is ∙ c.if-meets.true)

pub past-at-requires : goal.past-at-requires
past-at-requires c =
    let here : RuleHere c.args.self.image.now c.loop-n.at =
    walk_rule c.loop-n.invariant.walk (omega arith) c.args.self.ready.known.accepted in
    (here, live_length _ _ _ here _ _ c.is_live-live.ensures)

pub loop-n-preserved : goal.loop-n-preserved
loop-n-preserved c =
    let here : RuleHere c.args.self.image.now c.loop-n.at =
    walk_rule c.loop-n.invariant.walk (omega arith) c.args.self.ready.known.accepted in
    let I = c.loop-n.invariant in
    let r = c.reaches.ensures in
    let live = reaching_is _ _ _ _ here _ _ c.is_live-live.ensures in
    elim c.if-reaches.branch [
      | then-reaches+else-meets w ↦ record {
        walk = any_next _ I.walk (omega arith)
            (reaching_source _ _ _ (live ∙ sym r.is ∙ w.if-reaches.true) ∙ ap (any_is _ _) (source_is _ _ _ _ here)
            ∙ sym w.meets.ensures.is ∙ w.if-meets.false) _ c.past-at.ensures;
        kept = record { reach = r.kept; source = rw w.ksource-is w.meets.ensures.kept };
      }
      | else-reaches w ↦ record {
        walk = any_next _ I.walk (omega arith)
            (not_reaching _ _ _ (live ∙ sym r.is ∙ w.if-reaches.false)) _ c.past-at.ensures;
        kept = record { reach = r.kept; source = rw w.ksource-is I.kept.source };
      }
    ]

pub returns : goal.returns
returns c = any_end _ c.loop-n.invariant.walk (λ z. absurd (omega arith))
