-- `any_shared` meets its contract: what is marked and the rules from the running one on give what all rules give. Assumes
-- nothing.
use native.Mathlib.Omega.{arith}
use mathlib.Core.Path.{sym, ◌∙◌}
use Rattle.format.proofs.Accepted.{accepted_header}
use Rattle.format.proofs.ByCase.{count_rules}
use Rattle.decide.specs.Inner.Parts.{RuleHere}
use Rattle.decide.proofs.PartLaws.{ready_rules, rule_dest}
use Rattle.decide.proofs.KeptLaws.{kept_none}
use Rattle.decide.proofs.RuleLaws.{live_length}
use Rattle.decide.proofs.WalkLaws.{walk_rule}
use Rattle.decide.proofs.SourceLaws.{joined_rule, marking_none, sources_start, sources_next, sources_end, shared_is}
use Rattle.decide.proofs.policy.Policy.any_shared.Goals as goal

pub word_in-count-requires : goal.word_in-count-requires
word_in-count-requires c = omega (arith, (accepted_header _ c.args.self.ready.known.accepted).long)

pub loop-n-init : goal.loop-n-init
loop-n-init c = let e = ready_rules _ _ _ c.args.self.ready in
    let k = c.word_in-count.ensures.0 ∙ sym (count_rules _) in
    record {
      walk = (sources_start _ _ _ _ _ e k, sources_start _ _ _ _ _ e k);
      kept = (
        record { reach = kept_none _ 256; marking = marking_none _ 256 },
        record { reach = kept_none _ 256; marking = marking_none _ 256 },
      );
    }

pub is_live-live-requires : goal.is_live-live-requires
is_live-live-requires c =
    walk_rule (c.loop-n.invariant.walk.0 0) (omega arith) c.args.self.ready.known.accepted

pub meet_each-requires : goal.meet_each-requires
meet_each-requires c =
    let here : RuleHere c.args.self.image.now c.loop-n.at =
    walk_rule (c.loop-n.invariant.walk.0 0) (omega arith) c.args.self.ready.known.accepted in
    let I = c.loop-n.invariant in (rule_dest _ _ _ here, I.kept.0.reach, I.kept.1.reach)

pub mark_source-requires : goal.mark_source-requires
mark_source-requires c =
    let here : RuleHere c.args.self.image.now c.loop-n.at =
    walk_rule (c.loop-n.invariant.walk.0 0) (omega arith) c.args.self.ready.known.accepted in (
      here,
      record { reach = c.meet_each.ensures.0; marking = c.loop-n.invariant.kept.0.marking },
    )

pub mark_source-requires-in-loop-n : goal.mark_source-requires-in-loop-n
mark_source-requires-in-loop-n c =
    let here : RuleHere c.args.self.image.now c.loop-n.at =
    walk_rule (c.loop-n.invariant.walk.0 0) (omega arith) c.args.self.ready.known.accepted in (
      here,
      record { reach = c.meet_each.ensures.1; marking = c.loop-n.invariant.kept.1.marking },
    )

pub past-at-requires : goal.past-at-requires
past-at-requires c =
    let here : RuleHere c.args.self.image.now c.loop-n.at =
    walk_rule (c.loop-n.invariant.walk.0 0) (omega arith) c.args.self.ready.known.accepted in
    (here, live_length _ _ _ here _ _ c.is_live-live.ensures)

pub loop-n-preserved : goal.loop-n-preserved
loop-n-preserved c =
    let here : RuleHere c.args.self.image.now c.loop-n.at =
    walk_rule (c.loop-n.invariant.walk.0 0) (omega arith) c.args.self.ready.known.accepted in
    let I = c.loop-n.invariant in
    let is = c.is_live-live.ensures in
    let r = c.mark_source.ensures in
    let t = c.mark_source-in-loop-n.ensures in
    record {
      walk = (
        sources_next _ _ _ _ _ _ _ I.walk.0 (omega arith) _ (joined_rule _ _ _ _ _ _ _ here is _ r.0) _ c.past-at.ensures,
        sources_next _ _ _ _ _ _ _ I.walk.1 (omega arith) _ (joined_rule _ _ _ _ _ _ _ here is _ t.0) _ c.past-at.ensures,
      );
      kept = (r.1, t.1);
    }

pub returns : goal.returns
returns c = let L = c.loop-n in
    c.any_both.ensures
    ∙ shared_is _ _ _ _ L.a L.b L.invariant.kept.0.marking.all
    (sources_end _ _ _ L.a _ _ _ L.invariant.walk.0 (λ z. absurd (omega arith)))
    (sources_end _ _ _ L.b _ _ _ L.invariant.walk.1 (λ z. absurd (omega arith)))

pub any_both-requires : goal.any_both-requires
any_both-requires c =
    tt
