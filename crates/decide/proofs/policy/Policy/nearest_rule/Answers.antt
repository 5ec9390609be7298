-- `nearest_rule` meets its contract: the nearest so far and the rules from the running one on give what all do. Assumes
-- nothing.
use native.Mathlib.Omega.{arith}
use mathlib.Core.Path.{sym, ◌∙◌}
use Rattle.format.proofs.Tests.{false_not_true}
use Rattle.format.proofs.Accepted.{accepted_header}
use Rattle.format.proofs.ByCase.{count_rules}
use Rattle.decide.proofs.PartLaws.{ready_rules}
use Rattle.decide.proofs.WalkLaws.{walk_rule}
use Rattle.decide.proofs.NearerLaws.{near_empty, near_start, near_next, near_four}
use Rattle.decide.proofs.policy.Policy.nearest_rule.Goals as goal

pub word_in-count-requires : goal.word_in-count-requires
word_in-count-requires c = omega (arith, (accepted_header _ c.args.self.ready.known.accepted).long)

pub returns-then-count-eq0 : goal.returns-then-count-eq0
returns-then-count-eq0 c = near_empty _ _ _ (c.word_in-count.ensures.0 ∙ sym (count_rules _)) c.if-count-eq0.true

pub loop-next-init : goal.loop-next-init
loop-next-init c =
    record {
      walk = near_start _ _ c.requires.1 _ _ (ready_rules _ _ _ c.args.self.ready)
          (c.word_in-count.ensures.0 ∙ sym (count_rules _)) c.if-count-eq0.false;
      kept = c.requires.0;
    }

pub next_nearer-requires : goal.next_nearer-requires
next_nearer-requires c = let I = c.loop-next.invariant in (I.walk, I.kept)

pub returns-then-next-eq4 : goal.returns-then-next-eq4
returns-then-next-eq4 c = let x = c.in-Some.ensures.0 in
    near_four _ _ _ _ _ _ x.walk x.more _ x.steps x.nearer c.if-next-eq4.true

pub past-at-requires : goal.past-at-requires
past-at-requires c = let x = c.in-Some.ensures.0 in
    (walk_rule x.walk x.more c.args.self.ready.known.accepted, λ f. false_not_true f)

pub overflow_add-n : goal.overflow_add-n
overflow_add-n c = omega (arith, c.in-Some.ensures.0.more, c.word_in-count.ensures.1)

pub loop-next-smaller : goal.loop-next-smaller
loop-next-smaller c = let x = c.in-Some.ensures.0 in omega (arith, x.more, x.onward)

pub loop-next-preserved : goal.loop-next-preserved
loop-next-preserved c = let x = c.in-Some.ensures.0 in
    record {
      walk = near_next _ _ _ _ _ _ x.walk x.more _ x.steps x.nearer _ c.past-at.ensures;
      kept = c.next_nearer.ensures.1;
    }

pub returns : goal.returns
returns c = c.in_default.ensures.0
