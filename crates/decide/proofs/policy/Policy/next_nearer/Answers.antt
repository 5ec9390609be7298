-- `next_nearer` meets its contract: a rule that comes no nearer is passed over. Assumes nothing.
use native.Mathlib.Omega.{arith}
use mathlib.Core.Path.{sym, ◌∙◌}
use Rattle.decide.specs.Inner.Parts.{RuleHere}
use Rattle.decide.proofs.WalkLaws.{walk_rule}
use Rattle.decide.proofs.RuleLaws.{allow_long}
use Rattle.decide.proofs.NearerLaws.{counts_less, counts_more, near_over, near_end}
use Rattle.decide.proofs.policy.Policy.next_nearer.Goals as goal

pub loop-n-init : goal.loop-n-init
loop-n-init c = record { walk = c.requires.0; kept = (omega arith, c.requires.1) }

pub is_allow-allow-requires : goal.is_allow-allow-requires
is_allow-allow-requires c =
    walk_rule c.loop-n.invariant.walk (omega arith) c.args.self.ready.known.accepted

pub steps_at-steps-requires : goal.steps_at-steps-requires
steps_at-steps-requires c =
    let here : RuleHere c.args.self.image.now c.loop-n.at =
    walk_rule c.loop-n.invariant.walk (omega arith) c.args.self.ready.known.accepted in
    (here, c.is_allow-allow.ensures, c.loop-n.invariant.kept.1)

pub returns-then-best-steps : goal.returns-then-best-steps
returns-then-best-steps c =
    let s = c.steps_at-steps.ensures in
    let I = c.loop-n.invariant in (
      record {
        onward = I.kept.0;
        more = omega arith;
        walk = I.walk;
        nearer = c.if-best-steps.true;
        steps = counts_more _ _ _ s.0 c.if-best-steps.true;
      },
      s.1,
    )

pub past-at-requires : goal.past-at-requires
past-at-requires c =
    let here : RuleHere c.args.self.image.now c.loop-n.at =
    walk_rule c.loop-n.invariant.walk (omega arith) c.args.self.ready.known.accepted in
    let h = here in (h, λ e. allow_long _ _ _ h (sym c.is_allow-allow.ensures ∙ e))

pub loop-n-preserved : goal.loop-n-preserved
loop-n-preserved c =
    let s = c.steps_at-steps.ensures in
    record {
      walk = near_over _ _ _ _ _ _ c.loop-n.invariant.walk (omega arith)
          (counts_less _ _ _ s.0 c.if-best-steps.false) _ c.past-at.ensures;
      kept = (omega (arith, c.loop-n.invariant.kept.0), s.1);
    }

pub returns : goal.returns
returns c = let I = c.loop-n.invariant in (near_end _ _ _ _ _ _ I.walk (λ z. absurd (omega arith)), I.kept.1)
