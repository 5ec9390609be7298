-- `first_constraint` meets its contract: the constraints from the running one on answer as all do. Assumes nothing.
use native.Mathlib.Omega.{arith}
use Prim.Native.Nat.{◌+◌}
use mathlib.Core.Path.{sym, ap, ◌∙◌}
use Rattle.format.proofs.Accepted.{accepted_header}
use Rattle.format.proofs.ByCase.{count_constraints}
use Rattle.decision.specs.Decide.{fails, first_at}
use Rattle.decide.specs.Inner.Parts.{NthConstraint, rules_in, request_in}
use Rattle.decide.specs.Inner.Rules.{first_constraint}
use Rattle.decide.proofs.PartLaws.{ready_constraints}
use Rattle.decide.proofs.VerdictLaws.{written_same, written_after}
use Rattle.decide.proofs.WalkLaws.{walk_start, walk_constraint, first_end, first_hit, first_next, all_constraints}
use Rattle.decide.proofs.policy.Policy.first_constraint.Goals as goal

pub word_in-count-requires : goal.word_in-count-requires
word_in-count-requires c = omega (arith, (accepted_header _ c.args.self.ready.known.accepted).long)

pub loop-n-init : goal.loop-n-init
unfolding first_constraint
loop-n-init c = let l = c.args.self.image.now in
    record {
      walk = walk_start _ _ _ _ _ _ _ (ready_constraints _ _ _ c.args.self.ready) (c.word_in-count.ensures.0 ∙ sym (count_constraints _))
          (ap (λ cs. first_at (fails (rules_in l c.args.q.switches) (request_in l c.args.q)) 0 cs)
          (all_constraints l));
      kept = (c.requires.0, written_same _ _ _ c.requires.1);
    }

pub constraint_fails-requires : goal.constraint_fails-requires
constraint_fails-requires c =
    let here : NthConstraint c.args.self.image.now c.loop-n.n c.loop-n.at =
    walk_constraint c.loop-n.invariant.walk (omega arith) c.args.self.ready.known.accepted in
    let I = c.loop-n.invariant in
    (I.kept.0, here, I.kept.1.front)

pub returns-then-constraint_fails : goal.returns-then-constraint_fails
returns-then-constraint_fails c = let k = c.constraint_fails.ensures in
    record {
      is = first_hit _ c.loop-n.invariant.walk (omega arith) (sym k.is ∙ c.if-constraint_fails.true);
      kept = written_after _ _ _ _ _ c.loop-n.invariant.kept.1 k.kept.1;
    }

pub bounds-self-at : goal.bounds-self-at
bounds-self-at c =
    let here : NthConstraint c.args.self.image.now c.loop-n.n c.loop-n.at =
    walk_constraint c.loop-n.invariant.walk (omega arith) c.args.self.ready.known.accepted in
    let h = here.here in omega (arith, h.long, h.here.inside)

pub overflow_add-at : goal.overflow_add-at
overflow_add-at c =
    let here : NthConstraint c.args.self.image.now c.loop-n.n c.loop-n.at =
    walk_constraint c.loop-n.invariant.walk (omega arith) c.args.self.ready.known.accepted in
    let h = here.here in omega (arith, h.here.inside, h.here.size, c.from-at.ensures)

pub loop-n-preserved : goal.loop-n-preserved
loop-n-preserved c = let L = c.loop-n in
    let k = c.constraint_fails.ensures in
    record {
      walk = first_next _ L.invariant.walk (omega arith) (sym k.is ∙ c.if-constraint_fails.false) _
          (ap (λ x. L.at + x) c.from-at.ensures);
      kept = (k.kept.0, written_after _ _ _ _ _ L.invariant.kept.1 k.kept.1);
    }

pub returns : goal.returns
returns c = let I = c.loop-n.invariant in record { is = first_end _ I.walk (λ z. absurd (omega arith)); kept = I.kept.1 }
