-- `steps_past_source` meets its contract: the first step that fails ends the count. Assumes nothing.
use native.Mathlib.Omega.{arith}
use Prim.Native.Nat.{◌+◌}
use mathlib.Core.Path.{◌≡◌, sym, ◌∙◌}
use Rattle.decision.specs.Sets.{within}
use Rattle.decide.specs.Inner.Parts.{set_in, set_at}
use Rattle.decide.proofs.PartLaws.{rule_dest}
use Rattle.decide.proofs.NearerLaws.{steps_dest, steps_class, steps_all}
use Rattle.decide.proofs.policy.Policy.steps_past_source.Goals as goal

pub overflow_add-at : goal.overflow_add-at
overflow_add-at c = let h = c.requires.0.here in omega (arith, h.long, h.here.inside)

pub inside-requires : goal.inside-requires
inside-requires c = (rule_dest _ _ _ c.requires.0.here, c.requires.1)

pub returns-then-not-inside : goal.returns-then-not-inside
returns-then-not-inside c =
    let dest_told : within (set_in c.args.self.image.now c.args.q.dest) (set_at c.args.self.image.now (c.args.at + 4))
    ≡ c.inside.result = sym c.inside.ensures.is in
    record {
      is = sym (steps_dest _ _ _ _ c.requires.0.here c.requires.0.on c.requires.2 (dest_told ∙ c.if-not-inside.true));
      kept = c.inside.ensures.kept;
    }

pub is_allow-requires : goal.is_allow-requires
is_allow-requires c = c.requires.0.here

pub is_of_other_class-requires : goal.is_of_other_class-requires
is_of_other_class-requires c = (c.requires.0.here, c.is_allow.ensures)

pub returns-then-is_of_other_class : goal.returns-then-is_of_other_class
returns-then-is_of_other_class c =
    let dest_told : within (set_in c.args.self.image.now c.args.q.dest) (set_at c.args.self.image.now (c.args.at + 4))
    ≡ c.inside.result = sym c.inside.ensures.is in
    record {
      is = sym (steps_class _ _ _ _ c.requires.0.here c.requires.0.on c.requires.2 (dest_told ∙ c.if-not-inside.false)
          (sym c.is_of_other_class.ensures ∙ c.if-is_of_other_class.true));
      kept = c.inside.ensures.kept;
    }

pub returns : goal.returns
returns c =
    let dest_told : within (set_in c.args.self.image.now c.args.q.dest) (set_at c.args.self.image.now (c.args.at + 4))
    ≡ c.inside.result = sym c.inside.ensures.is in
    record {
      is = sym (steps_all _ _ _ _ c.requires.0.here c.requires.0.on c.requires.2 (dest_told ∙ c.if-not-inside.false)
          (sym c.is_of_other_class.ensures ∙ c.if-is_of_other_class.false));
      kept = c.inside.ensures.kept;
    }
