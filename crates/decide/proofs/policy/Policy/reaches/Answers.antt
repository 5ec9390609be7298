-- `reaches` meets its contract: the two tests are the definition's. Assumes nothing.
use Prim.Native.Nat.{◌+◌}
use mathlib.Core.Path.{sym, ap, ◌∙◌}
use mathlib.Core.Bool.{◌&&◌}
use Rattle.decide.specs.Inner.Parts.{set_at}
use Rattle.decide.specs.Inner.Marks.{any_marked}
use Rattle.decide.proofs.policy.Policy.reaches.Goals as goal

pub returns-then-not-live : goal.returns-then-not-live
returns-then-not-live c =
    record {
      is = ap (λ b. b && any_marked c.args.reach.now (set_at c.args.self.image.now (c.args.at + 4))) (sym c.if-not-live.true);
      kept = c.requires.1;
    }

pub returns : goal.returns
returns c = let r = c.meets.ensures in
    record {
      is = r.is ∙ ap (λ b. b && any_marked c.args.reach.now (set_at c.args.self.image.now (c.args.at + 4)))
          (sym c.if-not-live.false);
      kept = r.kept;
    }
