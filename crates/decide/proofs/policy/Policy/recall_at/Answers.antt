-- `recall_at` meets its contract: nothing was kept, or it is right, or front and back change, or no rule names a switch.
-- Assumes nothing.
use mathlib.Core.Path.{◌≡◌, sym, subst, ◌∙◌}
use Rattle.std.specs.Prelude.{IfSome}
use Rattle.decide.specs.declared.verdicts.Held.{Held}
use Rattle.decide.specs.Inner.Verdicts.{any_named, KeptFor, Recalled}
use Rattle.decide.proofs.VerdictLaws.{recalled_none, recalled_plain, recalled_turned}
use Rattle.decide.proofs.policy.Policy.recall_at.Goals as goal
use Rattle.decide.proofs.policy.Policy.recall_at.Goals.{in-Some-named, in-None}

pub returns-then-named : goal.returns-then-named
returns-then-named c =
    let k = subst (λ h. KeptFor c.args.self.image.now h c.args.verdicts.now) c.in-Some.is c.requires c.args.self.ready.known.accepted in
    let asked : c.match-held-2.named ≡ any_named c.args.self.image.now = elim c.match-held-2.branch [
      | in-Some-named w ↦ w.named-is ∙ subst (λ o. IfSome o (λ b. b ≡ any_named c.args.self.image.now)) w.in-Some-named.is k.named
      | in-None w ↦ w.named-is ∙ w.any_switched-named.ensures
    ] in
    recalled_turned _ _ _ _ k _ asked _ c.turn.ensures

pub returns-else-named : goal.returns-else-named
returns-else-named c =
    let k = subst (λ h. KeptFor c.args.self.image.now h c.args.verdicts.now) c.in-Some.is c.requires c.args.self.ready.known.accepted in
    let asked : c.match-held-2.named ≡ any_named c.args.self.image.now = elim c.match-held-2.branch [
      | in-Some-named w ↦ w.named-is ∙ subst (λ o. IfSome o (λ b. b ≡ any_named c.args.self.image.now)) w.in-Some-named.is k.named
      | in-None w ↦ w.named-is ∙ w.any_switched-named.ensures
    ] in
    recalled_plain _ _ _ _ k _ asked c.if-named.false

pub returns-in_default : goal.returns-in_default
returns-in_default c =
    let l = c.args.self.image.now in
    subst (λ (h : Held). Recalled l c.args.switches h c.args.verdicts.now) (sym c.first_held.ensures)
    (recalled_none l c.args.switches c.args.verdicts.now c.args.held c.requires c.in_default.is)
