-- What a separation means, and that more live rules keep it broken. Claims SeparationMeans, SeparationKept. Assumes nothing.
--     reaches_both    what a rule that reaches a set is
--     live_on         a live rule is on
--     wider_on        the rules of a list that holds all of another's that are on are wider
use Prim.Native.Nat.{ℕ}
use mathlib.Core.Path.{◌≡◌}
use mathlib.Core.Bool.{true}
use mathlib.Core.List.{List, Memᴰ}
use Rattle.format.proofs.Tests.{both, and_true}
use Rattle.decision.specs.Sets.{is_in, touches}
use Rattle.decision.specs.Reading.{Rule, Constraint, live}
use Rattle.decision.specs.Decide.{reaches, separation_broken}
use Rattle.decision.specs.Separation.{From, SeparationMeans, Wider, SeparationKept}
use Rattle.decision.proofs.Search.{any_of_intro, any_of_elim}
use Rattle.decision.proofs.Implies.{within_refl, within_has, touches_elim, touches_intro, touches_more}

pub reaches_both : (s : List ℕ) (a : Rule) → reaches s a ≡ true → (live a ≡ true) × (touches a.dest s ≡ true)
unfolding reaches
reaches_both s a = both (live a) (touches a.dest s)

from_reaches : (s : List ℕ) (rs : List Rule) (x : ℕ) (f : From rs s x) → reaches s f.rule ≡ true
unfolding reaches
from_reaches s rs x f = and_true f.is_live f.touching

reaches_from : (s : List ℕ) (rs : List Rule) (x : ℕ) (a : Rule) → Memᴰ a rs → reaches s a ≡ true → is_in x a.source ≡ true → From rs s x
reaches_from s rs x a m t h = let r = reaches_both s a t in record { rule = a; one = m; is_live = r.0; touching = r.1; has = h }

means_only : (rs : List Rule) (c : Constraint) → separation_broken rs c ≡ true → (x : ℕ) × From rs c.first x × From rs c.second x
unfolding separation_broken
means_only rs c t =
    let a = any_of_elim _ rs t in
    let r = both _ _ a.2 in
    let b = any_of_elim _ rs r.1 in
    let u = both _ _ b.2 in
    let x = touches_elim a.0.source b.0.source u.1 in
    (x.0, reaches_from c.first rs x.0 a.0 a.1 r.0 x.1, reaches_from c.second rs x.0 b.0 b.1 u.0 x.2)

means_all : (rs : List Rule) (c : Constraint) (x : ℕ) → From rs c.first x → From rs c.second x → separation_broken rs c ≡ true
unfolding separation_broken
means_all rs c x f g =
    any_of_intro _ f.one (and_true (from_reaches c.first rs x f)
    (any_of_intro _ g.one (and_true (from_reaches c.second rs x g) (touches_intro f.rule.source g.rule.source x f.has g.has))))

pub separation_means : SeparationMeans
separation_means = record { only = means_only; all = means_all }

from_wider : (rs₁ rs₂ : List Rule) (s : List ℕ) (x : ℕ) → Wider rs₁ rs₂ → From rs₁ s x → From rs₂ s x
from_wider rs₁ rs₂ s x w f =
    let b = w f.rule f.one f.is_live in
    record {
      rule = b.0;
      one = b.1;
      is_live = b.2;
      touching = touches_more f.rule.dest b.0.dest s b.4 f.touching;
      has = within_has f.rule.source b.0.source x b.3 f.has;
    }

pub separation_kept : SeparationKept
separation_kept rs₁ rs₂ c w t =
    let x = means_only rs₁ c t in
    means_all rs₂ c x.0 (from_wider rs₁ rs₂ c.first x.0 w x.1) (from_wider rs₁ rs₂ c.second x.0 w x.2)

pub live_on : (a : Rule) → live a ≡ true → a.on ≡ true
unfolding live
live_on a t = (both a.allow a.on t).1

pub wider_on : {rs₁ rs₂ : List Rule} → ((a : Rule) → Memᴰ a rs₁ → a.on ≡ true → Memᴰ a rs₂) → Wider rs₁ rs₂
wider_on h a m l = (a, h a m (live_on a l), l, within_refl a.source, within_refl a.dest)
