-- `find_inside` meets its contract: what is found of a group is kept. Assumes nothing.
use native.Mathlib.Omega.{arith}
use mathlib.Core.Path.{◌∙◌}
use Rattle.decision.specs.Sets.{within}
use Rattle.decide.specs.Inner.Parts.{set_in, group_set}
use Rattle.decide.proofs.TypeLaws.{few_groups, span_rising, span_told}
use Rattle.decide.proofs.KeptLaws.{kept_adds}
use Rattle.decide.proofs.kept.find_inside.Goals as goal

pub is_within-found-requires : goal.is_within-found-requires
is_within-found-requires c =
    let s = c.group_span-s.ensures in
    (c.requires.0, record { some = s.some; room = s.room; rising = span_rising _ _ _ _ s }, c.requires.2)

pub keep-requires : goal.keep-requires
keep-requires c = omega (arith, c.requires.1, few_groups _ c.requires.0.accepted)

pub returns : goal.returns
returns c =
    let F = within (set_in c.args.image.now c.args.t) in
    let e = span_told _ _ _ _ c.group_span-s.ensures F _ c.is_within-found.ensures in
    record {
      is = c.keep.ensures.0 ∙ e;
      kept = record {
        type = c.requires.2.type;
        marked = c.requires.2.marked;
        kept = rw c.keep.ensures.1 (kept_adds (λ g. F (group_set c.args.image.now g)) _ c.requires.2.kept _ _ e);
      };
    }
