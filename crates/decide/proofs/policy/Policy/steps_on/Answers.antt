-- `steps_on` meets its contract: a source that does not hold the query's ends the count at 1. Assumes nothing.
use native.Mathlib.Omega.{arith}
use Prim.Native.Nat.{◌+◌, ◌-◌}
use mathlib.Core.Path.{◌≡◌, sym, ap, ◌∙◌}
use lib.ListN.{get_or}
use borrow.Author.Rules.{rules}
use Rattle.decision.specs.Sets.{within}
use Rattle.decide.specs.declared.kept.Kept.TheVariants.{Unasked, Yes}
use Rattle.decide.specs.Inner.Parts.{set_in, set_at, group_set}
use Rattle.decide.proofs.TypeLaws.{group_number, group_few, group_is}
use Rattle.decide.proofs.PartLaws.{rule_source}
use Rattle.decide.proofs.KeptLaws.{kept_yes}
use Rattle.decide.proofs.NearerLaws.{steps_source}
use Rattle.decide.proofs.policy.Policy.steps_on.Goals as goal

pub overflow_add-at : goal.overflow_add-at
overflow_add-at c = let h = c.requires.0.here in omega (arith, h.long, h.here.inside)

pub word_in-t-requires : goal.word_in-t-requires
word_in-t-requires c = let h = c.requires.0.here in omega (arith, h.long, h.here.inside)

pub overflow_add-at-then-t-lt32768 : goal.overflow_add-at-then-t-lt32768
overflow_add-at-then-t-lt32768 c = let h = c.requires.0.here in omega (arith, h.long, h.here.inside)

pub inside-requires : goal.inside-requires
inside-requires c = (rule_source _ _ _ c.requires.0.here, c.requires.1.source)

pub returns-then-not-inside : goal.returns-then-not-inside
returns-then-not-inside c =
    record {
      is = sym (steps_source _ _ _ _ c.requires.0.here c.requires.0.on (sym c.inside.ensures.is ∙ c.if-not-inside.true));
      kept = record { source = c.inside.ensures.kept; dest = c.requires.1.dest };
    }

pub steps_past_source-requires : goal.steps_past_source-requires
steps_past_source-requires c = (c.requires.0, c.requires.1.dest, sym c.inside.ensures.is ∙ c.if-not-inside.false)

pub returns-then-t-lt32768 : goal.returns-then-t-lt32768
returns-then-t-lt32768 c = let r = c.steps_past_source.ensures in
    record { is = r.is; kept = record { source = c.inside.ensures.kept; dest = r.kept } }

pub bounds-source-g : goal.bounds-source-g
bounds-source-g c =
    group_few _ _ _ _ c.args.self.ready.known (rule_source _ _ _ c.requires.0.here) c.word_in-t.ensures.0 c.if-t-lt32768.false

pub steps_past_source-requires-then-eq : goal.steps_past_source-requires-then-eq
steps_past_source-requires-then-eq c =
    let same : group_set c.args.self.image.now (c.word_in-t.result - 32768) ≡ set_at c.args.self.image.now (c.args.at + 2) =
    group_is _ _ _ _ c.args.self.ready.known (rule_source _ _ _ c.requires.0.here) c.word_in-t.ensures.0 c.if-t-lt32768.false in
    let F = within (set_in c.args.self.image.now c.args.q.source) in
    let yes : get_or c.args.source.now.kept (c.word_in-t.result - 32768) Unasked ≡ Yes = search rules in
    let says = kept_yes (λ g. F (group_set c.args.self.image.now g)) c.args.source.now.kept c.requires.1.source.kept
    (c.word_in-t.result - 32768) yes in
    (c.requires.0, c.requires.1.dest, sym (ap F same) ∙ sym says)

pub returns-then-eq : goal.returns-then-eq
returns-then-eq c = let r = c.steps_past_source-then-eq.ensures in
    record { is = r.is; kept = record { source = c.requires.1.source; dest = r.kept } }

pub find_inside-requires : goal.find_inside-requires
find_inside-requires c = (
  c.args.self.ready.known,
  group_number _ _ _ _ c.args.self.ready.known (rule_source _ _ _ c.requires.0.here) c.word_in-t.ensures.0 c.if-t-lt32768.false,
  c.requires.1.source,
)

pub returns-then-not-find_inside : goal.returns-then-not-find_inside
returns-then-not-find_inside c =
    let same : group_set c.args.self.image.now (c.word_in-t.result - 32768) ≡ set_at c.args.self.image.now (c.args.at + 2) =
    group_is _ _ _ _ c.args.self.ready.known (rule_source _ _ _ c.requires.0.here) c.word_in-t.ensures.0 c.if-t-lt32768.false in
    record {
      is = sym (steps_source _ _ _ _ c.requires.0.here c.requires.0.on
          (sym (ap (within _) same) ∙ sym c.find_inside.ensures.is ∙ c.if-not-find_inside.true));
      kept = record { source = c.find_inside.ensures.kept; dest = c.requires.1.dest };
    }

pub steps_past_source-requires-2 : goal.steps_past_source-requires-2
steps_past_source-requires-2 c =
    let same : group_set c.args.self.image.now (c.word_in-t.result - 32768) ≡ set_at c.args.self.image.now (c.args.at + 2) =
    group_is _ _ _ _ c.args.self.ready.known (rule_source _ _ _ c.requires.0.here) c.word_in-t.ensures.0 c.if-t-lt32768.false in
    (c.requires.0, c.requires.1.dest, sym (ap (within _) same) ∙ sym c.find_inside.ensures.is ∙ c.if-not-find_inside.false)

pub returns : goal.returns
returns c = let r = c.steps_past_source-2.ensures in
    record { is = r.is; kept = record { source = c.find_inside.ensures.kept; dest = r.kept } }
