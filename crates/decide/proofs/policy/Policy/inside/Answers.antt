-- `inside` meets its contract: what is kept of a group is what a walk over it would answer. Assumes nothing.
use Prim.Native.Nat.{◌-◌}
use mathlib.Core.Path.{◌≡◌, sym, ap, ◌∙◌}
use Rattle.decision.specs.Sets.{within}
use Rattle.decide.specs.Inner.Parts.{Spans, set_in, group_set, set_at}
use Rattle.decide.specs.Inner.Marks.{fully_marked}
use Rattle.decide.proofs.TypeLaws.{span_basic, span_rising, span_told, group_number, group_few, group_is}
use Rattle.decide.proofs.KeptLaws.{kept_says, side_within}
use Rattle.decide.proofs.policy.Policy.inside.Goals as goal

pub fully_marked-requires : goal.fully_marked-requires
fully_marked-requires c =
    let basic : Spans c.args.self.image.now c.args.at 1 (set_at c.args.self.image.now c.args.at) =
    span_basic _ _ _ _ c.args.self.ready.known c.requires.0 c.word_in-outer.ensures.0 c.if-outer-lt32768.true in
    let s = basic in (s.room, span_rising _ _ _ _ s)

pub returns-then-outer-lt32768 : goal.returns-then-outer-lt32768
returns-then-outer-lt32768 c =
    let basic : Spans c.args.self.image.now c.args.at 1 (set_at c.args.self.image.now c.args.at) =
    span_basic _ _ _ _ c.args.self.ready.known c.requires.0 c.word_in-outer.ensures.0 c.if-outer-lt32768.true in
    record {
      is = span_told _ _ _ _ basic (fully_marked c.args.side.now.marks.now c.args.side.now.size) _ c.fully_marked.ensures
          ∙ side_within c.requires.1 c.args.self.ready.known.accepted _ c.requires.0.is;
      kept = c.requires.1;
    }

pub bounds-side-g : goal.bounds-side-g
bounds-side-g c = group_few _ _ _ _ c.args.self.ready.known c.requires.0 c.word_in-outer.ensures.0 c.if-outer-lt32768.false

pub returns-then-ne : goal.returns-then-ne
returns-then-ne c =
    let same : group_set c.args.self.image.now (c.word_in-outer.result - 32768) ≡ set_at c.args.self.image.now c.args.at =
    group_is _ _ _ _ c.args.self.ready.known c.requires.0 c.word_in-outer.ensures.0 c.if-outer-lt32768.false in
    record {
      is = kept_says (λ g. within (set_in c.args.self.image.now c.args.t) (group_set c.args.self.image.now g)) _ c.requires.1.kept
          _ _ (sym c.if-ne.true ∙ c.ne.ensures) c.eq.ensures
          ∙ ap (within _) same;
      kept = c.requires.1;
    }

pub find_inside-requires : goal.find_inside-requires
find_inside-requires c =
    (c.args.self.ready.known, group_number _ _ _ _ c.args.self.ready.known c.requires.0 c.word_in-outer.ensures.0 c.if-outer-lt32768.false, c.requires.1)

pub returns : goal.returns
returns c =
    let same : group_set c.args.self.image.now (c.word_in-outer.result - 32768) ≡ set_at c.args.self.image.now c.args.at =
    group_is _ _ _ _ c.args.self.ready.known c.requires.0 c.word_in-outer.ensures.0 c.if-outer-lt32768.false in
    let f = c.find_inside.ensures in
    record { is = f.is ∙ ap (within _) same; kept = f.kept }
