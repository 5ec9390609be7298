-- `meets` meets its contract: what is kept of a group is what a walk over it would answer. Assumes nothing.
use Prim.Native.Nat.{◌-◌}
use mathlib.Core.Path.{◌≡◌, sym, ap, ◌∙◌}
use Rattle.decide.specs.Inner.Parts.{Spans, group_set, set_at}
use Rattle.decide.specs.Inner.Marks.{any_is}
use Rattle.decide.proofs.TypeLaws.{span_basic, span_rising, span_told, group_number, group_few, group_is}
use Rattle.decide.proofs.KeptLaws.{kept_says, kept_adds}
use Rattle.decide.proofs.policy.Policy.meets.Goals as goal

pub any_is-requires : goal.any_is-requires
any_is-requires c =
    let basic : Spans c.args.self.image.now c.args.at 1 (set_at c.args.self.image.now c.args.at) =
    span_basic _ _ _ _ c.args.self.ready.known c.requires.0 c.word_in-t.ensures.0 c.if-t-lt32768.true in
    let s = basic in (s.room, span_rising _ _ _ _ s)

pub returns-then-t-lt32768 : goal.returns-then-t-lt32768
returns-then-t-lt32768 c =
    let basic : Spans c.args.self.image.now c.args.at 1 (set_at c.args.self.image.now c.args.at) =
    span_basic _ _ _ _ c.args.self.ready.known c.requires.0 c.word_in-t.ensures.0 c.if-t-lt32768.true in
    record { is = span_told _ _ _ _ basic (any_is c.args.marks.now c.args.value) _ c.any_is.ensures; kept = c.requires.1 }

pub bounds-kept-g : goal.bounds-kept-g
bounds-kept-g c = group_few _ _ _ _ c.args.self.ready.known c.requires.0 c.word_in-t.ensures.0 c.if-t-lt32768.false

pub returns-then-ne : goal.returns-then-ne
returns-then-ne c =
    let same : group_set c.args.self.image.now (c.word_in-t.result - 32768) ≡ set_at c.args.self.image.now c.args.at =
    group_is _ _ _ _ c.args.self.ready.known c.requires.0 c.word_in-t.ensures.0 c.if-t-lt32768.false in
    record {
      is = kept_says (λ g. any_is c.args.marks.now c.args.value
          (group_set c.args.self.image.now g)) _ c.requires.1 _ _ (sym c.if-ne.true ∙ c.ne.ensures) c.eq.ensures ∙ ap (any_is c.args.marks.now c.args.value) same;
      kept = c.requires.1;
    }

pub group_span-s-requires : goal.group_span-s-requires
group_span-s-requires c =
    (c.args.self.ready.known, group_number _ _ _ _ c.args.self.ready.known c.requires.0 c.word_in-t.ensures.0 c.if-t-lt32768.false)

pub any_is-found-requires : goal.any_is-found-requires
any_is-found-requires c = let s = c.group_span-s.ensures in (s.room, span_rising _ _ _ _ s)

pub keep-requires : goal.keep-requires
keep-requires c = group_few _ _ _ _ c.args.self.ready.known c.requires.0 c.word_in-t.ensures.0 c.if-t-lt32768.false

pub returns : goal.returns
returns c =
    let same : group_set c.args.self.image.now (c.word_in-t.result - 32768) ≡ set_at c.args.self.image.now c.args.at =
    group_is _ _ _ _ c.args.self.ready.known c.requires.0 c.word_in-t.ensures.0 c.if-t-lt32768.false in
    let e = span_told _ _ _ _ c.group_span-s.ensures (any_is c.args.marks.now c.args.value) _ c.any_is-found.ensures in
    record {
      is = c.keep.ensures.0 ∙ e ∙ ap (any_is c.args.marks.now c.args.value) same;
      kept = rw c.keep.ensures.1
          (kept_adds (λ g. any_is c.args.marks.now c.args.value (group_set c.args.self.image.now g)) _ c.requires.1 _ _ e);
    }
