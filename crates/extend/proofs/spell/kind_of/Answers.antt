-- `kind_of` meets its contract. Assumes nothing.
use Rattle.text.specs.Words.{ascii}
use Rattle.text.specs.Rows.{group, allow, transition, constraint}
use Rattle.extend.specs.Inner.Filled.{kind_of}
use Rattle.extend.proofs.WordLaws.{same_as}
use Rattle.extend.proofs.spell.kind_of.Goals as goal

pub returns-then-eq : goal.returns-then-eq
unfolding kind_of group ascii
returns-then-eq c = rw (same_as c.args.word.now c.as_slice.ensures c.eq.ensures c.if-eq.true)

pub returns-then-eq-2 : goal.returns-then-eq-2
unfolding kind_of group allow ascii
returns-then-eq-2 c =
    rw (
      same_as c.args.word.now c.as_slice.ensures c.eq.ensures c.if-eq.false,
      same_as c.args.word.now c.as_slice-2.ensures c.eq-2.ensures c.if-eq-2.true,
    )

pub returns-then-eq-3 : goal.returns-then-eq-3
unfolding kind_of group allow transition ascii
returns-then-eq-3 c =
    rw (
      same_as c.args.word.now c.as_slice.ensures c.eq.ensures c.if-eq.false,
      same_as c.args.word.now c.as_slice-2.ensures c.eq-2.ensures c.if-eq-2.false,
      same_as c.args.word.now c.as_slice-3.ensures c.eq-3.ensures c.if-eq-3.true,
    )

pub returns-then-eq-4 : goal.returns-then-eq-4
unfolding kind_of group allow transition constraint ascii
returns-then-eq-4 c =
    rw (
      same_as c.args.word.now c.as_slice.ensures c.eq.ensures c.if-eq.false,
      same_as c.args.word.now c.as_slice-2.ensures c.eq-2.ensures c.if-eq-2.false,
      same_as c.args.word.now c.as_slice-3.ensures c.eq-3.ensures c.if-eq-3.false,
      same_as c.args.word.now c.as_slice-4.ensures c.eq-4.ensures c.if-eq-4.true,
    )

pub returns : goal.returns
unfolding kind_of group allow transition constraint ascii
returns c =
    rw (
      same_as c.args.word.now c.as_slice.ensures c.eq.ensures c.if-eq.false,
      same_as c.args.word.now c.as_slice-2.ensures c.eq-2.ensures c.if-eq-2.false,
      same_as c.args.word.now c.as_slice-3.ensures c.eq-3.ensures c.if-eq-3.false,
      same_as c.args.word.now c.as_slice-4.ensures c.eq-4.ensures c.if-eq-4.false,
    )
