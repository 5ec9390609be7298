-- `is_within` meets its contract: a basic type is looked for, a group's ends or its count settle it. Assumes nothing.
use native.Mathlib.Omega.{arith}
use mathlib.Core.Path.{sym, subst, ◌∙◌}
use Rattle.format.specs.Claims.{IsType}
use Rattle.decide.proofs.TypeLaws.{type_group}
use Rattle.decide.proofs.SetLaws.{full_within}
use Rattle.decide.proofs.WithinLaws.{basic_within, first_apart, last_apart}
use Rattle.decide.proofs.within.is_within.Goals as goal

pub returns-then-inner-lt32768 : goal.returns-then-inner-lt32768
returns-then-inner-lt32768 c =
    c.is_among.ensures ∙ basic_within _ _ _ _ c.requires.1 _ c.from-inner.ensures c.if-inner-lt32768.true

pub group_span-span-requires : goal.group_span-span-requires
group_span-span-requires c =
    (c.requires.0, type_group _ _ (subst (IsType _) (sym c.from-inner.ensures) c.requires.2.type) c.if-inner-lt32768.false)

pub returns-then-word_in : goal.returns-then-word_in
returns-then-word_in c =
    first_apart _ _ _ _ c.requires.1 _ c.from-inner.ensures c.if-inner-lt32768.false _ _ c.group_span-span.ensures
    (omega (arith, c.if-word_in.true, c.word_in.ensures.0, c.word_in-2.ensures.0))

pub returns-then-word_in-2 : goal.returns-then-word_in-2
returns-then-word_in-2 c =
    last_apart _ _ _ _ c.requires.1 _ c.from-inner.ensures c.if-inner-lt32768.false _ _ c.group_span-span.ensures
    (omega (arith, c.if-word_in-2.true, c.word_in-3.ensures.0, c.word_in-4.ensures.0))

pub returns : goal.returns
returns c = c.fully_marked.ensures ∙ full_within _ _ _ c.requires.2.marked _ c.requires.1.rising
