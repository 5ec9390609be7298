-- `members` meets its contract: a basic type is its own member, in its field. Assumes nothing.
use Rattle.decide.proofs.TypeLaws.{span_basic, span_group, group_number}
use Rattle.decide.proofs.policy.Policy.members.Goals as goal

pub returns-then-t-lt32768 : goal.returns-then-t-lt32768
returns-then-t-lt32768 c = span_basic _ _ _ _ c.args.self.ready.known c.requires c.word_in-t.ensures.0 c.if-t-lt32768.true

pub group_span-requires : goal.group_span-requires
group_span-requires c = (c.args.self.ready.known, group_number _ _ _ _ c.args.self.ready.known c.requires c.word_in-t.ensures.0 c.if-t-lt32768.false)

pub returns : goal.returns
returns c = span_group _ _ _ _ c.args.self.ready.known c.requires c.word_in-t.ensures.0 c.if-t-lt32768.false c.group_span.ensures
