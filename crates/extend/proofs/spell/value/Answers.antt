-- `value` meets its contract. Assumes nothing.
use Rattle.text.specs.Rows.{value_of}
use Rattle.extend.proofs.spell.value.Goals as goal

pub returns-in-Member : goal.returns-in-Member
unfolding value_of
returns-in-Member c = rw c.in-Member.is c.number.ensures

pub returns-in-AnyType : goal.returns-in-AnyType
returns-in-AnyType c = rw c.in-AnyType.is c.any_type.ensures

pub returns-in-Number : goal.returns-in-Number
unfolding value_of
returns-in-Number c = rw c.in-Number.is c.number-in-Number.ensures

pub returns-in-Predicate : goal.returns-in-Predicate
unfolding value_of
returns-in-Predicate c = rw c.in-Predicate.is c.number-in-Predicate.ensures

pub returns-in-Condition : goal.returns-in-Condition
returns-in-Condition c = rw c.in-Condition.is c.condition.ensures
