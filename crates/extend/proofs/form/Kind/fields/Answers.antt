-- `fields` meets its contract. Assumes nothing.
use Rattle.text.specs.Rows.{group, allow, transition, constraint}
use Rattle.extend.specs.Inner.Filled.{form_of, fields_in}
use Rattle.extend.proofs.form.Kind.fields.Goals as goal

pub returns-in-Group : goal.returns-in-Group
unfolding form_of fields_in group
returns-in-Group c = rw c.in-Group.is

pub returns-in-Allow : goal.returns-in-Allow
unfolding form_of fields_in allow
returns-in-Allow c = rw c.in-Allow.is

pub returns-in-Transition : goal.returns-in-Transition
unfolding form_of fields_in transition
returns-in-Transition c = rw c.in-Transition.is

pub returns-in-Constraint : goal.returns-in-Constraint
unfolding form_of fields_in constraint
returns-in-Constraint c = rw c.in-Constraint.is
