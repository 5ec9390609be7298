use Rattle.compile.proofs.run.run.Goals as goal

pub refuse-requires : goal.refuse-requires
refuse-requires g c = rw c.in-Err-Row.field-0-is at c.in-Err-Row.ensures
