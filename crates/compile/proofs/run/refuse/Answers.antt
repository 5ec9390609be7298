use Rattle.std.proofs.Common.{sym, subst}
use Rattle.compile.specs.Inner.Due.{DueErrors}
use Rattle.compile.proofs.run.refuse.Goals as goal

pub write_line-requires : goal.write_line-requires
write_line-requires g c = subst DueErrors (sym c.put_row_line-end.ensures.bytes) c.requires
