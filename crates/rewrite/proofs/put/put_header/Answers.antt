-- `put_header` meets its contract. Assumes nothing.
use native.Mathlib.Omega.{arith}
use Rattle.rewrite.proofs.PutLaws.{header_bytes, wrote_as}
use Rattle.rewrite.proofs.put.put_header.Goals as goal

pub returns : goal.returns
returns c = let a = c.args in
    wrote_as c.copy.ensures c.copy.ensures.next
    (rw (c.to_be_bytes.ensures, c.to_be_bytes-2.ensures, c.to_be_bytes-3.ensures, c.to_be_bytes-4.ensures)
    (header_bytes a.version a.size a.groups a.rules a.constraints _ _ _ _ _ _ _ _ (omega arith) (omega arith) (omega arith) (omega arith)
    (omega arith) (omega arith) (omega arith) (omega arith)))
