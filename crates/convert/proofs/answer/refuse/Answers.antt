use Rattle.std.proofs.Common.{ℕ, length-take, sym, subst, arith}
use Rattle.streams.proofs.Puts.{front_put}
use Rattle.convert.specs.Inner.Due.{DueErrors}
use Rattle.convert.proofs.answer.refuse.Goals as goal

pub slice_bounds-text-end : goal.slice_bounds-text-end
slice_bounds-text-end g c = (front_put (omega arith) c.put_refusal-end.ensures).fits

pub slice_bounds-write_line-end : goal.slice_bounds-write_line-end
slice_bounds-write_line-end g c =
    let put = front_put (omega arith) c.put_refusal-end.ensures in
    omega (arith, put.fits, length-take {A = ℕ})

pub write_line-requires : goal.write_line-requires
write_line-requires g c = subst DueErrors (sym (front_put (omega arith) c.put_refusal-end.ensures).bytes) c.requires
