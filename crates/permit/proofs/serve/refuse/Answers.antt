use Rattle.std.proofs.Common.{ℕ, length-take, arith}
use Rattle.streams.proofs.Puts.{front_put}
use Rattle.permit.proofs.Turns.{due_fault}
use Rattle.permit.proofs.serve.refuse.Goals as goal

pub slice_bounds-text-end : goal.slice_bounds-text-end
slice_bounds-text-end g c = (front_put (omega arith) c.put_refusal-end.ensures).fits

pub slice_bounds-write_due-end : goal.slice_bounds-write_due-end
slice_bounds-write_due-end g c =
    let put = front_put (omega arith) c.put_refusal-end.ensures in
    omega (arith, put.fits, length-take {A = ℕ})

pub write_due-requires : goal.write_due-requires
write_due-requires g c = due_fault _ c.requires (front_put (omega arith) c.put_refusal-end.ensures).bytes
