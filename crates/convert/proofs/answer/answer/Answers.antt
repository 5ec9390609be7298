-- Only what is due is written.
use Rattle.std.proofs.Common.{ℕ, ◌≤◌, length, length-take, arith}
use Rattle.convert.proofs.Laws.{due_line, new_fits, due_image}
use Rattle.convert.proofs.answer.answer.Goals as goal

pub refuse-requires : goal.refuse-requires
refuse-requires g c = due_line c.convert.ensures (c.requires.0, omega arith) _ c.in-Err.is c.requires.1

pub slice_bounds-image-end : goal.slice_bounds-image-end
slice_bounds-image-end g c = omega (arith, new_fits c.convert.ensures (c.requires.0, omega arith) _ c.in-Ok.is)

pub slice_bounds-write_image-end : goal.slice_bounds-write_image-end
slice_bounds-write_image-end g c =
    let fits : c.in-Ok.n ≤ length c.convert.new.buffer = new_fits c.convert.ensures (c.requires.0, omega arith) _ c.in-Ok.is in
    omega (arith, length-take {A = ℕ})

pub write_image-requires : goal.write_image-requires
write_image-requires g c = due_image c.convert.ensures (c.requires.0, omega arith) _ c.in-Ok.is c.requires.1
