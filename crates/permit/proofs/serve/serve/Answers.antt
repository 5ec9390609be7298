use Rattle.permit.proofs.Turns.{due_turn}
use Rattle.permit.proofs.serve.serve.Goals as goal

pub write_due-requires : goal.write_due-requires
write_due-requires g c = due_turn c.take_turn-t.ensures
