use Rattle.std.proofs.Common.{◌∙◌, arith}
use Rattle.streams.proofs.Rests.{rest_past, rest_crossed, rest_copied}
use Rattle.streams.proofs.rest.keep_rest.Goals as goal
use Rattle.streams.proofs.rest.keep_rest.Goals.{else-to-buffer-via-then-to-buffer+else-from-to, else-to-buffer-via-else-to-buffer}

pub returns-then-from-to : goal.returns-then-from-to
returns-then-from-to c = c.copy_within.ensures.after ∙ rest_copied _ _ _ (omega arith) (omega arith)

pub returns-else-to-buffer : goal.returns-else-to-buffer
returns-else-to-buffer c =
    elim c.else-to-buffer.branch [
      | else-to-buffer-via-then-to-buffer+else-from-to w ↦ rest_crossed _ _ _ (omega arith) (omega arith)
      | else-to-buffer-via-else-to-buffer w ↦ rest_past _ _ _ (omega arith)
    ]
