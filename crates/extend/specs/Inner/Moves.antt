-- What an insertion asks of a buffer.
--     Fits b r slot          there is room for r in the slot, and the numbers fit their fields
use Rattle.std.specs.Prelude.{ℕ, ◌+◌, ◌≤◌, ◌<◌, List, length}
use Rattle.format.specs.Format.{header_length}
use Rattle.extend.specs.declared.plan.Slot.{Slot}

pub record Fits (b r : List ℕ) (slot : Slot) : Type 0 where
  pub low : header_length ≤ slot.at
  pub within : slot.at ≤ slot.size
  pub room : slot.size + length r ≤ length b
  pub size : slot.size + length r < 65536
  pub count : slot.count < 65535
