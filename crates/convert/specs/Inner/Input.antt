-- What was read.
--     Whole n space   so many bytes, which stand at the front of the space, and what is written for them is due
use Rattle.std.specs.Prelude.{ℕ, ◌≤◌, List, length, take}
use Rattle.lines.specs.Converted.{input_space, convert_output}
use Rattle.convert.specs.Inner.Due.{Due}

pub record Whole (n : ℕ) (space : List ℕ) : Type 0 where
  pub fits : n ≤ length space
  pub few : n ≤ input_space
  pub due : Due (convert_output (take n space))
