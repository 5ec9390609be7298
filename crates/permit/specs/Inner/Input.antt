-- The image's bytes.
--     Front space have    so many bytes of an image stand at the front of a space
--     ImageRead space r   what was read of one: all the bytes that it takes, or fewer, and never more
use Rattle.std.specs.Prelude.{ℕ, ◌≤◌, ◌<◌, ◌≡◌, List, length, take}
use Rattle.lines.specs.Output.{image_size}
use Rattle.permit.specs.declared.source.Taken.{Taken}
use Rattle.permit.specs.declared.source.Taken.TheVariants as taken

pub record Front (space : List ℕ) (have : ℕ) : Type 0 where
  pub few : have < 65536
  pub fits : have ≤ length space

abbrev pub ImageRead : List ℕ → Taken → Type 0
ImageRead space (taken.Whole have) = Front space have × (have ≡ image_size (take have space))
ImageRead space (taken.Cut have) = Front space have × (have < image_size (take have space))
