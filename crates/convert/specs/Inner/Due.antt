-- What is due: only what `gathers` says may be written, and all of it at once.
--     Due w          w is what is to be written for what the reads have brought: the input has ended, or the space is full,
--                    whatever comes behind it
--     DueOutput s, DueErrors s   s to standard output and nothing to standard error, or the other way round
--     Gathered kept  the reads have brought these bytes, and what is due is what `gathers` says from here on
use Rattle.std.specs.Prelude.{ℕ, ◌≡◌, List, [], ◌++◌}
use Rattle.lines.specs.Compiled.{Written}
use Rattle.lines.specs.Converted.{gathers}

pub data Due (w : Written) : Type 0 where
  ended : (cs : List (List ℕ)) → gathers [] cs ≡ w → Due w
  full : (cs : List (List ℕ)) → ((more : List (List ℕ)) → gathers [] (cs ++ more) ≡ w) → Due w

abbrev pub DueOutput : List ℕ → Type 0
DueOutput s = Due (record { output = s; errors = [] })

abbrev pub DueErrors : List ℕ → Type 0
DueErrors s = Due (record { output = []; errors = s })

pub record Gathered (kept : List ℕ) : Type 0 where
  pub brought : List (List ℕ)
  pub onward : (more : List (List ℕ)) → gathers [] (brought ++ more) ≡ gathers kept more
