-- What is due: only what `reads` says may be written, and all of it at once.
--     Due w          w is what is to be written for what the reads have brought, in a buffer of 65,536 bytes: the input has
--                    ended, or a row is refused, whatever comes behind it
--     DueOutput s, DueErrors s   s to standard output and nothing to standard error, or the other way round
--     Reached s      the program has come to this reading, in such a buffer, and what is due is what `reads` says from here on
--     Starts image   the empty policy, in such a buffer
use Rattle.std.specs.Prelude.{ℕ, ◌≡◌, List, [], ◌++◌, length}
use Rattle.format.specs.Sample.{empty}
use Rattle.extension.specs.Add.{overwrite}
use Rattle.lines.specs.Compiled.{Written, Reading, begun, reads}

pub data Due (w : Written) : Type 0 where
  ended : (b : List ℕ) (cs : List (List ℕ)) → 65536 ≡ length b → reads (begun b) cs ≡ w → Due w
  refused :
      (b : List ℕ) (cs : List (List ℕ)) → 65536 ≡ length b → ((more : List (List ℕ)) → reads (begun b) (cs ++ more) ≡ w) → Due w

abbrev pub DueOutput : List ℕ → Type 0
DueOutput s = Due (record { output = s; errors = [] })

abbrev pub DueErrors : List ℕ → Type 0
DueErrors s = Due (record { output = []; errors = s })

pub record Reached (s : Reading) : Type 0 where
  pub space : List ℕ
  pub long : 65536 ≡ length space
  pub brought : List (List ℕ)
  pub onward : (more : List (List ℕ)) → reads (begun space) (brought ++ more) ≡ reads s more

pub record Starts (image : List ℕ) : Type 0 where
  pub space : List ℕ
  pub long : 65536 ≡ length space
  pub starts : image ≡ overwrite empty space
