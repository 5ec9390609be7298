-- One turn of the program: what is to be written for what a read brought, as `served` says.
--     Came             what a read came to: so many bytes, the end of the input, or an error
--     count c          how many bytes came, where a read brought c: none where the input has ended, or could not be read
--     says c l b       what is to be written, on the image l, where b is what was left before and what came
--     leaves c b       what is left of b for the next turn
--     Turned c l b input output r   a turn; input and output after it
--     Faulty f         f is the refusal of an image
--     Due s            s is to be written: it is what a turn says, or the line of an image's refusal
use Rattle.std.specs.Prelude.{ℕ, ◌<◌, ◌≡◌, List, [], Option, Some, None, Result, Ok, Err}
use Rattle.format.specs.declared.Refusal.{Refusal}
use Rattle.format.specs.Check.{check}
use Rattle.lines.specs.Lines.{line, lines}
use Rattle.lines.specs.Output.{rest_of, ending}
use Rattle.streams.specs.Put.{Front}
use Rattle.streams.specs.declared.fault.Fault.{Fault}
use Rattle.permit.specs.declared.serve.Turn.{Turn}

abbrev pub Came : Type 0
Came = Result (Option ℕ) Fault

abbrev pub count : Came → ℕ
count (Ok (Some n)) = n
count (Ok None) = 0
count (Err e) = 0

abbrev pub says : Came → List ℕ → List ℕ → List ℕ
says (Ok (Some n)) l b = lines l b
says (Ok None) l b = ending b
says (Err e) l b = []

abbrev pub leaves : Came → List ℕ → List ℕ
leaves (Ok (Some n)) b = rest_of b
leaves (Ok None) b = b
leaves (Err e) b = b

pub record Turned (c : Came) (l b input output : List ℕ) (r : Turn) : Type 0 where
  pub written : Front output r.end (says c l b)
  pub few : r.kept < 12
  pub left : Front input r.kept (leaves c b)

pub record Faulty (f : Refusal) : Type 0 where
  pub image : List ℕ
  pub refuses : check image ≡ Some f

pub data Due (s : List ℕ) : Type 0 where
  turn : (c : Came) (l b : List ℕ) → s ≡ says c l b → Due s
  fault : (f : Refusal) → Faulty f → s ≡ line (Err f) → Due s
