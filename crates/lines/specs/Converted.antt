-- What the program `convert` writes for an input (document 02, request [7]).
--     input_space          how many bytes of an input there is space for: one more than a length field can say
--     image_or_line f image the image; or nothing, and the line of the refusal f: R, the number, the place
--     convert_output i     what is written for the input i, of which as many bytes are read as there is space for
-- How the program comes to that, one read after the other:
--     gathers kept cs     what is written from here on, where the bytes `kept` have come and the next reads bring the bytes cs,
--                         and then the input ends. Where the space is full, no more is read
-- What is claimed of it, and proved in proofs/:
--     AnyConverted        however reads cut an input, what is written for it is the same
--     OldWritten          an old image, twins or not: its new image, and no line
--     AcceptedWritten     so an accepted image comes out byte for byte
--     RefusedWritten      an input that is refused with 1 to 7: its line, and no image; the same for an input of any length
--     OneWritten          an image or a line is written, and never both
use Rattle.std.specs.Prelude.{ℕ, ◌≤◌, ◌≡◌, ◌⊎◌, cond, length, get_or, take, ltb}
use Rattle.std.specs.Prelude.{Option, None, Some}
use mathlib.Core.List.{List, [], ◌∷◌, ◌++◌, flatten}
use Rattle.format.specs.declared.Refusal.{Refusal}
use Rattle.format.specs.Bytes.{Bytes}
use Rattle.format.specs.Check.{layout_fault, LaidOut, Accepted}
use Rattle.std.specs.Prelude.{Err}
use Rattle.conversion.specs.Convert.{converted_image, convert_fault}
use Rattle.lines.specs.Lines.{line}
use Rattle.lines.specs.Compiled.{Written}

abbrev pub input_space : ℕ
input_space = 65536

unfoldable pub image_or_line : Option Refusal → List ℕ → Written
image_or_line None image = record { output = image; errors = [] }
image_or_line (Some f) image = record { output = []; errors = line (Err f) }

unfoldable pub convert_output : List ℕ → Written
convert_output i = image_or_line (convert_fault (take input_space i) input_space) (converted_image (take input_space i))

unfoldable pub gathers : List ℕ → List (List ℕ) → Written
gathers kept [] = convert_output kept
gathers kept (c ∷ cs) = cond (ltb (length kept) input_space) (gathers (kept ++ c) cs) (convert_output kept)

abbrev pub AnyConverted : Type 0
AnyConverted = (i : List ℕ) (cs : List (List ℕ)) → flatten cs ≡ i → gathers [] cs ≡ convert_output i

abbrev pub OldWritten : Type 0
OldWritten = (i : List ℕ) → Bytes i → LaidOut i → convert_output i ≡ record { output = converted_image i; errors = [] }

abbrev pub AcceptedWritten : Type 0
AcceptedWritten = (i : List ℕ) → Bytes i → Accepted i → convert_output i ≡ record { output = i; errors = [] }

abbrev pub RefusedWritten : Type 0
RefusedWritten =
    (i : List ℕ) (f : Refusal) → Bytes i → layout_fault i ≡ Some f
    → convert_output i ≡ record { output = []; errors = line (Err f) }

-- an image has a header, and the line of a refusal starts with R
abbrev pub OneWritten : Type 0
OneWritten =
    (i : List ℕ)
    → ((9 ≤ length (convert_output i).output) × ((convert_output i).errors ≡ []))
    ⊎ (((convert_output i).output ≡ []) × (get_or (convert_output i).errors 0 0 ≡ 82))
