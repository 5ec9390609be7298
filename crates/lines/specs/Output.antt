-- What the program prints for its whole input (document 01, "The sample sheet", the program `permit`).
--     image_size b         how many bytes the image takes that b starts with: its length field; the header's 9 where that
--                         field is below 9 or has not come yet
--     rest_of b            the bytes past the last whole query
--     ending b            the last line: `R 15 0` where 1 to 11 bytes are left as a query, else none
--     said_unless f x      x, or the line of the refusal f where there is one
--     printed i           the output for the input i: the line of the refusal of the image that i starts with, or else the
--                         lines of the queries behind that image, and then the ending
-- How the program comes to that, one read after the other:
--     served l kept cs    the output from here on, where the bytes `kept` are left of the reads before and the next reads
--                         bring the bytes cs, and then the input ends
--     ran i cs            the output where the image's own bytes are read first, and the reads behind it bring cs
use Rattle.std.specs.Prelude.{ℕ, ◌*◌, ◌/◌, ◌%◌, cond, ◌&&◌, List, [], ◌∷◌, ◌++◌, length, take, drop, leb, eqb}
use Rattle.std.specs.Prelude.{Option, None, Some}
use Rattle.format.specs.declared.Refusal.{Refusal}
use Rattle.format.specs.Bytes.{word_at}
use Rattle.format.specs.Refusals.{refusal}
use Rattle.format.specs.Check.{check, image_in, check_front, leading}
use Rattle.std.specs.Prelude.{Err}
use Rattle.lines.specs.Lines.{line, lines}

unfoldable pub image_size : List ℕ → ℕ
image_size b = cond (leb 9 (length b) && leb 9 (word_at b 1)) (word_at b 1) 9

unfoldable pub rest_of : List ℕ → List ℕ
rest_of b = drop (12 * (length b / 12)) b

unfoldable pub ending : List ℕ → List ℕ
ending b = cond (eqb (length b % 12) 0) [] (line (Err (refusal 15 0)))

abbrev pub said_unless : Option Refusal → List ℕ → List ℕ
said_unless None x = x
said_unless (Some f) x = line (Err f)

unfoldable pub printed : List ℕ → List ℕ
printed i = said_unless (check_front i) (lines (image_in i) (drop (word_at i 1) i) ++ ending (drop (word_at i 1) i))

unfoldable pub served : List ℕ → List ℕ → List (List ℕ) → List ℕ
served l kept [] = ending kept
served l kept (c ∷ cs) = lines l (kept ++ c) ++ served l (rest_of (kept ++ c)) cs

unfoldable pub ran : List ℕ → List (List ℕ) → List ℕ
ran i cs =
    let image = leading (take (image_size i) i) in
    said_unless (check image) (served image [] cs)
