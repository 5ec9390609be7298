-- What is proved of the output.
--     DecimalFewest    a number has the fewest digits that hold it, as the toolchain's `io` says it
--     DecimalRead      and they read back as that number
--     AnyReads         however reads cut the input, the output is the same
--     AnyCompiled      however reads cut a text, what is written for it is the same
use Rattle.std.specs.Prelude.{ℕ, ◌+◌, ◌-◌, ◌*◌, ◌^◌, ◌≤◌, ◌<◌, ◌≡◌, length, drop}
use mathlib.Core.List.{List, [], ◌∷◌, flatten}
use Rattle.io.specs.Digits.{IsDigitCount}
use Rattle.lines.specs.Lines.{width, decimal}
use Rattle.lines.specs.Output.{image_size, printed, ran}
use Rattle.lines.specs.Compiled.{compiled, begun, reads}

abbrev pub DecimalFewest : Type 0
DecimalFewest = (n : ℕ) → n < 10 ^ 20 → IsDigitCount 10 1 n (width n)

-- the number that ASCII digits stand for, behind those that stand for n
unfoldable pub read_from : ℕ → List ℕ → ℕ
read_from n [] = n
read_from n (d ∷ ds) = read_from (n * 10 + (d - 48)) ds

abbrev pub DecimalRead : Type 0
DecimalRead = (n : ℕ) → n < 10 ^ 20 → read_from 0 (decimal n) ≡ n

abbrev pub AnyReads : Type 0
AnyReads = (i : List ℕ) (cs : List (List ℕ)) → flatten cs ≡ drop (image_size i) i → ran i cs ≡ printed i

abbrev pub AnyCompiled : Type 0
AnyCompiled = (text b : List ℕ) (cs : List (List ℕ)) → 9 ≤ length b → flatten cs ≡ text → reads (begun b) cs ≡ compiled text b
