-- Lines and whole outputs, written out from document 01 and from the requests [2], [3], [6] and [7].
--     WorkedLines    the lines of some outcomes, a place of 5 digits among them
--     WorkedRuns     the outputs of some inputs
--     WorkedCompiled what is written for some texts, built in a buffer of 100 bytes
--     WorkedConverted what is written for some old images
use Rattle.std.specs.Prelude.{ℕ, ◌≡◌, List, [], ◌∷◌, ◌++◌, map, take, set, replicate, None, Some}
use Prim.Native.String.{String}
use Rattle.format.specs.Refusals.{refusal}
use Rattle.std.specs.Prelude.{Ok, Err}
use Rattle.format.specs.Answers.{Outcome}
use Rattle.format.specs.Policy.{image_of}
use Rattle.format.specs.Sample.{sample, empty}
use Rattle.decision.specs.declared.Decision.{Decision}
use Rattle.decision.specs.declared.Decision.TheVariants.{NotPermitted, Permitted, UnKnown}
use Rattle.text.specs.Words.{ascii}
use Rattle.text.specs.Cases.{sample_text}
use Rattle.conversion.specs.Cases.{old, new}
use Rattle.lines.specs.Lines.{line}
use Rattle.lines.specs.Output.{printed}
use Rattle.lines.specs.Compiled.{Written, compiled}
use Rattle.lines.specs.Converted.{convert_output}
use Rattle.decision.specs.Decide.{near}

pub record WorkedLine : Type 0 where
  pub outcome : Outcome Decision
  pub says : String

unfoldable pub worked_lines : List WorkedLine
worked_lines =
    record { outcome = Ok (NotPermitted None); says = "N -\n" }
    ∷ record { outcome = Ok (NotPermitted (Some (near 0 0))); says = "N 0 0\n" }
    ∷ record { outcome = Ok (NotPermitted (Some (near 4 1023))); says = "N 4 1023\n" }
    ∷ record { outcome = Ok (Permitted 0); says = "P 0\n" }
    ∷ record { outcome = Ok (Permitted 9); says = "P 9\n" }
    ∷ record { outcome = Ok (Permitted 10); says = "P 10\n" }
    ∷ record { outcome = Ok (UnKnown 1023 255); says = "U 1023 255\n" }
    ∷ record { outcome = Err (refusal 6 9999); says = "R 6 9999\n" }
    ∷ record { outcome = Err (refusal 6 10000); says = "R 6 10000\n" }
    ∷ record { outcome = Err (refusal 6 55559); says = "R 6 55559\n" }
    ∷ []

unfoldable pub line_of : WorkedLine → List ℕ
line_of w = line w.outcome

unfoldable pub line_said : WorkedLine → List ℕ
line_said w = ascii w.says

abbrev pub WorkedLines : Type 0
WorkedLines = map line_of worked_lines ≡ map line_said worked_lines

pub record WorkedRun : Type 0 where
  pub input : List ℕ
  pub says : String

-- source, destination, class and action, each below 256, and the four bytes of a word; without a switch on
unfoldable pub asked_on : List ℕ → ℕ → ℕ → ℕ → ℕ → List ℕ
asked_on w s d c a = 0 ∷ s ∷ 0 ∷ d ∷ 0 ∷ c ∷ 0 ∷ a ∷ w

unfoldable pub asked : ℕ → ℕ → ℕ → ℕ → List ℕ
asked = asked_on (0 ∷ 0 ∷ 0 ∷ 0 ∷ [])

unfoldable pub worked_runs : List WorkedRun
worked_runs =
    record { input = []; says = "R 1 0\n" }
    ∷ record { input = take 8 empty; says = "R 1 0\n" }
    ∷ record { input = empty; says = "" }
    ∷ record { input = empty ++ replicate 1 0; says = "R 15 0\n" }
    ∷ record { input = empty ++ replicate 2 0; says = "R 15 0\n" }
    ∷ record { input = empty ++ replicate 3 0; says = "R 15 0\n" }
    ∷ record { input = empty ++ replicate 4 0; says = "R 15 0\n" }
    ∷ record { input = empty ++ replicate 5 0; says = "R 15 0\n" }
    ∷ record { input = empty ++ replicate 6 0; says = "R 15 0\n" }
    ∷ record { input = empty ++ replicate 7 0; says = "R 15 0\n" }
    ∷ record { input = empty ++ replicate 8 0; says = "R 15 0\n" }
    ∷ record { input = empty ++ replicate 9 0; says = "R 15 0\n" }
    ∷ record { input = empty ++ replicate 10 0; says = "R 15 0\n" }
    ∷ record { input = empty ++ replicate 11 0; says = "R 15 0\n" }
    ∷ record { input = empty ++ replicate 12 0; says = "N -\n" }
    ∷ record { input = empty ++ replicate 13 0; says = "N -\nR 15 0\n" }
    ∷ record { input = 1 ∷ 0 ∷ 8 ∷ replicate 20 0; says = "R 3 0\n" }
    ∷ record { input = take 79 sample; says = "R 3 0\n" }
    ∷ record { input = sample ++ (asked 10 21 5 1 ++ (asked 13 21 5 1 ++ asked 12 20 9 9)); says = "P 0\nN 1 0\nP 2\n" }
    ∷ record { input = sample ++ (asked 10 21 5 2 ++ asked 12 30 5 1); says = "N 4 0\nN 2 2\n" }
    -- rule 3 by switch 0 and by switch 31: the word is the last four bytes, the highest first
    ∷ record { input = set sample 55 2 ++ (asked_on (0 ∷ 0 ∷ 0 ∷ 1 ∷ []) 13 21 5 1 ++ asked 13 21 5 1); says = "P 3\nN 1 0\n" }
    ∷ record { input = set sample 55 33 ++ (asked_on (128 ∷ 0 ∷ 0 ∷ 0 ∷ []) 13 21 5 1 ++ asked_on (0 ∷ 0 ∷ 0 ∷ 128 ∷ []) 13 21 5 1); says = "P 3\nN 1 0\n" }
    ∷ record { input = set sample 55 34 ++ asked 10 21 5 1; says = "R 6 55\n" }
    ∷ []

unfoldable pub run_of : WorkedRun → List ℕ
run_of w = printed w.input

unfoldable pub run_said : WorkedRun → List ℕ
run_said w = ascii w.says

abbrev pub WorkedRuns : Type 0
WorkedRuns = map run_of worked_runs ≡ map run_said worked_runs

pub record WorkedText : Type 0 where
  pub text : String
  pub output : List ℕ
  pub errors : String

unfoldable pub worked_compiled : List WorkedText
worked_compiled =
    record { text = sample_text; output = sample; errors = "" }
    ∷ record { text = ""; output = empty; errors = "" }
    ∷ record { text = "\n\n"; output = empty; errors = "" }
    ∷ record { text = "\n\nx"; output = []; errors = "R 18 2 3\n" }
    ∷ record { text = "x\ny"; output = []; errors = "R 18 0 1\n" }
    ∷ record { text = "trans 12 20 5\ngroup g0\n"; output = []; errors = "R 18 14 2\n" }
    ∷ record { text = "\ntrans 1 g0 3"; output = []; errors = "R 11 1 2\n" }
    ∷ []

unfoldable pub text_gives : WorkedText → Written
text_gives w = compiled (ascii w.text) (replicate 100 0)

unfoldable pub text_written : WorkedText → Written
text_written w = record { output = w.output; errors = ascii w.errors }

abbrev pub WorkedCompiled : Type 0
WorkedCompiled = map text_gives worked_compiled ≡ map text_written worked_compiled

pub record WorkedOld : Type 0 where
  pub input : List ℕ
  pub output : List ℕ
  pub errors : String

-- the old policy's first group is at 9, and the source of its first rule, group 2 of 6, at 39 and 40
unfoldable pub worked_converted : List WorkedOld
worked_converted =
    record { input = image_of old; output = image_of new; errors = "" }
    ∷ record { input = sample; output = sample; errors = "" }
    ∷ record { input = empty; output = empty; errors = "" }
    ∷ record { input = []; output = []; errors = "R 1 0\n" }
    ∷ record { input = set (image_of old) 0 2; output = []; errors = "R 2 0\n" }
    ∷ record { input = take 70 (image_of old); output = []; errors = "R 3 0\n" }
    ∷ record { input = image_of old ++ replicate 1 0; output = []; errors = "R 3 0\n" }
    ∷ record { input = set (image_of old) 10 2; output = []; errors = "R 5 9\n" }
    ∷ record { input = set (image_of old) 40 6; output = []; errors = "R 6 39\n" }
    ∷ []

unfoldable pub old_gives : WorkedOld → Written
old_gives w = convert_output w.input

unfoldable pub old_written : WorkedOld → Written
old_written w = record { output = w.output; errors = ascii w.errors }

abbrev pub WorkedConverted : Type 0
WorkedConverted = map old_gives worked_converted ≡ map old_written worked_converted
