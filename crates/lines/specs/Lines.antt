-- The line of an answer (document 01, "The sample sheet", the program `permit`; the `N` line is request [2]'s).
--     width n          how many decimal digits a number below 10 ^ 20 has, as any usize is
--     decimal n        those digits, in ASCII
--     field n          a space and the number
--     nearest_line x    N, the steps and the rule; or N and a hyphen, where there are no rules
--     line o           the line of an outcome: that of the nearest; P and the rule; U, the rule and the constraint; R, the
--                      number and the place
--     lines l b        the lines for the whole rows of b, one behind the other, on the image l
use Rattle.std.specs.Prelude.{ℕ, zero, suc, ◌+◌, ◌/◌, cond, List, [], ◌∷◌, ◌++◌, length, ltb, None, Some}
use Rattle.io.specs.Digits.{last_digits}
use Rattle.std.specs.Prelude.{Ok, Err}
use Rattle.format.specs.Answers.{Outcome}
use Rattle.decision.specs.declared.Decision.{Decision}
use Rattle.decision.specs.declared.Decision.TheVariants.{NotPermitted, Permitted, UnKnown}
use Rattle.decision.specs.Decide.{answer, Nearest}
use Rattle.decision.specs.Rows.{query_at}

-- at most so many digits more than one
unfoldable pub width_from : ℕ → ℕ → ℕ
width_from zero n = 1
width_from (suc more) n = cond (ltb n 10) 1 (suc (width_from more (n / 10)))

unfoldable pub width : ℕ → ℕ
width n = width_from 19 n

abbrev pub decimal : ℕ → List ℕ
decimal n = last_digits 10 (width n) n

abbrev pub field : ℕ → List ℕ
field n = 32 ∷ decimal n

abbrev pub pair_line : ℕ → ℕ → ℕ → List ℕ
pair_line letter a b = letter ∷ (field a ++ (field b ++ (10 ∷ [])))

abbrev pub nearest_line : Nearest → List ℕ
nearest_line None = 78 ∷ 32 ∷ 45 ∷ 10 ∷ []
nearest_line (Some x) = pair_line 78 x.steps x.rule

abbrev pub line : Outcome Decision → List ℕ
line (Ok (NotPermitted x)) = nearest_line x
line (Ok (Permitted r)) = 80 ∷ (field r ++ (10 ∷ []))
line (Ok (UnKnown r c)) = pair_line 85 r c
line (Err f) = pair_line 82 f.number f.place

unfoldable pub lines_from : List ℕ → List ℕ → ℕ → ℕ → List ℕ
lines_from l b zero at = []
lines_from l b (suc k) at = line (answer l (query_at b at)) ++ lines_from l b k (at + 12)

unfoldable pub lines : List ℕ → List ℕ → List ℕ
lines l b = lines_from l b (length b / 12) 0
