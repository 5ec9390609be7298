-- The same rows further behind in their text: their refusals' places are larger, and all else is the same.
--     fault_by k o, answer_by k a, made_by k m   a row's refusal, an answer, and what rows make, k bytes further
use Rattle.std.specs.Prelude.{ℕ, ◌+◌}
use Rattle.std.specs.Prelude.{Option, None, Some}
use Rattle.format.specs.declared.Refusal.{Refusal}
use Rattle.format.specs.Refusals.{refusal}
use Rattle.std.specs.Prelude.{Ok, Err}
use Rattle.format.specs.Answers.{Outcome}
use Rattle.text.specs.Build.{Made}

unfoldable pub fault_by : ℕ → Option Refusal → Option Refusal
fault_by k None = None
fault_by k (Some f) = Some (refusal f.number (k + f.place))

unfoldable pub answer_by : ℕ → Outcome ℕ → Outcome ℕ
answer_by k (Ok n) = Ok n
answer_by k (Err f) = Err (refusal f.number (k + f.place))

unfoldable pub made_by : ℕ → Made → Made
made_by k m = record { answer = answer_by k m.answer; buffer = m.buffer }
