-- What rows answer and leave further behind in their text. Assumes nothing.
use Prim.Native.Nat.{ℕ, ◌+◌}
use mathlib.Core.Path.{◌≡◌, refl}
use Rattle.format.specs.declared.Refusal.{Refusal}
use Rattle.format.specs.Refusals.{refusal}
use Rattle.std.specs.Prelude.{Ok, Err}
use Rattle.text.specs.Build.{Made}
use Rattle.text.specs.Inner.Moves.{answer_by, made_by}

module _ (k : ℕ) (m : Made) where
  pub moved_buffer : (made_by k m).buffer ≡ m.buffer
  unfolding made_by
  moved_buffer = refl

  pub moved_gives : (n : ℕ) → m.answer ≡ Ok n → (made_by k m).answer ≡ Ok n
  unfolding made_by answer_by
  moved_gives n e = rw e refl

  pub moved_refused : (f : Refusal) → m.answer ≡ Err f → (made_by k m).answer ≡ Err (refusal f.number (k + f.place))
  unfolding made_by answer_by
  moved_refused f e = rw e refl
