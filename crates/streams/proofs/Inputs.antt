-- What a read brought.
use Prim.Native.Nat.{ℕ, ◌≤◌, ◌<◌}
use mathlib.Core.Path.{◌≡◌, subst}
use Rattle.std.specs.Prelude.{Option, Some, Result, Ok}
use Rattle.streams.specs.declared.fault.Fault.{Fault}
use Rattle.streams.specs.Input.{Brings}

pub brings_same : (r : Result (Option ℕ) Fault) (n m : ℕ) → n ≡ m → Brings n r → Brings m r
brings_same r n m e b = subst (λ k. Brings k r) e b

pub bytes_brought : (c : Option ℕ) (n most : ℕ) → c ≡ Some n → Brings most (Ok c) → (0 < n) × (n ≤ most)
bytes_brought c n most e b = subst (λ x. Brings most (Ok x)) e b
