-- What a read or a write came to, and what an error of the system means.
--     brought_by a most    what the answer a of `read` says, where room for so many bytes was lent
--     try_again e          the error says that the call may be made again: EINTR, EAGAIN
--     Brings most r       what is known of a read: 1 to so many bytes, where there are any
--     ReadBetween from to l r after   and of one between two places of l: what stands before and behind stays. Where they are
--                                     not there in this order, it fails and all stays
--     Writes many r       what is known of a write of so many bytes: one of none is done
use Rattle.std.specs.Prelude.{ℕ, zero, suc, ◌-◌, ◌≤◌, ◌<◌, min, ◌≡◌, Bool, false, ◌||◌, List, length, take, drop, ℤ, pos, negsuc, eqb}
use Rattle.std.specs.Prelude.{Option, None, Some, Result, Ok, Err, IsOk, IsErr}
use Rattle.std.specs.declared.io.Error.{Error}
use Rattle.streams.specs.declared.fault.Fault.{Fault}

abbrev pub brought_by : Result ℕ Error → ℕ → Result (Option ℕ) Error
brought_by (Ok zero) most = Ok None
brought_by (Ok (suc n)) most = Ok (Some (min (suc n) most))
brought_by (Err e) most = Err e

abbrev pub try_again : ℤ → Bool
try_again (pos e) = eqb e 4 || eqb e 11
try_again (negsuc k) = false

abbrev pub Brings : ℕ → Result (Option ℕ) Fault → Type 0
Brings most (Ok (Some n)) = (0 < n) × (n ≤ most)
Brings most (Ok None) = Unit
Brings most (Err e) = Unit

pub record ReadBetween (from to : ℕ) (l : List ℕ) (r : Result (Option ℕ) Fault) (after : List ℕ) : Type 0 where
  pub brings : Brings (to - from) r
  pub before : take from after ≡ take from l
  pub behind : drop to after ≡ drop to l
  pub crossed : to < from → IsErr r × (after ≡ l)
  pub past : length l < to → IsErr r × (after ≡ l)

pub record Writes {E : Type 0} (many : ℕ) (r : Result Unit E) : Type 0 where
  pub none_left : many ≡ 0 → IsOk r
