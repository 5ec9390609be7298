-- A turn on which bytes came, and what is due. Assumes nothing.
use Prim.Native.Nat.{ℕ, ◌+◌, ◌<◌}
use mathlib.Core.Path.{◌≡◌, sym, subst}
use mathlib.Core.List.{List}
use lib.ListN.{take}
use Rattle.format.specs.declared.Refusal.{Refusal}
use Rattle.std.specs.Prelude.{Ok, Err, Some}
use Rattle.lines.specs.Lines.{line, lines}
use Rattle.lines.specs.Output.{rest_of}
use Rattle.permit.specs.declared.serve.Turn.{Turn}
use Rattle.streams.specs.Put.{Front}
use Rattle.permit.specs.Inner.Turn.{Came, count, Turned, Faulty, Due}

pub turn_more :
    (l input output : List ℕ) (kept end : ℕ) (c : Came) (n rest : ℕ) (input' : List ℕ) → c ≡ Ok (Some n)
    → Front output end (lines l (take (kept + n) input)) → rest < 12 → Front input' rest (rest_of (take (kept + n) input))
    → Turned c l (take (kept + count c) input) input' output (record { kept = rest; end = end })
turn_more l input output kept end c n rest input' e w r k =
    subst (λ x. Turned x l (take (kept + count x) input) input' output (record { kept = rest; end = end })) (sym e)
    (record { written = w; few = r; left = k })

pub due_turn : {c : Came} {l b input output : List ℕ} {r : Turn} → Turned c l b input output r → Due (take r.end output)
due_turn {c} {l} {b} t = Due.turn c l b t.written.bytes

pub due_fault : (f : Refusal) {s : List ℕ} → Faulty f → s ≡ line (Err f) → Due s
due_fault f h e = Due.fault f h e
