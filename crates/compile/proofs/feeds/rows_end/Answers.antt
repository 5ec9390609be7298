use Rattle.std.proofs.Common.{rules, ◌≡◌, ℕ, ◌+◌, ◌≤◌, ◌<◌, length, get_or, arith}
use Rattle.std.proofs.iter.runs.Made.{chains}
use Rattle.compile.proofs.Laws.{last_cut, no_cut}
use Rattle.compile.proofs.feeds.rows_end.Goals as goal

pub returns-in-Some : goal.returns-in-Some
returns-in-Some c =
    let found : get_or c.args.bytes.now c.in-Some.last 0 ≡ 10 = search (rules, chains) in
    let inside : c.in-Some.last < length c.args.bytes.now = search (rules, chains) in
    let behind : (k : ℕ) → c.in-Some.last + 1 ≤ k → k < length c.args.bytes.now → get_or c.args.bytes.now k 0 ≡ 10 → ⊥ = search (rules, chains) in
    (last_cut _ _ inside found behind, omega arith)

pub returns-in-None : goal.returns-in-None
returns-in-None c =
    let behind : (k : ℕ) → 0 ≤ k → k < length c.args.bytes.now → get_or c.args.bytes.now k 0 ≡ 10 → ⊥ = search (rules, chains) in
    (no_cut _ behind, omega arith)
