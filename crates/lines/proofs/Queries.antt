-- The lines of queries, where their bytes come in parts. Assumes nothing.
--     lines_few       fewer bytes than a query have no line
--     lines_append    the lines of b and of t behind it are those of b, and then those of what b leaves, with t behind it
--     ending_append   and the ending is that of what b leaves, with t behind it
--     rest_length     what is left is what a division by 12 leaves
use Prim.Native.Nat.{ℕ, zero, suc, ◌+◌, ◌*◌, ◌/◌, ◌%◌, ◌≤◌, ◌<◌}
use native.Mathlib.Omega.{arith}
use mathlib.Core.Path.{◌≡◌, refl, sym, ap, ◌∙◌}
use mathlib.Core.List.{List, [], ◌++◌, append_assoc}
use lib.ListN.{length, drop, length-append, length-drop}
use lib.Seq.{drop-append-le}
use Rattle.format.proofs.Bytes.{word_drop, word_append}
use Rattle.decision.specs.Decide.{answer}
use Rattle.decision.specs.Rows.{query_at}
use Rattle.lines.specs.Lines.{line, lines_from, lines}
use Rattle.lines.specs.Output.{rest_of, ending}

pub lines_few : (l b : List ℕ) → length b < 12 → lines l b ≡ []
unfolding lines lines_from
lines_few l b h = let z : length b / 12 ≡ 0 = omega arith in rw z refl

-- ---- the same bytes, the same queries

query_drop : (b : List ℕ) (n at : ℕ) → query_at b (n + at) ≡ query_at (drop n b) at
query_drop b n at =
    let two : n + at + 2 ≡ n + (at + 2) = omega arith in
    let four : n + at + 4 ≡ n + (at + 4) = omega arith in
    let six : n + at + 6 ≡ n + (at + 6) = omega arith in
    let eight : n + at + 8 ≡ n + (at + 8) = omega arith in
    let ten : n + at + 8 + 2 ≡ n + (at + 8 + 2) = omega arith in
    rw (
      two,
      four,
      six,
      ten,
      eight,
      ← word_drop n b at,
      ← word_drop n b (at + 2),
      ← word_drop n b (at + 4),
      ← word_drop n b (at + 6),
      ← word_drop n b (at + 8),
      ← word_drop n b (at + 8 + 2),
    )

query_front : (b t : List ℕ) (at : ℕ) → at + 12 ≤ length b → query_at (b ++ t) at ≡ query_at b at
query_front b t at h =
    rw (
      word_append b t at (omega arith),
      word_append b t (at + 2) (omega arith),
      word_append b t (at + 4) (omega arith),
      word_append b t (at + 6) (omega arith),
      word_append b t (at + 8) (omega arith),
      word_append b t (at + 8 + 2) (omega arith),
    )

-- ---- lines from a place on

module _ (l : List ℕ) where
  from_split : (b : List ℕ) (j k at : ℕ) → lines_from l b (j + k) at ≡ lines_from l b j at ++ lines_from l b k (at + 12 * j)
  unfolding lines_from
  from_split b zero k at =
      let z : 0 + k ≡ k = omega arith in
      let e : at ≡ at + 12 * 0 = omega arith in
      ap (λ x. lines_from l b x at) z ∙ ap (lines_from l b k) e
  from_split b (suc j) k at =
      let s : suc j + k ≡ suc (j + k) = omega arith in
      let e : at + 12 + 12 * j ≡ at + 12 * suc j = omega arith in
      ap (λ x. lines_from l b x at) s
      ∙ ap (λ x. line (answer l (query_at b at)) ++ x) (from_split b j k (at + 12) ∙ ap (λ x. lines_from l b j (at + 12) ++ lines_from l b k x) e)
      ∙ sym (append_assoc (line (answer l (query_at b at))) (lines_from l b j (at + 12)) (lines_from l b k (at + 12 * suc j)))

  from_drop : (b : List ℕ) (n k at : ℕ) → lines_from l b k (n + at) ≡ lines_from l (drop n b) k at
  unfolding lines_from
  from_drop b n zero at = refl
  from_drop b n (suc k) at =
      let e : n + at + 12 ≡ n + (at + 12) = omega arith in
      ap (λ q. line (answer l q) ++ lines_from l b k (n + at + 12)) (query_drop b n at)
      ∙ ap (λ x. line (answer l (query_at (drop n b) at)) ++ x) (ap (lines_from l b k) e ∙ from_drop b n k (at + 12))

  from_front : (b t : List ℕ) (k at : ℕ) → at + 12 * k ≤ length b → lines_from l (b ++ t) k at ≡ lines_from l b k at
  unfolding lines_from
  from_front b t zero at h = refl
  from_front b t (suc k) at h =
      ap (λ q. line (answer l q) ++ lines_from l (b ++ t) k (at + 12)) (query_front b t at (omega arith))
      ∙ ap (λ x. line (answer l (query_at b at)) ++ x) (from_front b t k (at + 12) (omega arith))

-- ---- what is left

pub rest_length : (b : List ℕ) → length (rest_of b) ≡ length b % 12
unfolding rest_of
rest_length b = simp length-drop (omega arith)

pub lines_append : (l b t : List ℕ) → lines l (b ++ t) ≡ lines l b ++ lines l (rest_of b ++ t)
unfolding lines rest_of
lines_append l b t =
    let n = length b / 12 in
    let r = drop (12 * (length b / 12)) b in
    let m = length (drop (12 * (length b / 12)) b ++ t) / 12 in
    let whole : length (b ++ t) / 12 ≡ length b / 12 + length (drop (12 * (length b / 12)) b ++ t) / 12 =
    omega (arith, length-append b t, length-append (drop (12 * (length b / 12)) b) t, length-drop (12 * (length b / 12)) b) in
    let at : 0 + 12 * (length b / 12) ≡ 12 * (length b / 12) + 0 = omega arith in
    ap (λ k. lines_from l (b ++ t) k 0) whole
    ∙ from_split l (b ++ t) n m 0
    ∙ ap (λ x. x ++ lines_from l (b ++ t) m (0 + 12 * n)) (from_front l b t n 0 (omega arith))
    ∙ ap (λ x. lines_from l b n 0 ++ x)
    (ap (lines_from l (b ++ t) m) at ∙ from_drop l (b ++ t) (12 * n) m 0 ∙ ap (λ x. lines_from l x m 0) (drop-append-le (12 * n) b t (omega arith)))

pub ending_append : (b t : List ℕ) → ending (b ++ t) ≡ ending (rest_of b ++ t)
unfolding ending
ending_append b t =
    let same : length (b ++ t) % 12 ≡ length (rest_of b ++ t) % 12 = omega (arith, length-append b t, length-append (rest_of b) t, rest_length b) in
    rw same
