-- Laws of rows and their numbers. Assumes nothing.
--     numbers_length   a number for each whole row
--     numbers_at       the number of a row is its answer's
--     rows_whole, rows_answered, slots_stay, row_alone, query_read   the claims
use Prim.Native.Nat.{ℕ, zero, suc, ◌+◌, ◌-◌, ◌*◌, ◌/◌, ◌%◌, ◌<◌, ◌≤◌}
use native.Mathlib.Omega.{arith}
use mathlib.Core.Path.{◌≡◌, refl, sym, ap, ◌∙◌}
use mathlib.Core.List.{List, [], ◌∷◌, ◌++◌}
use lib.ListN.{length, get_or, take, drop, get_or-append}
use lib.Seq.{length-take-le, length_front, get_or-take, get_or-drop, get_or-append-add}
use Rattle.format.specs.Bytes.{word_at}
use Rattle.format.proofs.Bytes.{put_word_lem, word_at_lem, word_take, word_drop}
use Rattle.decision.specs.declared.Query.{Query}
use Rattle.decision.specs.Decide.{answer, query_of}
use Rattle.decision.specs.Numbers.{decision_code}
use Rattle.decision.specs.Rows.{query_at, numbers_from, numbers, rows_in, answered, row_at, QueryRead, query_bytes, RowsAnswered, SlotsStay, RowsWhole, RowAlone}

pub rows_whole : RowsWhole
rows_whole b n = (λ h. omega arith, λ h. omega arith)

module _ (l b : List ℕ) where
  from_length : (k at : ℕ) → length (numbers_from l b k at) ≡ k
  unfolding numbers_from
  from_length zero at = refl
  from_length (suc k) at = ap suc (from_length k (at + 12))

  pub numbers_length : length (numbers l b) ≡ length b / 12
  unfolding numbers
  numbers_length = from_length (length b / 12) 0

  from_at : (n at k : ℕ) → k < n → get_or (numbers_from l b n at) k 0 ≡ decision_code (answer l (query_at b (at + 12 * k)))
  unfolding numbers_from
  from_at zero at k h = absurd (omega arith)
  from_at (suc n) at zero h = let e : at ≡ at + 12 * 0 = omega arith in ap (λ x. decision_code (answer l (query_at b x))) e
  from_at (suc n) at (suc k) h =
      let e : at + 12 + 12 * k ≡ at + 12 * suc k = omega arith in
      from_at n (at + 12) k (omega arith) ∙ ap (λ x. decision_code (answer l (query_at b x))) e

  pub numbers_at : (k : ℕ) → k < length b / 12 → get_or (numbers l b) k 0 ≡ decision_code (answer l (query_at b (12 * k)))
  unfolding numbers
  numbers_at k h =
      let e : 0 + 12 * k ≡ 12 * k = omega arith in
      from_at (length b / 12) 0 k h ∙ ap (λ x. decision_code (answer l (query_at b x))) e

module _ (l b slots : List ℕ) where
  front_length : length (take (rows_in b (length slots)) (numbers l b)) ≡ rows_in b (length slots)
  front_length = length-take-le (rows_in b (length slots)) (numbers l b) (omega (arith, numbers_length l b))

  slots_many : length (answered l b slots) ≡ length slots
  unfolding answered
  slots_many =
      let n = rows_in b (length slots) in
      length_front slots (take n (numbers l b)) n (front_length ∙ sym (length-take-le n slots (omega arith)))

  slot_stays : (k : ℕ) → rows_in b (length slots) ≤ k → get_or (answered l b slots) k 0 ≡ get_or slots k 0
  unfolding answered
  slot_stays k h =
      let n = rows_in b (length slots) in
      let ahead : k ≡ length (take n (numbers l b)) + (k - n) = omega (arith, front_length) in
      let back : n + (k - n) ≡ k = omega arith in
      ap (λ x. get_or (take n (numbers l b) ++ drop n slots) x 0) ahead
      ∙ get_or-append-add (take n (numbers l b)) (drop n slots) (k - n) 0
      ∙ get_or-drop n slots (k - n) 0
      ∙ ap (λ x. get_or slots x 0) back

pub rows_answered : RowsAnswered
unfolding answered
rows_answered l b slots k h =
    let n = rows_in b (length slots) in
    let inside : k < length (take n (numbers l b)) = omega (arith, front_length l b slots) in
    get_or-append (take n (numbers l b)) (drop n slots) 0 k inside
    ∙ get_or-take n (numbers l b) k 0 h
    ∙ numbers_at l b k (omega arith)

two_bytes : (n : ℕ) → n < 65536 → n / 256 * 256 + n % 256 ≡ n
two_bytes n h = omega arith

bytes_are :
    (q : Query) → query_bytes q ≡ q.source / 256 ∷ q.source % 256 ∷ q.dest / 256 ∷ q.dest % 256 ∷ q.class / 256 ∷ q.class % 256
    ∷ q.action / 256 ∷ q.action % 256 ∷ q.switches / 65536 / 256 ∷ q.switches / 65536 % 256
    ∷ q.switches % 65536 / 256 ∷ q.switches % 65536 % 256 ∷ []
unfolding query_bytes
bytes_are q = rw (put_word_lem q.source, put_word_lem q.dest, put_word_lem q.class, put_word_lem q.action, put_word_lem (q.switches / 65536), put_word_lem (q.switches % 65536)) refl

-- a query by its words
words_are : (b : List ℕ) (s d c a h l : ℕ) → word_at b 0 ≡ s → word_at b 2 ≡ d → word_at b 4 ≡ c → word_at b 6 ≡ a → word_at b 8 ≡ h → word_at b 10 ≡ l
    → query_at b 0 ≡ query_of s d c a (h * 65536 + l)
words_are b s d c a h l e₀ e₂ e₄ e₆ e₈ e₁₀ = rw (e₀, e₂, e₄, e₆, e₈, e₁₀)

pub query_read : QueryRead
query_read =
    record {
      back = λ q f.
          (let b : List ℕ = q.source / 256 ∷ q.source % 256 ∷ q.dest / 256 ∷ q.dest % 256 ∷ q.class / 256 ∷ q.class % 256
          ∷ q.action / 256 ∷ q.action % 256 ∷ q.switches / 65536 / 256 ∷ q.switches / 65536 % 256
          ∷ q.switches % 65536 / 256 ∷ q.switches % 65536 % 256 ∷ [] in
          let w : q.switches / 65536 * 65536 + q.switches % 65536 ≡ q.switches = omega arith in
          ap (λ (x : List ℕ). query_at x 0) (bytes_are q)
          ∙ words_are b q.source q.dest q.class q.action (q.switches / 65536) (q.switches % 65536)
          (word_at_lem b 0 ∙ two_bytes q.source f.source)
          (word_at_lem b 2 ∙ two_bytes q.dest f.dest)
          (word_at_lem b 4 ∙ two_bytes q.class f.class)
          (word_at_lem b 6 ∙ two_bytes q.action f.action)
          (word_at_lem b 8 ∙ two_bytes (q.switches / 65536) (omega (arith, f.switches)))
          (word_at_lem b 10 ∙ two_bytes (q.switches % 65536) (omega arith))
          ∙ ap (query_of q.source q.dest q.class q.action) w);
      by_hand =
          (let b : List ℕ = 0 ∷ 10 ∷ 128 ∷ 1 ∷ 0 ∷ 5 ∷ 1 ∷ 0 ∷ 128 ∷ 64 ∷ 32 ∷ 1 ∷ [] in
          words_are b 10 0x8001 5 256 0x8040 0x2001 (word_at_lem b 0) (word_at_lem b 2) (word_at_lem b 4) (word_at_lem b 6) (word_at_lem b 8) (word_at_lem b 10));
    }

pub slots_stay : SlotsStay
slots_stay l b slots = (slots_many l b slots, slot_stays l b slots)

-- the query of a row, from its 12 bytes
pub query_row : (b : List ℕ) (k : ℕ) → query_at b (12 * k) ≡ query_at (row_at b k) 0
query_row b k =
    let word : (i : ℕ) → i + 1 < 12 → word_at b (12 * k + i) ≡ word_at (row_at b k) i = λ i h. sym (word_take 12 (drop (12 * k) b) i h ∙ word_drop (12 * k) b i) in
    let start : 12 * k ≡ 12 * k + 0 = omega arith in
    let source : word_at b (12 * k) ≡ word_at (row_at b k) 0 = ap (word_at b) start ∙ word 0 (omega arith) in
    let dest = word 2 (omega arith) in
    let class = word 4 (omega arith) in
    let action = word 6 (omega arith) in
    let high = word 8 (omega arith) in
    let past : 12 * k + 8 + 2 ≡ 12 * k + 10 = omega arith in
    let low : word_at b (12 * k + 8 + 2) ≡ word_at (row_at b k) 10 = ap (word_at b) past ∙ word 10 (omega arith) in
    cc

pub row_alone : RowAlone
row_alone l b b' slots slots' k k' h h' same =
    rows_answered l b slots k h
    ∙ ap (λ q. decision_code (answer l q)) (query_row b k ∙ ap (λ r. query_at r 0) same ∙ sym (query_row b' k'))
    ∙ sym (rows_answered l b' slots' k' h')
