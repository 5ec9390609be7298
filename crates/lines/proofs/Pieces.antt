-- A text that comes in pieces: what its whole rows do, and then what is left. Assumes nothing.
--     added_size      rows that are not refused answer the length of the image that they leave
--     whole_refused   where a whole row is refused, nothing behind it counts
--     whole_gives     where none is, the rest is added to what they leave
--     rest_refused    a rest of more than 460 bytes without a line feed is refused with 18
--     pieces_imaged   what rows leave is the image of a sound policy, with the old bytes behind it
use Prim.Native.Nat.{ℕ, suc, ◌+◌, ◌≤◌, ◌<◌}
use native.Mathlib.Omega.{arith}
use mathlib.Core.Path.{◌≡◌, refl, sym, subst, ap, ◌∙◌}
use mathlib.Core.Bool.{Bool, true, false, cond}
use Rattle.std.specs.Prelude.{None}
use mathlib.Core.List.{List, [], ◌∷◌, ◌++◌, append_assoc}
use lib.ListN.{length, take, length-append}
use lib.Seq.{length-take-le}
use lib.Dec.{eqb}
use borrow.Author.Tests.{eqb-false}
use Rattle.format.specs.declared.Refusal.{Refusal}
use Rattle.format.specs.Bytes.{word_at}
use Rattle.format.specs.Refusals.{refusal}
use Rattle.format.specs.Check.{check_front}
use Rattle.std.specs.Prelude.{Ok, Err}
use Rattle.format.specs.Answers.{Outcome}
use Rattle.text.specs.Words.{split}
use Rattle.text.specs.Build.{Made, rows_from, rows_added}
use Rattle.text.specs.Claims.{complete}
use Rattle.text.specs.Inner.Parts.{run_of, rest}
use Rattle.text.specs.Inner.Moves.{made_by}
use Rattle.text.proofs.Parts.{run_most, split_run, run_next}
use Rattle.text.proofs.Rows.{answer_of, gives_not_refused, row_long, rows_first_refused, rows_complete, rows_moved}
use Rattle.text.proofs.Follow.{rows_none}
use Rattle.text.proofs.Buffers.{Imaged, imaged_accepted, imaged_rows}
use Rattle.text.proofs.Chunks.{added_front, added_behind, added_next, added_stops}
use Rattle.lines.specs.Compiled.{feeds}
use Rattle.lines.proofs.Feeds.{Whole, bare, fed}

module _ (b : List ℕ) (e : check_front b ≡ None) where
  added_none : rows_added [] b ≡ complete b
  added_none = added_front [] b e ∙ rows_none 0 b

  -- a line feed at the end changes nothing
  feed_last : (q : List ℕ) → rows_added (q ++ (10 ∷ [])) b ≡ rows_added q b
  feed_last q = step (rows_added q b).answer refl where
    step : (o : Outcome ℕ) → (rows_added q b).answer ≡ o → rows_added (q ++ (10 ∷ [])) b ≡ rows_added q b
    step (Err f) h = added_stops b e q [] f h
    step (Ok n) h =
        let front = added_front q b e in
        added_behind b e q [] n h
        ∙ rows_none (0 + suc (length q)) (rows_added q b).buffer
        ∙ ap (λ (m : Made). complete m.buffer) front
        ∙ sym (rows_complete 0 (split 10 q) b n (sym (ap answer_of front) ∙ h))
        ∙ sym front

  -- the answer is the length of the image that is left
  pub added_size : (text : List ℕ) (n : ℕ) → (rows_added text b).answer ≡ Ok n → (rows_added text b).answer ≡ Ok (word_at (rows_added text b).buffer 1)
  added_size text n h =
      let front = added_front text b e in
      ap answer_of (front ∙ rows_complete 0 (split 10 text) b n (sym (ap answer_of front) ∙ h))
      ∙ ap (λ (m : Made). Ok (word_at m.buffer 1)) (sym front)

  pub whole_refused :
      (l : List ℕ) (n : ℕ) (u : List ℕ) (f : Refusal) → Whole l n → (rows_added (take n l) b).answer ≡ Err f
      → rows_added (take n l ++ u) b ≡ rows_added (take n l) b
  whole_refused l n u f (bare z) h =
      gives_not_refused (sym (ap answer_of added_none) ∙ ap (λ k. (rows_added (take k l) b).answer) (sym z) ∙ h)
  whole_refused l n u f (fed q p) h =
      let fault : (rows_added q b).answer ≡ Err f = sym (ap answer_of (feed_last q)) ∙ ap (λ x. (rows_added x b).answer) (sym p) ∙ h in
      ap (λ x. rows_added (x ++ u) b) p
      ∙ ap (λ x. rows_added x b) (append_assoc q (10 ∷ []) u)
      ∙ added_stops b e q u f fault
      ∙ sym (feed_last q)
      ∙ ap (λ x. rows_added x b) (sym p)

  none_gives : (u : List ℕ) → rows_added u b ≡ made_by 0 (rows_added u b)
  none_gives u = added_front u b e ∙ rows_moved 0 0 (split 10 u) b ∙ ap (made_by 0) (sym (added_front u b e))

  pub whole_gives :
      (l : List ℕ) (n : ℕ) (u : List ℕ) (m : ℕ) → n ≤ length l → Whole l n → (rows_added (take n l) b).answer ≡ Ok m
      → check_front (rows_added (take n l) b).buffer ≡ None
      → rows_added (take n l ++ u) b ≡ made_by n (rows_added u (rows_added (take n l) b).buffer)
  whole_gives l n u m long (bare z) h a =
      ap (λ k. rows_added (take k l ++ u) b) z
      ∙ none_gives u
      ∙ ap (λ (x : Made). made_by 0 (rows_added u x.buffer)) (sym added_none)
      ∙ ap (λ k. made_by k (rows_added u (rows_added (take k l) b).buffer)) (sym z)
  whole_gives l n u m long (fed q p) h a =
      let size : suc (length q) ≡ n = omega (arith, ap length p, length-append q (10 ∷ []), length-take-le n l long) in
      let same : rows_added (take n l) b ≡ rows_added q b = ap (λ x. rows_added x b) p ∙ feed_last q in
      ap (λ x. rows_added (x ++ u) b) p
      ∙ ap (λ x. rows_added x b) (append_assoc q (10 ∷ []) u)
      ∙ added_next b e q u m (sym (ap answer_of same) ∙ h) (ap (λ (x : Made). check_front x.buffer) (sym same) ∙ a)
      ∙ ap (λ (x : Made). made_by (suc (length q)) (rows_added u x.buffer)) (sym same)
      ∙ ap (λ k. made_by k (rows_added u (rows_added (take n l) b).buffer)) size

-- ---- a rest that is too long

run_behind : (r t : List ℕ) → feeds r ≡ 0 → length r ≤ run_of 10 (r ++ t)
unfolding feeds
run_behind [] t h = omega arith
run_behind (c ∷ r) t h = step (eqb c 10) refl h (λ k. run_behind r t k) where
  step :
      (x : Bool) → eqb c 10 ≡ x → cond x (suc (feeds r)) (feeds r) ≡ 0 → (feeds r ≡ 0 → length r ≤ run_of 10 (r ++ t))
      → suc (length r) ≤ run_of 10 (c ∷ (r ++ t))
  step true e k f = absurd (omega arith)
  step false e k f = omega (arith, run_next 10 (c ∷ (r ++ t)) 0 (omega arith) (eqb-false c 10 e), f k)

pub rest_refused :
    (r t b : List ℕ) → check_front b ≡ None → feeds r ≡ 0 → 460 < length r → (rows_added (r ++ t) b).answer ≡ Err (refusal 18 0)
rest_refused r t b e h long =
    let l = r ++ t in
    let row = take (run_of 10 l) l in
    let size : 460 < length (take (run_of 10 (r ++ t)) (r ++ t)) =
    omega (arith, long, run_behind r t h, length-take-le (run_of 10 (r ++ t)) (r ++ t) (run_most 10 (r ++ t))) in
    ap answer_of
    (added_front l b e
    ∙ ap (λ rows. rows_from 0 rows b) (split_run 10 l)
    ∙ rows_first_refused 0 row (rest 10 l) b (row_long 0 row b size))

pub pieces_imaged : (b₀ b text : List ℕ) → Imaged b₀ b → Imaged b₀ (rows_added text b).buffer
pieces_imaged b₀ b text k =
    subst (λ (m : Made). Imaged b₀ m.buffer) (sym (added_front text b (imaged_accepted b₀ b k))) (imaged_rows b₀ (split 10 text) 0 b k)
