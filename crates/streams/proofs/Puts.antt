-- Bytes that are put into a buffer. Assumes nothing.
--     placed_one, placed_then, placed_put, decimal_digits   what puts them in place: a store, two parts, a lent part, digits
--     puts_room, puts_none                                     a call that has room for the longest, and one that has not
--     line_more, line_end                                      a line: one more number, and the line feed
--     put_room                                                 what such a call has put
--     put_one, put_two, front_put, front_three                 a line of one, two or three numbers; what is put at the front
use Prim.Native.Nat.{ℕ, ◌+◌, ◌*◌, ◌^◌, ◌≤◌, ◌<◌}
use native.Mathlib.Numerals.{add-one}
use native.Mathlib.Omega.{arith}
use mathlib.Core.Path.{◌≡◌, refl, sym, subst, ap, ◌∙◌}
use mathlib.Core.List.{List, [], ◌∷◌, ◌++◌, append_assoc}
use lib.ListN.{length, get_or, set, take, drop, length-append}
use lib.Seq.{set_split, take-append-add, length-take-le, take_at, drop-append-add, drop-drop}
use borrow.Author.Tests.{le-leb, lt-leb}
use borrow.Rule.Slice.PartMut.{put_mid}
use Rattle.io.specs.Digits.{last_digits, IsDigitCount}
use Rattle.lines.specs.Lines.{width, decimal, field, pair_line}
use Rattle.lines.proofs.Numbers.{decimal_fewest, fewest_same, fewest_most, digits_length}
use Rattle.std.specs.List.{flat_map}
use Rattle.std.proofs.lemmas.List.{take_more, take_all, flat_map_more}
use Rattle.streams.specs.Put.{placed, numbers_line, Puts, Put, Front}

pub placed_one : (l : List ℕ) (at b : ℕ) → at < length l → set l at b ≡ placed at (b ∷ []) l
unfolding placed
placed_one l at b h = set_split l at b h ∙ ap (λ k. take at l ++ (b ∷ drop k l)) (sym (add-one at))

-- where they end
pub taken_placed : (at : ℕ) (s l : List ℕ) → at ≤ length l → take (at + length s) (placed at s l) ≡ take at l ++ s
unfolding placed
taken_placed at s l h =
    ap (λ k. take (k + length s) (take at l ++ (s ++ drop (at + length s) l))) (sym (length-take-le at l h))
    ∙ take-append-add (take at l) (s ++ drop (at + length s) l) (length s)
    ∙ ap (λ x. take at l ++ x) (take_at s (drop (at + length s) l) (length s) refl)

pub placed_then : (at : ℕ) (s t l : List ℕ) → at ≤ length l → placed (at + length s) t (placed at s l) ≡ placed at (s ++ t) l
unfolding placed
placed_then at s t l h =
    let front = take at l ++ s in
    let rest = drop (at + length s) l in
    let long : length (take at l ++ s) ≡ at + length s = length-append (take at l) s ∙ ap (λ k. k + length s) (length-take-le at l h) in
    let same : at + length s + length t ≡ at + length (s ++ t) = omega (arith, length-append s t) in
    let past : drop (at + length s + length t) (take at l ++ (s ++ drop (at + length s) l)) ≡ drop (at + length (s ++ t)) l =
    ap (drop (at + length s + length t)) (sym (append_assoc (take at l) s rest))
    ∙ ap (λ k. drop (k + length t) (front ++ rest)) (sym long)
    ∙ drop-append-add front rest (length t)
    ∙ drop-drop (length t) (at + length s) l
    ∙ ap (λ k. drop k l) same in
    ap (λ x. x ++ (t ++ drop (at + length s + length t) (take at l ++ (s ++ drop (at + length s) l)))) (taken_placed at s l h)
    ∙ append_assoc (take at l) s (t ++ drop (at + length s + length t) (take at l ++ (s ++ drop (at + length s) l)))
    ∙ ap (λ x. take at l ++ (s ++ (t ++ x))) past
    ∙ ap (λ x. take at l ++ x) (sym (append_assoc s t (drop (at + length (s ++ t)) l)))

-- the part of a buffer that is lent is now s
pub placed_put :
    (at : ℕ) (s l part : List ℕ) (k : ℕ) → at + k ≤ length l → part ≡ s → k ≡ length s → put_mid at k l part ≡ placed at s l
unfolding placed
placed_put at s l part k h e n =
    ap (λ x. take at l ++ (x ++ drop k (drop at l))) e
    ∙ ap (λ x. take at l ++ (s ++ x)) (drop-drop k at l)
    ∙ ap (λ i. take at l ++ (s ++ drop (at + i) l)) n

-- a number, where its digits are the fewest
pub decimal_digits : (n k : ℕ) → n < 10 ^ 20 → IsDigitCount 10 1 n k → last_digits 10 k n ≡ decimal n
decimal_digits n k h f = ap (λ x. last_digits 10 x n) (fewest_same n k (width n) f (decimal_fewest n h))

decimal_long : (n : ℕ) → n < 10 ^ 20 → length (decimal n) ≤ 20
decimal_long n h = let w = fewest_most n (width n) h (decimal_fewest n h) in omega (arith, digits_length 10 (width n) n)

pub field_long : (n : ℕ) → n < 10 ^ 20 → length (field n) ≤ 21
field_long n h = omega (arith, decimal_long n h)

-- ---- calls

module _ (most : ℕ) (s : List ℕ) (at : ℕ) (l : List ℕ) where
  pub puts_room : (to : ℕ) (after : List ℕ) → at + most ≤ length l → to ≡ at + length s → after ≡ placed at s l → Puts most s at l to after
  puts_room to after h e b = record { answer = rw (le-leb (at + most) (length l) h) e; buffer = rw (le-leb (at + most) (length l) h) b }

  pub puts_none : length l < at + most → Puts most s at l at l
  puts_none h = record { answer = rw (lt-leb (at + most) (length l) h) refl; buffer = rw (lt-leb (at + most) (length l) h) refl }

  room_put : (to : ℕ) (after : List ℕ) → at + most ≤ length l → Puts most s at l to after → (to ≡ at + length s) × (after ≡ placed at s l)
  room_put to after h p = (rw (le-leb (at + most) (length l) h) at p.answer, rw (le-leb (at + most) (length l) h) at p.buffer)

pub put_room : {most at to : ℕ} {s l l' : List ℕ} → Puts most s at l to l' → at + most ≤ length l → Put l l' at to s
put_room {most} {at} {to} {s} {l} {l'} p h =
    let q = room_put most s at l to l' h p in
    record { ends = q.0; bytes = ap (λ k. take k l') q.0 ∙ ap (take (at + length s)) q.1 ∙ taken_placed at s l (omega arith) }

-- ---- a line of numbers, those of the first k so far

-- one more number
numbers_next : (ns : List ℕ) (k : ℕ) → k < length ns → flat_map field (take (k + 1) ns) ≡ flat_map field (take k ns) ++ field (get_or ns k 0)
numbers_next ns k h = ap (flat_map field) (take_more ns k 0 h) ∙ sym (flat_map_more field [] (take k ns) (get_or ns k 0))

module _ (letter at : ℕ) (ns l out out' : List ℕ) (k end to : ℕ) (room : at + (2 + 21 * length ns) ≤ length l) (long : length out ≡ length l)
    (few : length (flat_map field (take k ns)) ≤ 21 * k) (ends : end ≡ at + length (letter ∷ flat_map field (take k ns)))
    (put : out ≡ placed at (letter ∷ flat_map field (take k ns)) l) where
  -- what is put behind them
  behind : (most : ℕ) (s : List ℕ) → end + most ≤ length l → Puts most s end out to out'
      → (to ≡ at + length (letter ∷ (flat_map field (take k ns) ++ s))) × (out' ≡ placed at (letter ∷ (flat_map field (take k ns) ++ s)) l)
  behind most s h p =
      let q = room_put most s end out to out' (omega arith) p in
      let so_far = letter ∷ flat_map field (take k ns) in (
        omega (arith, q.0, length-append (flat_map field (take k ns)) s),
        q.1
            ∙ ap (λ n. placed n s out) ends
            ∙ ap (placed (at + length so_far) s) put
            ∙ placed_then at so_far s l (omega arith),
      )

  pub line_more :
      k < length ns → get_or ns k 0 < 10 ^ 20 → Puts 21 (field (get_or ns k 0)) end out to out'
      → (length (flat_map field (take (k + 1) ns)) ≤ 21 * (k + 1)) × (to ≡ at + length (letter ∷ flat_map field (take (k + 1) ns)))
      × (out' ≡ placed at (letter ∷ flat_map field (take (k + 1) ns)) l)
  line_more h small p =
      let n = get_or ns k 0 in
      let q = behind 21 (field (get_or ns k 0)) (omega arith) p in
      let more = numbers_next ns k h in (
        omega (arith, ap length more, length-append (flat_map field (take k ns)) (field n), field_long n small),
        q.0 ∙ ap (λ x. at + length (letter ∷ x)) (sym more),
        q.1 ∙ ap (λ x. placed at (letter ∷ x) l) (sym more),
      )

  pub line_end : length ns ≤ k → k ≤ length ns → Puts 1 (10 ∷ []) end out to out' → Puts (2 + 21 * length ns) (numbers_line letter ns) at l to out'
  line_end all h p =
      let q = behind 1 (10 ∷ []) (omega arith) p in
      let whole = ap (λ x. letter ∷ (flat_map field x ++ (10 ∷ []))) (take_all k ns all) in
      puts_room _ _ _ _ _ _ room (q.0 ∙ ap (λ x. at + length x) whole) (q.1 ∙ ap (λ x. placed at x l) whole)

-- ---- calls that put a line of one, two or three numbers

-- a number, before others whose fields are s
ended : (a : ℕ) (s t : List ℕ) → s ++ (10 ∷ []) ≡ t → (field a ++ s) ++ (10 ∷ []) ≡ field a ++ t
ended a s t e = append_assoc (field a) s (10 ∷ []) ∙ ap (λ x. field a ++ x) e

line_one : (letter a : ℕ) → numbers_line letter (a ∷ []) ≡ letter ∷ (field a ++ (10 ∷ []))
line_one letter a = ap (λ x. letter ∷ x) (ended a [] (10 ∷ []) refl)

line_two : (letter a b : ℕ) → numbers_line letter (a ∷ b ∷ []) ≡ pair_line letter a b
line_two letter a b = ap (λ x. letter ∷ x) (ended a (field b ++ []) _ (ended b [] (10 ∷ []) refl))

line_three : (letter a b d : ℕ) → numbers_line letter (a ∷ b ∷ d ∷ []) ≡ letter ∷ (field a ++ (field b ++ (field d ++ (10 ∷ []))))
line_three letter a b d =
    ap (λ x. letter ∷ x) (ended a (field b ++ (field d ++ [])) _ (ended b (field d ++ []) _ (ended d [] (10 ∷ []) refl)))

module _ {l l' : List ℕ} {at to : ℕ} (letter : ℕ) where
  pub put_one :
      (a : ℕ) → a < 10 ^ 20 → at + 23 ≤ length l → Puts 23 (numbers_line letter (a ∷ [])) at l to l'
      → Put l l' at to (letter ∷ (field a ++ (10 ∷ []))) × (to ≤ at + 23)
  put_one a ha h p =
      let q = subst (Put l l' at to) (line_one letter a) (put_room p h) in
      (q, omega (arith, q.ends, length-append (field a) (10 ∷ []), field_long a ha))

  pub put_two :
      (a b : ℕ) → a < 10 ^ 20 → b < 10 ^ 20 → at + 44 ≤ length l → Puts 44 (numbers_line letter (a ∷ b ∷ [])) at l to l'
      → Put l l' at to (pair_line letter a b) × (to ≤ at + 44)
  put_two a b ha hb h p =
      let q = subst (Put l l' at to) (line_two letter a b) (put_room p h) in
      (q, omega (arith, q.ends, length-append (field a) (field b ++ (10 ∷ [])), length-append (field b) (10 ∷ []), field_long a ha, field_long b hb))

-- at the front
pub front_put : {l l' : List ℕ} {most to : ℕ} {s : List ℕ} → most ≤ length l → Puts most s 0 l to l' → Front l' to s
unfolding placed
front_put {l} {l'} {most} {to} {s} h p =
    let q = room_put most s 0 l to l' (omega arith) p in
    record {
      fits = omega (arith, q.0, ap length q.1, length-append s (drop (0 + length s) l));
      bytes = (put_room p (omega arith)).bytes;
    }

pub front_three :
    {l l' : List ℕ} {to : ℕ} (letter a b d : ℕ) → 65 ≤ length l → Puts 65 (numbers_line letter (a ∷ b ∷ d ∷ [])) 0 l to l'
    → Front l' to (letter ∷ (field a ++ (field b ++ (field d ++ (10 ∷ [])))))
front_three {l} {l'} {to} letter a b d h p = subst (Front l' to) (line_three letter a b d) (front_put h p)
