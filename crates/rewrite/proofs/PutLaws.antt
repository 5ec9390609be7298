-- Laws of bytes put one after the other. Assumes nothing.
--     put_nothing, put_append   nothing put, and two parts put one behind the other
--     put_length                a buffer keeps its length
--     put_copied                a part copied over what stands from a place on
--     header_bytes, header_length_lem   the header, byte by byte
--     wrote_then, wrote_as      two writers, one after the other; and what is written, by another name
--     writing_start, writing_room, writing_put, writing_end   a loop of writers, by its turns
use Prim.Native.Nat.{ℕ, ◌+◌, ◌/◌, ◌%◌, ◌≤◌}
use mathlib.Core.Path.{◌≡◌, refl, sym, ap, ◌∙◌}
use mathlib.Core.List.{List, [], ◌∷◌, ◌++◌, append_assoc}
use native.Mathlib.Omega.{arith}
use lib.ListN.{length, take, drop, take-append-drop, length-append, length-drop}
use lib.Seq.{take_at, drop_at, drop-drop, length-take-le}
use borrow.Rule.Slice.PartMut.{put_mid}
use Rattle.format.specs.Bytes.{put_word}
use Rattle.format.proofs.Bytes.{put_word_lem}
use Rattle.rewrite.specs.Inner.Put.{put_at, Wrote, Writing}

pub put_nothing : (b : List ℕ) (at : ℕ) → put_at b at [] ≡ b
unfolding put_at
put_nothing b at = let e : at + 0 ≡ at = omega arith in rw e (take-append-drop at b)

head_length : (b : List ℕ) (at : ℕ) (r : List ℕ) → at ≤ length b → length (take at b ++ r) ≡ at + length r
head_length b at r h = length-append (take at b) r ∙ ap (λ (n : ℕ). n + length r) (length-take-le at b h)

pub put_length : (b : List ℕ) (at : ℕ) (r : List ℕ) → at + length r ≤ length b → length (put_at b at r) ≡ length b
unfolding put_at
put_length b at r h =
    let tail : List ℕ = drop (at + length r) b in
    omega (arith, head_length b at (r ++ tail) (omega arith), length-append r tail, length-drop (at + length r) b)

pub put_append : (b : List ℕ) (at : ℕ) (r s : List ℕ) → at ≤ length b
    → put_at (put_at b at r) (at + length r) s ≡ put_at b at (r ++ s)
unfolding put_at
put_append b at r s h =
    let n = head_length b at r h in
    let tail : List ℕ = drop (at + length r) b in
    let k : at + length r + length s ≡ at + length (r ++ s) = omega (arith, length-append r s) in
    let e : take at b ++ (r ++ tail) ≡ take at b ++ r ++ tail = sym (append_assoc (take at b) r tail) in
    let t : take (at + length r) (take at b ++ (r ++ tail)) ≡ take at b ++ r =
    ap (λ (l : List ℕ). take (at + length r) l) e ∙ take_at (take at b ++ r) tail (at + length r) n in
    let d : drop (at + length r + length s) (take at b ++ (r ++ tail)) ≡ drop (at + length (r ++ s)) b =
    ap (λ (l : List ℕ). drop (at + length r + length s) l) e
    ∙ sym (drop-drop (length s) (at + length r) (take at b ++ r ++ tail))
    ∙ ap (λ (l : List ℕ). drop (length s) l) (drop_at (take at b ++ r) tail (at + length r) n)
    ∙ drop-drop (length s) (at + length r) b
    ∙ ap (λ (m : ℕ). drop m b) k in
    rw (t, d)
    (append_assoc (take at b) r (s ++ drop (at + length (r ++ s)) b)
    ∙ ap (λ (l : List ℕ). take at b ++ l) (sym (append_assoc r s (drop (at + length (r ++ s)) b))))

pub put_copied : (b r d : List ℕ) (at n : ℕ) → n ≡ length r → d ≡ r → put_mid at n b d ≡ put_at b at r
unfolding put_at
put_copied b r d at n e is = rw (is, e, drop-drop) refl

pub header_bytes :
    (v n g r c n₁ n₂ g₁ g₂ r₁ r₂ c₁ c₂ : ℕ) → n₁ ≡ n / 256 → n₂ ≡ n % 256 → g₁ ≡ g / 256 → g₂ ≡ g % 256 → r₁ ≡ r / 256
    → r₂ ≡ r % 256
    → c₁ ≡ c / 256 → c₂ ≡ c % 256
    → v ∷ n₁ ∷ n₂ ∷ g₁ ∷ g₂ ∷ r₁ ∷ r₂ ∷ c₁ ∷ c₂ ∷ [] ≡ v ∷ put_word n (put_word g (put_word r (put_word c [])))
header_bytes v n g r c n₁ n₂ g₁ g₂ r₁ r₂ c₁ c₂ e₁ e₂ e₃ e₄ e₅ e₆ e₇ e₈ =
    rw (put_word_lem n, put_word_lem g, put_word_lem r, put_word_lem c, e₁, e₂, e₃, e₄, e₅, e₆, e₇, e₈) refl

pub header_length_lem : (v n g r c : ℕ) → length (v ∷ put_word n (put_word g (put_word r (put_word c [])))) ≡ 9
header_length_lem v n g r c = sym (ap length (header_bytes v n g r c _ _ _ _ _ _ _ _ refl refl refl refl refl refl refl refl))

pub wrote_then :
    {b c d r s : List ℕ} {at next past : ℕ} → Wrote b c at next r → Wrote c d next past s → at ≤ length b
    → Wrote b d at past (r ++ s)
wrote_then {b} {c} {d} {r} {s} {at} {next} {past} w v h =
    record {
      bytes =
          v.bytes ∙ ap (λ (l : List ℕ). put_at l next s) w.bytes ∙ ap (λ (n : ℕ). put_at (put_at b at r) n s) w.next
          ∙ put_append b at r s h;
      next = omega (arith, w.next, v.next, length-append r s);
      size = v.size ∙ w.size;
    }

pub wrote_as : {b c r s : List ℕ} {at next past : ℕ} → Wrote b c at next r → next ≡ past → r ≡ s → Wrote b c at past s
wrote_as w n e = rw (n, e) at w

pub writing_start : (b : List ℕ) (from : ℕ) (all : List ℕ) → from + length all ≤ length b → Writing b b from from all all
writing_start b from all h = record { same = refl; end = refl; room = h; size = refl }

pub writing_room : {b c all left : List ℕ} {from at : ℕ} (r rest : List ℕ) → Writing b c from at all left → left ≡ r ++ rest
    → at + length r ≤ length c
writing_room r rest w e = omega (arith, w.room, ap length e ∙ length-append r rest)

pub writing_put :
    {b c d all left r : List ℕ} {from at next : ℕ} (rest : List ℕ) → Writing b c from at all left → left ≡ r ++ rest
    → Wrote c d at next r → Writing b d from next all rest
writing_put {b} {c} {d} {all} {left} {r} {from} {at} {next} rest w e v =
    let n : length left ≡ length r + length rest = ap length e ∙ length-append r rest in
    let k = w.room in
    let z = v.size in
    let x = v.next in
    record {
      same =
          w.same ∙ ap (put_at c at) e ∙ sym (put_append c at r rest (omega arith))
          ∙ ap (λ (l : List ℕ). put_at l (at + length r) rest) (sym v.bytes) ∙ ap (λ (m : ℕ). put_at d m rest) (sym v.next);
      end = omega (arith, w.end);
      room = omega arith;
      size = z ∙ w.size;
    }

pub writing_end : {b c all left : List ℕ} {from at : ℕ} → Writing b c from at all left → left ≡ [] → Wrote b c from at all
writing_end {b} {c} {all} {left} {from} {at} w e =
    let n : length left ≡ 0 = ap length e in
    record { bytes = sym (w.same ∙ ap (put_at c at) e ∙ put_nothing c at); next = omega (arith, w.end); size = w.size }
