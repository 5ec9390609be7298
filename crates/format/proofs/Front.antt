-- The image that a buffer starts with: what acceptance says of it, and of an image with bytes behind it. Assumes nothing.
--     image_in_is         the bytes up to the length field
--     front_header        the header of an accepted front
--     front_accepted      the bytes up to the length field are an accepted image
--     front_length        and as many as that field says
--     front_count         with the buffer's own counts
--     leading_check       the check of the leading bytes is the check of the front
--     leading_taken, leading_whole, leading_short   of the bytes that an image takes, or of a header alone
--     front_of, image_in_of   an accepted image with bytes behind it is an accepted front, and that image
use Prim.Native.Nat.{ℕ, ◌+◌, ◌≤◌, ◌<◌}
use mathlib.Core.Path.{◌≡◌, refl, sym, ap, ◌∙◌}
use mathlib.Core.Bool.{Bool, true, false, ◌&&◌}
use Rattle.std.specs.Prelude.{Option, None}
use mathlib.Core.List.{List, ◌++◌}
use native.Mathlib.Omega.{arith}
use lib.ListN.{length, get_or, take, drop, length-append, take-append-drop, get_or-append}
use lib.Seq.{get_or-take, length-take-le, take_at, take-take}
use lib.Dec.{leb, eqb}
use borrow.Author.Tests.{leb-true, leb-false, le-leb, lt-leb, eq-eqb, ne_eqb}
use Rattle.format.specs.declared.Section.{Section}
use Rattle.format.specs.declared.Section.TheVariants.{Groups, Rules, Constraints}
use Rattle.format.specs.declared.Refusal.{Refusal}
use Rattle.format.specs.Bytes.{Bytes, word_at}
use Rattle.format.specs.Refusals.{need, ◌or_else◌}
use Rattle.format.specs.Format.{known_version, count_place, count_of}
use Rattle.format.specs.Check.{count_fault, header_fault, rest_fault, check, image_in, check_front, leading, Accepted}
use Rattle.format.proofs.Tests.{both, and_true, true_not_false}
use Rattle.format.proofs.Chain.{or_else_split, or_else_none}
use Rattle.format.proofs.Bytes.{bytes_take, word_take}
use Rattle.format.proofs.Accepted.{Header, header_holds, holds_header, accepted_header, accepted_length, accepted_rest}

-- two lists with the same header
module _ (l b : List ℕ) (same : (i : ℕ) → i < 9 → get_or l i 0 ≡ get_or b i 0) where
  word_same : (i : ℕ) → i + 1 < 9 → word_at l i ≡ word_at b i
  unfolding word_at
  word_same i h = rw (same i (omega arith), same (i + 1) h)

  count_same : (s : Section) → count_of l s ≡ count_of b s
  unfolding count_of count_place
  count_same Groups = word_same 3 (omega arith)
  count_same Rules = word_same 5 (omega arith)
  count_same Constraints = word_same 7 (omega arith)

  header_same : (fits fits' : ℕ → ℕ → Bool) → Header fits b → 9 ≤ length l → fits' (word_at b 1) (length l) ≡ true → Header fits' l
  header_same fits fits' h n f =
      record {
        long = n;
        version = rw (same 0 (omega arith)) h.version;
        least = rw (word_same 1 (omega arith)) h.least;
        fit = rw (word_same 1 (omega arith)) f;
        few = λ s. rw (count_same s) (h.few s);
      }

pub image_in_is : (b : List ℕ) → image_in b ≡ take (word_at b 1) b
unfolding image_in
image_in_is b = refl

module _ (b : List ℕ) (e : check_front b ≡ None) where
  pub front_header : Header leb b
  unfolding check_front
  front_header = header_holds leb b (or_else_split (header_fault leb b) (rest_fault (image_in b)) e).0

  pub front_fits : word_at b 1 ≤ length b
  front_fits = leb-true (word_at b 1) (length b) front_header.fit

  pub front_length : length (image_in b) ≡ word_at b 1
  unfolding image_in
  front_length = length-take-le (word_at b 1) b front_fits

  front_same : (i : ℕ) → i < 9 → get_or (image_in b) i 0 ≡ get_or b i 0
  unfolding image_in
  front_same i h = get_or-take (word_at b 1) b i 0 (omega (arith, front_header.least))

  pub front_count : (s : Section) → count_of (image_in b) s ≡ count_of b s
  front_count s = count_same (image_in b) b front_same s

  pub front_accepted : Accepted (image_in b)
  unfolding check check_front
  front_accepted =
      or_else_none
      (holds_header eqb (image_in b)
      (header_same (image_in b) b front_same leb eqb front_header (rw front_length front_header.least)
      (eq-eqb (word_at b 1) (length (image_in b)) (sym front_length))))
      (or_else_split (header_fault leb b) (rest_fault (image_in b)) e).1

  pub front_split : b ≡ image_in b ++ drop (word_at b 1) b
  unfolding image_in
  front_split = sym (take-append-drop (word_at b 1) b)

  pub front_bytes : Bytes b → Bytes (image_in b)
  unfolding image_in
  front_bytes h = bytes_take (word_at b 1) b h

module _ (l t : List ℕ) (e : Accepted l) where
  of_same : (i : ℕ) → i < 9 → get_or (l ++ t) i 0 ≡ get_or l i 0
  of_same i h = get_or-append l t 0 i (omega (arith, (accepted_header l e).long))

  pub front_of_length : word_at (l ++ t) 1 ≡ length l
  front_of_length = word_same (l ++ t) l of_same 1 (omega arith) ∙ accepted_length l e

  pub front_of_count : (s : Section) → count_of (l ++ t) s ≡ count_of l s
  front_of_count s = count_same (l ++ t) l of_same s

  pub image_in_of : image_in (l ++ t) ≡ l
  unfolding image_in
  image_in_of = rw front_of_length (take_at l t (length l) refl)

  pub front_of : check_front (l ++ t) ≡ None
  unfolding check_front
  front_of =
      let n = length-append l t in
      let k = (accepted_header l e).long in
      or_else_none
      (holds_header leb (l ++ t)
      (header_same (l ++ t) l of_same eqb leb (accepted_header l e) (omega arith)
      (le-leb (word_at l 1) (length (l ++ t)) (omega (arith, accepted_length l e)))))
      (rw image_in_of (accepted_rest l e))

-- ---- the leading bytes

-- a header's refusal depends on nine bytes and on how the lengths compare
header_cong :
    (fits fits' : ℕ → ℕ → Bool) (l b : List ℕ) → ((i : ℕ) → i < 9 → get_or l i 0 ≡ get_or b i 0) → leb 9 (length l) ≡ leb 9 (length b)
    → fits (word_at b 1) (length l) ≡ fits' (word_at b 1) (length b) → header_fault fits l ≡ header_fault fits' b
unfolding header_fault count_fault
header_cong fits fits' l b same long fit =
    rw (long, same 0 (omega arith), word_same l b same 1 (omega arith), fit, count_same l b same Groups, count_same l b same Rules, count_same l b same Constraints)

-- where the length field does not lie between 9 and the buffer's length, both checks stop at the header
short_same : (b : List ℕ) → (leb 9 (length b) && leb 9 (word_at b 1) && leb (word_at b 1) (length b)) ≡ false → check b ≡ check_front b
unfolding check check_front header_fault need ◌or_else◌
short_same b e = go (leb 9 (length b)) refl (known_version (get_or b 0 0)) refl (leb 9 (word_at b 1)) refl (leb (word_at b 1) (length b)) refl
  where
    go :
        (x : Bool) → leb 9 (length b) ≡ x → (v : Bool) → known_version (get_or b 0 0) ≡ v → (y : Bool) → leb 9 (word_at b 1) ≡ y
        → (z : Bool) → leb (word_at b 1) (length b) ≡ z
        → check b ≡ check_front b
    go false p v k y q z r = simp p
    go true p false k y q z r = simp (p, k)
    go true p true k false q z r = simp (p, k, q)
    go true p true k true q true r = true_not_false (sym (and_true (and_true p q) r) ∙ e)
    go true p true k true q false r =
        simp (p, k, q, r, ne_eqb (word_at b 1) (length b) (λ j. (let n = leb-false (word_at b 1) (length b) r in omega arith)))

leading_same : (b : List ℕ) → (leb 9 (length b) && leb 9 (word_at b 1) && leb (word_at b 1) (length b)) ≡ true → check (image_in b) ≡ check_front b
unfolding check check_front image_in
leading_same b e =
    let x = both (leb 9 (length b) && leb 9 (word_at b 1)) (leb (word_at b 1) (length b)) e in
    let y = both (leb 9 (length b)) (leb 9 (word_at b 1)) x.0 in
    let w = leb-true 9 (word_at b 1) y.1 in
    let f = leb-true (word_at b 1) (length b) x.1 in
    let n : length (take (word_at b 1) b) ≡ word_at b 1 = length-take-le (word_at b 1) b f in
    ap (λ (h : Option Refusal). h or_else rest_fault (take (word_at b 1) b))
    (header_cong eqb leb (take (word_at b 1) b) b (λ i h. get_or-take (word_at b 1) b i 0 (omega arith))
    (le-leb 9 (length (take (word_at b 1) b)) (omega arith) ∙ sym y.0)
    (eq-eqb (word_at b 1) (length (take (word_at b 1) b)) (sym n) ∙ sym x.1))

pub leading_check : (b : List ℕ) → check (leading b) ≡ check_front b
unfolding leading
leading_check b = go (leb 9 (length b) && leb 9 (word_at b 1) && leb (word_at b 1) (length b)) refl
  where
    go : (x : Bool) → (leb 9 (length b) && leb 9 (word_at b 1) && leb (word_at b 1) (length b)) ≡ x → check (leading b) ≡ check_front b
    go true e = rw e (leading_same b e)
    go false e = rw e (short_same b e)

pub leading_image : (b : List ℕ) → check_front b ≡ None → leading b ≡ image_in b
unfolding leading
leading_image b e =
    let h = front_header b e in
    rw (and_true (and_true (le-leb 9 (length b) h.long) (le-leb 9 (word_at b 1) h.least)) h.fit)

-- ---- of a part of a buffer

module _ (b : List ℕ) where
  -- an image and what stands behind it
  pub leading_taken : 9 ≤ word_at b 1 → word_at b 1 ≤ length b → leading (take (word_at b 1) b) ≡ image_in b
  unfolding leading image_in
  leading_taken w f =
      let n : length (take (word_at b 1) b) ≡ word_at b 1 = length-take-le (word_at b 1) b f in
      rw (word_take (word_at b 1) b 1 (omega arith), n, le-leb 9 (word_at b 1) w, le-leb (word_at b 1) (word_at b 1) (omega arith))
      (take-take (word_at b 1) (word_at b 1) b (omega arith))

  pub leading_whole : 9 ≤ word_at b 1 → word_at b 1 ≤ length b → leading b ≡ image_in b
  unfolding leading
  leading_whole w f =
      rw (le-leb 9 (length b) (omega arith), le-leb 9 (word_at b 1) w, le-leb (word_at b 1) (length b) f) refl

  -- a length field below 9 is refused, whatever stands behind the header
  pub leading_short : 9 ≤ length b → word_at b 1 < 9 → check (leading (take 9 b)) ≡ check (leading b)
  unfolding leading check header_fault need ◌or_else◌
  leading_short h s =
      let n : length (take 9 b) ≡ 9 = length-take-le 9 b h in
      let l = le-leb 9 (length b) h in
      let f = lt-leb 9 (word_at b 1) s in
      let t = word_take 9 b 1 (omega arith) in
      let v = get_or-take 9 b 0 0 (omega arith) in
      go l f n t v (known_version (get_or b 0 0)) refl
    where
      go :
          leb 9 (length b) ≡ true → leb 9 (word_at b 1) ≡ false → length (take 9 b) ≡ 9 → word_at (take 9 b) 1 ≡ word_at b 1
          → get_or (take 9 b) 0 0 ≡ get_or b 0 0 → (x : Bool) → known_version (get_or b 0 0) ≡ x → check (leading (take 9 b)) ≡ check (leading b)
      go l f n t v true e = simp (n, t, v, l, f, e)
      go l f n t v false e = simp (n, t, v, l, f, e)
