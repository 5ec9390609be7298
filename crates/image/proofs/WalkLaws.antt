-- Laws of a walk over the records of a section, one for each way that a turn goes. Assumes nothing.
use Prim.Native.Nat.{ℕ, suc, ◌+◌, ◌-◌, ◌≤◌, ◌<◌}
use mathlib.Core.Path.{◌≡◌, refl, sym, ap, ◌∙◌}
use mathlib.Core.List.{List}
use native.Mathlib.Omega.{arith}
use native.Mathlib.Numerals.{add-one}
use lib.ListN.{length, get_or, take, drop, set, length-drop}
use lib.Seq.{take_all, drop-drop, get_or-drop}
use Rattle.format.specs.declared.Section.{Section}
use Rattle.format.specs.declared.Section.TheVariants.{Groups}
use Rattle.format.specs.declared.Refusal.{Refusal}
use Rattle.format.specs.declared.Misread.{Misread}
use Rattle.format.specs.declared.Misread.TheVariants.{BadField}
use Rattle.format.specs.Refusals.{◌or_else◌, unless_refused}
use Rattle.format.specs.Format.{count_of}
use Rattle.format.specs.Policy.{record_at, place_after}
use Rattle.format.specs.Longest.{longest_length}
use Rattle.format.specs.Check.{read_of, read_fault, section_fault}
use Rattle.format.specs.Inner.Places.{Stands}
use Rattle.format.proofs.Records.{place_snoc}
use Rattle.format.proofs.Shapes.{stands, read_whole, read_bad_field}
use Rattle.format.proofs.Fields.{field_inside}
use Rattle.image.specs.Inner.Walk.{walk_of, noted_from, Fits, Hops}
use Rattle.std.specs.Prelude.{Some, Ok, Err}

-- the part of a list from a place on, as a part of a slice is given
pub part_from : (l : List ℕ) (at : ℕ) → take (length l - at) (drop at l) ≡ drop at l
part_from l at = take_all (length l - at) (drop at l) (omega (arith, length-drop at l))

-- a part that starts at a place: its length, its first byte, and where it starts once it has moved on by so many bytes
pub part_length : (l part : List ℕ) (at : ℕ) → part ≡ drop at l → length part ≡ length l - at
part_length l part at e = ap length e ∙ length-drop at l

pub part_first : (l part : List ℕ) (at : ℕ) → part ≡ drop at l → get_or part 0 0 ≡ get_or l at 0
part_first l part at e = ap (λ (p : List ℕ). get_or p 0 0) e ∙ get_or-drop at l 0 0 ∙ ap (λ (i : ℕ). get_or l i 0) (omega arith)

pub part_next : (l part : List ℕ) (at n : ℕ) → part ≡ drop at l → take (length part - n) (drop n part) ≡ drop (at + n) l
part_next l part at n e = part_from part n ∙ ap (drop n) e ∙ drop-drop n at l

module _ (l : List ℕ) (s : Section) (at : ℕ) where
  whole_stands : (len : ℕ) → read_of s (count_of l Groups) (drop at l) ≡ Ok len → Stands l at (record_at l at)
  unfolding record_at
  whole_stands len e = stands l at (read_whole s (count_of l Groups) len (drop at l) e).0.shape

  whole_length : (len : ℕ) → read_of s (count_of l Groups) (drop at l) ≡ Ok len → length (record_at l at) ≡ len
  unfolding record_at
  whole_length len e = (read_whole s (count_of l Groups) len (drop at l) e).1

  pub whole_size : (len : ℕ) → read_of s (count_of l Groups) (drop at l) ≡ Ok len → len ≡ get_or l at 0
  whole_size len e = sym (whole_length len e) ∙ (whole_stands len e).size

  pub whole_inside : (len : ℕ) → read_of s (count_of l Groups) (drop at l) ≡ Ok len → at + len ≤ length l
  whole_inside len e = omega (arith, (whole_stands len e).inside, whole_length len e)

  pub bad_inside : (i : ℕ) → read_of s (count_of l Groups) (drop at l) ≡ Err (BadField i) → at + i < length l
  unfolding record_at
  bad_inside i e =
      let q = read_bad_field s (count_of l Groups) i (drop at l) e in
      omega (arith, (stands l at q.0).inside, field_inside (count_of l Groups) (record_at l at) i q.0 q.1)

  module _ (n : ℕ) where
    pub walk_end : n ≡ 0 → walk_of l s at n ≡ Ok at
    unfolding walk_of section_fault place_after
    walk_end e = rw e

    pub walk_whole : (m len : ℕ) → n ≡ suc m → read_of s (count_of l Groups) (drop at l) ≡ Ok len → walk_of l s at n ≡ walk_of l s (at + len) m
    unfolding walk_of section_fault place_after read_fault ◌or_else◌
    walk_whole m len e r = rw (e, whole_size len r) (simp r)

    pub walk_stops : (x : Misread) (f : Refusal) → 0 < n → read_of s (count_of l Groups) (drop at l) ≡ Err x → read_fault at (Err x) ≡ Some f → walk_of l s at n ≡ Err f
    unfolding walk_of section_fault ◌or_else◌
    walk_stops x f h r k = let e : n ≡ suc (n - 1) = omega arith in rw e (simp (r, k))

    -- the bound, in the same turns
    pub fits_here : Fits l s at n → at ≤ 55561
    unfolding section_fault place_after
    fits_here f = f.place 0 (omega arith) refl

    pub fits_whole :
        (m len : ℕ) → n ≡ suc m → read_of s (count_of l Groups) (drop at l) ≡ Ok len → Fits l s at n → Fits l s (at + len) m
    unfolding section_fault place_after read_fault ◌or_else◌
    fits_whole m len e r f = rw (whole_size len r) (record { place = λ k h q. f.place (suc k) (omega arith) (simp r q) })

    -- the table, in the same turns
    module _ (k : ℕ) (ps : List ℕ) where
      pub note_end : n ≡ 0 → noted_from l s at k n ps ≡ ps
      unfolding noted_from
      note_end e = rw e

      pub note_whole :
          (m len : ℕ) → n ≡ suc m → read_of s (count_of l Groups) (drop at l) ≡ Ok len → noted_from l s at k n ps ≡ noted_from l s (at + len) (k + 1) m (set ps k at)
      unfolding noted_from read_fault unless_refused
      note_whole m len e r = rw (e, whole_size len r, add-one) (simp r)

      pub note_stops : (x : Misread) (f : Refusal) → 0 < n → read_of s (count_of l Groups) (drop at l) ≡ Err x → read_fault at (Err x) ≡ Some f → noted_from l s at k n ps ≡ set ps k at
      unfolding noted_from unless_refused
      note_stops x f h r q = let e : n ≡ suc (n - 1) = omega arith in rw e (simp (r, q))

-- ---- from length byte to length byte: the place past k records, and the part that starts there

pub record Hopped (l : List ℕ) (from k at : ℕ) (part : List ℕ) : Type 0 where
  pub place : at ≡ place_after l from k
  pub starts : part ≡ drop at l

module _ (l : List ℕ) (from n : ℕ) (h : Hops l from n) where
  pub hop_first : (at : ℕ) → at ≡ from → Hopped l from 0 from (take (length l - at) (drop at l))
  unfolding place_after
  hop_first at e = record { place = refl; starts = part_from l at ∙ ap (λ (at : ℕ). drop at l) e }

  pub hop_starts : from ≤ length l
  unfolding place_after
  hop_starts = h.inside 0 (omega arith)

  module _ (k at : ℕ) (part : List ℕ) (s : Hopped l from k at part) (more : k < n) where
    pub hop_room : 0 < length part
    hop_room = omega (arith, part_length l part at s.starts, s.place, h.byte k more)

    module _ (size : ℕ) (is : size ≡ get_or part 0 0) where
      next_place : at + size ≡ place_after l from (k + 1)
      next_place =
          let byte : size ≡ get_or l at 0 = is ∙ part_first l part at s.starts in
          ap (λ (b : ℕ). at + b) byte ∙ ap (λ (at : ℕ). at + get_or l at 0) s.place ∙ sym (place_snoc l from k) ∙ ap (place_after l from) (sym (add-one k))

      pub hop_inside : size ≤ length part
      hop_inside = omega (arith, part_length l part at s.starts, next_place, h.inside (k + 1) (omega arith))

      pub hop_fits : at + size ≤ longest_length
      hop_fits = omega (arith, next_place, h.fits (k + 1) (omega arith))

      pub hop_next : (by : ℕ) → by ≡ get_or part 0 0 → Hopped l from (k + 1) (at + size) (take (length part - by) (drop by part))
      hop_next by e =
          record {
            place = next_place;
            starts = part_next l part at by s.starts ∙ ap (λ (n : ℕ). drop (at + n) l) (e ∙ sym is);
          }
