-- Each row keeps the buffer the image of a sound policy with the old bytes behind it. Assumes nothing.
--     Imaged b₀ b               b is such an image with the bytes of b₀ behind it
--     imaged_front, imaged_empty            where that holds first; `count_empty`: there is no record yet
--     imaged_accepted, imaged_length, imaged_bytes, imaged_count, imaged_size, imaged_counts   what it says
--     imaged_formed, imaged_few, imaged_with   and of a record that has its shape and its place
--     OneAdded, add_one         a record added keeps it, and is one record more
--     imaged_row, imaged_rows   rows keep it
--     rows_accepted             rows keep an accepted front accepted, of bytes, and as long as it was
use Prim.Native.Nat.{ℕ, suc, ◌+◌, ◌≤◌, ◌<◌}
use mathlib.Core.Path.{◌≡◌, refl, sym, subst, ap, ◌∙◌}
use mathlib.Core.Bool.{false}
use Rattle.std.specs.Prelude.{Option, None, Some}
use mathlib.Core.List.{List, [], ◌∷◌, ◌++◌}
use native.Mathlib.Omega.{arith}
use lib.ListN.{length, get_or, drop, length-append, length-drop}
use lib.Seq.{drop-drop}
use Rattle.format.specs.declared.Section.{Section}
use Rattle.format.specs.declared.Section.TheVariants.{Groups}
use Rattle.format.specs.declared.Refusal.{Refusal}
use Rattle.format.specs.Bytes.{Bytes, word_at}
use Rattle.format.specs.Format.{limit_of, count_of}
use Rattle.format.specs.Policy.{Policy, records_of, image_of, policy_of}
use Rattle.format.specs.Check.{image_in, check_front, Accepted}
use Rattle.format.specs.Sample.{empty}
use Rattle.format.proofs.ByCase.{records_of_groups}
use Rattle.format.proofs.Shapes.{Formed}
use Rattle.format.proofs.Bytes.{bytes_append, bytes_drop}
use Rattle.format.proofs.Images.{Sound, policy_sound, image_of_policy, policy_of_image, image_accepted, image_bytes}
use Rattle.format.proofs.Front.{front_accepted, front_bytes, front_length, front_split, front_fits, front_of, image_in_of, front_of_length}
use Rattle.format.proofs.Written.{image_empty, length_empty, sound_empty}
use Rattle.extension.specs.Add.{section_of, with_record, added_twin, add_fault, buffer_after, overwrite}
use Rattle.extension.specs.Claims.{all_records}
use Rattle.extension.proofs.Causes.{add_own}
use Rattle.extension.proofs.Counts.{with_count, count_none}
use Rattle.extension.proofs.Trip.{overwrite_is}
use Rattle.extension.proofs.Adds.{with_sound, with_length, count_is, add_image, buffer_refused}
use Rattle.text.specs.Rows.{record_of_row}
use Rattle.text.specs.Build.{Made, after_record, after_row, rows_from}
use Rattle.text.specs.Claims.{record_count}
use Rattle.text.proofs.Records.{record_bytes}
use Rattle.text.proofs.Rows.{rows_first}

-- ---- the image with the old bytes behind it

pub record Imaged (b₀ b : List ℕ) : Type 0 where
  pub policy : Policy
  pub sound : Sound policy
  pub image : b ≡ image_of policy ++ drop (length (image_of policy)) b₀
  pub fits : length (image_of policy) ≤ length b₀

-- what it says
module _ (b₀ b : List ℕ) (k : Imaged b₀ b) where
  i : List ℕ
  i = image_of k.policy

  t : List ℕ
  t = drop (length (image_of k.policy)) b₀

  passes : Accepted i
  unfolding i
  passes = image_accepted k.policy k.sound

  pub imaged_accepted : check_front b ≡ None
  unfolding i t
  imaged_accepted = ap check_front k.image ∙ front_of i t passes

  pub imaged_length : length b ≡ length b₀
  unfolding i t
  imaged_length = ap length k.image ∙ length-append i t ∙ omega (arith, length-drop (length i) b₀, k.fits)

  pub imaged_bytes : Bytes b₀ → Bytes b
  unfolding i t
  imaged_bytes h = subst Bytes (sym k.image) (bytes_append i t (image_bytes k.policy k.sound.regular) (bytes_drop (length i) b₀ h))

  pub imaged_size : word_at b 1 ≡ length (image_of k.policy)
  unfolding i t
  imaged_size = ap (λ (l : List ℕ). word_at l 1) k.image ∙ front_of_length i t passes

  imaged_counts : (s : Section) → count_of b s ≡ length (records_of k.policy s)
  unfolding t
  imaged_counts s = ap (λ (l : List ℕ). count_of l s) k.image ∙ count_is k.policy t k.sound s

  -- a record with its shape, and with its place among the others
  imaged_formed : (s : Section) (r : List ℕ) → Formed s (count_of b Groups) r → Formed s (length k.policy.groups) r
  imaged_formed s r f = rw (imaged_counts Groups ∙ ap length (records_of_groups k.policy)) at f

  imaged_few : (s : Section) → count_of b s < limit_of s → length (records_of k.policy s) < limit_of s
  imaged_few s h = rw (imaged_counts s) at h

  imaged_policy : policy_of (image_in b) ≡ k.policy
  unfolding i t
  imaged_policy = ap policy_of (ap image_in k.image ∙ image_in_of i t passes) ∙ policy_of_image k.policy k.sound.regular

  imaged_fresh : (s : Section) (r : List ℕ) → added_twin s (policy_of (image_in b)) r ≡ false → added_twin s k.policy r ≡ false
  imaged_fresh s r h = rw imaged_policy at h

  pub imaged_with :
      (s : Section) (r : List ℕ) → Bytes r → Formed s (count_of b Groups) r → added_twin s (policy_of (image_in b)) r ≡ false
      → count_of b s < limit_of s → Sound (with_record s k.policy r)
  imaged_with s r by f e h = with_sound k.policy r s k.sound (imaged_formed s r f) by (imaged_fresh s r e) (imaged_few s h)

  pub imaged_count : record_count b ≡ length (all_records k.policy)
  imaged_count = ap (λ (p : Policy). length (all_records p)) imaged_policy

-- where it holds first
pub imaged_front : (b : List ℕ) → check_front b ≡ None → Bytes b → Imaged b b
imaged_front b e by =
    let a = front_accepted b e in
    let h = front_bytes b e by in
    let q : image_of (policy_of (image_in b)) ≡ image_in b = image_of_policy (image_in b) h a in
    record {
      policy = policy_of (image_in b);
      sound = policy_sound (image_in b) h a;
      image = rw (q, front_length b e) (front_split b e);
      fits = rw (q, front_length b e) (front_fits b e);
    }

pub imaged_empty : (b : List ℕ) → 9 ≤ length b → Imaged b (overwrite empty b)
imaged_empty b h =
    record {
      policy = record { version = 1; groups = []; rules = []; constraints = [] };
      sound = sound_empty;
      image = overwrite_is empty b ∙ rw image_empty;
      fits = rw (image_empty, length_empty) h;
    }

pub count_empty : (b : List ℕ) → 9 ≤ length b → record_count (overwrite empty b) ≡ 0
unfolding imaged_empty
count_empty b h = imaged_count b (overwrite empty b) (imaged_empty b h) ∙ count_none 1

-- ---- records and rows

-- a record that is added to it, with one record more
pub record OneAdded (b₀ b r : List ℕ) : Type 0 where
  pub image : Imaged b₀ (buffer_after b r)
  pub count : record_count (buffer_after b r) ≡ suc (record_count b)

pub add_one : (b₀ b r : List ℕ) → Imaged b₀ b → Bytes r → add_fault b r ≡ None → OneAdded b₀ b r
add_one b₀ b r k by e =
    let own = add_own b r e in
    let s : Section = section_of (get_or r 1 0) in
    let p : Policy = k.policy in
    let t : List ℕ = drop (length (image_of p)) b₀ in
    let room : length (image_of p) + length r ≤ length (image_of p ++ t) = omega (arith, own.room, imaged_size b₀ b k, ap length k.image) in
    let q : Policy = with_record s p r in
    let n : length (image_of q) ≡ length (image_of p) + length r = with_length s p r in
    let after : Imaged b₀ (buffer_after b r) =
    record {
      policy = q;
      sound = imaged_with b₀ b k s r by own.formed own.fresh own.few;
      image =
          ap (λ (x : List ℕ). buffer_after x r) k.image
          ∙ add_image p t s r k.sound (imaged_formed b₀ b k s r own.formed) (imaged_fresh b₀ b k s r own.fresh) (imaged_few b₀ b k s own.few) room
          ∙ ap (λ (x : List ℕ). image_of q ++ x) (drop-drop (length r) (length (image_of p)) b₀ ∙ ap (λ (x : ℕ). drop x b₀) (sym n));
      fits = omega (arith, room, n, length-append (image_of p) t, length-drop (length (image_of p)) b₀, k.fits);
    } in
    record {
      image = after;
      count = imaged_count b₀ (buffer_after b r) after ∙ with_count s p r ∙ ap suc (sym (imaged_count b₀ b k));
    }

module _ (b₀ : List ℕ) where
  imaged_add : (b r : List ℕ) → Imaged b₀ b → Bytes r → Imaged b₀ (buffer_after b r)
  imaged_add b r k by = step (add_fault b r) refl where
    step : (o : Option Refusal) → add_fault b r ≡ o → Imaged b₀ (buffer_after b r)
    step None e = (add_one b₀ b r k by e).image
    step (Some f) e = subst (Imaged b₀) (sym (buffer_refused b r f e)) k

  pub imaged_row : (row b : List ℕ) → Imaged b₀ b → Imaged b₀ (after_row row b)
  unfolding after_row after_record
  imaged_row [] b k = k
  imaged_row (c ∷ row) b k = step (record_of_row (c ∷ row)) (record_bytes (c ∷ row)) where
    step : (o : Option (List ℕ)) → ((r : List ℕ) → o ≡ Some r → Bytes r) → Imaged b₀ (after_record o b)
    step None f = k
    step (Some r) f = imaged_add b r k (f r refl)

  pub imaged_rows : (rows : List (List ℕ)) (at : ℕ) (b : List ℕ) → Imaged b₀ b → Imaged b₀ (rows_from at rows b).buffer
  unfolding rows_from
  imaged_rows [] at b k = k
  imaged_rows (row ∷ rows) at b k =
      rows_first at row rows b
      (λ h q. subst (λ (m : Made). Imaged b₀ m.buffer) (sym q) (imaged_rows rows (at + suc (length row)) (after_row row b) (imaged_row row b k)))
      (λ f h q. subst (λ (m : Made). Imaged b₀ m.buffer) (sym q) k)

-- ---- an accepted front of bytes

pub rows_accepted :
    (b : List ℕ) → check_front b ≡ None → Bytes b → (at : ℕ) (rows : List (List ℕ))
    → (check_front (rows_from at rows b).buffer ≡ None) × Bytes (rows_from at rows b).buffer × (length (rows_from at rows b).buffer ≡ length b)
rows_accepted b e by at rows =
    let after : List ℕ = (rows_from at rows b).buffer in
    let k = imaged_rows b rows at b (imaged_front b e by) in
    (imaged_accepted b after k, imaged_bytes b after k by, imaged_length b after k)
