-- A buffer that holds the longest image is never short: claim SpaceEnough. With one record more, a policy that breaks no other rule
-- still has an image that is accepted, and so is not longer. Assumes nothing.
use Prim.Native.Nat.{ℕ, ◌+◌, ◌≤◌, ◌<◌}
use mathlib.Core.Path.{◌≡◌, sym, ◌∙◌}
use mathlib.Core.Bool.{false}
use Rattle.std.specs.Prelude.{Some}
use mathlib.Core.List.{List}
use native.Mathlib.Omega.{arith}
use lib.ListN.{length, get_or}
use Rattle.format.specs.declared.Section.{Section}
use Rattle.format.specs.declared.Section.TheVariants.{Groups}
use Rattle.format.specs.declared.Refusal.{Refusal}
use Rattle.format.specs.Bytes.{Bytes, word_at}
use Rattle.format.specs.Format.{limit_of, count_of}
use Rattle.format.specs.Policy.{Policy, image_of, policy_of}
use Rattle.format.specs.Check.{image_in}
use Rattle.format.proofs.Shapes.{Formed}
use Rattle.format.proofs.Reach.{longest_image}
use Rattle.format.proofs.Images.{Sound, image_accepted}
use Rattle.extension.specs.Add.{section_of, with_record, added_twin, add_fault}
use Rattle.extension.proofs.Adds.{with_length, passes_own}
use Rattle.extension.proofs.Causes.{short_formed, not_short}
use Rattle.text.specs.Build.{built}
use Rattle.text.specs.Claims.{Cause, outside, not_added, SpaceEnough}
use Rattle.text.proofs.Records.{record_bytes}
use Rattle.text.proofs.Follow.{refused_keeps}
use Rattle.text.proofs.Buffers.{Imaged, imaged_accepted, imaged_length, imaged_size, imaged_with}
use Rattle.text.proofs.Accepted.{built_imaged}

-- a record that has its shape and its place is not short of it
module _ (b₀ b r : List ℕ) (k : Imaged b₀ b) (by : Bytes r) (long : 55561 ≤ length b₀) (f : Refusal) (e : add_fault b r ≡ Some f) (n : f.number ≡ 13) where
  p : Policy
  p = k.policy

  s : Section
  s = section_of (get_or r 1 0)

  causes : Formed s (count_of b Groups) r × (count_of b s < limit_of s) × (added_twin s (policy_of (image_in b)) r ≡ false)
  unfolding s
  causes = short_formed b r (imaged_accepted b₀ b k) f e n

  sound_with : Sound (with_record s p r)
  unfolding s p
  sound_with = imaged_with b₀ b k s r by causes.0 causes.2 causes.1

  room : word_at b 1 + length r ≤ length b
  unfolding s p
  room =
      let m : length (image_of (with_record s p r)) ≤ 55561 = longest_image (image_of (with_record s p r)) (image_accepted (with_record s p r) sound_with) in
      omega (arith, m, with_length s p r, imaged_size b₀ b k, imaged_length b₀ b k)

  never_short : ⊥
  unfolding s
  never_short = not_short b r (imaged_accepted b₀ b k) f e (passes_own b r (record { formed = causes.0; fresh = causes.2; few = causes.1; room = room }))

pub space_enough : SpaceEnough
space_enough text b f long e n =
    let q = refused_keeps text b f (omega arith) e in
    why q.own q.cause
  where
    why : (row : List ℕ) → Cause row (built text b).buffer f.number → ⊥
    why row (outside h k) = omega arith
    why row (not_added r g h k m) =
        never_short b (built text b).buffer r (built_imaged text b (omega arith)) (record_bytes row r h) long g k (sym m ∙ n)
