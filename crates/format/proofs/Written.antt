-- The bytes of a policy's image, and the image of the empty policy. Assumes nothing.
--     body_parts           the records' bytes, section after section
--     image_nine           the nine bytes of the header, and those
--     image_empty, length_empty, sound_empty   the empty policy's image has nine bytes, and the policy is sound
use Prim.Native.Nat.{ℕ, ◌+◌, ◌/◌, ◌%◌, ◌≤◌}
use mathlib.Core.Path.{◌≡◌, refl}
use mathlib.Core.List.Memᴰ
use mathlib.Core.List.{List, [], ◌∷◌, ◌++◌, flatten, Memᴰ}
use native.Mathlib.Omega.{arith}
use lib.ListN.{length}
use Rattle.format.specs.declared.Section.{Section}
use Rattle.format.specs.declared.Section.TheVariants.{Groups, Rules, Constraints}
use Rattle.format.specs.Bytes.{Bytes, put_word}
use Rattle.format.specs.Format.{known_version, limit_of}
use Rattle.format.specs.Policy.{Policy, records_of, body_of, image_of}
use Rattle.format.specs.Sample.{empty}
use Rattle.format.proofs.Shapes.{Formed}
use Rattle.format.proofs.Twins.{no_twins_nil}
use Rattle.format.proofs.Images.{Sound}

module _ (p : Policy) where
  pub body_parts : body_of p ≡ flatten p.groups ++ (flatten p.rules ++ flatten p.constraints)
  unfolding body_of
  body_parts = refl

  pub image_nine :
      image_of p
      ≡ p.version
      ∷ (9 + length (body_of p)) / 256 ∷ (9 + length (body_of p)) % 256
      ∷ length p.groups / 256 ∷ length p.groups % 256
      ∷ length p.rules / 256 ∷ length p.rules % 256
      ∷ length p.constraints / 256 ∷ length p.constraints % 256
      ∷ body_of p
  unfolding image_of put_word
  image_nine = refl

abbrev nothing : Policy
nothing = record { version = 1; groups = []; rules = []; constraints = [] }

pub image_empty : image_of (record { version = 1; groups = []; rules = []; constraints = [] }) ≡ empty
unfolding image_of body_of put_word empty flatten
image_empty = refl

pub length_empty : length empty ≡ 9
unfolding empty
length_empty = refl

pub sound_empty : Sound (record { version = 1; groups = []; rules = []; constraints = [] })
unfolding known_version records_of
sound_empty = record { regular = record { version = refl; few = few; formed = formed; bytes = bytes }; twins = no_twins_nil }
  where
    few : (s : Section) → length (records_of nothing s) ≤ limit_of s
    few Groups = omega arith
    few Rules = omega arith
    few Constraints = omega arith

    formed : (s : Section) (r : List ℕ) → Memᴰ r (records_of nothing s) → Formed s 0 r
    formed Groups r m = absurd (Memᴰ.not-nil m)
    formed Rules r m = absurd (Memᴰ.not-nil m)
    formed Constraints r m = absurd (Memᴰ.not-nil m)

    bytes : (s : Section) (r : List ℕ) → Memᴰ r (records_of nothing s) → Bytes r
    bytes Groups r m = absurd (Memᴰ.not-nil m)
    bytes Rules r m = absurd (Memᴰ.not-nil m)
    bytes Constraints r m = absurd (Memᴰ.not-nil m)
