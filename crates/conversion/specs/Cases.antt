-- Old images converted, worked out by hand (document 02 [7]).
--     old, new        a policy whose groups 0 and 2 are twins, and 1, 3 and 5; and what it becomes. The group of 5 alone is no
--                     twin of the basic type 5
--     ConvertedCases  that, where each of its types goes, the refusal of the old image, which comes behind 6 and 7, and the sample,
--                     which stays
use Rattle.std.specs.Prelude.{◌≡◌, [], ◌∷◌, ◌++◌, map, length, set}
use Rattle.std.specs.Prelude.{None, Some}
use Rattle.format.specs.Refusals.{refusal}
use Rattle.format.specs.Policy.{Policy, image_of}
use Rattle.format.specs.Check.{layout_fault, check}
use Rattle.format.specs.Sample.{sample, empty}
use Rattle.conversion.specs.Convert.{follow, converted, converted_image, convert_fault}

-- groups at 9, 15, 19, 25, 29 and 33; rules at 37 and 48; a roster at 56 with the list g3 g4; 71 bytes
unfoldable pub old : Policy
old =
    record {
      version = 1;
      groups =
          (6 ∷ 1 ∷ 0 ∷ 20 ∷ 0 ∷ 21 ∷ []) ∷ (4 ∷ 1 ∷ 0 ∷ 5 ∷ []) ∷ (6 ∷ 1 ∷ 0 ∷ 20 ∷ 0 ∷ 21 ∷ [])
          ∷ (4 ∷ 1 ∷ 0 ∷ 5 ∷ []) ∷ (4 ∷ 1 ∷ 0 ∷ 7 ∷ []) ∷ (4 ∷ 1 ∷ 0 ∷ 5 ∷ []) ∷ [];
      rules = (11 ∷ 2 ∷ 0x80 ∷ 2 ∷ 0x80 ∷ 4 ∷ 0 ∷ 5 ∷ 0 ∷ 1 ∷ 1 ∷ []) ∷ (8 ∷ 3 ∷ 0 ∷ 5 ∷ 0x80 ∷ 5 ∷ 0 ∷ 5 ∷ []) ∷ [];
      constraints = (15 ∷ 4 ∷ 0 ∷ 5 ∷ 0 ∷ 1 ∷ 0x80 ∷ 2 ∷ 0 ∷ 5 ∷ 2 ∷ 0x80 ∷ 3 ∷ 0x80 ∷ 4 ∷ []) ∷ [];
    }

-- groups 2, 3 and 5 go, and group 4 is now 2
unfoldable pub new : Policy
new =
    record {
      version = 1;
      groups = (6 ∷ 1 ∷ 0 ∷ 20 ∷ 0 ∷ 21 ∷ []) ∷ (4 ∷ 1 ∷ 0 ∷ 5 ∷ []) ∷ (4 ∷ 1 ∷ 0 ∷ 7 ∷ []) ∷ [];
      rules = (11 ∷ 2 ∷ 0x80 ∷ 0 ∷ 0x80 ∷ 2 ∷ 0 ∷ 5 ∷ 0 ∷ 1 ∷ 1 ∷ []) ∷ (8 ∷ 3 ∷ 0 ∷ 5 ∷ 0x80 ∷ 1 ∷ 0 ∷ 5 ∷ []) ∷ [];
      constraints = (15 ∷ 4 ∷ 0 ∷ 5 ∷ 0 ∷ 1 ∷ 0x80 ∷ 0 ∷ 0 ∷ 5 ∷ 2 ∷ 0x80 ∷ 1 ∷ 0x80 ∷ 2 ∷ []) ∷ [];
    }

pub record ConvertedCases : Type 0 where
  pub policy : converted old ≡ new
  pub types :
      map (follow old) (5 ∷ 0x8000 ∷ 0x8001 ∷ 0x8002 ∷ 0x8003 ∷ 0x8004 ∷ 0x8005 ∷ [])
      ≡ 5 ∷ 0x8000 ∷ 0x8001 ∷ 0x8000 ∷ 0x8001 ∷ 0x8002 ∷ 0x8001 ∷ []
  pub laid_out : layout_fault (image_of old) ≡ None
  pub twins : check (image_of old) ≡ Some (refusal 19 19)
  pub end_first : check (set (image_of old) 2 72 ++ (0 ∷ [])) ≡ Some (refusal 7 71)
  pub field_first : check (set (image_of old) 66 4) ≡ Some (refusal 6 66)
  pub image : converted_image (image_of old) ≡ image_of new
  pub shorter : (length (image_of old) ≡ 71) × (length (image_of new) ≡ 57)
  pub fits : convert_fault (image_of old) 57 ≡ None
  pub short : convert_fault (image_of old) 56 ≡ Some (refusal 13 0)
  pub sample_stays : converted_image sample ≡ sample
  pub empty_stays : converted_image empty ≡ empty
