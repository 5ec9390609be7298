-- What the plan of an add answers.
--     slot_at b s at      the slot of a section of the buffer's image, at a place
--     slot_of b r         the slot of a record: the end of its section
use Rattle.std.specs.Prelude.{ℕ, List, get_or}
use Rattle.format.specs.declared.Section.{Section}
use Rattle.format.specs.Bytes.{word_at}
use Rattle.format.specs.Format.{length_place, count_of}
use Rattle.format.specs.Check.{image_in}
use Rattle.extension.specs.Add.{section_of}
use Rattle.extension.specs.Inner.Splice.{end_of_section}
use Rattle.extend.specs.declared.plan.Slot.{Slot}

abbrev pub slot_at : List ℕ → Section → ℕ → Slot
slot_at b s at = record { at = at; size = word_at b length_place; section = s; count = count_of b s }

unfoldable pub slot_of : List ℕ → List ℕ → Slot
slot_of b r = slot_at b (section_of (get_or r 1 0)) (end_of_section (image_in b) (section_of (get_or r 1 0)))
