-- Adding to an accepted image whose sections' places are known.
--     moved_starts s x by        the places after one record more of the section x, of so many bytes
--     Grows at b r g after       what adding the record of a row answers and leaves: the places in the image after it
--     AddsEach text b r after    what adding all rows of a text answers and leaves
use Rattle.std.specs.Prelude.{ℕ, ◌+◌, ◌≡◌, List}
use Rattle.std.specs.Prelude.{None}
use Rattle.format.specs.declared.Section.{Section}
use Rattle.format.specs.declared.Section.TheVariants.{Groups, Rules, Constraints}
use Rattle.format.specs.declared.Starts.{Starts}
use Rattle.format.specs.Check.{image_in, check_front}
use Rattle.format.specs.Answers.{outcome, starts, Outcome}
use Rattle.extension.specs.Add.{add_fault, buffer_after}
use Rattle.text.specs.Words.{split}
use Rattle.text.specs.Build.{moved_to, rows_from}

unfoldable pub moved_starts : Starts → Section → ℕ → Starts
moved_starts s Groups by = record { rules = s.rules + by; constraints = s.constraints + by }
moved_starts s Rules by = record { rules = s.rules; constraints = s.constraints + by }
moved_starts s Constraints by = s

pub record Grows (at : ℕ) (b r : List ℕ) (g : Outcome Starts) (after : List ℕ) : Type 0 where
  pub answer : g ≡ outcome (moved_to at (add_fault b r)) (starts (image_in after))
  pub buffer : after ≡ buffer_after b r
  pub accepted : check_front after ≡ None

pub record AddsEach (text b : List ℕ) (r : Outcome ℕ) (after : List ℕ) : Type 0 where
  pub answer : r ≡ (rows_from 0 (split 10 text) b).answer
  pub buffer : after ≡ (rows_from 0 (split 10 text) b).buffer
