-- A part put into a buffer of bytes, place by place.
--     put_word_at b at n        the 2-byte number n at a place
--     spliced b r at size     r within the first `size` bytes, at a place: what follows there moves up, what lies past
--                             them and the room that r takes stays
--     inserted b r ..         the same, with the length field and a count grown
--     end_of_section l s        the place past the last record of a section of an image
use Rattle.std.specs.Prelude.{ℕ, ◌+◌, ◌/◌, ◌%◌, List, ◌++◌, length, take, drop, set}
use Rattle.std.proofs.Math.Seq.{slice}
use Rattle.format.specs.declared.Section.{Section}
use Rattle.format.specs.declared.Section.TheVariants.{Groups, Rules, Constraints}
use Rattle.format.specs.Policy.{start_of}

unfoldable pub put_word_at : List ℕ → ℕ → ℕ → List ℕ
put_word_at b at n = set (set b at (n / 256)) (at + 1) (n % 256)

unfoldable pub spliced : List ℕ → List ℕ → ℕ → ℕ → List ℕ
spliced b r at size = take at b ++ (r ++ (slice at size b ++ drop (size + length r) b))

unfoldable pub inserted : List ℕ → List ℕ → ℕ → ℕ → ℕ → ℕ → List ℕ
inserted b r at size field count = put_word_at (put_word_at (spliced b r at size) 1 (size + length r)) field (count + 1)

unfoldable pub end_of_section : List ℕ → Section → ℕ
end_of_section l Groups = start_of l Rules
end_of_section l Rules = start_of l Constraints
end_of_section l Constraints = length l
