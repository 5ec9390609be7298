-- What is put into a buffer.
--     placed at s l                l with the bytes s from a place on
--     Puts most s at l to after    what a call answers and leaves that puts s, at most so many bytes, at a place of l: nothing,
--                                  where there is less room than that; else s, and the place past it
--     numbers_line letter ns        a line: the letter, a space and each number, and a line feed
--     kept_rest from to l           l with its bytes from a place up to another moved to the front; l as it is, where the places
--                                  are not there in this order
--     Put l l' at to s             s was put from a place on: l before, l' after
--     Front l n s                  s stands at the front: n bytes of it
use Rattle.std.specs.Prelude.{ℕ, ◌+◌, ◌≤◌, ◌≡◌, ◌&&◌, cond, List, [], ◌∷◌, ◌++◌, length, take, drop, leb}
use Rattle.std.specs.List.{flat_map}
use Rattle.lines.specs.Lines.{field}

unfoldable pub placed : ℕ → List ℕ → List ℕ → List ℕ
placed at s l = take at l ++ (s ++ drop (at + length s) l)

pub record Puts (most : ℕ) (s : List ℕ) (at : ℕ) (l : List ℕ) (to : ℕ) (after : List ℕ) : Type 0 where
  pub answer : to ≡ cond (leb (at + most) (length l)) (at + length s) at
  pub buffer : after ≡ cond (leb (at + most) (length l)) (placed at s l) l

abbrev pub numbers_line : ℕ → List ℕ → List ℕ
numbers_line letter ns = letter ∷ (flat_map field ns ++ (10 ∷ []))

unfoldable pub kept_rest : ℕ → ℕ → List ℕ → List ℕ
kept_rest from to l = cond (leb to (length l) && leb from to) (placed 0 (drop from (take to l)) l) l

pub record Put (l l' : List ℕ) (at to : ℕ) (s : List ℕ) : Type 0 where
  pub ends : to ≡ at + length s
  pub bytes : take to l' ≡ take at l ++ s

pub record Front (l : List ℕ) (n : ℕ) (s : List ℕ) : Type 0 where
  pub fits : n ≤ length l
  pub bytes : take n l ≡ s
