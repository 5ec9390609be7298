-- Giving record n of a section (document 01, "Adding and giving records").
--     give_fault l s n      refusals 1 to 7, then 14
--     given_record l s n    the record's own bytes; on a refusal no bytes
--     PartOf s r at        the slice r is the part of the slice s that starts at a place: the same memory, no copy
--     Leads b r            r is the part of the buffer b that is to be checked
--     Given image r s n    what a call answers that gives record n of section s of the image in a slice
use Rattle.std.specs.Prelude.{ℕ, ◌+◌, ◌≤◌, ◌≡◌, List, [], length, get_or, take, drop, ltb}
use Rattle.std.specs.Prelude.{Option, None}
use Rattle.std.specs.Borrow.{Bor}
use Rattle.format.specs.declared.Section.{Section}
use Rattle.format.specs.declared.Refusal.{Refusal}
use Rattle.format.specs.Refusals.{refusal, need, ◌or_else◌, unless_refused}
use Rattle.format.specs.Format.{count_of}
use Rattle.format.specs.Policy.{policy_of, records_of, place_of}
use Rattle.format.specs.Check.{check, leading}

unfoldable pub give_fault : List ℕ → Section → ℕ → Option Refusal
give_fault l s n = check l or_else need (ltb n (count_of l s)) (refusal 14 0)

unfoldable pub given_record : List ℕ → Section → ℕ → List ℕ
given_record l s n = unless_refused (give_fault l s n) (get_or (records_of (policy_of l) s) n []) []

pub record PartOf (s r : Bor (List ℕ)) (at : ℕ) : Type 0 where
  pub block : r.ref_ptr.0 ≡ s.ref_ptr.0
  pub offset : r.ref_ptr.1 ≡ s.ref_ptr.1 + at
  pub inside : at + length r.now ≤ length s.now
  pub bytes : r.now ≡ take (length r.now) (drop at s.now)

pub record Leads (b r : Bor (List ℕ)) : Type 0 where
  pub bytes : r.now ≡ leading b.now
  pub part : PartOf b r 0

-- The bytes given are always fixed, and so is their place where there is a record. On a refusal the part is empty, and
-- which place of the image it lies at is left free.
pub record Given (image r : Bor (List ℕ)) (s : Section) (n : ℕ) : Type 0 where
  pub bytes : r.now ≡ given_record image.now s n
  pub place : ℕ
  pub part : PartOf image r place
  pub stands : give_fault image.now s n ≡ None → place ≡ place_of image.now s n
