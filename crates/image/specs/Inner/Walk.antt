-- What the steps of the check answer, in the terms of `format`.
--     walk_of l s at n      n records of a section from a place on: the place past them, or the first refusal
--     noted_from l s at k n ps   a table of places after that walk: record i of those that it comes to goes to slot k + i
--     noted l ps           the same of an image's groups
--     Fits l s at n        each place that a walk over n records of a section reaches, from a place on, is at most 55,561
--     Ahead l s g at n     an image with g groups, and a place where a walk over n records of a section may begin
--     Walks, ChecksBody, Checks   what a walk, the check of the body and refusals 1 to 7 answer, and the table before and after
--     ends_of l r c e       refusal 7, for records that end at e
--     start_in y s          where a section starts
--     Hops l at n          the first n length bytes from a place on, and the records, lie in the image; no place is above 55,561
use Rattle.std.specs.Prelude.{ℕ, zero, suc, ◌+◌, ◌≤◌, ◌<◌, ◌≡◌, List, length, get_or, drop, set, leb, eqb}
use Rattle.std.specs.Prelude.{None}
use Rattle.format.specs.declared.Section.{Section}
use Rattle.format.specs.declared.Section.TheVariants.{Groups, Rules, Constraints}
use Rattle.format.specs.declared.Starts.{Starts}
use Rattle.format.specs.Refusals.{refusal, need, unless_refused}
use Rattle.format.specs.Answers.{Outcome, outcome, starts}
use Rattle.format.specs.Format.{header_length, count_of}
use Rattle.format.specs.Policy.{place_after}
use Rattle.format.specs.Longest.{longest_length}
use Rattle.format.specs.Check.{read_of, read_fault, section_fault, header_fault, body_fault, layout_fault}

unfoldable pub walk_of : List ℕ → Section → ℕ → ℕ → Outcome ℕ
walk_of l s at n = outcome (section_fault l s at n) (place_after l at n)

unfoldable pub noted_from : List ℕ → Section → ℕ → ℕ → ℕ → List ℕ → List ℕ
noted_from l s at k zero ps = ps
noted_from l s at k (suc n) ps =
    unless_refused (read_fault at (read_of s (count_of l Groups) (drop at l)))
    (noted_from l s (at + get_or l at 0) (suc k) n (set ps k at))
    (set ps k at)

abbrev pub noted : List ℕ → List ℕ → List ℕ
noted l ps = noted_from l Groups header_length 0 (count_of l Groups) ps

pub record Fits (l : List ℕ) (s : Section) (at n : ℕ) : Type 0 where
  pub place : (k : ℕ) → k ≤ n → section_fault l s at k ≡ None → place_after l at k ≤ longest_length

pub record Ahead (l : List ℕ) (s : Section) (g at n : ℕ) : Type 0 where
  pub groups : g ≡ count_of l Groups
  pub inside : at ≤ length l
  pub fits : Fits l s at n

pub record Walks (l : List ℕ) (s : Section) (at n : ℕ) (before : List ℕ) (r : Outcome ℕ) (after : List ℕ) : Type 0 where
  pub comes : r ≡ walk_of l s at n
  pub table : after ≡ noted_from l s at 0 n before

pub record ChecksBody (l before : List ℕ) (r : Outcome Starts) (after : List ℕ) : Type 0 where
  pub sections : r ≡ outcome (body_fault l) (starts l)
  pub table : after ≡ noted l before

pub record Checks (l before : List ℕ) (r : Outcome Starts) (after : List ℕ) : Type 0 where
  pub sections : r ≡ outcome (layout_fault l) (starts l)
  pub table : after ≡ unless_refused (header_fault eqb l) (noted l before) before

unfoldable pub ends_of : List ℕ → ℕ → ℕ → ℕ → Outcome Starts
ends_of l r c e = outcome (need (leb (length l) e) (refusal 7 e)) (record { rules = r; constraints = c })

abbrev pub start_in : Starts → Section → ℕ
start_in y Groups = header_length
start_in y Rules = y.rules
start_in y Constraints = y.constraints

pub record Hops (l : List ℕ) (at n : ℕ) : Type 0 where
  pub byte : (k : ℕ) → k < n → place_after l at k < length l
  pub inside : (k : ℕ) → k ≤ n → place_after l at k ≤ length l
  pub fits : (k : ℕ) → k ≤ n → place_after l at k ≤ longest_length
