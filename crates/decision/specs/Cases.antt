-- The marked cases of the sample sheet (document 01), as one table with one claim; a denied one has request [2]'s steps and
-- rule. The images with records added are those that adding gives, in a buffer that has just the space.
--     g0                the type field of group 0
--     allow, companion, one_member, banned   records
--     with_space l r     the image l in a buffer that has just the space for the record r as well
--     extended l r      the buffer after adding r to it
--     Case, ask         a row: image, query without a switch on, and the answer that the documents give; ask_on w: under a word
--     cases             the table
--     given, expected_of what the definitions give, and the row's answer
--     MarkedCases       the definitions give these answers
--     MarkedAdds        and the adds in it are accepted
--     MarkedOrder       the sample and a rule more, and a query on group 0 and one on its member, meet the order rule's terms;
--                       so does a query on a new group; the sample has no companion, nor has a ban, 21 is a member of its group,
--                       and rules and constraints in another order have other numbers
use Rattle.std.specs.Prelude.{ℕ, ◌/◌, ◌%◌, ◌≡◌, true, List, [], ◌∷◌, ◌++◌, map, length, replicate, Some}
use Rattle.std.specs.Prelude.{None}
use Rattle.format.specs.declared.Section.TheVariants.{Rules}
use Rattle.format.specs.Refusals.{refusal}
use Rattle.format.specs.Format.{count_of}
use Rattle.format.specs.Policy.{policy_of}
use Rattle.std.specs.Prelude.{Ok, Err}
use Rattle.format.specs.Answers.{Outcome}
use Rattle.format.specs.Sample.{sample, empty}
use Rattle.extension.specs.Add.{add_fault, new_number, buffer_after}
use Rattle.decision.specs.declared.Query.{Query}
use Rattle.decision.specs.Sets.{is_in, set_of}
use Rattle.decision.specs.declared.Decision.{Decision}
use Rattle.decision.specs.declared.Decision.TheVariants.{NotPermitted, Permitted, UnKnown}
use Rattle.decision.specs.Decide.{decide, answer, query_of, near}
use Rattle.decision.specs.Order.{NoCompanion, Extends}
use Rattle.decision.specs.Growth.{reordered}

unfoldable pub with_space : List ℕ → List ℕ → List ℕ
with_space l r = l ++ replicate (length r) 0

unfoldable pub extended : List ℕ → List ℕ → List ℕ
extended l r = buffer_after (with_space l r) r

unfoldable pub g0 : ℕ
g0 = 0x8000

-- an allow rule that is on, of numbers below 256 but for the destination
unfoldable pub allow : ℕ → ℕ → ℕ → ℕ → List ℕ
allow s d c a = 11 ∷ 2 ∷ 0 ∷ s ∷ d / 256 ∷ d % 256 ∷ 0 ∷ c ∷ 0 ∷ a ∷ 1 ∷ []

unfoldable pub companion : List ℕ
companion = 11 ∷ 4 ∷ 0 ∷ 5 ∷ 0 ∷ 1 ∷ 0 ∷ 10 ∷ 0 ∷ 21 ∷ 3 ∷ []

-- a group of one member, 21
unfoldable pub one_member : List ℕ
one_member = 4 ∷ 1 ∷ 0 ∷ 21 ∷ []

-- a ban on class 5, action 1, arguments 10 and 21
unfoldable pub banned : List ℕ
banned = 11 ∷ 4 ∷ 0 ∷ 5 ∷ 0 ∷ 1 ∷ 0 ∷ 10 ∷ 0 ∷ 21 ∷ 0 ∷ []

pub record Case : Type 0 where
  pub image : List ℕ
  pub query : Query
  pub expected : Outcome Decision

unfoldable pub ask_on : ℕ → List ℕ → ℕ → ℕ → ℕ → ℕ → Outcome Decision → Case
ask_on w l s d c a e = record { image = l; query = query_of s d c a w; expected = e }

unfoldable pub ask : List ℕ → ℕ → ℕ → ℕ → ℕ → Outcome Decision → Case
ask = ask_on 0

unfoldable pub cases : List Case
cases =
    ask sample 10 21 5 1 (Ok (Permitted 0))
    ∷ ask sample 10 g0 5 1 (Ok (Permitted 0))
    ∷ ask sample 13 21 5 1 (Ok (NotPermitted (Some (near 1 0))))
    ∷ ask sample 12 20 9 9 (Ok (Permitted 2))
    ∷ ask sample 20 30 5 2 (Ok (Permitted 1))
    ∷ ask (extended sample (allow 10 30 5 3)) 20 30 5 2 (Ok (UnKnown 1 1))
    ∷ ask (extended sample (allow 14 g0 7 7)) 10 21 5 1 (Ok (UnKnown 0 0))
    ∷ ask (extended sample (allow 14 g0 7 7)) 10 g0 5 1 (Ok (Permitted 0))
    ∷ ask (extended sample companion) 10 21 5 1 (Ok (UnKnown 0 2))
    ∷ ask (extended (extended sample companion) (allow 21 10 5 9)) 10 21 5 1 (Ok (Permitted 0))
    ∷ ask empty 0 0 0 0 (Ok (NotPermitted None))
    ∷ ask sample 1024 21 5 1 (Err (refusal 8 0))
    ∷ ask sample 32769 21 5 1 (Err (refusal 8 0))
    ∷ ask sample 1023 21 5 1 (Ok (NotPermitted (Some (near 1 0))))
    ∷ []

unfoldable pub given : Case → Outcome Decision
given c = answer c.image c.query

unfoldable pub expected_of : Case → Outcome Decision
expected_of c = c.expected

abbrev pub MarkedCases : Type 0
MarkedCases = map given cases ≡ map expected_of cases

pub record MarkedAdds : Type 0 where
  pub separated : add_fault (with_space sample (allow 10 30 5 3)) (allow 10 30 5 3) ≡ None
  pub rostered : add_fault (with_space sample (allow 14 g0 7 7)) (allow 14 g0 7 7) ≡ None
  pub companied : add_fault (with_space sample companion) companion ≡ None
  pub helped : add_fault (with_space (extended sample companion) (allow 21 10 5 9)) (allow 21 10 5 9) ≡ None
  -- the companion is constraint 2, and leaves the rules
  pub numbered : new_number (with_space sample companion) companion ≡ 2
  pub rules_stay : count_of (extended sample companion) Rules ≡ 4

pub record MarkedOrder : Type 0 where
  pub extends :
      Extends (policy_of sample) (query_of 10 g0 5 1 0)
      (policy_of (extended sample (allow 14 g0 7 7))) (query_of 10 21 5 1 1)
  pub no_companion : NoCompanion (policy_of sample).constraints
  pub itself : is_in 10 (set_of (policy_of sample).groups 10) ≡ true
  pub member : is_in 21 (set_of (policy_of sample).groups g0) ≡ true
  -- the other order is another: rule 0 is then rule 3, and constraint 1 constraint 0
  pub turned : decide (reordered (policy_of sample)) (query_of 10 21 5 1 0) ≡ Permitted 3
  pub turned_constraints :
      decide (reordered (policy_of (extended sample (allow 10 30 5 3)))) (query_of 20 30 5 2 0) ≡ UnKnown 3 0
  -- the second query may name a group that only the second policy has
  pub new_group :
      Extends (policy_of sample) (query_of 10 g0 5 1 0)
      (policy_of (extended sample one_member)) (query_of 10 0x8001 5 1 0)
  -- a policy with a ban has no companion
  pub ban_no_companion : NoCompanion (banned ∷ [])
