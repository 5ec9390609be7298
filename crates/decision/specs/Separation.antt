-- What a separation means from request [5] on, what it meant before, and where that makes no difference.
--     From rs s x         the basic type x lies in the source of a live rule of the list whose destination touches the set s
--     SeparationMeans     a separation is false exactly where some basic type lies so for both of its arguments
--     FromRecord p w t x  the same by the bytes of a record of a policy: an allow rule that is on under the word w, whose destination
--                         shares a type with the type t
--     SeparationRead      and of a constraint's record with predicate byte 1
--     Wider rs₁ rs₂       for each live rule of the first list the second has a live one whose two sets hold its own
--     SeparationKept      where it is false, it stays so with more live rules, and with wider ones
--     same_set a b         two types stand for the same set
--     separation_was rs c  a separation as document 01 had it: the two sources are the same set
--     broken_was, fails_was, decide_was, answer_was   a predicate, a constraint, a decision and an answer as they were
--     OneType rs          the source of each live rule is one basic type
--     SeparationStays     then a separation is what it was
--     AnswersStay         and so is each answer
--     AnswersRise         and on every policy no decision is lower than it was
--     Raised l q          an answer that a separation makes UnKnown, by the rule of before: it was Permitted, or UnKnown by a later
--                         constraint
--     AnswersChange       every answer is that of before, refusals too, or is so raised
--     separation, separate, separate_group, cross, own_transition, pair   records; story, elsewhere: images
--     shared_cases         a type shared in a group, either way, and by two groups of which neither holds the other; types that are not
--                         shared; the same source, basic or a group of one;
--                         one rule that reaches both; on either side a rule that is off, a transition, a rule of another class; sources
--                         that touch an argument; a destination that touches an argument in part, and one that does not; a query
--                         within the arguments, and one that is not (READINGS.md [5])
--     SharedCases         the definitions give these answers
--     was_cases, given_was, SharedWas   what the old meaning let pass, and what it did not
use Rattle.std.specs.Prelude.{ℕ, ◌<◌, ◌≡◌, ◌⊎◌, Bool, true, ◌&&◌, cond, get_or, eqb}
use mathlib.Core.List.{List, [], ◌∷◌, map, Memᴰ}
use Rattle.format.specs.Bytes.{word_at}
use Rattle.format.specs.Policy.{Policy, policy_of}
use Rattle.std.specs.Prelude.{Ok}
use Rattle.format.specs.Answers.{Outcome, outcome}
use Rattle.format.specs.Sample.{sample}
use Rattle.decision.specs.declared.Query.{Query}
use Rattle.decision.specs.Sets.{any_of, is_in, set_of, within, touches}
use Rattle.decision.specs.Conditions.{is_on}
use Rattle.decision.specs.Reading.{Rule, Constraint, Request, live, constraint_of, request_of, rules_of, constraints_of}
use Rattle.decision.specs.Decide.{covers, nearest, reaches, separation_broken, broken, applies, inside, first_at}
use Rattle.decision.specs.declared.Decision.{Decision}
use Rattle.decision.specs.declared.Decision.TheVariants.{Permitted, UnKnown}
use Rattle.decision.specs.Decide.{decision_of, answer_fault, answer}
use Rattle.decision.specs.Growth.{DecidedAbove}
use Rattle.decision.specs.Cases.{allow, one_member, extended, Case, ask, given, expected_of}
use Rattle.decision.specs.Clauses.{allow_group}
use Rattle.decision.specs.Steps.{off}

pub record From (rs : List Rule) (s : List ℕ) (x : ℕ) : Type 0 where
  pub rule : Rule
  pub one : Memᴰ rule rs
  pub is_live : live rule ≡ true
  pub touching : touches rule.dest s ≡ true
  pub has : is_in x rule.source ≡ true

-- one rule may be both
pub record SeparationMeans : Type 0 where
  pub only :
      (rs : List Rule) (c : Constraint) → separation_broken rs c ≡ true → (x : ℕ) × From rs c.first x × From rs c.second x
  pub all :
      (rs : List Rule) (c : Constraint) (x : ℕ) → From rs c.first x → From rs c.second x → separation_broken rs c ≡ true

pub record FromRecord (p : Policy) (w t x : ℕ) : Type 0 where
  pub bytes : List ℕ
  pub one : Memᴰ bytes p.rules
  pub kind : get_or bytes 1 0 ≡ 2
  pub on : is_on w (get_or bytes 10 0) ≡ true
  pub y : ℕ
  pub there : is_in y (set_of p.groups (word_at bytes 4)) ≡ true
  pub argued : is_in y (set_of p.groups t) ≡ true
  pub has : is_in x (set_of p.groups (word_at bytes 2)) ≡ true

pub record SeparationRead : Type 0 where
  pub only :
      (p : Policy) (w : ℕ) (r : List ℕ) → get_or r 10 0 ≡ 1 → broken (rules_of p w) (constraint_of p r) ≡ true
      → (x : ℕ) × FromRecord p w (word_at r 6) x × FromRecord p w (word_at r 8) x
  pub all :
      (p : Policy) (w : ℕ) (r : List ℕ) (x : ℕ) → get_or r 10 0 ≡ 1 → FromRecord p w (word_at r 6) x → FromRecord p w (word_at r 8) x
      → broken (rules_of p w) (constraint_of p r) ≡ true

abbrev pub Wider : List Rule → List Rule → Type 0
Wider rs₁ rs₂ =
    (a : Rule) → Memᴰ a rs₁ → live a ≡ true
    → (b : Rule) × Memᴰ b rs₂ × (live b ≡ true) × (within a.source b.source ≡ true) × (within a.dest b.dest ≡ true)

abbrev pub SeparationKept : Type 0
SeparationKept =
    (rs₁ rs₂ : List Rule) (c : Constraint) → Wider rs₁ rs₂ → separation_broken rs₁ c ≡ true → separation_broken rs₂ c ≡ true

-- ---- as it was

unfoldable pub same_set : List ℕ → List ℕ → Bool
same_set a b = within a b && within b a

unfoldable pub separation_was : List Rule → Constraint → Bool
separation_was rs c = any_of (λ a. reaches c.first a && any_of (λ b. reaches c.second b && same_set a.source b.source) rs) rs

unfoldable pub broken_was : List Rule → Constraint → Bool
broken_was rs c = cond (eqb c.predicate 1) (separation_was rs c) (broken rs c)

unfoldable pub fails_was : List Rule → Request → Constraint → Bool
fails_was rs a c = applies a c && inside a c && broken_was rs c

unfoldable pub decide_was : Policy → Query → Decision
decide_was p q =
    let a = request_of p q in
    let rs = rules_of p q.switches in
    decision_of (nearest a rs) (first_at (covers a) 0 rs) (first_at (fails_was rs a) 0 (constraints_of p))

unfoldable pub answer_was : List ℕ → Query → Outcome Decision
answer_was l q = outcome (answer_fault l q) (decide_was (policy_of l) q)

-- ---- where it makes no difference

abbrev pub OneType : List Rule → Type 0
OneType rs = (a : Rule) → Memᴰ a rs → live a ≡ true → (x : ℕ) × (a.source ≡ x ∷ [])

abbrev pub SeparationStays : Type 0
SeparationStays = (rs : List Rule) (c : Constraint) → OneType rs → separation_broken rs c ≡ separation_was rs c

abbrev pub AnswersStay : Type 0
AnswersStay = (l : List ℕ) (q : Query) → OneType (rules_of (policy_of l) q.switches) → answer l q ≡ answer_was l q

abbrev pub AnswersRise : Type 0
AnswersRise = (l : List ℕ) (q : Query) (d : Decision) → answer_was l q ≡ Ok d → DecidedAbove l q d

-- UnKnown by a separation now; before, the same rule made it Permitted, or a later constraint UnKnown
pub record Raised (l : List ℕ) (q : Query) : Type 0 where
  pub rule : ℕ
  pub constraint : ℕ
  pub is : answer l q ≡ Ok (UnKnown rule constraint)
  pub separates : get_or (get_or (policy_of l).constraints constraint []) 10 0 ≡ 1
  pub was : (answer_was l q ≡ Ok (Permitted rule)) ⊎ ((k : ℕ) × (constraint < k) × (answer_was l q ≡ Ok (UnKnown rule k)))

-- and no other answer changed, refusals included
abbrev pub AnswersChange : Type 0
AnswersChange = (l : List ℕ) (q : Query) → (answer l q ≡ answer_was l q) ⊎ Raised l q

-- ---- cases, worked out by hand from document 02

-- a separation on class 5, action 4, of 20 and 21: rule 0 (10 to g0) reaches both
unfoldable pub separation : List ℕ
separation = 11 ∷ 4 ∷ 0 ∷ 5 ∷ 0 ∷ 4 ∷ 0 ∷ 20 ∷ 0 ∷ 21 ∷ 1 ∷ []

-- a separation on class 5, action 2, of 40 and 30
unfoldable pub separate : List ℕ
separate = 11 ∷ 4 ∷ 0 ∷ 5 ∷ 0 ∷ 2 ∷ 0 ∷ 40 ∷ 0 ∷ 30 ∷ 1 ∷ []

-- a transition 10 to 30
unfoldable pub cross : List ℕ
cross = 8 ∷ 3 ∷ 0 ∷ 10 ∷ 0 ∷ 30 ∷ 0 ∷ 5 ∷ []

-- the story: a rule for the group of 20 and 21 on one argument, and on the other one for 20 alone (rule 1)
unfoldable pub story : List ℕ
story = extended sample (allow_group 0 20)

-- the same on 40, with a separation of 40 and 30 and a rule that lets 40 at 30
unfoldable pub elsewhere : List ℕ
elsewhere = extended (extended (extended sample (allow_group 0 40)) (allow 40 30 5 2)) separate

-- a group of two members
unfoldable pub pair : ℕ → ℕ → List ℕ
pair m n = 6 ∷ 1 ∷ 0 ∷ m ∷ 0 ∷ n ∷ []

-- a transition 20 to 20
unfoldable pub own_transition : List ℕ
own_transition = 8 ∷ 3 ∷ 0 ∷ 20 ∷ 0 ∷ 20 ∷ 0 ∷ 5 ∷ []

-- a separation on class 5, action 2, of g0 and 30
unfoldable pub separate_group : List ℕ
separate_group = 11 ∷ 4 ∷ 0 ∷ 5 ∷ 0 ∷ 2 ∷ 128 ∷ 0 ∷ 0 ∷ 30 ∷ 1 ∷ []

unfoldable pub shared_cases : List Case
shared_cases =
    ask story 20 30 5 2 (Ok (UnKnown 1 1))
    ∷ ask (extended (extended sample (allow_group 0 30)) (allow 21 20 5 3)) 20 30 5 2 (Ok (UnKnown 1 1))
    ∷ ask (extended sample (allow 21 20 5 3)) 20 30 5 2 (Ok (Permitted 1))
    ∷ ask (extended sample (allow 20 20 5 3)) 20 30 5 2 (Ok (UnKnown 1 1))
    ∷ ask (extended (extended (extended sample one_member) (allow_group 1 20)) (allow 21 30 5 3)) 20 30 5 2 (Ok (UnKnown 1 1))
    ∷ ask (extended (extended sample (allow 20 21 5 4)) separation) 20 21 5 4 (Ok (UnKnown 4 2))
    ∷ ask (extended sample (off (allow 10 30 5 3))) 20 30 5 2 (Ok (Permitted 1))
    ∷ ask (extended sample cross) 20 30 5 2 (Ok (Permitted 1))
    ∷ ask (extended sample (allow 10 30 7 7)) 20 30 5 2 (Ok (UnKnown 1 1))
    ∷ ask (extended sample (allow 30 20 5 3)) 20 30 5 2 (Ok (Permitted 1))
    ∷ ask elsewhere 40 30 5 2 (Ok (UnKnown 5 2))
    ∷ ask elsewhere 20 30 5 2 (Ok (Permitted 1))
    ∷ ask (extended (extended (extended sample (pair 21 22)) (allow_group 1 20)) (allow_group 0 30)) 20 30 5 2 (Ok (UnKnown 1 1))
    ∷ ask (extended sample (off (allow 20 20 5 3))) 20 30 5 2 (Ok (Permitted 1))
    ∷ ask (extended sample own_transition) 20 30 5 2 (Ok (Permitted 1))
    ∷ ask (extended sample (allow 20 20 7 7)) 20 30 5 2 (Ok (UnKnown 1 1))
    ∷ ask (extended (extended (extended (extended sample (pair 21 22)) (pair 22 23)) (allow_group 1 20)) (allow_group 2 30)) 20 30 5 2 (Ok (UnKnown 1 1))
    ∷ ask (extended (extended (extended (extended sample (pair 21 22)) (pair 23 24)) (allow_group 1 20)) (allow_group 2 30)) 20 30 5 2 (Ok (Permitted 1))
    ∷ ask (extended (extended (extended sample (pair 21 22)) (allow 20 0x8001 5 3)) separate_group) 20 30 5 2 (Ok (UnKnown 1 2))
    ∷ ask (extended (extended (extended sample (pair 22 23)) (allow 20 0x8001 5 3)) separate_group) 20 30 5 2 (Ok (Permitted 1))
    ∷ []

abbrev pub SharedCases : Type 0
SharedCases = map given shared_cases ≡ map expected_of shared_cases

unfoldable pub was_cases : List Case
was_cases =
    ask story 20 30 5 2 (Ok (Permitted 1))
    ∷ ask (extended (extended sample (allow_group 0 30)) (allow 21 20 5 3)) 20 30 5 2 (Ok (Permitted 1))
    ∷ ask (extended sample (allow 20 20 5 3)) 20 30 5 2 (Ok (UnKnown 1 1))
    ∷ ask (extended (extended sample (allow_group 0 20)) (allow_group 0 30)) 20 30 5 2 (Ok (UnKnown 1 1))
    ∷ ask (extended (extended (extended sample one_member) (allow_group 1 20)) (allow 21 30 5 3)) 20 30 5 2 (Ok (UnKnown 1 1))
    ∷ []

unfoldable pub given_was : Case → Outcome Decision
given_was c = answer_was c.image c.query

abbrev pub SharedWas : Type 0
SharedWas = map given_was was_cases ≡ map expected_of was_cases
