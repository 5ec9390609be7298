-- What the second walk over the rules looks for, where no rule covers the query.
--     Uncovered l q         no rule of the image covers the query
--     off_at, other_class_at   the rule at a place is an allow rule that is off under a switch word; one of another class
--     class_stops l at c most   so it passes no more than `most` steps, three or more, whatever its types
--     stops_at l at ms kept passed most   nor does it where the type in a field, of which it is known, stops it after `passed` steps
--     short_steps a r        the steps, but for the action's, which is asked of no rule: at most 4
--     Counts most s r       r is s where that is more than `most`, else it is no more than `most` either
--     On l w at             the rule at a place is on; SourceIn l q at: it passes the query's source
--     near_of b              the nearest so far, as the code's `Near`
--     AtNearest l q b count n at   where the walk stands: the nearest so far, and the rules from rule n on, give the nearest of all
--     Comes l q b count n o   the next rule, from rule n on, that comes nearer, where one does; else the nearest so far is the nearest
--                              of all; ComesAt l q b count n x: there is one, and where the walk stands at it
use Rattle.std.specs.Prelude.{ℕ, ◌+◌, ◌≤◌, ◌<◌, ◌≡◌, Bool, true, false, not, cond, List, get_or, take, eqb, ltb, Option, MatchOption, Some}
use Rattle.format.specs.declared.Section.TheVariants.{Rules}
use Rattle.format.specs.Bytes.{word_at}
use Rattle.format.specs.Policy.{policy_of}
use Rattle.decision.specs.declared.Query.{Query}
use Rattle.decision.specs.Sets.{any_of, within}
use Rattle.decision.specs.Conditions.{is_on}
use Rattle.decision.specs.Reading.{Rule, Request, rule_of}
use Rattle.decision.specs.Decide.{tests, covers, passes, nearest, Nearest}
use Rattle.decision.specs.Inner.OnePass.{nearest_from}
use Rattle.decision.specs.declared.Near.{Near}
use Rattle.decide.specs.declared.kept.Kept.{Kept}
use Rattle.decide.specs.declared.nearest.Next.{Next}
use Rattle.decide.specs.Inner.Parts.{RuleHere, rules_in, rule_in, request_in, set_in, set_at}
use Rattle.decide.specs.Inner.Kept.{outside_in}
use Rattle.decide.specs.Inner.Walks.{Walk}
use Rattle.decide.specs.Inner.Rules.{allow_at}

abbrev pub Uncovered : List ℕ → Query → Type 0
Uncovered l q = any_of (covers (request_in l q)) (rules_in l q.switches) ≡ false

unfoldable pub off_at : List ℕ → ℕ → ℕ → Bool
off_at l w at = cond (allow_at l at) (not (is_on w (get_or l (at + 10) 0))) false

unfoldable pub other_class_at : List ℕ → ℕ → ℕ → Bool
other_class_at l at class = cond (allow_at l at) (not (eqb (word_at l (at + 6)) class)) false

unfoldable pub class_stops : List ℕ → ℕ → ℕ → ℕ → Bool
class_stops l at class most = cond (ltb most 3) false (other_class_at l at class)

unfoldable pub stops_at : List ℕ → ℕ → List Bool → List Kept → ℕ → ℕ → Bool
stops_at l at ms kept passed most = cond (ltb most passed) false (outside_in ms kept (word_at l at))

unfoldable pub short_steps : Request → Rule → ℕ
short_steps a r = passes (take 4 (tests a r))

pub record Counts (most s r : ℕ) : Type 0 where
  pub more : most < s → r ≡ s
  pub less : s ≤ most → r ≤ most

abbrev pub near_of : Near → Nearest
near_of b = Some b

pub record On (l : List ℕ) (w at : ℕ) : Type 0 where
  pub here : RuleHere l at
  pub on : off_at l w at ≡ false

abbrev pub SourceIn : List ℕ → Query → ℕ → Type 0
SourceIn l q at = within (set_in l q.source) (set_at l (at + 2)) ≡ true

abbrev pub AtNearest : List ℕ → Query → Near → ℕ → ℕ → ℕ → Type 0
AtNearest l q b =
    Walk Rules (rule_of (policy_of l) q.switches) l (nearest (request_in l q) (rules_in l q.switches))
    (λ n rs. nearest_from (short_steps (request_in l q)) (near_of b) n rs)

pub record ComesAt (l : List ℕ) (q : Query) (b : Near) (count n : ℕ) (x : Next) : Type 0 where
  pub onward : n ≤ x.n
  pub more : x.n < count
  pub walk : AtNearest l q b count x.n x.at
  pub nearer : b.steps < x.steps
  pub steps : x.steps ≡ short_steps (request_in l q) (rule_in l q.switches x.at)

abbrev pub Comes : List ℕ → Query → Near → ℕ → ℕ → Option Next → Type 0
Comes l q b count n o =
    MatchOption o (near_of b ≡ nearest (request_in l q) (rules_in l q.switches)) (λ x. ComesAt l q b count n x)
