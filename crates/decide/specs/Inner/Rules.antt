-- What the walks over the rules and the constraints of an image look for.
--     allow_at l at          the rule at a place is an allow rule
--     may_at l at q          what the condition, the class and the action of the rule at a place let through of a query
--     if_asked b t           a test that is made only where it is asked, and passes where it is not
--     live_at l w at         the rule at a place is live under a switch word
--     first_rule l q         the lowest rule that covers a query
--     first_constraint l q   the lowest constraint that fails
--     reaching ms a         a live rule whose destination touches marks; reaching_at l ms at live: the rule at a place, live or not
--     reaching_from ms f a   such a rule, whose source passes a test
--     shares_source rs ms s  a rule of the list that reaches marks has a source that touches s
use Rattle.std.specs.Prelude.{ℕ, ◌+◌, Bool, true, false, ◌&&◌, cond, List, get_or, eqb, Option}
use Rattle.format.specs.Bytes.{word_at}
use Rattle.format.specs.Policy.{policy_of}
use Rattle.decision.specs.declared.Query.{Query}
use Rattle.decision.specs.Sets.{any_of, touches}
use Rattle.decision.specs.Conditions.{is_on}
use Rattle.decision.specs.Reading.{Rule, live, constraints_of}
use Rattle.decision.specs.Decide.{covers, fails, first_at}
use Rattle.decide.specs.Inner.Parts.{rules_in, request_in, set_at}
use Rattle.decide.specs.Inner.Marks.{any_marked}

unfoldable pub allow_at : List ℕ → ℕ → Bool
allow_at l at = eqb (get_or l (at + 1) 0) 2

unfoldable pub may_at : List ℕ → ℕ → Query → Bool
may_at l at q =
    cond (allow_at l at)
    (cond (is_on q.switches (get_or l (at + 10) 0)) (cond (eqb (word_at l (at + 6)) q.class) (eqb (word_at l (at + 8)) q.action) false) false)
    true

unfoldable pub if_asked : Bool → Bool → Bool
if_asked b t = cond b t true

unfoldable pub live_at : List ℕ → ℕ → ℕ → Bool
live_at l w at = cond (allow_at l at) (is_on w (get_or l (at + 10) 0)) false

unfoldable pub first_rule : List ℕ → Query → Option ℕ
first_rule l q = first_at (covers (request_in l q)) 0 (rules_in l q.switches)

unfoldable pub first_constraint : List ℕ → Query → Option ℕ
first_constraint l q = first_at (fails (rules_in l q.switches) (request_in l q)) 0 (constraints_of (policy_of l))

unfoldable pub reaching : List Bool → Rule → Bool
reaching ms a = live a && any_marked ms a.dest

abbrev pub reaching_at : List ℕ → List Bool → ℕ → Bool → Bool
reaching_at l ms at live = live && any_marked ms (set_at l (at + 4))

unfoldable pub reaching_from : List Bool → (List ℕ → Bool) → Rule → Bool
reaching_from ms f a = reaching ms a && f a.source

unfoldable pub shares_source : List Rule → List Bool → List ℕ → Bool
shares_source rs ms s = any_of (reaching_from ms (touches s)) rs
