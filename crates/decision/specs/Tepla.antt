-- TEpla's own evaluation (source document 000, algorithms 2 and 3 and figure 1; 001 where 000 leaves a function out), with
-- document 01's sets, predicates (a separation as in request [5]), transitions and conditions (switches as in request [6]) for
-- what the paper leaves to parameters. Lines of the two documents' texts are cited as 000:149.
--     Dcs, compare_decisions, maximal_dcs, maximum   decisions without numbers, their order, the greater, the greatest
--     types_within, allows      what a rule's record asks of a query: a transition's the first, an allow rule's the second
--     permits p q r            what the record asks, by its kind
--     eval_rule p q r           a query against a rule's record: R_EvalTE
--     prdct rs a c             a constraint's predicate: true where it is satisfied
--     eval_constraint rs a c    a query against a constraint: CSTE_EvalTE
--     maximal_policy d e        the combination: constraints play no part where no rule permits
--     eval_policy p q           a query against a policy: TEPLCY_EvalTE
--     forget d                 our decision, its numbers forgotten
--     PublishedMeaning         the two decide alike, for all policies and queries
--     PublishedAnswer          and so the engine answers every valid query on an accepted policy
--     PublishedOrder           the order on decisions is the paper's
-- Both sides read a constraint alike, hand its predicate the same rules (`rules_of`), take a type for its set and ask `is_on`,
-- `within` and `broken` alike; what those mean is document 01's, and other claims pin it. The evaluation shares nothing with
-- `judge`, and puts a query against a rule's record, not against a `Rule`.
use Rattle.std.specs.Prelude.{ℕ, ◌≡◌, Bool, true, false, not, ◌&&◌, cond, List, [], ◌∷◌, map, get_or, eqb, leb}
use Rattle.format.specs.Bytes.{word_at}
use Rattle.format.specs.Policy.{Policy, policy_of}
use Rattle.format.specs.Check.{Accepted}
use Rattle.std.specs.Prelude.{Ok}
use Rattle.decision.specs.declared.Query.{Query}
use Rattle.decision.specs.Sets.{set_of, within}
use Rattle.decision.specs.Conditions.{is_on}
use Rattle.decision.specs.Reading.{Rule, Constraint, Request, request_of, rules_of, constraints_of}
use Rattle.decision.specs.declared.Decision.{Decision}
use Rattle.decision.specs.Decide.{broken, decide, answer, Valid}
use Rattle.decision.specs.Order.{height}

-- 000:211-212 "Inductive DCS:Set := Permitted | NotPermitted | UnKnown."
pub data Dcs : Type 0 where
  NotPermitted : Dcs
  Permitted : Dcs
  UnKnown : Dcs

-- 000:125 NotPermitted below Permitted below UnKnown; each is below itself (000:413)
unfoldable pub compare_decisions : Dcs → Dcs → Bool
compare_decisions NotPermitted e = true
compare_decisions Permitted NotPermitted = false
compare_decisions Permitted Permitted = true
compare_decisions Permitted UnKnown = true
compare_decisions UnKnown NotPermitted = false
compare_decisions UnKnown Permitted = false
compare_decisions UnKnown UnKnown = true

-- 000:537 "takes two input decisions and returns the greater decision"
unfoldable pub maximal_dcs : Dcs → Dcs → Dcs
maximal_dcs d e = cond (compare_decisions d e) e d

-- 000:601 "takes a list of decisions and returns the maximum", there of several policies' decisions; of none it is the
-- lowest, since "all accesses are first denied by default" (000:125). The papers name listR_EvalTE and listCSTE_EvalTE, a
-- list of rules and of constraints (001:234-235), and print neither; that they take the maximum is what 000:554-560 proves.
unfoldable pub maximum : List Dcs → Dcs
maximum [] = NotPermitted
maximum (d ∷ ds) = maximal_dcs d (maximum ds)

-- 000:121's "within", of the query's two types and the rule's
unfoldable pub types_within : Policy → Query → List ℕ → Bool
types_within p q r =
    within (set_of p.groups q.source) (set_of p.groups (word_at r 2)) && within (set_of p.groups q.dest) (set_of p.groups (word_at r 4))

-- algorithm 2 (000:149): condition, source and destination, class and action
unfoldable pub allows : Policy → Query → List ℕ → Bool
allows p q r =
    (eqb (get_or r 1 0) 2 && is_on q.switches (get_or r 10 0)) && types_within p q r && eqb (word_at r 6) q.class && eqb (word_at r 8) q.action

-- 000:155 of a transition "only the types of the subject and object need to be checked"
unfoldable pub permits : Policy → Query → List ℕ → Bool
permits p q r = cond (eqb (get_or r 1 0) 3) (types_within p q r) (allows p q r)

unfoldable pub eval_rule : Policy → Query → List ℕ → Dcs
eval_rule p q r = cond (permits p q r) Permitted NotPermitted

-- true where the query's types are not within the arguments, else what the predicate says: algorithm 1 (000:114-119) has it
-- for separation of duty, and document 01 ("A predicate is true where ...") for all four
unfoldable pub prdct : List Rule → Request → Constraint → Bool
prdct rs a c = cond (within a.source c.first && within a.dest c.second) (not (broken rs c)) true

-- algorithm 3 (000:163-169): by class and action; Permitted where the predicate is true, UnKnown where it is not; where
-- the constraint does not apply, "the default value NotPermitted is returned" (000:157)
unfoldable pub eval_constraint : List Rule → Request → Constraint → Dcs
eval_constraint rs a c = cond (eqb c.class a.class && eqb c.action a.action) (cond (prdct rs a c) Permitted UnKnown) NotPermitted

-- figure 1 (000:72); 001:221-223 "if(Permitted <:: compont_R) then maximalDCS compont_R compont_CSTE else NotPermitted"
unfoldable pub maximal_policy : Dcs → Dcs → Dcs
maximal_policy d e = cond (compare_decisions Permitted d) (maximal_dcs d e) NotPermitted

-- 001:229-235: the rules' greatest decision and the constraints' greatest, combined
unfoldable pub eval_policy : Policy → Query → Dcs
eval_policy p q =
    maximal_policy
    (maximum (map (eval_rule p q) p.rules))
    (maximum (map (eval_constraint (rules_of p q.switches) (request_of p q)) (constraints_of p)))

unfoldable pub forget : Decision → Dcs
forget (Decision.NotPermitted x) = NotPermitted
forget (Decision.Permitted r) = Permitted
forget (Decision.UnKnown r c) = UnKnown

abbrev pub PublishedMeaning : Type 0
PublishedMeaning = (p : Policy) (q : Query) → eval_policy p q ≡ forget (decide p q)

abbrev pub PublishedAnswer : Type 0
PublishedAnswer =
    (l : List ℕ) (q : Query) → Accepted l → Valid l q
    → (d : Decision) × (answer l q ≡ Ok d) × (eval_policy (policy_of l) q ≡ forget d)

-- the order of the order rule is the paper's
abbrev pub PublishedOrder : Type 0
PublishedOrder = (d e : Decision) → leb (height d) (height e) ≡ compare_decisions (forget d) (forget e)
