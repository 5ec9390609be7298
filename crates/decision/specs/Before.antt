-- The decision as it was before request [2], without steps: "The three decisions do not change." A rule is put to a query by its
-- record, as the paper's evaluation has it (`permits`); what a constraint says is shared with `judge`, so a separation is request [5]'s
-- (`Separation` has the one of before).
--     Bare, bare_of          the three decisions, from the rule and the constraint that were found
--     decide_before p q      the decision as it was
--     answer_before l q      the engine's answer as it was
--     without_steps d, barely o   a decision, and an answer, with the steps and the nearest rule forgotten
--     DecisionsStay         with these forgotten, the answers are those of before
use Rattle.std.specs.Prelude.{ℕ, ◌≡◌, List}
use Rattle.std.specs.Prelude.{Option, None, Some}
use Rattle.format.specs.Policy.{Policy, policy_of}
use Rattle.std.specs.Prelude.{Ok, Err}
use Rattle.format.specs.Answers.{Outcome, outcome}
use Rattle.decision.specs.declared.Query.{Query}
use Rattle.decision.specs.Reading.{request_of, rules_of, constraints_of}
use Rattle.decision.specs.declared.Decision.{Decision}
use Rattle.decision.specs.declared.Decision.TheVariants.{NotPermitted, Permitted, UnKnown}
use Rattle.decision.specs.Decide.{fails, first_at, answer_fault, answer}
use Rattle.decision.specs.Tepla.{permits}

pub data Bare : Type 0 where
  denied : Bare
  allowed : (rule : ℕ) → Bare
  stopped : (rule constraint : ℕ) → Bare

unfoldable pub bare_of : Option ℕ → Option ℕ → Bare
bare_of None c = denied
bare_of (Some r) None = allowed r
bare_of (Some r) (Some c) = stopped r c

unfoldable pub decide_before : Policy → Query → Bare
decide_before p q = bare_of (first_at (permits p q) 0 p.rules) (first_at (fails (rules_of p q.switches) (request_of p q)) 0 (constraints_of p))

unfoldable pub answer_before : List ℕ → Query → Outcome Bare
answer_before l q = outcome (answer_fault l q) (decide_before (policy_of l) q)

abbrev pub without_steps : Decision → Bare
without_steps (NotPermitted x) = denied
without_steps (Permitted r) = allowed r
without_steps (UnKnown r c) = stopped r c

abbrev pub barely : Outcome Decision → Outcome Bare
barely (Err f) = Err f
barely (Ok d) = Ok (without_steps d)

abbrev pub DecisionsStay : Type 0
DecisionsStay = (l : List ℕ) (q : Query) → barely (answer l q) ≡ answer_before l q
