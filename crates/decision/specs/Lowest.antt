-- Which rule and which constraint an answer names (document 01, "How a draw is decided": "the lowest-numbered"; request [2]).
--     Lowest f xs n          element n passes a test, and none before it does
--     Most f xs s n          element n has the number s, no element has more, and each before it has fewer
--     Nears a rs x           what the nearest says: rule n passes s steps, no rule more, each lower one fewer; or there are no
--                            rules
--     Names rs cs a d        what a decision says of the rules and the constraints: the rule that covers, or the constraint that
--                            fails, is the lowest that does; where none is named, none does; NotPermitted names the nearest rule
--     LowestNamed            the decision names the lowest, for all rules, constraints and queries
--     NamedAlone             and no other decision does
--     LowestAnswered         and so does the engine's answer, of the image's records
use Rattle.std.specs.Prelude.{ℕ, ◌≡◌, Bool, true, false, List, [], take, drop, eqb, leb, ltb, None, Some}
use Rattle.format.specs.Policy.{policy_of}
use Rattle.std.specs.Prelude.{Ok}
use Rattle.decision.specs.declared.Query.{Query}
use Rattle.decision.specs.Sets.{any_of}
use Rattle.decision.specs.Reading.{Rule, Constraint, Request, request_of, rules_of, constraints_of}
use Rattle.decision.specs.declared.Decision.{Decision}
use Rattle.decision.specs.declared.Decision.TheVariants.{NotPermitted, Permitted, UnKnown}
use Rattle.decision.specs.Decide.{covers, steps, fails, judge, answer, Nearest}

module _ {A : Type 0} where
  pub record Lowest (f : A → Bool) (xs : List A) (n : ℕ) : Type 0 where
    pub here : any_of f (take 1 (drop n xs)) ≡ true
    pub before : any_of f (take n xs) ≡ false

  pub record Most (f : A → ℕ) (xs : List A) (s n : ℕ) : Type 0 where
    pub here : any_of (λ x. eqb (f x) s) (take 1 (drop n xs)) ≡ true
    pub most : any_of (λ x. ltb s (f x)) xs ≡ false
    pub before : any_of (λ x. leb s (f x)) (take n xs) ≡ false

abbrev pub Nears : Request → List Rule → Nearest → Type 0
Nears a rs None = rs ≡ []
Nears a rs (Some x) = Most (steps a) rs x.steps x.rule

abbrev pub Names : List Rule → List Constraint → Request → Decision → Type 0
Names rs cs a (NotPermitted x) = (any_of (covers a) rs ≡ false) × Nears a rs x
Names rs cs a (Permitted r) = Lowest (covers a) rs r × (any_of (fails rs a) cs ≡ false)
Names rs cs a (UnKnown r c) = Lowest (covers a) rs r × Lowest (fails rs a) cs c

abbrev pub LowestNamed : Type 0
LowestNamed = (rs : List Rule) (cs : List Constraint) (a : Request) → Names rs cs a (judge rs cs a)

abbrev pub NamedAlone : Type 0
NamedAlone = (rs : List Rule) (cs : List Constraint) (a : Request) (d : Decision) → Names rs cs a d → d ≡ judge rs cs a

abbrev pub LowestAnswered : Type 0
LowestAnswered =
    (l : List ℕ) (q : Query) (d : Decision) → answer l q ≡ Ok d
    → Names (rules_of (policy_of l) q.switches) (constraints_of (policy_of l)) (request_of (policy_of l) q) d
