-- What switches do (document 02, request [6]), and cases worked out by hand.
--     ConditionMeans      what each condition byte says: 0 and 1 whatever the word, 2 + k by the word divided by 2^k: odd, or even
--     up_to n              0 to n - 1
--     OneSwitch           of the words with one switch on, and with one off, each turns its own condition on or off, and no other
--     with_word w q        a query under another word
--     NoSwitches p        no allow rule of a policy names a switch
--     WordUnread          then each answer is the same under every word
--     settled_rule w r     a rule's record with its condition 1 where it is on under the word w, and else 0
--     settled w p         a policy with its rules so
--     AnswersSettled      under a word a policy answers as the one that the word settles, under any word: refusals, rule, constraint
--                         and steps; that one is accepted, and names no switch
--     on_of p w rs         those of some rules of p that are on under the word w, settled
--     only_on w p          the policy whose rules are those
--     SwitchesAdd         more switches on, and that policy holds no fewer rules; and it decides as high as p does under w
--     SwitchOrder         so turning switches on counts as adding rules: no decision is lower, if there is no companion
--     allow_if b r         the allow rule r with another condition
--     sample_if b          the sample with its rule 3 under another condition
--     switch_cases         a rule by switch 0, 1, 16 and 31, under words that have it on and off; its steps where it is off; a
--                         transition; a rule that is on, and one that is off, under every switch; each predicate by a rule that a
--                         switch turns on and off; conditions 33 and 34
--     SwitchCases         the definitions give these answers
use Rattle.std.specs.Prelude.{ℕ, zero, suc, ◌+◌, ◌*◌, ◌-◌, ◌/◌, ◌<◌, ◌≤◌, ◌^◌, ◌≡◌, true, false, not, cond, get_or, set, eqb, Some}
use mathlib.Core.List.{List, [], ◌∷◌, ◌++◌, map, Memᴰ}
use Rattle.format.specs.Bytes.{Bytes}
use Rattle.format.specs.Policy.{Policy, image_of, policy_of}
use Rattle.format.specs.Check.{Accepted}
use Rattle.format.specs.Refusals.{refusal}
use Rattle.std.specs.Prelude.{Ok, Err}
use Rattle.format.specs.Sample.{sample}
use Rattle.decision.specs.declared.Query.{Query}
use Rattle.decision.specs.Conditions.{is_on}
use Rattle.decision.specs.Reading.{rule_of}
use Rattle.decision.specs.declared.Decision.{Decision}
use Rattle.decision.specs.declared.Decision.TheVariants.{NotPermitted, Permitted, UnKnown}
use Rattle.decision.specs.Decide.{decide, answer, query_of, near}
use Rattle.decision.specs.Order.{height, Grows, NoCompanion, SwitchedOn}
use Rattle.decision.specs.Cases.{g0, allow, companion, extended, Case, ask_on, given, expected_of}

pub record ConditionMeans : Type 0 where
  pub off : (w : ℕ) → is_on w 0 ≡ false
  pub on : (w : ℕ) → is_on w 1 ≡ true
  pub switch_on_lem : (w k m : ℕ) → w / 2 ^ k ≡ 2 * m + 1 → is_on w (2 + k) ≡ true
  pub switch_off : (w k m : ℕ) → w / 2 ^ k ≡ 2 * m → is_on w (2 + k) ≡ false

unfoldable pub up_to : ℕ → List ℕ
up_to zero = []
up_to (suc n) = up_to n ++ (n ∷ [])

pub record OneSwitch : Type 0 where
  pub one_on : map (λ k. map (λ j. is_on (2 ^ k) (2 + j)) (up_to 32)) (up_to 32) ≡ map (λ k. map (eqb k) (up_to 32)) (up_to 32)
  pub one_off :
      map (λ k. map (λ j. is_on (2 ^ 32 - 1 - 2 ^ k) (2 + j)) (up_to 32)) (up_to 32) ≡ map (λ k. map (λ j. not (eqb k j)) (up_to 32)) (up_to 32)

unfoldable pub with_word : ℕ → Query → Query
with_word w q = query_of q.source q.dest q.class q.action w

abbrev pub NoSwitches : Policy → Type 0
NoSwitches p = (r : List ℕ) → Memᴰ r p.rules → get_or r 1 0 ≡ 2 → get_or r 10 0 < 2

abbrev pub WordUnread : Type 0
WordUnread = (l : List ℕ) (q : Query) (w : ℕ) → NoSwitches (policy_of l) → answer l (with_word w q) ≡ answer l q

unfoldable pub settled_rule : ℕ → List ℕ → List ℕ
settled_rule w r = set r 10 (cond (is_on w (get_or r 10 0)) 1 0)

unfoldable pub settled : ℕ → Policy → Policy
settled w p =
    record { version = p.version; groups = p.groups; rules = map (settled_rule w) p.rules; constraints = p.constraints }

pub record AnswersSettled : Type 0 where
  pub answers :
      (l : List ℕ) (q : Query) (w : ℕ) → Bytes l → Accepted l
      → answer (image_of (settled q.switches (policy_of l))) (with_word w q) ≡ answer l q
  pub accepted : (l : List ℕ) (w : ℕ) → Bytes l → Accepted l → Accepted (image_of (settled w (policy_of l)))
  pub plain : (p : Policy) (w : ℕ) → NoSwitches (settled w p)

-- the rules of a list that are on, settled
unfoldable pub on_of : Policy → ℕ → List (List ℕ) → List (List ℕ)
on_of p w [] = []
on_of p w (r ∷ rs) = cond (rule_of p w r).on (settled_rule w r ∷ on_of p w rs) (on_of p w rs)

unfoldable pub only_on : ℕ → Policy → Policy
only_on w p = record { version = p.version; groups = p.groups; rules = on_of p w p.rules; constraints = p.constraints }

pub record SwitchesAdd : Type 0 where
  pub grows : (l : List ℕ) (v w : ℕ) → Accepted l → SwitchedOn v w → Grows (only_on v (policy_of l)) (only_on w (policy_of l))
  pub level : (p : Policy) (q : Query) (w : ℕ) → height (decide (only_on q.switches p) (with_word w q)) ≡ height (decide p q)

abbrev pub SwitchOrder : Type 0
SwitchOrder =
    (l : List ℕ) (q : Query) (w : ℕ) (d₁ d₂ : Decision) → answer l q ≡ Ok d₁ → answer l (with_word w q) ≡ Ok d₂
    → SwitchedOn q.switches w → NoCompanion (policy_of l).constraints → height d₁ ≤ height d₂

-- ---- cases, worked out by hand from documents 01 and 02

unfoldable pub allow_if : ℕ → List ℕ → List ℕ
allow_if b r = set r 10 b

-- the sample with its rule 3, 13 to 21, class 5, action 1, under a condition: its byte 55
unfoldable pub sample_if : ℕ → List ℕ
sample_if b = set sample 55 b

unfoldable pub switch_cases : List Case
switch_cases =
    -- switch 0, 1, 16 and 31; a rule that is off passes no step, and rule 0 stops at its source
    ask_on 0 (sample_if 2) 13 21 5 1 (Ok (NotPermitted (Some (near 1 0))))
    ∷ ask_on 1 (sample_if 2) 13 21 5 1 (Ok (Permitted 3))
    ∷ ask_on 2 (sample_if 2) 13 21 5 1 (Ok (NotPermitted (Some (near 1 0))))
    ∷ ask_on 2 (sample_if 3) 13 21 5 1 (Ok (Permitted 3))
    ∷ ask_on 1 (sample_if 3) 13 21 5 1 (Ok (NotPermitted (Some (near 1 0))))
    ∷ ask_on 0x10000 (sample_if 18) 13 21 5 1 (Ok (Permitted 3))
    ∷ ask_on 0xFFFEFFFF (sample_if 18) 13 21 5 1 (Ok (NotPermitted (Some (near 1 0))))
    ∷ ask_on 0x80000000 (sample_if 33) 13 21 5 1 (Ok (Permitted 3))
    ∷ ask_on 0x7FFFFFFF (sample_if 33) 13 21 5 1 (Ok (NotPermitted (Some (near 1 0))))
    ∷ ask_on 0xFFFFFFFF (sample_if 17) 13 21 5 1 (Ok (Permitted 3))
    -- all of its steps are asked once it is on
    ∷ ask_on 1 (sample_if 2) 13 21 5 2 (Ok (NotPermitted (Some (near 4 3))))
    ∷ ask_on 0 (sample_if 2) 13 21 5 2 (Ok (NotPermitted (Some (near 1 0))))
    -- no switch turns off a rule that is on, or on one that is off; a transition has no condition
    ∷ ask_on 0 sample 10 21 5 1 (Ok (Permitted 0))
    ∷ ask_on 0xFFFFFFFF sample 10 21 5 1 (Ok (Permitted 0))
    ∷ ask_on 0xFFFFFFFF sample 13 21 5 1 (Ok (NotPermitted (Some (near 1 0))))
    ∷ ask_on 0 sample 12 20 9 9 (Ok (Permitted 2))
    ∷ ask_on 0xFFFFFFFF sample 12 20 9 9 (Ok (Permitted 2))
    -- a separation (constraint 1), by a rule 10 to 30 of switch 5
    ∷ ask_on 32 (extended sample (allow_if 7 (allow 10 30 5 3))) 20 30 5 2 (Ok (UnKnown 1 1))
    ∷ ask_on 31 (extended sample (allow_if 7 (allow 10 30 5 3))) 20 30 5 2 (Ok (Permitted 1))
    -- a roster (constraint 0), by a rule 14 to g0 of switch 5
    ∷ ask_on 32 (extended sample (allow_if 7 (allow 14 g0 7 7))) 10 21 5 1 (Ok (UnKnown 0 0))
    ∷ ask_on 31 (extended sample (allow_if 7 (allow 14 g0 7 7))) 10 21 5 1 (Ok (Permitted 0))
    -- a companion (constraint 2), by a rule 21 to 10 of switch 5: turning it on lowers the decision
    ∷ ask_on 31 (extended (extended sample companion) (allow_if 7 (allow 21 10 5 9))) 10 21 5 1 (Ok (UnKnown 0 2))
    ∷ ask_on 32 (extended (extended sample companion) (allow_if 7 (allow 21 10 5 9))) 10 21 5 1 (Ok (Permitted 0))
    -- 33 is the last condition, whatever the word
    ∷ ask_on 0 (sample_if 34) 10 21 5 1 (Err (refusal 6 55))
    ∷ ask_on 0 (sample_if 255) 10 21 5 1 (Err (refusal 6 55))
    ∷ []

abbrev pub SwitchCases : Type 0
SwitchCases = map given switch_cases ≡ map expected_of switch_cases
