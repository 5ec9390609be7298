-- The answer to a query as a number of four 16-bit parts, the highest first, of which the first is 0.
--     parts_of kind high low   the number of the parts 0, kind, high, low
--     refusal_code f           0, 2, number, place
--     code_of g o              what an outcome comes to, where g says it of what is given
--     nearest_code x           NotPermitted (request [14] has these parts): 0, 0, steps, rule; 0, 0, 0, 65535 where there are no
--                             rules
--     given_code d             a decision: NotPermitted; 0, 1, 0, rule Permitted; 0, 3, rule, constraint UnKnown
--     decision_code o          an answer: a decision, or the refusal
-- How a host reads it: the macros of include/mungaite.h, and the same in the Rust crate.
--     kind_part, third_part, fourth_part   MUNGAITE_KIND, MUNGAITE_THIRD, MUNGAITE_FOURTH
--     host_refusal n           the refusal that a number of kind 2 holds
--     host_nearest s r         the nearest that the third and the fourth part of a number of kind 0 hold: no rule has the number
--                             65535
--     host_decision n          the answer that a number holds
-- What is claimed of it, and proved in proofs/. No part is cut: `parts_of` takes its parts modulo 65,536, and every part that
-- an answer has, of every image of bytes, is below that.
--     Part n                  n fits one 16-bit part
--     RefusalFits f           a refusal's number and place fit
--     OutcomeFits P o         a refusal's parts fit, and P holds of what is given
--     NearestFits x, DecisionFits d   a rule's number is below 1,024 and a constraint's below 256: the sections' limits; steps
--                                are at most 4
--     DecideWhole             the answer to any query on any image
--     PartsWhole              parts that fit are in the number as they are
--     PartsRead               and are read back from it: the kind, the third and the fourth part
--     DecideRead              so what a host reads from the number is the answer itself, of every image of bytes
use Rattle.std.specs.Prelude.{ℕ, ◌+◌, ◌*◌, ◌/◌, ◌%◌, ◌≤◌, ◌<◌, ◌≡◌, cond, List, eqb, None, Some}
use Rattle.format.specs.declared.Refusal.{Refusal}
use Rattle.format.specs.Bytes.{Bytes}
use Rattle.format.specs.Refusals.{refusal}
use Rattle.std.specs.Prelude.{Ok, Err}
use Rattle.format.specs.Answers.{Outcome}
use Rattle.decision.specs.declared.Query.{Query}
use Rattle.decision.specs.declared.Decision.{Decision}
use Rattle.decision.specs.declared.Decision.TheVariants.{NotPermitted, Permitted, UnKnown}
use Rattle.decision.specs.Decide.{answer, near, Nearest}

unfoldable pub parts_of : ℕ → ℕ → ℕ → ℕ
parts_of kind high low = kind * 4294967296 + high % 65536 * 65536 + low % 65536

unfoldable pub refusal_code : Refusal → ℕ
refusal_code f = parts_of 2 f.number f.place

module _ {A : Type 0} where
  abbrev pub code_of : (A → ℕ) → Outcome A → ℕ
  code_of g (Err f) = refusal_code f
  code_of g (Ok a) = g a

abbrev pub nearest_code : Nearest → ℕ
nearest_code None = parts_of 0 0 65535
nearest_code (Some x) = parts_of 0 x.steps x.rule

abbrev pub given_code : Decision → ℕ
given_code (NotPermitted x) = nearest_code x
given_code (Permitted r) = parts_of 1 0 r
given_code (UnKnown r c) = parts_of 3 r c

abbrev pub decision_code : Outcome Decision → ℕ
decision_code = code_of given_code

abbrev pub kind_part : ℕ → ℕ
kind_part n = n / 4294967296 % 65536

abbrev pub third_part : ℕ → ℕ
third_part n = n / 65536 % 65536

abbrev pub fourth_part : ℕ → ℕ
fourth_part n = n % 65536

unfoldable pub host_refusal : ℕ → Refusal
host_refusal n = refusal (third_part n) (fourth_part n)

unfoldable pub host_nearest : ℕ → ℕ → Nearest
host_nearest s r = cond (eqb r 65535) None (Some (near s r))

unfoldable pub host_decision : ℕ → Outcome Decision
host_decision n =
    cond (eqb (kind_part n) 2) (Err (host_refusal n))
    (cond (eqb (kind_part n) 1) (Ok (Permitted (fourth_part n)))
    (cond (eqb (kind_part n) 3) (Ok (UnKnown (third_part n) (fourth_part n)))
    (Ok (NotPermitted (host_nearest (third_part n) (fourth_part n))))))

abbrev pub Part : ℕ → Type 0
Part n = n < 65536

abbrev pub RefusalFits : Refusal → Type 0
RefusalFits f = Part f.number × Part f.place

module _ {A : Type 0} where
  abbrev pub OutcomeFits : (A → Type 0) → Outcome A → Type 0
  OutcomeFits P (Err f) = RefusalFits f
  OutcomeFits P (Ok a) = P a

abbrev pub NearestFits : Nearest → Type 0
NearestFits None = Unit
NearestFits (Some x) = (x.steps ≤ 4) × (x.rule < 1024)

abbrev pub DecisionFits : Decision → Type 0
DecisionFits (NotPermitted x) = NearestFits x
DecisionFits (Permitted r) = r < 1024
DecisionFits (UnKnown r c) = (r < 1024) × (c < 256)

abbrev pub DecideWhole : Type 0
DecideWhole = (l : List ℕ) → Bytes l → (q : Query) → OutcomeFits DecisionFits (answer l q)

abbrev pub PartsWhole : Type 0
PartsWhole = (kind high low : ℕ) → Part high → Part low → parts_of kind high low ≡ kind * 4294967296 + high * 65536 + low

abbrev pub PartsRead : Type 0
PartsRead =
    (kind high low : ℕ) → Part kind → Part high → Part low
    → (parts_of kind high low / 4294967296 % 65536 ≡ kind)
    × (parts_of kind high low / 65536 % 65536 ≡ high)
    × (parts_of kind high low % 65536 ≡ low)

abbrev pub DecideRead : Type 0
DecideRead = (l : List ℕ) → Bytes l → (q : Query) → host_decision (decision_code (answer l q)) ≡ answer l q
