-- The tables of cases, by computation: claims MarkedCases, MarkedAdds, MarkedOrder, ClauseCases, RefusalCases, StepCases,
-- SharedCases, SharedWas, SwitchCases, OneSwitch. Assumes nothing.
use Prim.Native.Nat.{ℕ, zero, suc, ◌<◌}
use native.Mathlib.Omega.{arith}
use mathlib.Core.Path.{◌≡◌, refl, sym, ap, ◌∙◌}
use mathlib.Core.Logic.{inl, ⊎_elim}
use mathlib.Core.List.Memᴰ
use mathlib.Core.List.{List, [], ◌∷◌, flatten, map}
use lib.ListN.{length, get_or}
use Rattle.format.specs.Bytes.{word_at, words, put_word}
use Rattle.format.proofs.Tests.{false_not_true}
use Rattle.format.specs.Refusals.{refusal, need, ◌or_else◌, unless_refused}
use Rattle.format.specs.Format.{known_version, limit_of, count_place, count_of, kind_in, length_ok, is_type, is_condition, list_ok, first_record, shape_ok, bad_member, bad_type, bad_group, bad_allow, bad_transition, bad_constraint, bad_field}
use Rattle.format.specs.Policy.{body_of, image_of, record_at, place_after, records_at, start_of, place_of, end_of, policy_of}
use Rattle.format.specs.Twins.{same_bytes, listed, first_twin, twin_at, twin_fault}
use Rattle.format.specs.Check.{read_fields, read_of, read_fault, section_fault, count_fault, header_fault, body_fault, rest_fault, check, image_in, check_front}
use Rattle.std.specs.Prelude.{Ok, Err, None, Some}
use Rattle.format.specs.Answers.{Outcome}
use Rattle.format.specs.Sample.{sample, empty}
use Rattle.extension.specs.Add.{section_of, with_record, field_fault, new_number, added_twin, own_fault, add_fault, new_image, overwrite, buffer_after}
use Rattle.decision.specs.declared.Query.{Query}
use Rattle.decision.specs.Sets.{any_of, all_of, is_in, set_of, union_of, within, touches}
use Rattle.decision.specs.Conditions.{switch_on, is_on}
use Rattle.decision.specs.Reading.{asks, live, rule_of, constraint_of, request_of, rules_of, constraints_of}
use Rattle.decision.specs.declared.Decision.{Decision}
use Rattle.decision.specs.declared.Decision.TheVariants.{NotPermitted, Permitted, UnKnown}
use Rattle.decision.specs.Decide.{tests, covers, passes, steps, nearest_of, greatest, nearest_by, nearest, reaches, separation_broken, roster_broken, companion_broken, broken, applies, inside, fails, first_at, decision_of, judge, decide, query_fault, answer_fault, answer, query_of, near}
use Rattle.decision.specs.Order.{NoCompanion}
use Rattle.decision.specs.Cases.{with_space, extended, g0, allow, companion, one_member, banned, ask, ask_on, cases, given, expected_of, MarkedCases, MarkedAdds, MarkedOrder}
use Rattle.decision.specs.Clauses.{allow_group, companion_of_group, roster_of_group, back_transition, long_roster, clause_cases, ClauseCases, RefusalCases}
use Rattle.decision.specs.Steps.{off, step_cases, StepCases}
use Rattle.decision.specs.Separation.{same_set, separation_was, broken_was, fails_was, decide_was, answer_was, separation, separate, cross, story, elsewhere, separate_group, own_transition, pair, shared_cases, SharedCases, was_cases, given_was, SharedWas}
use Rattle.decision.specs.Growth.{reordered}
use Rattle.decision.specs.Switches.{up_to, OneSwitch, allow_if, sample_if, switch_cases, SwitchCases}
use Rattle.decision.proofs.Switches.{none_on}

-- a predicate that is no companion
other : (n : ℕ) → n ≡ 3 → n < 3 → ⊥
other n e h = omega arith

computed : MarkedCases × MarkedAdds × MarkedOrder × ClauseCases × RefusalCases × StepCases × SharedCases × SharedWas × SwitchCases
unfolding
    flatten word_at words put_word need ◌or_else◌ unless_refused
    known_version limit_of count_place count_of kind_in length_ok is_type is_condition list_ok first_record shape_ok bad_member bad_type bad_group bad_allow bad_transition bad_constraint bad_field
    body_of image_of record_at place_after records_at start_of place_of end_of policy_of
    read_fields read_of read_fault section_fault count_fault header_fault body_fault rest_fault check same_bytes listed first_twin twin_at twin_fault image_in check_front
    sample empty section_of with_record field_fault new_number added_twin own_fault add_fault new_image overwrite buffer_after
    any_of all_of is_in set_of union_of within touches
    switch_on is_on asks live rule_of constraint_of request_of rules_of constraints_of
    tests covers passes steps nearest_of greatest nearest_by nearest reaches separation_broken roster_broken companion_broken broken applies inside fails first_at decision_of judge decide query_fault answer_fault answer
    with_space extended g0 allow companion one_member banned allow_group back_transition long_roster companion_of_group roster_of_group ask cases clause_cases off step_cases separation separate cross story elsewhere separate_group own_transition pair shared_cases was_cases given expected_of reordered
    ask_on allow_if sample_if switch_cases same_set separation_was broken_was fails_was decide_was answer_was given_was
computed = (refl, adds, order, refl, refusals, refl, refl, refl, refl)
  where
    adds : MarkedAdds
    adds = record { separated = refl; rostered = refl; companied = refl; helped = refl; numbered = refl; rules_stay = refl }

    refusals : RefusalCases
    refusals =
        record {
          short = refl;
          version_two = refl;
          cut = refl;
          rules_1025 = refl;
          cut_said = refl;
          condition_33 = refl;
          condition_34 = refl;
          added_condition_34 = refl;
          more = refl;
          shape_first = refl;
          field = refl;
          no_room = refl;
        }

    no_companion : NoCompanion (policy_of sample).constraints
    no_companion c m e =
        ⊎_elim (λ k. other 2 (sym (ap (λ (r : List ℕ). get_or r 10 0) k) ∙ e) (omega arith))
        (λ n. ⊎_elim (λ k. other 1 (sym (ap (λ (r : List ℕ). get_or r 10 0) k) ∙ e) (omega arith)) Memᴰ.not-nil (Memᴰ.cases_cons n))
        (Memᴰ.cases_cons m)

    ban_no_companion : NoCompanion (banned ∷ [])
    ban_no_companion c m e = ⊎_elim (λ k. other 0 (sym (ap (λ (r : List ℕ). get_or r 10 0) k) ∙ e) (omega arith)) Memᴰ.not-nil (Memᴰ.cases_cons m)

    kept : (i : ℕ) → i < length (policy_of sample).groups → get_or (policy_of sample).groups i [] ≡ get_or (policy_of (extended sample one_member)).groups i []
    kept zero h = refl
    kept (suc i) h = absurd (omega arith)

    order : MarkedOrder
    order =
        record {
          extends = record {
            policy = record {
              rules = λ r m. Memᴰ.append_left (allow 14 g0 7 7 ∷ []) m;
              constraints = λ r m. m;
              groups = record { count = omega arith; same = λ i h. refl };
            };
            class = refl;
            action = refl;
            source = refl;
            dest = refl;
            switches = λ k h t. false_not_true (sym (none_on k) ∙ t);
            companions = inl no_companion;
          };
          no_companion = no_companion;
          itself = refl;
          member = refl;
          turned = refl;
          turned_constraints = refl;
          new_group = record {
            policy = record { rules = λ r m. m; constraints = λ r m. m; groups = record { count = omega arith; same = kept } };
            class = refl;
            action = refl;
            source = refl;
            dest = refl;
            switches = λ k h t. t;
            companions = inl no_companion;
          };
          ban_no_companion = ban_no_companion;
        }

pub marked_cases : MarkedCases
marked_cases = computed.0

pub marked_adds : MarkedAdds
marked_adds = computed.1

pub marked_order : MarkedOrder
marked_order = computed.2

pub clause_cases_lem : ClauseCases
clause_cases_lem = computed.3

pub refusal_cases : RefusalCases
refusal_cases = computed.4

pub step_cases_lem : StepCases
step_cases_lem = computed.5

pub shared_cases_lem : SharedCases
shared_cases_lem = computed.6

pub shared_was : SharedWas
shared_was = computed.7

pub switch_cases_lem : SwitchCases
switch_cases_lem = computed.8

pub one_switch : OneSwitch
unfolding switch_on is_on up_to
one_switch = record { one_on = refl; one_off = refl }

-- some of the table's answers, each by itself
abbrev asked : ℕ → ℕ → ℕ → ℕ → Query
asked s d c a = query_of s d c a 0

pub record Answers : Type 0 where
  pub member : answer sample (asked 10 21 5 1) ≡ Ok (Permitted 0)
  pub group : answer sample (asked 10 g0 5 1) ≡ Ok (Permitted 0)
  pub off : answer sample (asked 13 21 5 1) ≡ Ok (NotPermitted (Some (near 1 0)))
  pub no_rules : answer empty (asked 0 0 0 0) ≡ Ok (NotPermitted None)
  pub transition : answer sample (asked 12 20 9 9) ≡ Ok (Permitted 2)
  pub rostered : answer (extended sample (allow 14 g0 7 7)) (asked 10 21 5 1) ≡ Ok (UnKnown 0 0)
  pub companied : answer (extended sample companion) (asked 10 21 5 1) ≡ Ok (UnKnown 0 2)
  pub no_source_lem : answer sample (asked 1024 21 5 1) ≡ Err (refusal 8 0)
  pub no_group_1 : answer sample (asked 32769 21 5 1) ≡ Err (refusal 8 0)

pub marked_answers : MarkedCases → Answers
unfolding cases given expected_of ask ask_on
marked_answers e = record { member = row 0; group = row 1; off = row 2; no_rules = row 10; transition = row 3; rostered = row 6; companied = row 8; no_source_lem = row 11; no_group_1 = row 12 }
  where
    row : (n : ℕ) → get_or (map given cases) n (Ok (NotPermitted None)) ≡ get_or (map expected_of cases) n (Ok (NotPermitted None))
    row n = ap (λ (xs : List (Outcome Decision)). get_or xs n (Ok (NotPermitted None))) e

pub cases_many : length cases ≡ 14
unfolding cases
cases_many = refl

-- the rows of the steps' table: how many, and some by themselves
pub steps_many : length step_cases ≡ 23
unfolding step_cases
steps_many = refl

pub record StepAnswers : Type 0 where
  pub all_off :
      answer (extended (extended empty (off (allow 10 21 5 1))) (off (allow 10 21 5 2))) (asked 10 21 5 1) ≡ Ok (NotPermitted (Some (near 0 0)))
  pub lowest : answer (extended (extended empty (allow 10 21 5 1)) (allow 10 21 5 2)) (asked 10 21 5 3) ≡ Ok (NotPermitted (Some (near 4 0)))
  pub last_rule : answer (extended sample (allow 14 21 5 7)) (asked 14 21 5 8) ≡ Ok (NotPermitted (Some (near 4 4)))

pub step_answers : StepCases → StepAnswers
unfolding step_cases given expected_of ask ask_on
step_answers e = record { all_off = row 7; lowest = row 14; last_rule = row 17 }
  where
    row : (n : ℕ) → get_or (map given step_cases) n (Ok (NotPermitted None)) ≡ get_or (map expected_of step_cases) n (Ok (NotPermitted None))
    row n = ap (λ (xs : List (Outcome Decision)). get_or xs n (Ok (NotPermitted None))) e

-- the sample's rules: rule 0, of class 5 and action 1; rule 2, a transition; rule 3, which is off; and the empty policy's
pub record SampleRules : Type 0 where
  pub many : length (policy_of sample).rules ≡ 4
  pub first : get_or (get_or (policy_of sample).rules 0 []) 1 0 ≡ 2
  pub on : get_or (get_or (policy_of sample).rules 0 []) 10 0 ≡ 1
  pub class : word_at (get_or (policy_of sample).rules 0 []) 6 ≡ 5
  pub action : word_at (get_or (policy_of sample).rules 0 []) 8 ≡ 1
  pub transition : get_or (get_or (policy_of sample).rules 2 []) 1 0 ≡ 3
  pub allow : get_or (get_or (policy_of sample).rules 3 []) 1 0 ≡ 2
  pub off : get_or (get_or (policy_of sample).rules 3 []) 10 0 ≡ 0
  pub none : (policy_of empty).rules ≡ []

pub sample_rules : SampleRules
unfolding flatten word_at words count_place count_of first_record record_at place_after records_at start_of place_of end_of policy_of sample empty
sample_rules = record { many = refl; first = refl; on = refl; class = refl; action = refl; transition = refl; allow = refl; off = refl; none = refl }
