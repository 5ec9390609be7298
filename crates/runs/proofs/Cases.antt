-- The runs on the sample sheet, by computation: claims RunCases, NumberCases. Assumes nothing.
use mathlib.Core.Path.{refl}
use mathlib.Core.List.{flatten}
use Rattle.format.specs.Bytes.{word_at, words, put_word}
use Rattle.format.specs.Refusals.{need, ◌or_else◌, unless_refused}
use Rattle.format.specs.Format.{known_version, limit_of, count_place, count_of, kind_in, length_ok, is_type, is_condition, list_ok, first_record, shape_ok, bad_member, bad_type, bad_group, bad_allow, bad_transition, bad_constraint, bad_field}
use Rattle.format.specs.Policy.{body_of, image_of, record_at, place_after, records_at, start_of, place_of, end_of, policy_of}
use Rattle.format.specs.Twins.{same_bytes, listed, first_twin, twin_at, twin_fault}
use Rattle.format.specs.Check.{read_fields, read_of, read_fault, section_fault, count_fault, header_fault, body_fault, rest_fault, check, image_in, check_front}
use Rattle.format.specs.Sample.{sample, empty}
use Rattle.extension.specs.Add.{section_of, with_record, field_fault, new_number, added_twin, own_fault, add_fault, new_image, overwrite, buffer_after}
use Rattle.decision.specs.Sets.{any_of, all_of, is_in, set_of, union_of, within, touches}
use Rattle.decision.specs.Conditions.{switch_on, is_on}
use Rattle.decision.specs.Reading.{asks, live, rule_of, constraint_of, request_of, rules_of, constraints_of}
use Rattle.decision.specs.Decide.{tests, covers, passes, steps, nearest_of, greatest, nearest_by, nearest, reaches, separation_broken, roster_broken, companion_broken, broken, applies, inside, fails, first_at, decision_of, judge, decide, query_fault, answer_fault, answer}
use Rattle.decision.specs.Cases.{with_space, extended, g0, allow}
use Rattle.decision.specs.Steps.{off}
use Rattle.decision.specs.Switches.{allow_if, sample_if}
use Rattle.runs.specs.Runs.{rows_fault, run_fault, queries_fault, unfit, first_unfit, run_of, row_answer, answers_after}
use Rattle.decision.specs.Numbers.{parts_of, refusal_code}
use Rattle.runs.specs.Numbers.{rows_of, numbers_fault, numbers_run, row_code, codes_after}
use Rattle.runs.specs.Cases.{member, group, transition, separated, off_rule, other_action, no_source, no_dest, waiting, apart, comes_of, says_of, run_cases, RunCases, calls, number_cases, number_of, codes_of, NumberCases}
use Rattle.runs.specs.Cases as table

computed : RunCases × NumberCases
unfolding
    flatten word_at words put_word need ◌or_else◌ unless_refused
    known_version limit_of count_place count_of kind_in length_ok is_type is_condition list_ok first_record shape_ok bad_member bad_type bad_group bad_allow bad_transition bad_constraint bad_field
    body_of image_of record_at place_after records_at start_of place_of end_of policy_of
    read_fields read_of read_fault section_fault count_fault header_fault body_fault rest_fault check same_bytes listed first_twin twin_at twin_fault image_in check_front
    sample empty section_of with_record field_fault new_number added_twin own_fault add_fault new_image overwrite buffer_after
    any_of all_of is_in set_of union_of within touches
    switch_on is_on asks live rule_of constraint_of request_of rules_of constraints_of
    tests covers passes steps nearest_of greatest nearest_by nearest reaches separation_broken roster_broken companion_broken broken applies inside fails first_at decision_of judge decide query_fault answer_fault answer
    with_space extended g0 allow off allow_if sample_if
    rows_fault run_fault queries_fault unfit first_unfit run_of row_answer answers_after
    member group transition separated off_rule other_action no_source no_dest waiting apart comes_of says_of run_cases table.asks
    parts_of refusal_code rows_of numbers_fault numbers_run row_code codes_after calls number_cases number_of codes_of
computed = (record { come = refl; say = refl }, record { come = refl; say = refl })

pub run_cases_lem : RunCases
run_cases_lem = computed.0

pub number_cases_lem : NumberCases
number_cases_lem = computed.1
