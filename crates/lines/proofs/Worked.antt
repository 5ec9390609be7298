-- The worked lines and outputs, by computation: claims WorkedLines, WorkedRuns, WorkedCompiled and WorkedConverted. Assumes nothing.
use mathlib.Core.Path.{refl}
use mathlib.Core.List.{flatten}
use Rattle.format.specs.Bytes.{word_at, words, put_word, put_words}
use Rattle.format.specs.Refusals.{need, ◌or_else◌, unless_refused}
use Rattle.format.specs.Format.{known_version, limit_of, count_place, count_of, kind_in, length_ok, is_type, is_condition, list_ok, first_record, shape_ok, bad_member, bad_type, bad_group, bad_allow, bad_transition, bad_constraint, bad_field}
use Rattle.format.specs.Policy.{body_of, image_of, record_at, place_after, records_at, start_of, place_of, end_of, policy_of}
use Rattle.format.specs.Twins.{same_bytes, listed, first_twin, twin_at, twin_fault}
use Rattle.format.specs.Twins as twin
use Rattle.format.specs.Check.{read_fields, read_of, read_fault, section_fault, count_fault, header_fault, body_fault, rest_fault, check, image_in, check_front}
use Rattle.format.specs.Check.{layout_fault}
use Rattle.format.specs.Sample.{sample, empty}
use Rattle.extension.specs.Add.{section_of, with_record, field_fault, new_number, added_twin, own_fault, add_fault, new_image, overwrite, buffer_after}
use Rattle.text.specs.Words.{ascii, split_step, split, same, is_digit, digits_from, number_of, up_to, number_to, named, above, lettered}
use Rattle.text.specs.Rows.{value_of, field_bytes, group, allow, transition, constraint, forms, as_bytes, joined, fields_of, headed, record_by, record_of_words, record_of_row}
use Rattle.text.specs.Build.{moved_to, record_fault, after_record, row_fault, after_row, onward, rows_from, built}
use Rattle.decision.specs.Sets.{any_of, all_of, is_in, set_of, union_of, within, touches}
use Rattle.decision.specs.Conditions.{switch_on, is_on}
use Rattle.decision.specs.Reading.{asks, live, rule_of, constraint_of, request_of, rules_of, constraints_of}
use Rattle.decision.specs.Decide.{tests, covers, passes, steps, nearest_of, greatest, nearest_by, nearest, reaches, separation_broken, roster_broken, companion_broken, broken, applies, inside, fails, first_at, decision_of, judge, decide, query_fault, answer_fault, answer}
use Rattle.conversion.specs.Groups.{with_groups, distinct, moved}
use Rattle.conversion.specs.Retype.{retype_rule, retype_constraint}
use Rattle.conversion.specs.Convert.{follow, converted, converted_image, convert_fault}
use Rattle.conversion.specs.Cases.{old, new}
use Rattle.lines.specs.Lines.{width_from, width, lines_from, lines}
use Rattle.lines.specs.Output.{ending, printed}
use Rattle.lines.specs.Compiled as compile
use Rattle.lines.specs.Converted as convert
use Rattle.lines.specs.Worked.{worked_lines, line_of, line_said, WorkedLines, asked_on, asked, worked_runs, run_of, run_said, WorkedRuns, worked_compiled, text_gives, text_written, WorkedCompiled}
use Rattle.lines.specs.Worked.{worked_converted, old_gives, old_written, WorkedConverted}

pub worked_lines_lem : WorkedLines
unfolding width_from width ascii worked_lines line_of line_said
worked_lines_lem = refl

pub worked_runs_lem : WorkedRuns
unfolding
    word_at words need ◌or_else◌
    known_version limit_of count_place count_of kind_in length_ok is_type is_condition list_ok first_record shape_ok bad_member bad_type bad_group bad_allow bad_transition bad_constraint bad_field
    record_at place_after records_at start_of place_of end_of policy_of
    read_fields read_of read_fault section_fault count_fault header_fault body_fault rest_fault check same_bytes listed first_twin twin_at twin_fault image_in check_front
    sample empty
    any_of all_of is_in set_of union_of within touches
    switch_on is_on asks live rule_of constraint_of request_of rules_of constraints_of tests covers passes steps nearest_of greatest nearest_by nearest reaches separation_broken roster_broken companion_broken broken applies inside fails first_at decision_of judge decide query_fault answer_fault answer
    width_from width lines_from lines ending printed
    ascii asked_on asked worked_runs run_of run_said
worked_runs_lem = refl

pub worked_compiled_lem : WorkedCompiled
unfolding
    flatten word_at words put_word need ◌or_else◌ unless_refused
    known_version limit_of count_place count_of kind_in length_ok is_type is_condition list_ok first_record shape_ok bad_member bad_type bad_group bad_allow bad_transition bad_constraint bad_field
    body_of image_of record_at place_after records_at start_of place_of end_of policy_of
    read_fields read_of read_fault section_fault count_fault header_fault body_fault rest_fault check same_bytes listed first_twin twin_at twin_fault image_in check_front
    sample empty section_of with_record field_fault new_number added_twin own_fault add_fault new_image overwrite buffer_after
    ascii split_step split same is_digit digits_from number_of up_to number_to named above lettered
    value_of field_bytes group allow transition constraint forms as_bytes joined fields_of headed record_by record_of_words record_of_row
    moved_to record_fault after_record row_fault after_row onward rows_from built
    width_from width compile.feeds compile.part_fault compile.written compile.compiled
    worked_compiled text_gives text_written
worked_compiled_lem = refl

pub worked_converted_lem : WorkedConverted
unfolding
    flatten word_at words put_word put_words need ◌or_else◌
    known_version limit_of count_place count_of kind_in length_ok is_type is_condition list_ok first_record shape_ok
    bad_member bad_type bad_group bad_allow bad_transition bad_constraint bad_field
    body_of image_of record_at place_after records_at start_of place_of end_of policy_of
    read_fields read_of read_fault section_fault count_fault header_fault body_fault layout_fault
    same_bytes listed twin.number_of sample empty
    with_groups distinct moved retype_rule retype_constraint follow converted converted_image convert_fault old new
    width_from width convert.image_or_line convert.convert_output
    ascii worked_converted old_gives old_written
worked_converted_lem = refl
