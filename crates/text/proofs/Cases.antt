-- The worked rows and texts, by computation. Assumes nothing.
use mathlib.Core.Path.{refl}
use mathlib.Core.List.{flatten}
use Rattle.format.specs.Bytes.{word_at, words, put_word}
use Rattle.format.specs.Refusals.{need, ◌or_else◌, unless_refused}
use Rattle.format.specs.Format.{known_version, limit_of, count_place, count_of, kind_in, length_ok, is_type, is_condition, list_ok, first_record, shape_ok, bad_member, bad_type, bad_group, bad_allow, bad_transition, bad_constraint, bad_field}
use Rattle.format.specs.Policy.{body_of, image_of, record_at, place_after, records_at, start_of, place_of, end_of, policy_of}
use Rattle.format.specs.Twins.{same_bytes, listed, first_twin, twin_at, twin_fault}
use Rattle.format.specs.Check.{read_fields, read_of, read_fault, section_fault, count_fault, header_fault, body_fault, rest_fault, check, image_in, check_front}
use Rattle.format.specs.Sample.{sample, empty}
use Rattle.extension.specs.Add.{section_of, with_record, field_fault, new_number, added_twin, own_fault, add_fault, new_image, overwrite, buffer_after}
use Rattle.text.specs.Words.{ascii, split_step, split, same, is_digit, digits_from, number_of, up_to, number_to, named, above, lettered}
use Rattle.text.specs.Rows.{value_of, field_bytes, group, allow, transition, constraint, forms, as_bytes, joined, fields_of, headed, record_by, record_of_words, record_of_row}
use Rattle.text.specs.Build.{moved_to, record_fault, after_record, row_fault, after_row, onward, rows_from, built}
use Rattle.text.specs.Cases.{worked_rows, row_gives, row_stands, WorkedRows, outside_rows, row_named, members, group_of, WorkedOutside, one_transition, one_switched, two_groups, worked_texts, text_gives, text_makes, WorkedTexts, singles, full_groups, full_fault, WorkedFull}

pub worked_rows_lem : WorkedRows
unfolding
    put_word ◌or_else◌ ascii split_step split same is_digit digits_from number_of up_to number_to named above lettered
    value_of field_bytes group allow transition constraint forms as_bytes joined fields_of headed record_by record_of_words record_of_row
    worked_rows row_gives row_stands
worked_rows_lem = refl

pub worked_outside : WorkedOutside
unfolding
    put_word ◌or_else◌ ascii split_step split same is_digit digits_from number_of up_to number_to named above lettered
    value_of field_bytes group allow transition constraint forms as_bytes joined fields_of headed record_by record_of_words record_of_row
    outside_rows row_named members group_of
worked_outside = record { rows = refl; zero_byte = refl; high_byte = refl; members_65 = refl; members_64 = refl }

pub worked_texts_lem : WorkedTexts
unfolding
    flatten word_at words put_word need ◌or_else◌ unless_refused
    known_version limit_of count_place count_of kind_in length_ok is_type is_condition list_ok first_record shape_ok bad_member bad_type bad_group bad_allow bad_transition bad_constraint bad_field
    body_of image_of record_at place_after records_at start_of place_of end_of policy_of
    read_fields read_of read_fault section_fault count_fault header_fault body_fault rest_fault check same_bytes listed first_twin twin_at twin_fault image_in check_front
    sample empty section_of with_record field_fault new_number added_twin own_fault add_fault new_image overwrite buffer_after
    ascii split_step split same is_digit digits_from number_of up_to number_to named above lettered
    value_of field_bytes group allow transition constraint forms as_bytes joined fields_of headed record_by record_of_words record_of_row
    moved_to record_fault after_record row_fault after_row onward rows_from built
    one_transition one_switched two_groups worked_texts text_gives text_makes
worked_texts_lem = refl

pub worked_full : WorkedFull
unfolding
    flatten word_at words put_word need ◌or_else◌ unless_refused
    known_version limit_of count_place count_of kind_in length_ok is_type is_condition list_ok first_record shape_ok bad_member bad_type bad_group bad_allow bad_transition bad_constraint bad_field
    body_of image_of record_at place_after records_at start_of place_of end_of policy_of
    read_fields read_of read_fault section_fault count_fault header_fault body_fault rest_fault check same_bytes listed first_twin twin_at twin_fault image_in check_front
    sample empty section_of with_record field_fault new_number added_twin own_fault add_fault new_image overwrite buffer_after
    ascii split_step split same is_digit digits_from number_of up_to number_to named above lettered
    value_of field_bytes group allow transition constraint forms as_bytes joined fields_of headed record_by record_of_words record_of_row
    moved_to record_fault after_record row_fault after_row onward rows_from built
    group_of singles full_groups full_fault
worked_full = refl
