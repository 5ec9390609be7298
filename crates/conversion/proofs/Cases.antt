-- Old images converted, by computation: claim ConvertedCases. Assumes nothing.
use mathlib.Core.Path.{refl}
use mathlib.Core.List.{flatten}
use Rattle.format.specs.Bytes.{word_at, words, put_word, put_words}
use Rattle.format.specs.Refusals.{need, ◌or_else◌}
use Rattle.format.specs.Format.{known_version, limit_of, count_place, count_of, kind_in, length_ok, is_type, is_condition, list_ok}
use Rattle.format.specs.Format.{first_record, shape_ok, bad_member, bad_type, bad_group, bad_allow, bad_transition, bad_constraint}
use Rattle.format.specs.Format.{bad_field}
use Rattle.format.specs.Policy.{body_of, image_of, record_at, place_after, records_at, start_of, place_of, end_of, policy_of}
use Rattle.format.specs.Twins.{same_bytes, listed, first_twin, twin_at, twin_fault, number_of}
use Rattle.format.specs.Check.{read_fields, read_of, read_fault, section_fault, count_fault, header_fault, body_fault, layout_fault}
use Rattle.format.specs.Check.{rest_fault, check}
use Rattle.format.specs.Sample.{sample, empty}
use Rattle.conversion.specs.Groups.{with_groups, distinct, moved}
use Rattle.conversion.specs.Retype.{retype_rule, retype_constraint}
use Rattle.conversion.specs.Convert.{follow, converted, converted_image, convert_fault}
use Rattle.conversion.specs.Cases.{old, new, ConvertedCases}

pub converted_cases : ConvertedCases
unfolding
    flatten word_at words put_word put_words need ◌or_else◌
    known_version limit_of count_place count_of kind_in length_ok is_type is_condition list_ok first_record shape_ok
    bad_member bad_type bad_group bad_allow bad_transition bad_constraint bad_field
    body_of image_of record_at place_after records_at start_of place_of end_of policy_of
    read_fields read_of read_fault section_fault count_fault header_fault body_fault layout_fault rest_fault check
    same_bytes listed first_twin twin_at twin_fault number_of sample empty
    with_groups distinct moved retype_rule retype_constraint follow converted converted_image convert_fault old new
converted_cases =
    record {
      policy = refl;
      types = refl;
      laid_out = refl;
      twins = refl;
      end_first = refl;
      field_first = refl;
      image = refl;
      shorter = (refl, refl);
      fits = refl;
      short = refl;
      sample_stays = refl;
      empty_stays = refl;
    }
