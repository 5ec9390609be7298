-- The sample and the empty policy are accepted, by computation: claim SampleAccepted. Assumes nothing.
use mathlib.Core.Path.{◌≡◌, refl}
use Rattle.format.specs.Bytes.{Bytes, word_at, words}
use Rattle.format.specs.Refusals.{need, ◌or_else◌}
use Rattle.format.specs.Format.{known_version, limit_of, count_place, count_of, kind_in, length_ok, is_type, is_condition, list_ok, first_record, shape_ok, bad_member, bad_type, bad_group, bad_allow, bad_transition, bad_constraint, bad_field}
use Rattle.format.specs.Policy.{record_at, place_after, records_at, start_of, place_of, end_of, policy_of}
use Rattle.format.specs.Twins.{same_bytes, listed, first_twin, twin_at, twin_fault}
use Rattle.format.specs.Check.{read_fields, read_of, read_fault, section_fault, count_fault, header_fault, body_fault, rest_fault, check, Accepted}
use Rattle.format.specs.Answers.{starts}
use Rattle.format.specs.Sample.{sample, empty, SampleAccepted}
use Rattle.format.proofs.Bytes.{bytes_of}

both_pass : (Accepted sample) × (Accepted empty)
unfolding word_at words need ◌or_else◌ known_version limit_of count_place count_of kind_in length_ok is_type is_condition list_ok first_record shape_ok bad_member bad_type bad_group bad_allow bad_transition bad_constraint bad_field place_after start_of place_of end_of read_fields read_of read_fault section_fault count_fault header_fault body_fault rest_fault check record_at records_at policy_of same_bytes listed first_twin twin_at twin_fault sample empty
both_pass = (refl, refl)

sample_bytes_lem : Bytes sample
unfolding sample
sample_bytes_lem = bytes_of sample refl

empty_bytes : Bytes empty
unfolding empty
empty_bytes = bytes_of empty refl

pub sample_accepted : SampleAccepted
sample_accepted = record { sample_bytes_lem = sample_bytes_lem; sample_passes = both_pass.0; empty_bytes = empty_bytes; empty_passes = both_pass.1 }

pub empty_sections : starts empty ≡ record { rules = 9; constraints = 9 }
unfolding start_of place_after count_of count_place word_at empty
empty_sections = refl
