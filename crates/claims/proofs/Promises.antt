-- The one proof of everything that is claimed. Assumes nothing.
use Rattle.format.proofs.Accepted as accepted
use Rattle.format.proofs.Images as images
use Rattle.format.proofs.References as references
use Rattle.format.proofs.Longest as longest
use Rattle.format.proofs.Reach as reach
use Rattle.format.proofs.Stops as stops
use Rattle.format.proofs.Furthest as furthest
use Rattle.format.proofs.Sample as sample
use Rattle.extension.proofs.Adds as adds
use Rattle.extension.proofs.Trip as trip
use Rattle.extension.proofs.Twins as added
use Rattle.format.proofs.Twins as twins
use Rattle.format.proofs.Members as members
use Rattle.conversion.proofs.Groups as kept
use Rattle.conversion.proofs.Records as records
use Rattle.conversion.proofs.Convert as converted
use Rattle.conversion.proofs.Buffers as buffers
use Rattle.conversion.proofs.Cases as conversions
use Rattle.decision.proofs.Filled as filled
use Rattle.decision.proofs.Lowest as lowest
use Rattle.decision.proofs.Steps as steps
use Rattle.decision.proofs.Before as before
use Rattle.decision.proofs.Separation as separation
use Rattle.decision.proofs.SeparationBytes as separation-bytes
use Rattle.decision.proofs.Was as was
use Rattle.decision.proofs.Changes as changes
use Rattle.decision.proofs.Switches as switches
use Rattle.decision.proofs.Settled as settled
use Rattle.decision.proofs.Tepla as tepla
use Rattle.decision.proofs.Order as order
use Rattle.decision.proofs.Growth as growth
use Rattle.decision.proofs.Cases as cases
use Rattle.decision.proofs.Numbers as coded
use Rattle.decision.proofs.Rows as rows
use Rattle.runs.proofs.Faults as faults
use Rattle.runs.proofs.Holds as holds
use Rattle.runs.proofs.Numbered as numbered
use Rattle.runs.proofs.Cases as runs
use Rattle.text.proofs.Follow as follow
use Rattle.text.proofs.Accepted as built
use Rattle.text.proofs.Space as space
use Rattle.text.proofs.Conditions as conditions
use Rattle.text.proofs.Cases as texts
use Rattle.lines.proofs.Numbers as numbers
use Rattle.lines.proofs.Output as output
use Rattle.lines.proofs.Compiled as compiled
use Rattle.lines.proofs.Converted as written
use Rattle.lines.proofs.Worked as worked
use Rattle.mungaite.proofs.Whole as whole
use Rattle.mungaite.proofs.Host as host
use Rattle.mungaite.proofs.Built as number
use Rattle.claims.specs.Promises.{Promises}

pub promises : Promises
promises =
    record {
      reading = record {
        accepted_is_well_formed = images.accepted_is_well_formed;
        well_formed_is_accepted = images.well_formed_is_accepted;
        records_given = accepted.records_given;
        all_given = accepted.all_given;
        none_given = accepted.none_given;
        empty_tells = accepted.empty_tells;
        references_held = references.references_held;
        longest_image = reach.longest_image;
        longest_reached = longest.longest_reached;
        sample_accepted = sample.sample_accepted;
        refusal_cases = cases.refusal_cases;
      };
      adding = record {
        added_accepted = adds.added_accepted;
        number_named = adds.number_named;
        groups_kept = adds.groups_kept;
        rest_stays = adds.rest_stays;
        refused_unchanged = adds.refused_unchanged;
        round_trip = trip.round_trip;
        round_trip_exact = trip.round_trip_exact;
      };
      deciding = record {
        decided = order.decided;
        decided_only = order.decided_only;
        types_filled = filled.types_filled;
        fields_filled = filled.fields_filled;
        lowest_named = lowest.lowest_named;
        named_alone = lowest.named_alone;
        lowest_answered = lowest.lowest_answered;
        published_meaning = tepla.published_meaning;
        published_answer = tepla.published_answer;
        published_order = tepla.published_order;
        marked_cases = cases.marked_cases;
        marked_adds = cases.marked_adds;
        clause_cases_lem = cases.clause_cases_lem;
        query_read = rows.query_read;
        rows_answered = rows.rows_answered;
        slots_stay = rows.slots_stay;
        rows_whole = rows.rows_whole;
        row_alone = rows.row_alone;
      };
      ordering = record {
        order_rule = order.order_rule;
        query_order = order.query_order;
        non_decreasing = order.non_decreasing;
        member_order = growth.member_order;
        added_grows = growth.added_grows;
        added_order = growth.added_order;
        same_rules = growth.same_rules;
        rules_reordered = growth.rules_reordered;
        marked_order = cases.marked_order;
      };
      running = record {
        fit_exactly = holds.fit_exactly;
        unfit_first = holds.unfit_first;
        last_counts = holds.last_counts;
        run_refused = holds.run_refused;
        run_faults = faults.run_faults;
        each_answered = holds.each_answered;
        own_row = holds.own_row;
        slots_left = holds.slots_left;
        one_row = holds.one_row;
        answer_said = holds.answer_said;
        run_cases_lem = runs.run_cases_lem;
      };
      nearing = record {
        steps_in_order = steps.steps_in_order;
        steps_of_record = steps.steps_of_record;
        covers_all = steps.covers_all;
        denied_steps = steps.denied_steps;
        nearest_passes = steps.nearest_passes;
        nearest_of_all = steps.nearest_of_all;
        no_rules_exactly = steps.no_rules_exactly;
        decisions_stay = before.decisions_stay;
        step_cases_lem = cases.step_cases_lem;
      };
      building = record {
        each_row_added = built.each_row_added;
        rows_enough = follow.rows_enough;
        built_accepted = built.built_accepted;
        last_line_feed = follow.last_line_feed;
        last_row_counts = built.last_row_counts;
        next_rows = follow.next_rows;
        refused_stops = follow.refused_stops;
        refused_keeps = follow.refused_keeps;
        refused_short = follow.refused_short;
        own_numbers = built.own_numbers;
        space_enough = space.space_enough;
        worked_rows_lem = texts.worked_rows_lem;
        worked_outside = texts.worked_outside;
        worked_full = texts.worked_full;
        worked_texts_lem = texts.worked_texts_lem;
      };
      reaching = record {
        places_bounded = reach.places_bounded;
        stops_reached = stops.stops_reached;
        bound_reached = furthest.bound_reached;
      };
      separating = record {
        separation_means = separation.separation_means;
        separation_read = separation-bytes.separation_read;
        separation_kept = separation.separation_kept;
        separation_stays = was.separation_stays;
        answers_stay = was.answers_stay;
        answers_rise = changes.answers_rise;
        answers_change = changes.answers_change;
        shared_cases_lem = cases.shared_cases_lem;
        shared_was = cases.shared_was;
      };
      switching = record {
        condition_means = switches.condition_means;
        one_switch = cases.one_switch;
        word_unread = switches.word_unread;
        answers_settled = settled.answers_settled;
        switches_add = switches.switches_add;
        switch_order = switches.switch_order;
        condition_words = conditions.condition_words;
        switch_cases_lem = cases.switch_cases_lem;
      };
      converting = record {
        laid_is_well_formed = images.laid_is_well_formed;
        well_formed_is_laid = images.well_formed_is_laid;
        accepted_means = accepted.accepted_means;
        no_twins_means = twins.no_twins_means;
        first_twin_lem = twins.first_twin_lem;
        twins_by_members = members.twins_by_members;
        twins_found = buffers.twins_found;
        twin_refused = added.twin_refused;
        groups_stay = kept.groups_stay;
        records_stay = records.records_stay;
        types_follow = records.types_follow;
        converted_reads = converted.converted_reads;
        converted_answers = converted.converted_answers;
        converted_accepted = converted.converted_accepted;
        converted_bytes = converted.converted_bytes;
        converted_once = converted.converted_once;
        past_stays = buffers.past_stays;
        refused_stays = buffers.refused_stays;
        convert_numbers = buffers.convert_numbers;
        converted_cases = conversions.converted_cases;
      };
      printing = record {
        decimal_fewest = numbers.decimal_fewest;
        decimal_read = numbers.decimal_read;
        any_reads = output.any_reads;
        any_compiled = compiled.any_compiled;
        any_converted = written.any_converted;
        old_written_lem = written.old_written_lem;
        accepted_written = written.accepted_written;
        refused_written = written.refused_written;
        one_written = written.one_written;
        worked_lines_lem = worked.worked_lines_lem;
        worked_runs_lem = worked.worked_runs_lem;
        worked_compiled_lem = worked.worked_compiled_lem;
        worked_converted_lem = worked.worked_converted_lem;
      };
      calling = record {
        check_whole = whole.check_whole;
        decide_whole = coded.decide_whole;
        record_whole = whole.record_whole;
        add_whole = whole.add_whole;
        convert_whole = whole.convert_whole;
        run_whole = whole.run_whole;
        build_whole = number.build_whole;
        parts_whole = coded.parts_whole;
        parts_read = coded.parts_read;
        check_read = host.check_read;
        decide_read = coded.decide_read;
        record_read = host.record_read;
        add_read = host.add_read;
        convert_read = host.convert_read;
        run_read = host.run_read;
        build_read = number.build_read;
        numbers_run_lem = numbered.numbers_run_lem;
        numbers_faults = faults.numbers_faults;
        numbers_whole = numbered.numbers_whole;
        numbers_answered = numbered.numbers_answered;
        numbers_refused = numbered.numbers_refused;
        numbers_left = numbered.numbers_left;
        number_cases_lem = runs.number_cases_lem;
      };
    }
