-- Everything that is claimed of the definitions, on one page: a field for each claim, which its own crate states and proves, with what
-- it says beside it. The one proof of all is `promises` (proofs/Promises.antt), and specs/Terms.antt says what meets the claims' terms.
--
-- What is not here: that the code answers what the definitions say. That is each function's contract, above its body in src/:
-- `check`, `record`, `add`, `decide`, `run`, `build`, `convert` and those for C each give, for every input, the answer and the bytes
-- that a definition gives (`check`, `given_record`, `buffer_after`, `answer`, `run_of`, `answers_after`, `built`, `buffer_converted`, ..).
-- docs/CLAIMS.md leads from each sentence of the documents to its claim or its contract.
use Rattle.format.specs.Twins.{NoTwinsMeans, FirstTwin}
use Rattle.format.specs.Claims.{AcceptedMeans, LaidOutIsWellFormed, WellFormedIsLaidOut, TwinsByMembers}
use Rattle.format.specs.Claims.{AcceptedIsWellFormed, WellFormedIsAccepted, RecordsGiven, AllGiven, NoneGiven, EmptyTells, ReferencesHeld}
use Rattle.format.specs.Longest.{LongestImage, LongestReached}
use Rattle.format.specs.Reach.{PlacesBounded, StopsReached, BoundReached}
use Rattle.format.specs.Sample.{SampleAccepted}
use Rattle.extension.specs.Claims.{AddedAccepted, NumberNamed, GroupsKept, RestStays, RefusedUnchanged, TwinRefused, RoundTrip, RoundTripExact}
use Rattle.decision.specs.Filled.{TypesFilled, FieldsFilled}
use Rattle.decision.specs.Lowest.{LowestNamed, NamedAlone, LowestAnswered}
use Rattle.decision.specs.Tepla.{PublishedMeaning, PublishedAnswer, PublishedOrder}
use Rattle.decision.specs.Order.{Decided, DecidedOnly, OrderRule, QueryOrder, NonDecreasing}
use Rattle.decision.specs.Growth.{AddedGrows, AddedOrder, SameRules, RulesReordered, MemberOrder}
use Rattle.decision.specs.Steps.{StepsInOrder, StepsOfRecord, CoversAll, DeniedSteps, NearestPasses, NearestOfAll, NoRulesExactly, StepCases}
use Rattle.decision.specs.Before.{DecisionsStay}
use Rattle.decision.specs.Separation.{SeparationMeans, SeparationRead, SeparationKept, SeparationStays}
use Rattle.decision.specs.Separation.{AnswersStay, AnswersRise, AnswersChange, SharedCases, SharedWas}
use Rattle.decision.specs.Switches.{ConditionMeans, OneSwitch, WordUnread, AnswersSettled, SwitchesAdd, SwitchOrder, SwitchCases}
use Rattle.decision.specs.Cases.{MarkedCases, MarkedAdds, MarkedOrder}
use Rattle.decision.specs.Clauses.{ClauseCases, RefusalCases}
use Rattle.decision.specs.Numbers.{DecideWhole, PartsWhole, PartsRead, DecideRead}
use Rattle.decision.specs.Rows.{QueryRead, RowsAnswered, SlotsStay, RowsWhole, RowAlone}
use Rattle.conversion.specs.Claims.{TwinsFound, GroupsStay, RecordsStay, TypesFollow, ConvertedReads, ConvertedAnswers, ConvertedAccepted}
use Rattle.conversion.specs.Claims.{ConvertedBytes, ConvertedOnce, PastStays, RefusedStays, ConvertNumbers}
use Rattle.conversion.specs.Cases.{ConvertedCases}
use Rattle.runs.specs.Claims.{FitExactly, UnfitFirst, LastCounts, RunRefused, RunFaults, EachAnswered, SlotsLeft, OwnRow, OneRow, AnswerSaid}
use Rattle.runs.specs.Claims.{NumbersRun, NumbersWhole, NumbersAnswered, NumbersRefused, NumbersLeft, NumbersFaults}
use Rattle.runs.specs.Cases.{RunCases, NumberCases}
use Rattle.text.specs.Claims.{EachRowAdded, RowsEnough, BuiltAccepted, LastLineFeed, LastRowCounts, NextRows, RefusedStops, RefusedKeeps}
use Rattle.text.specs.Claims.{RefusedShort, OwnNumbers, SpaceEnough, ConditionWords}
use Rattle.text.specs.Cases.{WorkedRows, WorkedOutside, WorkedFull, WorkedTexts}
use Rattle.lines.specs.Claims.{DecimalFewest, DecimalRead, AnyReads, AnyCompiled}
use Rattle.lines.specs.Converted.{AnyConverted, OldWritten, AcceptedWritten, RefusedWritten, OneWritten}
use Rattle.lines.specs.Worked.{WorkedLines, WorkedRuns, WorkedCompiled, WorkedConverted}
use Rattle.mungaite.specs.Claims.{CheckWhole, RecordWhole, AddWhole, ConvertWhole, RunWhole, BuildWhole}
use Rattle.mungaite.specs.Claims.{CheckRead, RecordRead, AddRead, ConvertRead, RunRead, BuildRead}

-- Demand 1: every policy that meets the layout is accepted with all its records, the last included; everything else is refused.
pub record Reading : Type 0 where
  -- an accepted image is the image of a policy that meets the layout, in plain numbers, and has no twins
  pub accepted_is_well_formed : AcceptedIsWellFormed
  -- and the image of every such policy is accepted, and gives that policy back
  pub well_formed_is_accepted : WellFormedIsAccepted
  -- record n of a section is the policy's nth, and a part of the image
  pub records_given : RecordsGiven
  -- the records given one after the other are the section's, the last included
  pub all_given : AllGiven
  -- past the last there is none: 14
  pub none_given : NoneGiven
  -- the bytes given are none exactly where the call is refused
  pub empty_tells : EmptyTells
  -- a type field is a basic type, or names a group that the image has
  pub references_held : ReferencesHeld
  -- an accepted image has at most 55,561 bytes
  pub longest_image : LongestImage
  -- and one has them
  pub longest_reached : LongestReached
  -- the sample sheet and the empty policy are accepted
  pub sample_accepted : SampleAccepted
  -- refusals 1 to 7, 10, 11 and 13, each with its place
  pub refusal_cases : RefusalCases

-- Demand 1, its last words, and demand 2, its second sentence: what adding does.
pub record Adding : Type 0 where
  -- an accepted add leaves an accepted image, whose policy has the record last in its section and is otherwise the same
  pub added_accepted : AddedAccepted
  -- that record has the number that is answered
  pub number_named : NumberNamed
  -- groups keep their numbers
  pub groups_kept : GroupsKept
  -- bytes past the new image stay
  pub rest_stays : RestStays
  -- a refused add changes no byte
  pub refused_unchanged : RefusedUnchanged
  -- adding an accepted policy's records in order to the empty policy gives it byte for byte
  pub round_trip : RoundTrip
  -- in a buffer that has just the space, too
  pub round_trip_exact : RoundTripExact

-- Demands 1 and 2: every valid query gets a decision, TEpla's, with the lowest rule and the lowest constraint.
pub record Deciding : Type 0 where
  -- every valid query on an accepted image gets one of the three decisions
  pub decided : Decided
  -- and nothing else does
  pub decided_only : DecidedOnly
  -- no set is empty
  pub types_filled : TypesFilled
  pub fields_filled : FieldsFilled
  -- the decision names the lowest rule that covers and the lowest constraint that fails
  pub lowest_named : LowestNamed
  -- and no other decision does
  pub named_alone : NamedAlone
  -- and so does the engine's answer
  pub lowest_answered : LowestAnswered
  -- TEpla's own evaluation, as the papers have it, gives the same decision
  pub published_meaning : PublishedMeaning
  -- and so on every valid query of an accepted image
  pub published_answer : PublishedAnswer
  -- the order on decisions is the papers'
  pub published_order : PublishedOrder
  -- document 01's marked cases, as one table, and that their adds are accepted
  pub marked_cases : MarkedCases
  pub marked_adds : MarkedAdds
  -- clauses that no marked case meets, as a second table
  pub clause_cases_lem : ClauseCases
  -- a query is read back from its 12 bytes, the switch word last
  pub query_read : QueryRead
  -- many queries at once: the slot of a row that is answered holds the number of the answer to it
  pub rows_answered : RowsAnswered
  -- every other slot is as it was
  pub slots_stay : SlotsStay
  -- every whole row is answered, as far as there are slots
  pub rows_whole : RowsWhole
  -- and its number depends on its own 12 bytes alone
  pub row_alone : RowAlone

-- Demand 3: the order rule, what the papers say of it, and what meets its terms.
pub record Ordering : Type 0 where
  -- a policy and a query that extend others are never decided lower; with switches, as request 6 reads it
  pub order_rule : OrderRule
  -- on one policy, under one word, a query within another is decided no lower: the paper's order preservation
  pub query_order : QueryOrder
  -- one query, a policy that grows: the paper's non-decreasing property
  pub non_decreasing : NonDecreasing
  -- under one word, a query on a group is decided no higher than one on a member of it
  pub member_order : MemberOrder
  -- every accepted add meets the rule's terms
  pub added_grows : AddedGrows
  -- so a query that was decided is decided after it, and no lower
  pub added_order : AddedOrder
  -- policies that hold each other's rules and constraints decide equally high, companions or not
  pub same_rules : SameRules
  -- such as one with its rules and its constraints in another order
  pub rules_reordered : RulesReordered
  -- and the sample with a record added
  pub marked_order : MarkedOrder

-- Request 1: a run of 1 to 64 rows, each a query, on one policy.
pub record Running : Type 0 where
  -- a run is fit exactly when every row is Permitted
  pub fit_exactly : FitExactly
  -- the row that comes back is not Permitted, and every row before it is
  pub unfit_first : UnfitFirst
  -- the last row counts like any other
  pub last_counts : LastCounts
  -- a refused row does not make the call refused: only the image, and the counts of rows and of slots do
  pub run_refused : RunRefused
  -- the image's numbers, then 16, then 17
  pub run_faults : RunFaults
  -- each answer is what the single query would get, a refusal included
  pub each_answered : EachAnswered
  -- and depends on its own row alone
  pub own_row : OwnRow
  -- a refused call leaves every slot
  pub slots_left : SlotsLeft
  -- a run of one row answers what the single query is answered
  pub one_row : OneRow
  -- a slot says the whole answer
  pub answer_said : AnswerSaid
  -- runs on the sample, worked out from the documents
  pub run_cases_lem : RunCases

-- Request 2: how near a rule came to a query that none covers.
pub record Nearing : Type 0 where
  -- the steps in their order: condition, source, destination, class, action
  pub steps_in_order : StepsInOrder
  -- the same by the bytes of a record: an allow rule that is on, one that is off, a transition
  pub steps_of_record : StepsOfRecord
  -- a rule covers a query exactly where all five pass
  pub covers_all : CoversAll
  -- where no rule covers, each passes at most 4, and a transition 1 or 2
  pub denied_steps : DeniedSteps
  -- the rule that the answer names passes so many steps as it says
  pub nearest_passes : NearestPasses
  -- no rule passes more, and every lower one fewer
  pub nearest_of_all : NearestOfAll
  -- the answer says that there are no rules exactly where there are none
  pub no_rules_exactly : NoRulesExactly
  -- the three decisions do not change: with the steps and the nearest rule forgotten, every answer is that of before
  pub decisions_stay : DecisionsStay
  -- cases worked out from the request
  pub step_cases_lem : StepCases

-- Request 3: policies as text.
pub record Building : Type 0 where
  -- a text that is not refused leaves what adding each row's record in order to the empty policy leaves, answers that image's length,
  -- and adds as many records as it has rows that are not empty
  pub each_row_added : EachRowAdded
  -- where each row's record is added without a refusal, the text is not refused
  pub rows_enough : RowsEnough
  -- refused or not, the buffer starts with the image of a policy that meets the layout, and the bytes past it stay
  pub built_accepted : BuiltAccepted
  -- a line feed at the end changes nothing
  pub last_line_feed : LastLineFeed
  -- a last row counts without a line feed behind it
  pub last_row_counts : LastRowCounts
  -- what follows a line feed is added to what the text before it left, with its places in the whole text
  pub next_rows : NextRows
  -- behind a refused row nothing is read
  pub refused_stops : RefusedStops
  -- a refusal's place is its row's first byte, the buffer is what the text before that place builds, and the number is the row's own:
  -- 18 where it is outside the form, else that of adding its record
  pub refused_keeps : RefusedKeeps
  -- a buffer under 9 bytes is untouched, and 13 at place 0 comes before any row
  pub refused_short : RefusedShort
  -- no other number than 11, 12, 13, 18 and 20
  pub own_numbers : OwnNumbers
  -- a buffer that holds the longest image is never short
  pub space_enough : SpaceEnough
  -- rows with their records, rows outside the form and behind a full section, texts in buffers of a size, worked out from the request
  pub worked_rows_lem : WorkedRows
  pub worked_outside : WorkedOutside
  pub worked_full : WorkedFull
  pub worked_texts_lem : WorkedTexts

-- Request 4: how far a walk over the records reaches, so that 16 bits hold its place.
pub record Reaching : Type 0 where
  -- in every image whose header passes, accepted or not: past k groups, rules or constraints at most 9 + 130 k,
  -- 9 + 130 · 256 + 11 k, 9 + 130 · 256 + 11 · 1,024 + 43 k, and so 55,561; with a record's length byte added at most 55,816
  pub places_bounded : PlacesBounded
  -- a refusal of the records, 5 to 7, stands at a place that the walk reached, or at a field of the record there
  pub stops_reached : StopsReached
  -- the longest image reaches each of these places, and 55,561 past its last record
  pub bound_reached : BoundReached

-- Request 5: a separation by a type that two sources share.
pub record Separating : Type 0 where
  -- a separation is false exactly where some basic type lies in the source of a live rule that reaches its first argument and in the
  -- source of one that reaches its second; one rule may be both
  pub separation_means : SeparationMeans
  -- the same by the bytes of the constraint's record and of the rules'
  pub separation_read : SeparationRead
  -- where it is false, more live rules keep it so, and wider ones: what the order rule needs of it
  pub separation_kept : SeparationKept
  -- where the source of each live rule is one basic type, a separation is what it was
  pub separation_stays : SeparationStays
  -- and so is each answer
  pub answers_stay : AnswersStay
  -- on every policy, what had a decision has one, and it is no lower
  pub answers_rise : AnswersRise
  -- every answer is that of before, refusals too, or a separation makes it UnKnown that was Permitted by the same rule, or UnKnown by a
  -- later constraint
  pub answers_change : AnswersChange
  -- cases worked out from the request, and what was answered before
  pub shared_cases_lem : SharedCases
  pub shared_was : SharedWas

-- Request 6: conditions by the switches of a query's word.
pub record Switching : Type 0 where
  -- condition 0 is off and 1 on, whatever the word; 2 + k is on where the word divided by 2^k, rounded down, is odd
  pub condition_means : ConditionMeans
  -- of all 32 switches each turns on its own condition, and no other
  pub one_switch : OneSwitch
  -- a policy that names no switch answers alike under every word
  pub word_unread : WordUnread
  -- under a word a policy answers as the one whose conditions that word replaces by 0 and 1: refusals, rule, constraint and steps
  pub answers_settled : AnswersSettled
  -- turning switches on counts as adding rules: what is decided is decided as high by the rules that are on alone, and these grow
  pub switches_add : SwitchesAdd
  -- so no decision is lower, where there is no companion
  pub switch_order : SwitchOrder
  -- in a text each condition byte, 0 to 33, has its word, `off`, `on`, `s0` to `s31`, and no other word says a condition
  pub condition_words : ConditionWords
  -- cases worked out from the request
  pub switch_cases_lem : SwitchCases

-- Request 7: twin groups are refused, and old images converted. An old image is one that passes 1 to 7; it may have twins.
pub record Converting : Type 0 where
  -- an old image is the image of a policy that meets the layout, and the image of every such policy is one
  pub laid_is_well_formed : LaidOutIsWellFormed
  pub well_formed_is_laid : WellFormedIsLaidOut
  -- accepted is that and no twins
  pub accepted_means : AcceptedMeans
  -- no twins: no two groups have one record; else the first twin is the first group whose record an earlier one has
  pub no_twins_means : NoTwinsMeans
  pub first_twin_lem : FirstTwin
  -- and groups have one record exactly where they have the same members
  pub twins_by_members : TwinsByMembers
  -- the check gives 19 there, and 1 to 7 before it
  pub twins_found : TwinsFound
  -- an added twin is refused with 20 and the place 0, whatever the counts and the space, and nothing else is
  pub twin_refused : TwinRefused
  -- the lowest of each set of twins stays, in the old order, and no other group
  pub groups_stay : GroupsStay
  -- each rule and each constraint stays, in the old order: its type fields move, and no other byte changes
  pub records_stay : RecordsStay
  -- a type field names, once moved, the set that it named; a basic type is itself
  pub types_follow : TypesFollow
  -- so rules, under every word, and constraints read as they did
  pub converted_reads : ConvertedReads
  -- and every query that is well formed on the old image, its types moved the same way, gets the same whole answer
  pub converted_answers : ConvertedAnswers
  -- the new image is accepted, and no longer than the old one
  pub converted_accepted : ConvertedAccepted
  -- an image without twins comes out byte for byte
  pub converted_bytes : ConvertedBytes
  -- converting twice is converting once
  pub converted_once : ConvertedOnce
  -- bytes past the new image stay, and a refused call changes no byte
  pub past_stays : PastStays
  pub refused_stays : RefusedStays
  -- 1 to 7 as the image says, then 13 exactly where the new image does not fit
  pub convert_numbers : ConvertNumbers
  -- cases worked out from the request
  pub converted_cases : ConvertedCases

-- The programs' output.
pub record Printing : Type 0 where
  -- a number has the fewest digits that hold it, and they read back as that number
  pub decimal_fewest : DecimalFewest
  pub decimal_read : DecimalRead
  -- however reads cut the input, the output is the same
  pub any_reads : AnyReads
  -- however reads cut a text, what `compile` writes is the same
  pub any_compiled : AnyCompiled
  -- however reads cut an input, what `convert` writes is the same
  pub any_converted : AnyConverted
  -- of an old image the new one, of an accepted one that image, and of any other input its line; one of them, and never both
  pub old_written_lem : OldWritten
  pub accepted_written : AcceptedWritten
  pub refused_written : RefusedWritten
  pub one_written : OneWritten
  -- lines and whole outputs, written out from the documents
  pub worked_lines_lem : WorkedLines
  pub worked_runs_lem : WorkedRuns
  pub worked_compiled_lem : WorkedCompiled
  pub worked_converted_lem : WorkedConverted

-- The C interface's numbers.
pub record Calling : Type 0 where
  -- no part of an answer is cut
  pub check_whole : CheckWhole
  pub decide_whole : DecideWhole
  pub record_whole : RecordWhole
  pub add_whole : AddWhole
  pub convert_whole : ConvertWhole
  pub run_whole : RunWhole
  pub build_whole : BuildWhole
  -- parts that fit are in the number as they are, and are read back from it
  pub parts_whole : PartsWhole
  pub parts_read : PartsRead
  -- so what a host reads from the number is the answer
  pub check_read : CheckRead
  pub decide_read : DecideRead
  pub record_read : RecordRead
  pub add_read : AddRead
  pub convert_read : ConvertRead
  pub run_read : RunRead
  pub build_read : BuildRead
  -- a run over the numbers of rows is the run over the rows, and every list of whole rows of 16-bit numbers is such numbers
  pub numbers_run_lem : NumbersRun
  pub numbers_whole : NumbersWhole
  -- each slot holds the number of the answer to its six numbers
  pub numbers_answered : NumbersAnswered
  -- the refusals by the count of numbers, nothing else is refused, and a refused call leaves every slot
  pub numbers_faults : NumbersFaults
  pub numbers_refused : NumbersRefused
  pub numbers_left : NumbersLeft
  -- calls on the sample, worked out from the documents
  pub number_cases_lem : NumberCases

pub record Promises : Type 0 where
  pub reading : Reading
  pub adding : Adding
  pub deciding : Deciding
  pub ordering : Ordering
  pub running : Running
  pub nearing : Nearing
  pub building : Building
  pub reaching : Reaching
  pub separating : Separating
  pub switching : Switching
  pub converting : Converting
  pub printing : Printing
  pub calling : Calling
