-- What meets the claims' terms: for each claim that has terms, something that the engine does, and what the claim then says of it. The
-- proof (proofs/Terms.antt, `terms_met : Promises → TermsMet`) takes the statement and cites no claim's proof, which tests/layers.sh
-- tests: so a claim whose terms are made narrower, or that says less, no longer gives what is here.
--     query s d c a       a query without a switch on
--     sample_and r         the sample with the record r added
--     AtLeast n l q       a decision on l is at least so high: 1 is Permitted, 2 UnKnown
--     OrderedIf terms     the order rule of any two images and queries, its terms written out; `terms` are those about companions
--     three_queries        document 01's first, third and fourth query, and what the program prints for them
--     two_and_part          two of them, and 11 bytes
--     by_bytes b           reads that bring one byte each
--     sample_bytes, trans  document 01's sample as text, and a row by itself
--     left text b         what a text leaves of the buffer b
--     cut_sample, long_sample, bad_sample   the sample cut, with a byte behind it, with a condition that is none
--     Pass l s k, AllPass l s   the first k records of a section pass, all do
--     LongestAt s k p     a walk over the longest image reaches the place p past k records of a section
--     outside_behind n     n line feeds and one more, and a row outside the form
--     one_long a           the source of a rule is one basic type
--     SameRule l q r      a query is answered Permitted by the rule r, or UnKnown by it and a constraint
--     separated, shared   the sample with document 01's rule that breaks the separation, and the query that it is asked of
--     switched            the sample with a rule 10 to 30 by switch 5; its separation is false where that rule is on
--     all_on               the word that has all 32 switches on
--     SwitchRows          every row of request 6's table by itself
--     ReadingMet, AddingMet, DecidingMet, OrderingMet, RunningMet, NearingMet, BuildingMet, ReachingMet, SeparatingMet, SwitchingMet,
--     PrintingMet, CallingMet   by the parts of the statement; ConvertingMet is in Converting.antt
use Rattle.std.specs.Prelude.{ℕ, suc, ◌+◌, ◌*◌, ◌-◌, ◌/◌, ◌%◌, ◌<◌, ◌≤◌, ◌^◌, ◌≡◌, ◌⊎◌, Bool, true, false, not, length, get_or, take, drop, set, replicate, eqb}
use Prim.Native.String.{String}
use Rattle.std.specs.Prelude.{Option, None, Some}
use mathlib.Core.List.{List, [], ◌∷◌, ◌++◌, map, Memᴰ}
use Rattle.format.specs.declared.Section.{Section}
use Rattle.format.specs.declared.Section.TheVariants.{Groups, Rules, Constraints}
use Rattle.format.specs.declared.Refusal.{Refusal}
use Rattle.format.specs.Bytes.{Bytes, word_at}
use Rattle.format.specs.Refusals.{refusal}
use Rattle.format.specs.Format.{limit_of, count_of}
use Rattle.format.specs.Policy.{Policy, records_of, image_of, policy_of, start_of, place_of, end_of}
use Rattle.format.specs.Check.{section_fault, header_fault, body_fault, check, Accepted, image_in, check_front}
use Rattle.std.specs.Prelude.{Ok, Err}
use Rattle.format.specs.Answers.{Outcome, outcome, extent}
use Rattle.format.specs.Give.{give_fault, given_record}
use Rattle.format.specs.Claims.{IsType, type_fields, WellFormed, given_from}
use Rattle.format.specs.Sample.{sample, empty}
use Rattle.format.specs.Longest.{longest}
use Rattle.format.specs.Reach.{Reaches, Stops}
use Rattle.extension.specs.Add.{add_fault, new_number, buffer_after, overwrite}
use Rattle.extension.specs.Claims.{add_all, all_records}
use Rattle.text.specs.Words.{ascii, split}
use Rattle.text.specs.declared.Field.TheVariants.{Condition}
use Rattle.text.specs.Rows.{value_of, record_of_row}
use Rattle.text.specs.Build.{row_fault, rows_from, built}
use Rattle.text.specs.Claims.{records_in, record_count, complete, all_added, condition_word}
use Rattle.text.specs.Cases.{worked_rows, outside_rows, members, group_of, full_groups, one_transition, one_switched, sample_text, worked_texts}
use Rattle.decision.specs.declared.Query.{Query}
use Rattle.decision.specs.Sets.{any_of, all_of, is_in, set_of, within, touches}
use Rattle.decision.specs.Conditions.{switch_on, is_on}
use Rattle.decision.specs.Reading.{Rule, Constraint, Request, asks, live, constraint_of, request_of, rules_of}
use Rattle.decision.specs.Decide.{covers, steps, separation_broken, broken, first_at, judge, decide, answer, query_of, near, Nearest}
use Rattle.decision.specs.declared.Decision.{Decision}
use Rattle.decision.specs.declared.Decision.TheVariants.{NotPermitted, Permitted, UnKnown}
use Rattle.decision.specs.Lowest.{Most, Nears}
use Rattle.decision.specs.Steps.{steps_of, steps_at, source_in, dest_in, off, step_cases}
use Rattle.decision.specs.Before.{denied, allowed, stopped, answer_before}
use Rattle.decision.specs.Separation.{From, FromRecord, Wider, separation_was, answer_was, OneType, Raised}
use Rattle.decision.specs.Separation.{separation, story, elsewhere, shared_cases, was_cases}
use Rattle.decision.specs.Order.{height, Keeps, Grows, NoCompanion}
use Rattle.decision.specs.Switches.{NoSwitches, settled_rule, settled, only_on, allow_if, sample_if, switch_cases}
use Rattle.decision.specs.Growth.{reordered, DecidedAbove}
use Rattle.decision.specs.Cases.{g0, allow, companion, one_member, with_space, extended, cases}
use Rattle.decision.specs.Tepla.{Dcs, compare_decisions, permits, forget, eval_policy}
use Rattle.io.specs.Digits.{IsDigitCount}
use Rattle.runs.specs.Runs.{queries_fault, run_of, answers_after}
use Rattle.runs.specs.Numbers.{rows_of, numbers_of, numbers_run, row_code, codes_after, run_code}
use Rattle.runs.specs.Claims.{Permits}
use Rattle.runs.specs.Cases.{member, group, transition, off_rule, no_source, run_cases, number_cases}
use Rattle.lines.specs.Lines.{width, decimal, line}
use Rattle.lines.specs.Output.{image_size, printed, ran}
use Rattle.lines.specs.Compiled.{compiled, reads, begun}
use Rattle.lines.specs.Claims.{read_from}
use Rattle.lines.specs.Worked.{worked_lines, asked_on, asked, worked_runs, worked_compiled}
use Rattle.decision.specs.Numbers.{parts_of, decision_code, host_decision}
use Rattle.decision.specs.Rows.{query_at, rows_in, answered, row_at, query_bytes}
use Rattle.conversion.specs.Convert.{converted_image, convert_fault}
use Rattle.mungaite.specs.Code.{fault_code, record_code, add_code, convert_code, build_code}
use Rattle.mungaite.specs.Host.{host_checked, host_found, host_added, host_run, host_built}
use Rattle.claims.specs.Converting.{ConvertingMet}

abbrev pub query : ℕ → ℕ → ℕ → ℕ → Query
query s d c a = query_of s d c a 0

abbrev pub sample_and : List ℕ → List ℕ
sample_and r = extended sample r

abbrev pub AtLeast : ℕ → List ℕ → Query → Type 0
AtLeast n l q = (d : Decision) → answer l q ≡ Ok d → n ≤ height d

abbrev pub three_queries : List ℕ
three_queries = asked 10 21 5 1 ++ (asked 13 21 5 1 ++ asked 12 20 9 9)

abbrev pub two_and_part : List ℕ
two_and_part = asked 10 21 5 1 ++ (asked 12 20 9 9 ++ replicate 11 0)

abbrev pub three_said : String
three_said = "P 0\nN 1 0\nP 2\n"

abbrev pub by_bytes : List ℕ → List (List ℕ)
by_bytes = map (λ b. b ∷ [])

abbrev pub sample_bytes : List ℕ
sample_bytes = ascii sample_text

abbrev pub trans : List ℕ
trans = ascii "trans 12 20 5"

abbrev pub left : List ℕ → List ℕ → List ℕ
left text b = (built text b).buffer

abbrev pub outside_behind : ℕ → List ℕ
outside_behind n = replicate n 10 ++ (10 ∷ ascii "x")

-- the sample without its last byte and with one byte more, with length fields that say so; with a condition that is none
abbrev pub cut_sample : List ℕ
cut_sample = take 79 (set sample 2 79)

abbrev pub long_sample : List ℕ
long_sample = set sample 2 81 ++ (0 ∷ [])

abbrev pub bad_sample : List ℕ
bad_sample = set sample 25 34

-- a length field of 8, and more
abbrev pub too_short : List ℕ
too_short = 1 ∷ 0 ∷ 8 ∷ replicate 20 0

pub record ReadingMet : Type 0 where
  -- AcceptedIsWellFormed: the sample, which is the image of its policy; the empty policy; the longest image
  pub sample_well_formed : WellFormed (policy_of sample)
  pub sample_image : image_of (policy_of sample) ≡ sample
  pub empty_well_formed : WellFormed (policy_of empty)
  pub longest_well_formed : WellFormed longest
  -- WellFormedIsAccepted: the longest policy, whose image is of bytes, and as it is read back
  pub longest_bytes : Bytes (image_of longest)
  pub longest_accepted : Accepted (image_of longest)
  pub longest_policy : policy_of (image_of longest) ≡ longest
  -- LongestImage: the longest policy's image is not longer
  pub longest_most : length (image_of longest) ≤ 55561
  -- RecordsGiven: the last record of each section, a part of the image at its place
  pub last_given :
      (l : List ℕ) → Accepted l → (s : Section) (n : ℕ) → length (records_of (policy_of l) s) ≡ suc n
      → (given_record l s n ≡ take (length (given_record l s n)) (drop (place_of l s n) l))
      × (place_of l s n + length (given_record l s n) ≤ length l)
  -- AllGiven: every record of the longest image, and they are those given; NoneGiven: the number past the last
  pub longest_given : (s : Section) → given_from (image_of longest) s 0 (limit_of s) ≡ records_of longest s
  pub one_by_one : (l : List ℕ) (s : Section) (k : ℕ) → given_from l s k 1 ≡ given_record l s k ∷ []
  pub longest_past : (s : Section) → give_fault (image_of longest) s (limit_of s) ≡ Some (refusal 14 0)
  -- EmptyTells: where nothing is refused there is a byte; of an image that is refused there is none
  pub given_some : (l : List ℕ) (s : Section) (n : ℕ) → give_fault l s n ≡ None → 1 ≤ length (given_record l s n)
  pub nothing_given : (s : Section) (n : ℕ) → given_record (take 79 sample) s n ≡ []
  -- ReferencesHeld: a rule's two types, and a roster's list, are type fields
  pub rule_fields : type_fields (allow 14 g0 7 7) ≡ 14 ∷ g0 ∷ []
  pub roster_fields : type_fields (13 ∷ 4 ∷ 0 ∷ 5 ∷ 0 ∷ 1 ∷ 0 ∷ 10 ∷ 0 ∷ 21 ∷ 2 ∷ 0 ∷ 11 ∷ []) ≡ 10 ∷ 21 ∷ 11 ∷ []

pub record AddingMet : Type 0 where
  -- AddedAccepted: a companion added to the sample is its last constraint
  pub companion_last : (policy_of (image_in (sample_and companion))).constraints ≡ (policy_of sample).constraints ++ (companion ∷ [])
  -- NumberNamed: and it is constraint 2
  pub companion_two : get_or (policy_of (image_in (sample_and companion))).constraints 2 [] ≡ companion
  -- GroupsKept: the last group too
  pub last_group :
      (b r : List ℕ) → Bytes b → Bytes r → add_fault b r ≡ None → (n : ℕ) → length (policy_of (image_in b)).groups ≡ suc n
      → get_or (policy_of (image_in (buffer_after b r))).groups n [] ≡ get_or (policy_of (image_in b)).groups n []
  -- RestStays: the buffer of an accepted add has its length
  pub companion_length : length (sample_and companion) ≡ 91
  -- RefusedUnchanged: no room
  pub no_room : buffer_after sample companion ≡ sample
  -- RoundTrip: the sample in a buffer of one byte more; RoundTripExact: the longest image, and no byte more
  pub sample_rebuilt : add_all (empty ++ replicate 72 9) (all_records (policy_of sample)) ≡ sample ++ (9 ∷ [])
  pub longest_rebuilt : add_all (empty ++ replicate 55552 0) (all_records longest) ≡ image_of longest

pub record DecidingMet : Type 0 where
  -- Decided: where there is no group, and on a group
  pub empty_decided : (d : Decision) × (answer empty (query 0 0 0 0) ≡ Ok d)
  pub group_decided : (d : Decision) × (answer sample (query 10 g0 5 1) ≡ Ok d)
  -- TypesFilled, FieldsFilled
  pub types_some : (l : List ℕ) → Accepted l → (t : ℕ) → IsType (length (policy_of l).groups) t → 1 ≤ length (set_of (policy_of l).groups t)
  pub fields_some :
      (l : List ℕ) → Accepted l → (s : Section) (r : List ℕ) → Memᴰ r (records_of (policy_of l) s)
      → (t : ℕ) → Memᴰ t (type_fields r) → 1 ≤ length (set_of (policy_of l).groups t)
  -- LowestNamed, NamedAlone: NotPermitted where no rule covers, and only there, with the nearest rule, and only that
  pub judge_covers : (rs : List Rule) (cs : List Constraint) (a : Request) (x : Nearest) → judge rs cs a ≡ NotPermitted x → any_of (covers a) rs ≡ false
  pub none_covers :
      (rs : List Rule) (cs : List Constraint) (a : Request) (x : Nearest) → any_of (covers a) rs ≡ false → Nears a rs x → judge rs cs a ≡ NotPermitted x
  pub judge_nearest : (rs : List Rule) (cs : List Constraint) (a : Request) (s n : ℕ) → judge rs cs a ≡ NotPermitted (Some (near s n)) → Most (steps a) rs s n
  -- LowestAnswered: of an UnKnown, no rule before the one named covers
  pub lowest_unknown :
      (l : List ℕ) (q : Query) (r c : ℕ) → answer l q ≡ Ok (UnKnown r c)
      → any_of (covers (request_of (policy_of l) q)) (take r (rules_of (policy_of l) q.switches)) ≡ false
  -- PublishedMeaning: where there is no constraint; PublishedOrder: UnKnown is above Permitted
  pub no_constraints : (p : Policy) (q : Query) → p.constraints ≡ [] → eval_policy p q ≡ forget (decide p q)
  pub unknown_above : compare_decisions Dcs.UnKnown Dcs.Permitted ≡ false
  -- DecidedOnly, PublishedAnswer: a rule added, and the roster fails; a query on a group
  pub published_unknown : eval_policy (policy_of (sample_and (allow 14 g0 7 7))) (query 10 21 5 1) ≡ Dcs.UnKnown
  pub published_group : eval_policy (policy_of sample) (query 10 g0 5 1) ≡ Dcs.Permitted
  -- MarkedCases: all of them; the transition's, of another class and action; the last refusal
  pub cases_all : length cases ≡ 14
  pub other_class : answer sample (query 12 20 9 9) ≡ Ok (Permitted 2)
  pub no_group_1 : answer sample (query 32769 21 5 1) ≡ Err (refusal 8 0)
  -- QueryRead: every query of 16-bit fields and a 32-bit word, the largest too, in 12 bytes; the word last, and its first byte highest;
  -- and its own bytes are answered as the query is
  pub any_query :
      (s d c a w : ℕ) → s ≤ 65535 → d ≤ 65535 → c ≤ 65535 → a ≤ 65535 → w ≤ 4294967295
      → (query_at (query_bytes (query_of s d c a w)) 0 ≡ query_of s d c a w) × (length (query_bytes (query_of s d c a w)) ≡ 12)
  pub word_last : (query_at (0 ∷ 10 ∷ 128 ∷ 1 ∷ 0 ∷ 5 ∷ 1 ∷ 0 ∷ 128 ∷ 64 ∷ 32 ∷ 1 ∷ []) 0).switches ≡ 0x80402001
  pub own_bytes :
      (l : List ℕ) (s d c a w y : ℕ) → s ≤ 65535 → d ≤ 65535 → c ≤ 65535 → a ≤ 65535 → w ≤ 4294967295
      → get_or (answered l (query_bytes (query_of s d c a w)) (y ∷ [])) 0 0 ≡ decision_code (answer l (query_of s d c a w))
  -- RowsAnswered, SlotsStay: two rows in three slots, of which the third stays
  pub two_answered : answered sample two_and_part (7 ∷ 8 ∷ 9 ∷ []) ≡ decision_code (Ok (Permitted 0)) ∷ decision_code (Ok (Permitted 2)) ∷ 9 ∷ []
  -- RowsWhole: 11 bytes are no row; the last row is one; slots for two; no slot
  pub two_rows : rows_in two_and_part 3 ≡ 2
  pub last_row : rows_in three_queries 3 ≡ 3
  pub two_slots : rows_in three_queries 2 ≡ 2
  pub no_slot : (b : List ℕ) → rows_in b 0 ≡ 0
  -- RowAlone: a row by itself
  pub row_by_itself :
      (l b slots : List ℕ) (k : ℕ) → k < rows_in b (length slots) → get_or (answered l b slots) k 0 ≡ get_or (answered l (row_at b k) (0 ∷ [])) 0 0

abbrev pub OrderedIf : (List ℕ → Query → List ℕ → Query → Type 0) → Type 0
OrderedIf terms =
    (l₁ l₂ : List ℕ) (q₁ q₂ : Query) (d₁ d₂ : Decision) → answer l₁ q₁ ≡ Ok d₁ → answer l₂ q₂ ≡ Ok d₂
    → ((r : List ℕ) → Memᴰ r (policy_of l₁).rules → Memᴰ r (policy_of l₂).rules)
    → ((c : List ℕ) → Memᴰ c (policy_of l₁).constraints → Memᴰ c (policy_of l₂).constraints)
    → length (policy_of l₁).groups ≤ length (policy_of l₂).groups
    → ((g : ℕ) → g < length (policy_of l₁).groups → get_or (policy_of l₁).groups g [] ≡ get_or (policy_of l₂).groups g [])
    → q₁.class ≡ q₂.class → q₁.action ≡ q₂.action
    → within (set_of (policy_of l₂).groups q₂.source) (set_of (policy_of l₁).groups q₁.source) ≡ true
    → within (set_of (policy_of l₂).groups q₂.dest) (set_of (policy_of l₁).groups q₁.dest) ≡ true
    → ((k : ℕ) → k < 32 → switch_on q₁.switches k ≡ true → switch_on q₂.switches k ≡ true)
    → terms l₁ q₁ l₂ q₂ → height d₁ ≤ height d₂

pub record OrderingMet : Type 0 where
  -- OrderRule, with all its terms and no other: without a companion, and with the same rules and equal words
  pub order_no_companion : OrderedIf (λ l₁ q₁ l₂ q₂. (c : List ℕ) → Memᴰ c (policy_of l₁).constraints → get_or c 10 0 ≡ 3 → ⊥)
  pub order_same_rules :
      OrderedIf (λ l₁ q₁ l₂ q₂. ((r : List ℕ) → Memᴰ r (policy_of l₂).rules → Memᴰ r (policy_of l₁).rules) × (q₁.switches ≡ q₂.switches))
  -- what meets them: a rule added, and a member of the group for the group, under no switch and under switch 0; a new group for it;
  -- what is UnKnown with a companion stays so
  pub order_met : AtLeast 1 (sample_and (allow 14 g0 7 7)) (query_of 10 21 5 1 1)
  pub new_group_met : AtLeast 1 (sample_and one_member) (query 10 0x8001 5 1)
  pub unknown_stays : AtLeast 2 (sample_and companion) (query 10 21 5 1)
  -- more switches on, of any word, where there is no companion; one word, whatever it is, the same rules and more constraints, companions
  -- or not
  pub more_switches :
      (l : List ℕ) (s d c a v w : ℕ) (d₁ d₂ : Decision) → answer l (query_of s d c a v) ≡ Ok d₁ → answer l (query_of s d c a w) ≡ Ok d₂
      → ((k : ℕ) → k < 32 → switch_on v k ≡ true → switch_on w k ≡ true) → NoCompanion (policy_of l).constraints → height d₁ ≤ height d₂
  pub more_constraints :
      (l₁ l₂ : List ℕ) (q : Query) (d₁ d₂ : Decision) (more : List (List ℕ)) → answer l₁ q ≡ Ok d₁ → answer l₂ q ≡ Ok d₂
      → (policy_of l₁).groups ≡ (policy_of l₂).groups → (policy_of l₁).rules ≡ (policy_of l₂).rules
      → (policy_of l₂).constraints ≡ (policy_of l₁).constraints ++ more → height d₁ ≤ height d₂
  -- QueryOrder: under one word, types that stand for the same set are decided equally high
  pub same_sets :
      (l : List ℕ) (s s' d d' c a w : ℕ) (d₁ d₂ : Decision) → answer l (query_of s d c a w) ≡ Ok d₁ → answer l (query_of s' d' c a w) ≡ Ok d₂
      → set_of (policy_of l).groups s ≡ set_of (policy_of l).groups s' → set_of (policy_of l).groups d ≡ set_of (policy_of l).groups d'
      → within (set_of (policy_of l).groups s) (set_of (policy_of l).groups s) ≡ true
      → within (set_of (policy_of l).groups d) (set_of (policy_of l).groups d) ≡ true
      → height d₁ ≡ height d₂
  -- NonDecreasing: a rule added, for a query on a member and one on the group
  pub rule_added : AtLeast 1 (sample_and (allow 14 g0 7 7)) (query 10 21 5 1)
  pub group_not_lower : AtLeast 1 (sample_and (allow 14 g0 7 7)) (query 10 g0 5 1)
  -- and for every query, whatever its types, where the policy stays
  pub not_lower_itself :
      (l : List ℕ) (q : Query) (d₁ d₂ : Decision) → answer l q ≡ Ok d₁ → answer l q ≡ Ok d₂
      → NoCompanion (policy_of l).constraints → height d₁ ≤ height d₂
  -- MemberOrder: 21 for group 0; every basic type may be the member, under every word
  pub member_met : AtLeast 1 sample (query 10 21 5 1)
  pub any_member :
      (l : List ℕ) (s d m n c a w : ℕ) (d₁ d₂ : Decision) → answer l (query_of s d c a w) ≡ Ok d₁ → answer l (query_of m n c a w) ≡ Ok d₂
      → m ≤ 1023 → n ≤ 1023 → is_in m (set_of (policy_of l).groups s) ≡ true → is_in n (set_of (policy_of l).groups d) ≡ true → height d₁ ≤ height d₂
  -- AddedGrows: groups too
  pub added_keeps :
      (b r : List ℕ) → Bytes b → Bytes r → add_fault b r ≡ None
      → Keeps (policy_of (image_in b)).groups (policy_of (image_in (buffer_after b r))).groups
  -- AddedOrder: a constraint added, a companion even; a rule where there is no companion
  pub companion_added : DecidedAbove (image_in (sample_and companion)) (query 10 21 5 1) (Permitted 0)
  pub companion_lowest : AtLeast 1 (image_in (sample_and companion)) (query 10 21 5 1)
  pub rule_added_order : DecidedAbove (image_in (sample_and (allow 14 g0 7 7))) (query 10 21 5 1) (Permitted 0)
  -- SameRules: every rule once more, in the second policy and in the first
  pub rules_twice :
      (l₁ l₂ : List ℕ) (q : Query) (d₁ d₂ : Decision) → answer l₁ q ≡ Ok d₁ → answer l₂ q ≡ Ok d₂
      → (policy_of l₁).groups ≡ (policy_of l₂).groups → (policy_of l₁).constraints ≡ (policy_of l₂).constraints
      → (policy_of l₂).rules ≡ (policy_of l₁).rules ++ (policy_of l₁).rules → height d₁ ≡ height d₂
  pub rules_once :
      (l₁ l₂ : List ℕ) (q : Query) (d₁ d₂ : Decision) → answer l₁ q ≡ Ok d₁ → answer l₂ q ≡ Ok d₂
      → (policy_of l₁).groups ≡ (policy_of l₂).groups → (policy_of l₁).constraints ≡ (policy_of l₂).constraints
      → (policy_of l₁).rules ≡ (policy_of l₂).rules ++ (policy_of l₂).rules → height d₁ ≡ height d₂
  -- RulesReordered: with a companion; of every policy of at most 512 rules
  pub companion_reordered :
      (d : Decision) → answer (image_of (reordered (policy_of (sample_and companion)))) (query 10 21 5 1) ≡ Ok d → height d ≡ 2
  pub half_reordered : (l : List ℕ) → Bytes l → Accepted l → length (policy_of l).rules ≤ 512 → Accepted (image_of (reordered (policy_of l)))

pub record RunningMet : Type 0 where
  -- FitExactly: any of the rows; 1 to 64 of them; and such a run is not refused
  pub fit_any :
      (l : List ℕ) (qs : List Query) (i slots : ℕ) (other : Query) → run_of l qs slots ≡ Ok None → i < length qs
      → (r : ℕ) × (answer l (get_or qs i other) ≡ Ok (Permitted r))
  pub all_fit :
      (l : List ℕ) (qs : List Query) (q : Query) → Accepted l → 1 ≤ length qs → length qs ≤ 64
      → ((i : ℕ) → i < length qs → Permits l (get_or qs i q)) → run_of l qs (length qs) ≡ Ok None
  pub fit_counts : (l : List ℕ) (qs : List Query) (slots : ℕ) → run_of l qs slots ≡ Ok None → queries_fault l (length qs) slots ≡ None
  -- and on the sample
  pub three_fit : run_of sample (member ∷ group ∷ transition ∷ []) 3 ≡ Ok None
  -- UnfitFirst: any row, whatever follows; row 0; row 1 of the sample's; the row that comes back, those before it, and that it is one
  -- of them
  pub any_unfit :
      (l : List ℕ) (qs : List Query) (n : ℕ) (q : Query) → Accepted l → length qs ≤ 64 → n < length qs
      → ((i : ℕ) → i < n → Permits l (get_or qs i q)) → (Permits l (get_or qs n q) → ⊥) → run_of l qs (length qs) ≡ Ok (Some n)
  pub first_unfit_lem :
      (l : List ℕ) (q : Query) (qs : List Query) → Accepted l → length qs ≤ 63 → (Permits l q → ⊥)
      → run_of l (q ∷ qs) (suc (length qs)) ≡ Ok (Some 0)
  pub second_unfit : (q : Query) → run_of sample (member ∷ off_rule ∷ q ∷ []) 3 ≡ Ok (Some 1)
  pub refused_unfit : (q : Query) → run_of sample (no_source ∷ q ∷ []) 2 ≡ Ok (Some 0)
  pub unfit_not :
      (l : List ℕ) (qs : List Query) (slots n : ℕ) (other : Query) → run_of l qs slots ≡ Ok (Some n)
      → (queries_fault l (length qs) slots ≡ None) × (suc n ≤ length qs) × (Permits l (get_or qs n other) → ⊥)
  pub unfit_before :
      (l : List ℕ) (qs : List Query) (slots n i : ℕ) (other : Query) → run_of l qs slots ≡ Ok (Some n) → i < n → Permits l (get_or qs i other)
  -- LastCounts: where it is the only row, and the 64th; of a fit run; and what it is answered
  pub only_unfit : (l : List ℕ) (q : Query) (y : Outcome Decision) → Accepted l → (Permits l q → ⊥) → run_of l (q ∷ []) 1 ≡ Ok (Some 0)
  pub last_unfit :
      (l : List ℕ) (qs : List Query) (q : Query) (ys : List (Outcome Decision)) → Accepted l → length qs ≤ 63 → length ys ≡ suc (length qs)
      → ((i : ℕ) → i < length qs → Permits l (get_or qs i q)) → (Permits l q → ⊥) → run_of l (qs ++ (q ∷ [])) (length ys) ≡ Ok (Some (length qs))
  pub last_permits : (qs : List Query) (ys : List (Outcome Decision)) → run_of sample (qs ++ (off_rule ∷ [])) (length ys) ≡ Ok None → ⊥
  pub last_said :
      (l : List ℕ) (qs : List Query) (q : Query) (ys : List (Outcome Decision)) (y : Outcome Decision) → Accepted l
      → length qs ≤ 63 → length ys ≡ suc (length qs)
      → get_or (answers_after l (qs ++ (q ∷ [])) ys) (length qs) y ≡ answer l q
  -- RunRefused, RunFaults: an image that is refused; none, 65 rows and more, a slot too few, one too many, any other; 64 rows; and nothing
  -- else
  pub image_first : (l : List ℕ) (qs : List Query) (slots : ℕ) (f : Refusal) → check l ≡ Some f → run_of l qs slots ≡ Err f
  pub no_row : (l : List ℕ) (slots : ℕ) → Accepted l → run_of l [] slots ≡ Err (refusal 16 0)
  pub rows_65 : (l : List ℕ) (qs : List Query) (slots : ℕ) → Accepted l → 65 ≤ length qs → run_of l qs slots ≡ Err (refusal 16 0)
  pub slot_few : (l : List ℕ) (qs : List Query) → Accepted l → length qs ≡ 64 → run_of l qs 63 ≡ Err (refusal 17 0)
  pub slot_many : (l : List ℕ) (q : Query) → Accepted l → run_of l (q ∷ []) 2 ≡ Err (refusal 17 0)
  pub slots_other :
      (l : List ℕ) (qs : List Query) (slots : ℕ) → Accepted l → 1 ≤ length qs → length qs ≤ 64 → (slots ≡ length qs → ⊥)
      → run_of l qs slots ≡ Err (refusal 17 0)
  pub rows_64 : (l : List ℕ) → Accepted l → queries_fault l 64 64 ≡ None
  pub refused_counts :
      (l : List ℕ) (qs : List Query) (slots : ℕ) (f : Refusal) → run_of l qs slots ≡ Err f → queries_fault l (length qs) slots ≡ Some f
  -- EachAnswered: a refused row's slot; OwnRow: two rows that change places, and a row by itself
  pub refused_said :
      (l : List ℕ) (q q' : Query) (f : Refusal) (y y' : Outcome Decision) → Accepted l → answer l q' ≡ Err f
      → get_or (answers_after l (q ∷ q' ∷ []) (y ∷ y' ∷ [])) 1 y ≡ Err f
  pub places_changed :
      (l : List ℕ) (q q' : Query) (y y' : Outcome Decision) → Accepted l
      → get_or (answers_after l (q ∷ q' ∷ []) (y ∷ y ∷ [])) 0 y ≡ get_or (answers_after l (q' ∷ q ∷ []) (y' ∷ y' ∷ [])) 1 y
  pub row_apart :
      (l : List ℕ) (qs : List Query) (ys : List (Outcome Decision)) (i : ℕ) (other : Query) (y : Outcome Decision)
      → queries_fault l (length qs) (length ys) ≡ None → i < length qs → Accepted l
      → get_or (answers_after l qs ys) i y ≡ get_or (answers_after l (get_or qs i other ∷ []) (y ∷ [])) 0 y
  -- SlotsLeft: whatever is refused: an image, 65 rows, a slot too many; no slot is added or lost
  pub refused_left :
      (l : List ℕ) (qs : List Query) (ys : List (Outcome Decision)) (f : Refusal) → run_of l qs (length ys) ≡ Err f → answers_after l qs ys ≡ ys
  pub slot_left : (l : List ℕ) (q : Query) (y y' : Outcome Decision) → Accepted l → answers_after l (q ∷ []) (y ∷ y' ∷ []) ≡ y ∷ y' ∷ []
  pub image_left : (l : List ℕ) (qs : List Query) (ys : List (Outcome Decision)) (f : Refusal) → check l ≡ Some f → answers_after l qs ys ≡ ys
  pub slots_65 : (qs : List Query) (ys : List (Outcome Decision)) → length qs ≡ 65 → answers_after sample qs ys ≡ ys
  pub slots_many : (l : List ℕ) (qs : List Query) (ys : List (Outcome Decision)) → length (answers_after l qs ys) ≡ length ys
  -- OneRow: by each answer; on an accepted image, and on one that is refused
  pub permitted_fit : (l : List ℕ) (q : Query) (r : ℕ) → answer l q ≡ Ok (Permitted r) → run_of l (q ∷ []) 1 ≡ Ok None
  pub not_permitted_unfit : (l : List ℕ) (q : Query) → Accepted l → (x : Nearest) → answer l q ≡ Ok (NotPermitted x) → run_of l (q ∷ []) 1 ≡ Ok (Some 0)
  pub unknown_unfit : (l : List ℕ) (q : Query) (r c : ℕ) → Accepted l → answer l q ≡ Ok (UnKnown r c) → run_of l (q ∷ []) 1 ≡ Ok (Some 0)
  pub refused_row_unfit : (l : List ℕ) (q : Query) (f : Refusal) → Accepted l → answer l q ≡ Err f → run_of l (q ∷ []) 1 ≡ Ok (Some 0)
  pub one_said : (y : Outcome Decision) → answers_after sample (off_rule ∷ []) (y ∷ []) ≡ Ok (NotPermitted (Some (near 1 0))) ∷ []
  pub one_fit : run_of sample (transition ∷ []) 1 ≡ Ok None
  pub one_unfit : run_of sample (off_rule ∷ []) 1 ≡ Ok (Some 0)
  pub one_refused :
      (q : Query) (y : Outcome Decision)
      → (run_of (take 79 sample) (q ∷ []) 1 ≡ Err (refusal 3 0)) × (answers_after (take 79 sample) (q ∷ []) (y ∷ []) ≡ y ∷ [])
  -- RunCases, NumberCases: all of them
  pub run_cases_all : (length run_cases ≡ 29) × (length number_cases ≡ 21)

pub record NearingMet : Type 0 where
  -- StepsInOrder: each step by itself, stopped there; and past the last
  pub off_none : (a : Request) (r : Rule) → r.on ≡ false → steps a r ≡ 0
  pub source_one : (a : Request) (r : Rule) → r.on ≡ true → within a.source r.source ≡ false → steps a r ≡ 1
  pub dest_two :
      (a : Request) (r : Rule) → r.on ≡ true → within a.source r.source ≡ true → within a.dest r.dest ≡ false → steps a r ≡ 2
  pub class_three :
      (a : Request) (r : Rule) → r.on ≡ true → within a.source r.source ≡ true → within a.dest r.dest ≡ true
      → asks r.class a.class ≡ false → steps a r ≡ 3
  pub action_four :
      (a : Request) (r : Rule) → r.on ≡ true → within a.source r.source ≡ true → within a.dest r.dest ≡ true
      → asks r.class a.class ≡ true → asks r.action a.action ≡ false → steps a r ≡ 4
  pub all_five :
      (a : Request) (r : Rule) → r.on ≡ true → within a.source r.source ≡ true → within a.dest r.dest ≡ true
      → asks r.class a.class ≡ true → asks r.action a.action ≡ true → steps a r ≡ 5
  -- CoversAll: both ways
  pub covered_five : (a : Request) (r : Rule) → covers a r ≡ true → steps a r ≡ 5
  pub five_covers : (a : Request) (r : Rule) → steps a r ≡ 5 → covers a r ≡ true
  pub uncovered_four : (a : Request) (r : Rule) → covers a r ≡ false → steps a r ≤ 4
  -- StepsOfRecord: the sample's rule 3, which is off, of every query; the same rule by switch 0, under an even word and under an odd one;
  -- its transition, rule 2, and its rule 0, by each step that fails
  pub rule_3_none : (q : Query) → steps_at (policy_of sample) q 3 ≡ 0
  pub switch_none : (s d c a w : ℕ) → w % 2 ≡ 0 → steps_at (policy_of (sample_if 2)) (query_of s d c a w) 3 ≡ 0
  pub switch_one :
      (s d c a w : ℕ) → w % 2 ≡ 1
      → source_in (policy_of (sample_if 2)) (query_of s d c a w) (get_or (policy_of (sample_if 2)).rules 3 []) ≡ false
      → steps_at (policy_of (sample_if 2)) (query_of s d c a w) 3 ≡ 1
  pub rule_2_one : (q : Query) → source_in (policy_of sample) q (get_or (policy_of sample).rules 2 []) ≡ false → steps_at (policy_of sample) q 2 ≡ 1
  pub rule_2_two :
      (q : Query) → source_in (policy_of sample) q (get_or (policy_of sample).rules 2 []) ≡ true
      → dest_in (policy_of sample) q (get_or (policy_of sample).rules 2 []) ≡ false → steps_at (policy_of sample) q 2 ≡ 2
  pub rule_2_all :
      (q : Query) → source_in (policy_of sample) q (get_or (policy_of sample).rules 2 []) ≡ true
      → dest_in (policy_of sample) q (get_or (policy_of sample).rules 2 []) ≡ true → steps_at (policy_of sample) q 2 ≡ 5
  pub rule_0_source : (q : Query) → source_in (policy_of sample) q (get_or (policy_of sample).rules 0 []) ≡ false → steps_at (policy_of sample) q 0 ≡ 1
  pub rule_0_two :
      (q : Query) → source_in (policy_of sample) q (get_or (policy_of sample).rules 0 []) ≡ true
      → dest_in (policy_of sample) q (get_or (policy_of sample).rules 0 []) ≡ false → steps_at (policy_of sample) q 0 ≡ 2
  pub rule_0_three :
      (q : Query) → source_in (policy_of sample) q (get_or (policy_of sample).rules 0 []) ≡ true
      → dest_in (policy_of sample) q (get_or (policy_of sample).rules 0 []) ≡ true → (q.class ≡ 5 → ⊥) → steps_at (policy_of sample) q 0 ≡ 3
  pub rule_0_all :
      (q : Query) → source_in (policy_of sample) q (get_or (policy_of sample).rules 0 []) ≡ true
      → dest_in (policy_of sample) q (get_or (policy_of sample).rules 0 []) ≡ true → q.class ≡ 5 → q.action ≡ 1
      → steps_at (policy_of sample) q 0 ≡ 5
  pub rule_0_four :
      (q : Query) → source_in (policy_of sample) q (get_or (policy_of sample).rules 0 []) ≡ true
      → dest_in (policy_of sample) q (get_or (policy_of sample).rules 0 []) ≡ true → q.class ≡ 5 → (q.action ≡ 1 → ⊥)
      → steps_at (policy_of sample) q 0 ≡ 4
  -- DeniedSteps: the sample's transition, rule 2, of every query that is denied; the first rule of any policy
  pub rule_2_few :
      (q : Query) (x : Nearest) → answer sample q ≡ Ok (NotPermitted x)
      → (1 ≤ steps_at (policy_of sample) q 2) × (steps_at (policy_of sample) q 2 ≤ 2)
  pub first_few :
      (l : List ℕ) (q : Query) (x : Nearest) (r : List ℕ) (rs : List (List ℕ)) → answer l q ≡ Ok (NotPermitted x) → (policy_of l).rules ≡ r ∷ rs
      → steps_of (policy_of l) q r ≤ 4
  -- NearestPasses: rule 0 of the sample, where rule 3 is off; the rule named is one of the policy's, the last at most
  pub rule_0_one : steps_at (policy_of sample) (query 13 21 5 1) 0 ≡ 1
  pub named_last :
      (l : List ℕ) (q : Query) (s n k : ℕ) → answer l q ≡ Ok (NotPermitted (Some (near s n))) → length (policy_of l).rules ≡ suc k → n ≤ k
  pub named_passes : (l : List ℕ) (q : Query) (s n : ℕ) → answer l q ≡ Ok (NotPermitted (Some (near s n))) → s ≤ steps_at (policy_of l) q n
  pub named_few : (l : List ℕ) (q : Query) (s n : ℕ) → answer l q ≡ Ok (NotPermitted (Some (near s n))) → steps_at (policy_of l) q n ≤ 4
  -- NearestOfAll: the last rule passes no more, and each rule before the one named fewer
  pub last_no_more :
      (l : List ℕ) (q : Query) (s n k : ℕ) → answer l q ≡ Ok (NotPermitted (Some (near s n))) → length (policy_of l).rules ≡ suc k
      → steps_at (policy_of l) q k ≤ s
  pub lower_fewer :
      (l : List ℕ) (q : Query) (s n k : ℕ) → answer l q ≡ Ok (NotPermitted (Some (near s n))) → k < n → steps_at (policy_of l) q k < s
  -- NoRulesExactly: the empty policy, of every query of basic types; the sample never says so
  pub empty_no_rules : (q : Query) → q.source < 1024 → q.dest < 1024 → answer empty q ≡ Ok (NotPermitted None)
  pub sample_has_rules : (q : Query) → answer sample q ≡ Ok (NotPermitted None) → ⊥
  -- DecisionsStay: of each kind; the rule is the lowest record that permits, as the papers have it
  pub rule_before :
      (l : List ℕ) (q : Query) (r : ℕ) → answer l q ≡ Ok (Permitted r) → first_at (permits (policy_of l) q) 0 (policy_of l).rules ≡ Some r
  pub member_before : answer_before sample (query 10 21 5 1) ≡ Ok (allowed 0)
  pub off_before : answer_before sample (query 13 21 5 1) ≡ Ok denied
  pub unknown_before : answer_before (sample_and companion) (query 10 21 5 1) ≡ Ok (stopped 0 2)
  pub refused_before : answer_before sample (query 1024 21 5 1) ≡ Err (refusal 8 0)
  -- StepCases: all of them; two rules that are off, two that pass as many, the last rule
  pub step_cases_all : length step_cases ≡ 23
  pub all_off_near :
      answer (extended (extended empty (off (allow 10 21 5 1))) (off (allow 10 21 5 2))) (query 10 21 5 1) ≡ Ok (NotPermitted (Some (near 0 0)))
  pub lowest_near : answer (extended (extended empty (allow 10 21 5 1)) (allow 10 21 5 2)) (query 10 21 5 3) ≡ Ok (NotPermitted (Some (near 4 0)))
  pub last_rule_near : answer (sample_and (allow 14 21 5 7)) (query 14 21 5 8) ≡ Ok (NotPermitted (Some (near 4 4)))

pub record BuildingMet : Type 0 where
  -- EachRowAdded: the answer is the image's length; the records of the rows, each added, the buffer and the count of them; a text with a
  -- row outside the form is refused; the sample has 7 rows
  pub answer_length : (text b : List ℕ) (n : ℕ) → (built text b).answer ≡ Ok n → n ≡ length (image_in (left text b))
  pub rows_left :
      (text b : List ℕ) (n : ℕ) (rs : List (List ℕ)) → (built text b).answer ≡ Ok n → records_in (split 10 text) ≡ Some rs
      → (left text b ≡ add_all (overwrite empty b) rs) × (record_count (left text b) ≡ length rs) × all_added (overwrite empty b) rs
  pub outside_refused : (text b : List ℕ) (n : ℕ) → records_in (split 10 text) ≡ None → (built text b).answer ≡ Ok n → ⊥
  pub sample_seven : record_count (sample ++ replicate 3 7) ≡ 7
  -- RowsEnough: no record, one, any; in a buffer of 9 bytes too
  pub no_record :
      (text b : List ℕ) → 9 ≤ length b → records_in (split 10 text) ≡ Some [] → built text b ≡ complete (overwrite empty b)
  pub one_record :
      (text b r : List ℕ) → 9 ≤ length b → records_in (split 10 text) ≡ Some (r ∷ []) → add_fault (overwrite empty b) r ≡ None
      → built text b ≡ complete (buffer_after (overwrite empty b) r)
  pub no_record_refused :
      (text b : List ℕ) (rs : List (List ℕ)) (f : Refusal) → 9 ≤ length b → records_in (split 10 text) ≡ Some rs
      → all_added (overwrite empty b) rs → (built text b).answer ≡ Err f → ⊥
  pub nine_bytes : (b : List ℕ) → length b ≡ 9 → built [] b ≡ complete (overwrite empty b)
  -- BuiltAccepted: of every text; the bytes past the image are those of before, and none is added or lost; in a buffer of 9 bytes too
  pub left_accepted : (text b : List ℕ) → 9 ≤ length b → check_front (left text b) ≡ None
  pub left_well_formed : (text b : List ℕ) → 9 ≤ length b → WellFormed (policy_of (image_in (left text b)))
  pub left_behind :
      (text b : List ℕ) → 9 ≤ length b
      → (drop (length (image_in (left text b))) (left text b) ≡ drop (length (image_in (left text b))) b) × (length (left text b) ≡ length b)
  pub nine_accepted : (text b : List ℕ) → length b ≡ 9 → check_front (left text b) ≡ None
  -- LastLineFeed: behind no byte, behind any text, and one more, in any buffer
  pub feed_alone : (b : List ℕ) → built (10 ∷ []) b ≡ built [] b
  pub feed_behind : (text b : List ℕ) → left (text ++ (10 ∷ [])) b ≡ left text b
  pub feeds_behind : (text b : List ℕ) → built (text ++ (10 ∷ 10 ∷ [])) b ≡ built text b
  -- LastRowCounts: any row alone, `trans 12 20 5` alone, and behind any text
  pub row_counts :
      (row b : List ℕ) (n : ℕ) → split 10 row ≡ row ∷ [] → 1 ≤ length row → (built row b).answer ≡ Ok n → record_count (left row b) ≡ 1
  pub trans_counts : (b : List ℕ) (n : ℕ) → (built trans b).answer ≡ Ok n → record_count (left trans b) ≡ 1
  pub trans_behind :
      (text b : List ℕ) (n : ℕ) → (built (text ++ (10 ∷ trans)) b).answer ≡ Ok n
      → record_count (left (text ++ (10 ∷ trans)) b) ≡ suc (record_count (left text b))
  -- NextRows: behind an empty row; a row outside the form, with its place, behind any text and behind any number of empty rows; no
  -- place before it
  pub next_first : (more b : List ℕ) → 9 ≤ length b → built (10 ∷ more) b ≡ rows_from 1 (split 10 more) (overwrite empty b)
  pub next_outside :
      (text b : List ℕ) (n : ℕ) → (built text b).answer ≡ Ok n
      → built (text ++ (10 ∷ ascii "x")) b ≡ record { answer = Err (refusal 18 (suc (length text))); buffer = left text b }
  pub far_outside :
      (n : ℕ) (b : List ℕ) → 9 ≤ length b
      → built (outside_behind n) b ≡ record { answer = Err (refusal 18 (suc n)); buffer = overwrite empty b }
  pub next_place :
      (text more b : List ℕ) (n : ℕ) (f : Refusal) → (built text b).answer ≡ Ok n → (built (text ++ (10 ∷ more)) b).answer ≡ Err f
      → suc (length text) ≤ f.place
  -- RefusedStops: whatever follows, of the answer and of the buffer; a first row outside the form
  pub refused_whatever :
      (text more b : List ℕ) (f : Refusal) → (built text b).answer ≡ Err f
      → ((built (text ++ (10 ∷ more)) b).answer ≡ Err f) × (left (text ++ (10 ∷ more)) b ≡ left text b)
  pub first_outside :
      (more b : List ℕ) → 9 ≤ length b
      → built (ascii "x" ++ (10 ∷ more)) b ≡ record { answer = Err (refusal 18 0); buffer = overwrite empty b }
  -- RefusedKeeps: the place is one of the text, the first or behind a line feed; the text before it is not refused, and leaves the same;
  -- in a buffer of 9 bytes too
  pub place_inside : (text b : List ℕ) (f : Refusal) → 9 ≤ length b → (built text b).answer ≡ Err f → suc f.place ≤ length text
  pub place_behind :
      (text b : List ℕ) (f : Refusal) (n : ℕ) → 9 ≤ length b → (built text b).answer ≡ Err f → f.place ≡ suc n → get_or text n 0 ≡ 10
  pub before_builds :
      (text b : List ℕ) (f : Refusal) → 9 ≤ length b → (built text b).answer ≡ Err f
      → ((n : ℕ) × ((built (take f.place text) b).answer ≡ Ok n)) × (left (take f.place text) b ≡ left text b)
  pub nine_refused : (text b : List ℕ) (f : Refusal) → length b ≡ 9 → (built text b).answer ≡ Err f → f.place < length text
  -- and the row there is the cause, whichever it is: outside the form, so 18; else its record, with the number of adding it
  pub row_refused :
      (text b : List ℕ) (f : Refusal) → 9 ≤ length b → (built text b).answer ≡ Err f
      → (row : List ℕ) × (rows : List (List ℕ)) × (split 10 (drop f.place text) ≡ row ∷ rows) × (1 ≤ length row)
  pub row_outside :
      (text b row : List ℕ) (rows : List (List ℕ)) (f : Refusal) → 9 ≤ length b → (built text b).answer ≡ Err f
      → split 10 (drop f.place text) ≡ row ∷ rows → record_of_row row ≡ None → f.number ≡ 18
  pub row_not_added :
      (text b row r : List ℕ) (rows : List (List ℕ)) (f : Refusal) → 9 ≤ length b → (built text b).answer ≡ Err f
      → split 10 (drop f.place text) ≡ row ∷ rows → record_of_row row ≡ Some r
      → (g : Refusal) × (add_fault (left text b) r ≡ Some g) × (f.number ≡ g.number)
  -- RefusedShort: 8 bytes, none, any below 9
  pub eight_bytes : (text b : List ℕ) → length b ≡ 8 → built text b ≡ record { answer = Err (refusal 13 0); buffer = b }
  pub no_bytes : (text : List ℕ) → built text [] ≡ record { answer = Err (refusal 13 0); buffer = [] }
  pub short_left : (text b : List ℕ) → length b ≤ 8 → left text b ≡ b
  -- OwnNumbers: one of the five; so neither 10, nor 14, nor 0
  pub own_alone :
      (text b : List ℕ) (f : Refusal) → (built text b).answer ≡ Err f → (f.number ≡ 11 → ⊥) → (f.number ≡ 12 → ⊥)
      → (f.number ≡ 13 → ⊥) → (f.number ≡ 18 → ⊥) → (f.number ≡ 20 → ⊥) → ⊥
  pub never_10 : (text b : List ℕ) (f : Refusal) → (built text b).answer ≡ Err f → f.number ≡ 10 → ⊥
  pub never_14 : (text b : List ℕ) (f : Refusal) → (built text b).answer ≡ Err f → f.number ≡ 14 → ⊥
  pub never_0 : (text b : List ℕ) (f : Refusal) → (built text b).answer ≡ Err f → f.number ≡ 0 → ⊥
  -- SpaceEnough: a buffer of 55,561 bytes, and of more; so what is refused there is a row's own, 11, 12, 18 or 20
  pub longest_enough : (text b : List ℕ) (f : Refusal) → length b ≡ 55561 → (built text b).answer ≡ Err f → f.number ≡ 13 → ⊥
  pub space_own :
      (text b : List ℕ) (f : Refusal) → 55561 ≤ length b → (built text b).answer ≡ Err f → (f.number ≡ 11 → ⊥) → (f.number ≡ 12 → ⊥)
      → (f.number ≡ 18 → ⊥) → (f.number ≡ 20 → ⊥) → ⊥
  -- WorkedRows, WorkedOutside, WorkedFull, WorkedTexts: all of them, and some by themselves
  pub worked_all : (length worked_rows ≡ 17) × (length outside_rows ≡ 92) × (length worked_texts ≡ 28)
  pub off_row :
      record_of_row (ascii "allow g32767 32767 65535 0 off") ≡ Some (11 ∷ 2 ∷ 255 ∷ 255 ∷ 127 ∷ 255 ∷ 255 ∷ 255 ∷ 0 ∷ 0 ∷ 0 ∷ [])
  pub switch_0_row : record_of_row (ascii "allow 10 g0 5 1 s0") ≡ Some (11 ∷ 2 ∷ 0 ∷ 10 ∷ 128 ∷ 0 ∷ 0 ∷ 5 ∷ 0 ∷ 1 ∷ 2 ∷ [])
  pub switch_31_row :
      record_of_row (ascii "allow g32767 32767 65535 0 s31") ≡ Some (11 ∷ 2 ∷ 255 ∷ 255 ∷ 127 ∷ 255 ∷ 255 ∷ 255 ∷ 0 ∷ 0 ∷ 33 ∷ [])
  pub list_row :
      record_of_row (ascii "limit 1 2 3 4 2 g5 6") ≡ Some (15 ∷ 4 ∷ 0 ∷ 1 ∷ 0 ∷ 2 ∷ 0 ∷ 3 ∷ 0 ∷ 4 ∷ 2 ∷ 128 ∷ 5 ∷ 0 ∷ 6 ∷ [])
  pub return_outside : record_of_row (ascii "group 1\r") ≡ None
  pub zero_outside : record_of_row (ascii "group 01") ≡ None
  pub class_outside : record_of_row (ascii "allow 1 2 65536 4 on") ≡ None
  pub switch_32_outside : record_of_row (ascii "allow 1 2 3 4 s32") ≡ None
  pub switch_01_outside : record_of_row (ascii "allow 1 2 3 4 s01") ≡ None
  pub zero_byte : record_of_row (ascii "group 1" ++ (0 ∷ [])) ≡ None
  pub high_byte : record_of_row (ascii "group " ++ (177 ∷ [])) ≡ None
  pub members_outside : record_of_row (ascii "group" ++ group_of (members 65)) ≡ None
  pub members_most : record_of_row (ascii "group" ++ group_of (members 64)) ≡ Some (130 ∷ 1 ∷ group_of (replicate 64 (0 ∷ 7 ∷ [])))
  pub full_12 : row_fault 5 (ascii "group 256") full_groups ≡ Some (refusal 12 5)
  pub full_20 : row_fault 5 (ascii "group 255") full_groups ≡ Some (refusal 20 5)
  pub full_18 : row_fault 5 (ascii "x") full_groups ≡ Some (refusal 18 5)
  pub full_11 : row_fault 5 (ascii "group 1024") full_groups ≡ Some (refusal 11 5)
  pub full_13 : row_fault 5 (ascii "trans 1 g255 3") full_groups ≡ Some (refusal 13 5)
  pub sample_built : built sample_bytes (replicate 83 7) ≡ record { answer = Ok 80; buffer = sample ++ replicate 3 7 }
  pub trans_built : built trans (replicate 17 7) ≡ record { answer = Ok 17; buffer = one_transition }
  pub trans_short : built trans (replicate 16 7) ≡ record { answer = Err (refusal 13 0); buffer = empty ++ replicate 7 7 }
  pub outside_full :
      built (ascii "trans 12 20 5\nx") (replicate 17 7) ≡ record { answer = Err (refusal 18 14); buffer = one_transition }
  pub switch_built : built (ascii "allow 12 20 5 1 s31") (replicate 20 7) ≡ record { answer = Ok 20; buffer = one_switched }
  pub return_refused : built (ascii "group 1\r\n") (replicate 13 7) ≡ record { answer = Err (refusal 18 0); buffer = empty ++ replicate 4 7 }

-- the first k records of a section pass; and all that the header counts
abbrev pub Pass : List ℕ → Section → ℕ → Type 0
Pass l s k = section_fault l s (start_of l s) k ≡ None

abbrev pub AllPass : List ℕ → Section → Type 0
AllPass l s = Pass l s (count_of l s)

-- a place of the longest image
abbrev pub LongestAt : Section → ℕ → ℕ → Type 0
LongestAt s k p = Reaches (image_of longest) s k × (place_of (image_of longest) s k ≡ p)

pub record ReachingMet : Type 0 where
  -- PlacesBounded: every image whose header passes, however its length field is compared, past k records that pass, in numbers
  pub group_places :
      (fits : ℕ → ℕ → Bool) (l : List ℕ) → header_fault fits l ≡ None → (k : ℕ) → k ≤ count_of l Groups → Pass l Groups k
      → (place_of l Groups k ≤ 9 + 130 * k) × (place_of l Groups k ≤ 55561)
  pub rule_places :
      (fits : ℕ → ℕ → Bool) (l : List ℕ) → header_fault fits l ≡ None → AllPass l Groups
      → (k : ℕ) → k ≤ count_of l Rules → Pass l Rules k
      → (place_of l Rules k ≤ 33289 + 11 * k) × (place_of l Rules k ≤ 55561)
  pub constraint_places :
      (fits : ℕ → ℕ → Bool) (l : List ℕ) → header_fault fits l ≡ None → AllPass l Groups → AllPass l Rules
      → (k : ℕ) → k ≤ count_of l Constraints → Pass l Constraints k
      → (place_of l Constraints k ≤ 44553 + 43 * k) × (place_of l Constraints k ≤ 55561)
  pub next_length :
      (fits : ℕ → ℕ → Bool) (l : List ℕ) → Bytes l → header_fault fits l ≡ None → (s : Section) (k : ℕ) → Reaches l s k
      → place_of l s k + get_or l (place_of l s k) 0 ≤ 55816
  -- StopsReached: where each of 5, 6 and 7 stands, in every image; the sample cut, with a bad field, with a byte behind it
  pub malformed :
      (fits : ℕ → ℕ → Bool) (l : List ℕ) → header_fault fits l ≡ None → (p : ℕ) → body_fault l ≡ Some (refusal 5 p)
      → (s : Section) × (k : ℕ) × Reaches l s k × (k < count_of l s) × (p ≡ place_of l s k)
  pub bad_field_lem :
      (fits : ℕ → ℕ → Bool) (l : List ℕ) → header_fault fits l ≡ None → (p : ℕ) → body_fault l ≡ Some (refusal 6 p)
      → (s : Section) × (k : ℕ) × (i : ℕ) × Reaches l s k
      × (k < count_of l s) × (i < get_or l (place_of l s k) 0) × (p ≡ place_of l s k + i)
  pub bytes_behind :
      (fits : ℕ → ℕ → Bool) (l : List ℕ) → header_fault fits l ≡ None → (p : ℕ) → body_fault l ≡ Some (refusal 7 p)
      → Reaches l Constraints (count_of l Constraints) × (p ≡ place_of l Constraints (count_of l Constraints))
  pub stop_places :
      (fits : ℕ → ℕ → Bool) (l : List ℕ) → header_fault fits l ≡ None → (f : Refusal) → body_fault l ≡ Some f → f.place ≤ 55561
  pub cut_stops : Stops cut_sample (refusal 5 69)
  pub bad_stops : Stops bad_sample (refusal 6 25)
  pub long_stops : Stops long_sample (refusal 7 80)
  -- BoundReached: the longest image, past each of its records
  pub longest_header : header_fault eqb (image_of longest) ≡ None
  pub longest_groups : (k : ℕ) → k ≤ 256 → LongestAt Groups k (9 + 130 * k)
  pub longest_rules : (k : ℕ) → k ≤ 1024 → LongestAt Rules k (33289 + 11 * k)
  pub longest_constraints : (k : ℕ) → k ≤ 256 → LongestAt Constraints k (44553 + 43 * k)
  pub longest_end : end_of (image_of longest) ≡ 55561

abbrev pub separated : List ℕ
separated = sample_and (allow 10 30 5 3)

abbrev pub switched : List ℕ
switched = sample_and (allow_if 7 (allow 10 30 5 3))

abbrev pub shared : Query
shared = query 20 30 5 2

abbrev pub one_long : Rule → Bool
one_long a = eqb (length a.source) 1

abbrev pub SameRule : List ℕ → Query → ℕ → Type 0
SameRule l q r = (answer l q ≡ Ok (Permitted r)) ⊎ ((c : ℕ) × (answer l q ≡ Ok (UnKnown r c)))

pub record SeparatingMet : Type 0 where
  -- SeparationMeans: any two rules, or one that is both, and no others: with no type from both, and with no live rule, a separation holds
  pub two_rules :
      (rs : List Rule) (c : Constraint) (x : ℕ) (a b : Rule) → Memᴰ a rs → Memᴰ b rs → live a ≡ true → live b ≡ true
      → touches a.dest c.first ≡ true → touches b.dest c.second ≡ true
      → is_in x a.source ≡ true → is_in x b.source ≡ true → separation_broken rs c ≡ true
  pub one_rule :
      (c : Constraint) (x : ℕ) (a : Rule) → live a ≡ true → touches a.dest c.first ≡ true → touches a.dest c.second ≡ true
      → is_in x a.source ≡ true → separation_broken (a ∷ []) c ≡ true
  pub none_shared :
      (rs : List Rule) (c : Constraint) → ((x : ℕ) → From rs c.first x → From rs c.second x → ⊥) → separation_broken rs c ≡ false
  pub none_live : (rs : List Rule) (c : Constraint) → any_of live rs ≡ false → separation_broken rs c ≡ false
  -- the story, under every word: 20 is in the source of rule 4, which reaches 20, and in that of rule 1, which reaches 30
  pub story_first : (w : ℕ) → From (rules_of (policy_of story) w) (20 ∷ []) 20
  pub story_second : (w : ℕ) → From (rules_of (policy_of story) w) (30 ∷ []) 20
  pub story_broken :
      (w : ℕ) (c : Constraint) → c.first ≡ 20 ∷ [] → c.second ≡ 30 ∷ [] → separation_broken (rules_of (policy_of story) w) c ≡ true
  -- SeparationRead: any two records of rules that are on under a word, and no others; the story's, and the sample's own separation; the
  -- same separation by rule 0 and a rule of switch 5, under the word 32; no rule that is on
  pub two_records :
      (p : Policy) (w : ℕ) (r : List ℕ) (x y z : ℕ) (a b : List ℕ) → get_or r 10 0 ≡ 1 → Memᴰ a p.rules → Memᴰ b p.rules
      → get_or a 1 0 ≡ 2 → is_on w (get_or a 10 0) ≡ true → get_or b 1 0 ≡ 2 → is_on w (get_or b 10 0) ≡ true
      → is_in y (set_of p.groups (word_at a 4)) ≡ true → is_in y (set_of p.groups (word_at r 6)) ≡ true
      → is_in z (set_of p.groups (word_at b 4)) ≡ true → is_in z (set_of p.groups (word_at r 8)) ≡ true
      → is_in x (set_of p.groups (word_at a 2)) ≡ true → is_in x (set_of p.groups (word_at b 2)) ≡ true
      → broken (rules_of p w) (constraint_of p r) ≡ true
  pub none_in_records :
      (p : Policy) (w : ℕ) (r : List ℕ) → get_or r 10 0 ≡ 1 → ((x : ℕ) → FromRecord p w (word_at r 6) x → FromRecord p w (word_at r 8) x → ⊥)
      → broken (rules_of p w) (constraint_of p r) ≡ false
  pub story_from_record : (w : ℕ) → FromRecord (policy_of story) w 20 20 × FromRecord (policy_of story) w 30 20
  pub story_read :
      (w : ℕ) → broken (rules_of (policy_of story) w) (constraint_of (policy_of story) (get_or (policy_of sample).constraints 1 [])) ≡ true
  pub switched_from_record : FromRecord (policy_of switched) 32 20 10 × FromRecord (policy_of switched) 32 30 10
  pub switched_read : broken (rules_of (policy_of switched) 32) (constraint_of (policy_of switched) (get_or (policy_of sample).constraints 1 [])) ≡ true
  pub none_on :
      (p : Policy) (w : ℕ) (r : List ℕ) → get_or r 10 0 ≡ 1 → ((b : List ℕ) → Memᴰ b p.rules → is_on w (get_or b 10 0) ≡ true → ⊥)
      → broken (rules_of p w) (constraint_of p r) ≡ false
  -- SeparationKept: any rules more, the sample's too; a wider rule for any rule; without a rule that is not live
  pub more_rules : (rs more : List Rule) (c : Constraint) → separation_broken rs c ≡ true → separation_broken (rs ++ more) c ≡ true
  pub sample_wider : (w : ℕ) → Wider (rules_of (policy_of sample) w) (rules_of (policy_of separated) w)
  pub wider_rule :
      (rs : List Rule) (c : Constraint) (a b : Rule) → live b ≡ true → within a.source b.source ≡ true → within a.dest b.dest ≡ true
      → separation_broken (a ∷ rs) c ≡ true → separation_broken (b ∷ rs) c ≡ true
  pub off_rule_lem : (rs : List Rule) (c : Constraint) (a : Rule) → live a ≡ false → separation_broken (a ∷ rs) c ≡ true → separation_broken rs c ≡ true
  -- SeparationStays, AnswersStay: the sample, with a rule more too; every policy without a live rule
  pub sample_one_type : (w : ℕ) → OneType (rules_of (policy_of sample) w)
  pub sample_separations :
      (w : ℕ) (c : Constraint) → separation_broken (rules_of (policy_of sample) w) c ≡ separation_was (rules_of (policy_of sample) w) c
  pub sample_stays : (q : Query) → answer sample q ≡ answer_was sample q
  pub separated_stays : answer_was separated shared ≡ Ok (UnKnown 1 1)
  pub one_long_separations : (rs : List Rule) (c : Constraint) → all_of one_long rs ≡ true → separation_broken rs c ≡ separation_was rs c
  pub one_long_stays : (l : List ℕ) (q : Query) → all_of one_long (rules_of (policy_of l) q.switches) ≡ true → answer l q ≡ answer_was l q
  pub none_live_stays : (l : List ℕ) (q : Query) → any_of live (rules_of (policy_of l) q.switches) ≡ false → answer l q ≡ answer_was l q
  -- and not every policy: the story was Permitted
  pub story_was : answer_was story shared ≡ Ok (Permitted 1)
  pub story_is : answer story shared ≡ Ok (UnKnown 1 1)
  pub story_changed : answer story shared ≡ answer_was story shared → ⊥
  pub story_not_one_type : OneType (rules_of (policy_of story) 0) → ⊥
  -- AnswersRise: the story; what was Permitted is not denied, what was UnKnown stays so, and nothing is refused that was not
  pub story_above : DecidedAbove story shared (Permitted 1)
  pub permitted_above : (l : List ℕ) (q : Query) (r : ℕ) → answer_was l q ≡ Ok (Permitted r) → AtLeast 1 l q
  pub unknown_above : (l : List ℕ) (q : Query) (r c : ℕ) → answer_was l q ≡ Ok (UnKnown r c) → AtLeast 2 l q
  pub none_refused : (l : List ℕ) (q : Query) (d : Decision) (f : Refusal) → answer_was l q ≡ Ok d → answer l q ≡ Err f → ⊥
  -- AnswersChange: the story; what was denied or refused stays so, and nothing is denied or refused that was not
  pub story_raised : Raised story shared
  pub denied_stays : (l : List ℕ) (q : Query) (x : Nearest) → answer_was l q ≡ Ok (NotPermitted x) → answer l q ≡ Ok (NotPermitted x)
  pub denied_was : (l : List ℕ) (q : Query) (x : Nearest) → answer l q ≡ Ok (NotPermitted x) → answer_was l q ≡ Ok (NotPermitted x)
  pub refused_stays : (l : List ℕ) (q : Query) (f : Refusal) → answer_was l q ≡ Err f → answer l q ≡ Err f
  pub permitted_was : (l : List ℕ) (q : Query) (r : ℕ) → answer l q ≡ Ok (Permitted r) → answer_was l q ≡ Ok (Permitted r)
  -- what changed is UnKnown now, names a separation, and has its rule of before; an UnKnown is so by that constraint or a lower one
  pub changed_separates :
      (l : List ℕ) (q : Query) → (answer l q ≡ answer_was l q → ⊥)
      → (r c : ℕ) × (answer l q ≡ Ok (UnKnown r c)) × (get_or (get_or (policy_of l).constraints c []) 10 0 ≡ 1)
  pub permitted_kept : (l : List ℕ) (q : Query) (r : ℕ) → answer_was l q ≡ Ok (Permitted r) → SameRule l q r
  pub unknown_kept :
      (l : List ℕ) (q : Query) (r k : ℕ) → answer_was l q ≡ Ok (UnKnown r k) → (c : ℕ) × (c ≤ k) × (answer l q ≡ Ok (UnKnown r c))
  -- SharedCases, SharedWas: all of them; one rule that reaches both, a rule that is off, a query that is not within the arguments
  pub shared_all : (length shared_cases ≡ 20) × (length was_cases ≡ 5)
  pub both_reached : answer (extended (sample_and (allow 20 21 5 4)) separation) (query 20 21 5 4) ≡ Ok (UnKnown 4 2)
  pub off_shared : answer (sample_and (off (allow 10 30 5 3))) shared ≡ Ok (Permitted 1)
  pub elsewhere_inside : answer elsewhere (query 40 30 5 2) ≡ Ok (UnKnown 5 2)
  pub elsewhere_outside : answer elsewhere shared ≡ Ok (Permitted 1)
  pub same_source_was : answer_was (sample_and (allow 20 20 5 3)) shared ≡ Ok (UnKnown 1 1)

abbrev pub all_on : ℕ
all_on = 4294967295

pub record SwitchRows : Type 0 where
  pub many : length switch_cases ≡ 25
  pub switch_0_none : answer (sample_if 2) (query_of 13 21 5 1 0) ≡ Ok (NotPermitted (Some (near 1 0)))
  pub switch_0_on : answer (sample_if 2) (query_of 13 21 5 1 1) ≡ Ok (Permitted 3)
  pub switch_0_off : answer (sample_if 2) (query_of 13 21 5 1 2) ≡ Ok (NotPermitted (Some (near 1 0)))
  pub switch_1_on : answer (sample_if 3) (query_of 13 21 5 1 2) ≡ Ok (Permitted 3)
  pub switch_1_off : answer (sample_if 3) (query_of 13 21 5 1 1) ≡ Ok (NotPermitted (Some (near 1 0)))
  pub switch_16_on : answer (sample_if 18) (query_of 13 21 5 1 0x10000) ≡ Ok (Permitted 3)
  pub switch_16_off : answer (sample_if 18) (query_of 13 21 5 1 0xFFFEFFFF) ≡ Ok (NotPermitted (Some (near 1 0)))
  pub switch_31_on : answer (sample_if 33) (query_of 13 21 5 1 0x80000000) ≡ Ok (Permitted 3)
  pub switch_31_off : answer (sample_if 33) (query_of 13 21 5 1 0x7FFFFFFF) ≡ Ok (NotPermitted (Some (near 1 0)))
  pub switch_15_all : answer (sample_if 17) (query_of 13 21 5 1 all_on) ≡ Ok (Permitted 3)
  pub near_on : answer (sample_if 2) (query_of 13 21 5 2 1) ≡ Ok (NotPermitted (Some (near 4 3)))
  pub near_off : answer (sample_if 2) (query_of 13 21 5 2 0) ≡ Ok (NotPermitted (Some (near 1 0)))
  pub on_none : answer sample (query_of 10 21 5 1 0) ≡ Ok (Permitted 0)
  pub on_all : answer sample (query_of 10 21 5 1 all_on) ≡ Ok (Permitted 0)
  pub off_all : answer sample (query_of 13 21 5 1 all_on) ≡ Ok (NotPermitted (Some (near 1 0)))
  pub transition_none : answer sample (query_of 12 20 9 9 0) ≡ Ok (Permitted 2)
  pub transition_all : answer sample (query_of 12 20 9 9 all_on) ≡ Ok (Permitted 2)
  pub switched_on : answer switched (query_of 20 30 5 2 32) ≡ Ok (UnKnown 1 1)
  pub switched_off : answer switched (query_of 20 30 5 2 31) ≡ Ok (Permitted 1)
  pub roster_on : answer (sample_and (allow_if 7 (allow 14 g0 7 7))) (query_of 10 21 5 1 32) ≡ Ok (UnKnown 0 0)
  pub roster_off : answer (sample_and (allow_if 7 (allow 14 g0 7 7))) (query_of 10 21 5 1 31) ≡ Ok (Permitted 0)
  pub helped_off : answer (extended (sample_and companion) (allow_if 7 (allow 21 10 5 9))) (query_of 10 21 5 1 31) ≡ Ok (UnKnown 0 2)
  pub helped_on : answer (extended (sample_and companion) (allow_if 7 (allow 21 10 5 9))) (query_of 10 21 5 1 32) ≡ Ok (Permitted 0)
  pub condition_34 : answer (sample_if 34) (query_of 10 21 5 1 0) ≡ Err (refusal 6 55)
  pub condition_255 : answer (sample_if 255) (query_of 10 21 5 1 0) ≡ Err (refusal 6 55)

pub record SwitchingMet : Type 0 where
  -- ConditionMeans: 0 and 1 under every word; a switch's by the word divided by 2^k, rounded down, both ways; without a switch on
  pub byte_0 : (w : ℕ) → is_on w 0 ≡ false
  pub byte_1 : (w : ℕ) → is_on w 1 ≡ true
  pub odd_on : (w k : ℕ) → w / 2 ^ k % 2 ≡ 1 → is_on w (2 + k) ≡ true
  pub on_odd : (w k : ℕ) → is_on w (2 + k) ≡ true → w / 2 ^ k % 2 ≡ 1
  pub none_on : (k : ℕ) → is_on 0 (2 + k) ≡ false
  -- OneSwitch: each of the 32 switches, with each of the 32 conditions; switch 31
  pub one_on : (k j : ℕ) → k < 32 → j < 32 → is_on (2 ^ k) (2 + j) ≡ eqb k j
  pub one_off : (k j : ℕ) → k < 32 → j < 32 → is_on (all_on - 2 ^ k) (2 + j) ≡ not (eqb k j)
  pub switch_31 : (is_on 0x80000000 33 ≡ true) × (is_on 0x7FFFFFFF 33 ≡ false)
  -- WordUnread: every policy whose allow rules have conditions 0 and 1; the sample, which has a transition too
  pub plain_unread :
      (l : List ℕ) (s d c a v w : ℕ) → ((r : List ℕ) → Memᴰ r (policy_of l).rules → get_or r 1 0 ≡ 2 → get_or r 10 0 ≤ 1)
      → answer l (query_of s d c a v) ≡ answer l (query_of s d c a w)
  pub sample_no_switches : NoSwitches (policy_of sample)
  pub sample_unread : (s d c a v w : ℕ) → answer sample (query_of s d c a v) ≡ answer sample (query_of s d c a w)
  -- AnswersSettled: every accepted image, in numbers; the sample with its rule 3 by switch 0: with the switch on it answers as the one
  -- with that rule on, and with the switch off as the sample, under every word
  pub any_settled :
      (l : List ℕ) (s d c a v w : ℕ) → Bytes l → Accepted l
      → answer (image_of (settled v (policy_of l))) (query_of s d c a w) ≡ answer l (query_of s d c a v)
  pub sample_if_on : (s d c a w : ℕ) → answer (sample_if 1) (query_of s d c a w) ≡ answer (sample_if 2) (query_of s d c a 1)
  pub sample_if_off : (s d c a w : ℕ) → answer sample (query_of s d c a w) ≡ answer (sample_if 2) (query_of s d c a 0)
  pub settled_accepted : (l : List ℕ) (w : ℕ) → Bytes l → Accepted l → Accepted (image_of (settled w (policy_of l)))
  pub settled_plain : (p : Policy) (w : ℕ) (r : List ℕ) → Memᴰ r p.rules → get_or r 1 0 ≡ 2 → get_or (settled_rule w r) 10 0 ≤ 1
  -- SwitchesAdd, with all that it says: any switches more, of any image; from none and to all; rule 3 of the sample by switch 0 is one
  -- rule more; the decision by the rules that are on, in numbers
  pub rules_more :
      (l : List ℕ) (v w : ℕ) → Accepted l → ((k : ℕ) → k < 32 → switch_on v k ≡ true → switch_on w k ≡ true)
      → ((r : List ℕ) → Memᴰ r (only_on v (policy_of l)).rules → Memᴰ r (only_on w (policy_of l)).rules)
      × ((c : List ℕ) → Memᴰ c (only_on v (policy_of l)).constraints → Memᴰ c (only_on w (policy_of l)).constraints)
      × (length (only_on v (policy_of l)).groups ≤ length (only_on w (policy_of l)).groups)
      × ((g : ℕ) → g < length (only_on v (policy_of l)).groups → get_or (only_on v (policy_of l)).groups g [] ≡ get_or (only_on w (policy_of l)).groups g [])
  pub none_grows : (l : List ℕ) (w : ℕ) → Accepted l → Grows (only_on 0 (policy_of l)) (only_on w (policy_of l))
  pub all_grows : (l : List ℕ) (v : ℕ) → Accepted l → Grows (only_on v (policy_of l)) (only_on all_on (policy_of l))
  pub one_rule_more : (length (only_on 0 (policy_of (sample_if 2))).rules ≡ 3) × (length (only_on 1 (policy_of (sample_if 2))).rules ≡ 4)
  pub as_high :
      (p : Policy) (s d c a v w : ℕ) → height (decide (only_on v p) (query_of s d c a w)) ≡ height (decide p (query_of s d c a v))
  -- SwitchOrder, with all its terms and no other; from no switch on, to all on; what switch 0 lets through stays so, whatever else is on
  pub switches_rise :
      (l : List ℕ) (s d c a v w : ℕ) (d₁ d₂ : Decision) → answer l (query_of s d c a v) ≡ Ok d₁ → answer l (query_of s d c a w) ≡ Ok d₂
      → ((k : ℕ) → k < 32 → switch_on v k ≡ true → switch_on w k ≡ true)
      → ((r : List ℕ) → Memᴰ r (policy_of l).constraints → get_or r 10 0 ≡ 3 → ⊥) → height d₁ ≤ height d₂
  pub from_none :
      (l : List ℕ) (s d c a w : ℕ) (d₁ d₂ : Decision) → answer l (query_of s d c a 0) ≡ Ok d₁ → answer l (query_of s d c a w) ≡ Ok d₂
      → NoCompanion (policy_of l).constraints → height d₁ ≤ height d₂
  pub to_all :
      (l : List ℕ) (s d c a v : ℕ) (d₁ d₂ : Decision) → answer l (query_of s d c a v) ≡ Ok d₁ → answer l (query_of s d c a all_on) ≡ Ok d₂
      → NoCompanion (policy_of l).constraints → height d₁ ≤ height d₂
  pub sample_if_stays : (w : ℕ) → switch_on w 0 ≡ true → AtLeast 1 (sample_if 2) (query_of 13 21 5 1 w)
  -- ConditionWords: every byte by its word, the first and the last written out; no other word, and none for a byte above 33
  pub each_word : (n : ℕ) → n ≤ 33 → value_of Condition (condition_word n) ≡ Some n
  pub words_said :
      (value_of Condition (ascii "off") ≡ Some 0) × (value_of Condition (ascii "on") ≡ Some 1) × (value_of Condition (ascii "s0") ≡ Some 2)
      × (value_of Condition (ascii "s31") ≡ Some 33)
  pub no_other_word :
      (word : List ℕ) (n : ℕ) → ((k : ℕ) → k ≤ 33 → word ≡ condition_word k → ⊥) → value_of Condition word ≡ Some n → ⊥
  pub no_byte_34 : (word : List ℕ) (n : ℕ) → 34 ≤ n → value_of Condition word ≡ Some n → ⊥
  -- SwitchCases: every row
  pub switch_rows : SwitchRows
  -- PublishedAnswer: under a word
  pub published_on : eval_policy (policy_of (sample_if 2)) (query_of 13 21 5 1 1) ≡ Dcs.Permitted
  pub published_off : eval_policy (policy_of switched) (query_of 20 30 5 2 31) ≡ Dcs.Permitted

pub record PrintingMet : Type 0 where
  -- DecimalFewest, DecimalRead: the largest usize
  pub largest_fewest : IsDigitCount 10 1 18446744073709551615 (width 18446744073709551615)
  pub largest_read : read_from 0 (decimal 18446744073709551615) ≡ 18446744073709551615
  -- AnyReads: byte by byte, in two reads that cut a query with one between that brings nothing, in one; no query; a refused image
  pub read_by_bytes : ran (sample ++ three_queries) (by_bytes three_queries) ≡ ascii three_said
  pub read_in_two : ran (sample ++ three_queries) (take 5 three_queries ∷ [] ∷ drop 5 three_queries ∷ []) ≡ ascii three_said
  pub read_at_once : ran (sample ++ three_queries) (three_queries ∷ []) ≡ ascii three_said
  pub none_asked : ran empty [] ≡ []
  pub refused_once : ran too_short (drop 9 too_short ∷ []) ≡ ascii "R 3 0\n"
  -- the header is read first: 9 bytes, as long as there are fewer
  pub header_first : image_size (take 8 sample) ≡ 9
  -- WorkedLines, WorkedRuns: all of them, and some by themselves
  pub lines_all : length worked_lines ≡ 10
  pub runs_all : length worked_runs ≡ 23
  pub near_line : line (Ok (NotPermitted (Some (near 4 1023)))) ≡ ascii "N 4 1023\n"
  pub no_rules_line : line (Ok (NotPermitted None)) ≡ ascii "N -\n"
  pub unknown_line : line (Ok (UnKnown 1023 255)) ≡ ascii "U 1023 255\n"
  pub three_printed : printed (sample ++ three_queries) ≡ ascii three_said
  pub eleven_left : printed (empty ++ replicate 11 0) ≡ ascii "R 15 0\n"
  pub switch_0_printed :
      printed (sample_if 2 ++ (asked_on (0 ∷ 0 ∷ 0 ∷ 1 ∷ []) 13 21 5 1 ++ asked 13 21 5 1)) ≡ ascii "P 3\nN 1 0\n"
  pub switch_31_printed :
      printed (sample_if 33 ++ (asked_on (128 ∷ 0 ∷ 0 ∷ 0 ∷ []) 13 21 5 1 ++ asked_on (0 ∷ 0 ∷ 0 ∷ 128 ∷ []) 13 21 5 1)) ≡ ascii "P 3\nN 1 0\n"
  -- AnyCompiled: byte by byte, in one read, in two with one between that brings nothing, in none; in a buffer of 9 bytes too
  pub compiled_by_bytes : (text b : List ℕ) → 9 ≤ length b → reads (begun b) (by_bytes text) ≡ compiled text b
  pub compiled_at_once : (text b : List ℕ) → 9 ≤ length b → reads (begun b) (text ∷ []) ≡ compiled text b
  pub compiled_in_two : (text more b : List ℕ) → 9 ≤ length b → reads (begun b) (text ∷ [] ∷ more ∷ []) ≡ compiled (text ++ more) b
  pub compiled_unread : (b : List ℕ) → length b ≡ 9 → reads (begun b) [] ≡ compiled [] b
  -- WorkedCompiled: all of them; the sample's text and a refused row, byte by byte
  pub compiled_all : length worked_compiled ≡ 7
  pub sample_compiled : reads (begun (replicate 100 0)) (by_bytes sample_bytes) ≡ record { output = sample; errors = [] }
  pub refused_compiled : reads (begun (replicate 100 0)) (by_bytes (ascii "\n\nx")) ≡ record { output = []; errors = ascii "R 18 2 3\n" }

pub record CallingMet : Type 0 where
  -- CheckWhole, DecideWhole, RecordWhole, AddWhole: the limits of what is answered
  pub refusal_fits : (l : List ℕ) → Bytes l → (f : Refusal) → check l ≡ Some f → (f.number ≤ 65535) × (f.place ≤ 65535)
  pub rule_fits : (l : List ℕ) → Bytes l → (q : Query) (r : ℕ) → answer l q ≡ Ok (Permitted r) → r ≤ 1023
  pub near_fits : (l : List ℕ) → Bytes l → (q : Query) (s r : ℕ) → answer l q ≡ Ok (NotPermitted (Some (near s r))) → (s ≤ 4) × (r ≤ 1023)
  pub unknown_fits : (l : List ℕ) → Bytes l → (q : Query) (r c : ℕ) → answer l q ≡ Ok (UnKnown r c) → (r ≤ 1023) × (c ≤ 255)
  pub record_fits :
      (l : List ℕ) → Bytes l → (s : Section) (n : ℕ) → give_fault l s n ≡ None → (place_of l s n ≤ 65535) × (length (given_record l s n) ≤ 130)
  pub number_fits : (b : List ℕ) → Bytes b → (r : List ℕ) → add_fault b r ≡ None → new_number b r ≤ 1023
  -- ConvertWhole, ConvertRead: a new image's length, for any buffer that holds it; the refusal 13
  pub length_fits : (l : List ℕ) → Bytes l → (n : ℕ) → convert_fault l n ≡ None → (9 ≤ length (converted_image l)) × (length (converted_image l) ≤ 55561)
  pub length_read : (l : List ℕ) → Bytes l → (n : ℕ) → convert_fault l n ≡ None → host_added (convert_code l n) ≡ Ok (length (converted_image l))
  pub short_read : (l : List ℕ) → Bytes l → (n : ℕ) (f : Refusal) → convert_fault l n ≡ Some f → host_added (convert_code l n) ≡ Err f
  -- PartsWhole: the numbers that include/mungaite.h gives
  pub near_code : (s r : ℕ) → s ≤ 65535 → r ≤ 65535 → decision_code (Ok (NotPermitted (Some (near s r)))) ≡ s * 65536 + r
  pub no_rules_code : decision_code (Ok (NotPermitted None)) ≡ 65535
  pub permitted_code : (r : ℕ) → r ≤ 65535 → decision_code (Ok (Permitted r)) ≡ 1 * 4294967296 + r
  pub unknown_code : (r c : ℕ) → r ≤ 65535 → c ≤ 65535 → decision_code (Ok (UnKnown r c)) ≡ 3 * 4294967296 + r * 65536 + c
  -- PartsRead: the largest parts
  pub parts_back :
      (parts_of 3 65535 65535 / 4294967296 % 65536 ≡ 3) × (parts_of 3 65535 65535 / 65536 % 65536 ≡ 65535) × (parts_of 3 65535 65535 % 65536 ≡ 65535)
  -- CheckRead: an image that is accepted, and one that is not
  pub sample_read : host_checked (fault_code (check sample)) ≡ None
  pub cut_read : host_checked (fault_code (check (take 79 sample))) ≡ Some (refusal 3 0)
  -- DecideRead: of each kind
  pub member_read : host_decision (decision_code (answer sample (query 10 21 5 1))) ≡ Ok (Permitted 0)
  pub off_read : host_decision (decision_code (answer sample (query 13 21 5 1))) ≡ Ok (NotPermitted (Some (near 1 0)))
  pub no_rules_read : host_decision (decision_code (answer empty (query 0 0 0 0))) ≡ Ok (NotPermitted None)
  pub transition_read : host_decision (decision_code (answer sample (query 12 20 9 9))) ≡ Ok (Permitted 2)
  pub unknown_read : host_decision (decision_code (answer (sample_and companion) (query 10 21 5 1))) ≡ Ok (UnKnown 0 2)
  pub refused_read : host_decision (decision_code (answer sample (query 32769 21 5 1))) ≡ Err (refusal 8 0)
  -- RecordRead: a section by its number; and one that there is not
  pub group_read : (l : List ℕ) → Bytes l → (n : ℕ) → host_found (record_code l 0 n) ≡ outcome (give_fault l Groups n) (extent l Groups n)
  pub rule_read : (l : List ℕ) → Bytes l → (n : ℕ) → host_found (record_code l 1 n) ≡ outcome (give_fault l Rules n) (extent l Rules n)
  pub constraint_read :
      (l : List ℕ) → Bytes l → (n : ℕ) → host_found (record_code l 2 n) ≡ outcome (give_fault l Constraints n) (extent l Constraints n)
  pub no_section_read : (s n : ℕ) → 3 ≤ s → host_checked (record_code sample s n) ≡ Some (refusal 14 0)
  -- AddRead: the companion's number; no room
  pub companion_read : host_added (add_code (with_space sample companion) companion) ≡ Ok 2
  pub no_room_read : host_added (add_code sample companion) ≡ Err (refusal 13 0)
  -- RunWhole: a row that a run names, and a refusal; RunRead: whatever a run comes to; one that is fit, one that is not, and a slot
  pub run_refusal_fits :
      (l : List ℕ) → Bytes l → (ns : List ℕ) (slots : ℕ) (f : Refusal) → numbers_run l ns slots ≡ Err f → (f.number ≤ 65535) × (f.place ≤ 65535)
  pub any_run_read :
      (l : List ℕ) → Bytes l → (ns ys : List ℕ) (o : Outcome (Option ℕ)) → numbers_run l ns (length ys) ≡ o → host_run (run_code o) ≡ o
  pub row_fits : (l : List ℕ) → Bytes l → (ns : List ℕ) (slots n : ℕ) → numbers_run l ns slots ≡ Ok (Some n) → n ≤ 63
  pub fit_read : host_run (run_code (numbers_run sample (10 ∷ 21 ∷ 5 ∷ 1 ∷ 0 ∷ 0 ∷ 12 ∷ 20 ∷ 9 ∷ 9 ∷ 0 ∷ 0 ∷ []) 2)) ≡ Ok None
  pub unfit_read : host_run (run_code (numbers_run sample (10 ∷ 21 ∷ 5 ∷ 1 ∷ 0 ∷ 0 ∷ 13 ∷ 21 ∷ 5 ∷ 1 ∷ 0 ∷ 0 ∷ []) 2)) ≡ Ok (Some 1)
  pub slot_read :
      host_decision (get_or (codes_after sample (10 ∷ 21 ∷ 5 ∷ 1 ∷ 0 ∷ 0 ∷ 12 ∷ 20 ∷ 9 ∷ 9 ∷ 0 ∷ 0 ∷ []) (7 ∷ 8 ∷ [])) 1 0) ≡ Ok (Permitted 2)
  -- BuildWhole: the limits of what is answered; BuildRead: whatever a text builds; the sample's text; a row outside the form at every
  -- place, past 65,535 too
  pub built_fits : (text b : List ℕ) (n : ℕ) → length text ≤ 281474976710655 → (built text b).answer ≡ Ok n → (9 ≤ n) × (n ≤ 55561)
  pub built_refusal_fits :
      (text b : List ℕ) (f : Refusal) → length text ≤ 281474976710655 → (built text b).answer ≡ Err f
      → (1 ≤ f.number) × (f.number ≤ 20) × (f.place ≤ 281474976710655)
  pub any_build_read :
      (text b : List ℕ) (o : Outcome ℕ) → length text ≤ 281474976710655 → (built text b).answer ≡ o → host_built (build_code o) ≡ o
  pub sample_build_read : host_built (build_code (built sample_bytes (replicate 83 7)).answer) ≡ Ok 80
  pub far_build_read :
      (n : ℕ) (b : List ℕ) → 9 ≤ length b → n ≤ 281474976710653
      → host_built (build_code (built (outside_behind n) b).answer) ≡ Err (refusal 18 (suc n))
  -- and the numbers that include/mungaite.h gives
  pub length_code : (n : ℕ) → build_code (Ok n) ≡ n
  pub build_refusal_code : (f : Refusal) → f.place ≤ 281474976710655 → build_code (Err f) ≡ f.number * 281474976710656 + f.place
  -- NumbersRun, NumbersWhole: the numbers of queries, and six numbers that are one, each up to 65,535
  pub queries_run : (l : List ℕ) (qs : List Query) (ys : List ℕ) → numbers_run l (numbers_of qs) (length ys) ≡ run_of l qs (length ys)
  pub queries_codes :
      (l : List ℕ) (qs : List Query) (ys : List ℕ) → queries_fault l (length qs) (length ys) ≡ None
      → codes_after l (numbers_of qs) ys ≡ map (row_code l) qs
  pub six_numbers :
      (s d c a h w : ℕ) → s ≤ 65535 → d ≤ 65535 → c ≤ 65535 → a ≤ 65535 → h ≤ 65535 → w ≤ 65535
      → numbers_of (rows_of (s ∷ d ∷ c ∷ a ∷ h ∷ w ∷ [])) ≡ s ∷ d ∷ c ∷ a ∷ h ∷ w ∷ []
  pub all_numbers : (ns : List ℕ) (m : ℕ) → ((i : ℕ) → get_or ns i 0 ≤ 65535) → length ns ≡ 6 * m → numbers_of (rows_of ns) ≡ ns
  -- NumbersAnswered: any row's six numbers, the halves of its word last, and the second's
  pub any_row :
      (l ns ys : List ℕ) (i y : ℕ) → Accepted l → length ns ≡ 6 * length ys → length ys ≤ 64 → i < length ys
      → get_or (codes_after l ns ys) i y
      ≡ decision_code (answer l (query_of (get_or ns (6 * i) 0) (get_or ns (6 * i + 1) 0) (get_or ns (6 * i + 2) 0) (get_or ns (6 * i + 3) 0)
      (get_or ns (6 * i + 4) 0 * 65536 + get_or ns (6 * i + 5) 0)))
  pub second_row :
      (l : List ℕ) (x₀ x₁ x₂ x₃ x₄ x₅ s d c a h w u v : ℕ) → Accepted l
      → get_or (codes_after l (x₀ ∷ x₁ ∷ x₂ ∷ x₃ ∷ x₄ ∷ x₅ ∷ s ∷ d ∷ c ∷ a ∷ h ∷ w ∷ []) (u ∷ v ∷ [])) 1 0
      ≡ decision_code (answer l (query_of s d c a (h * 65536 + w)))
  -- NumbersRefused, NumbersFaults, NumbersLeft: up to 5, 7, 389, 390 and more numbers, a slot too many, any other; 384; a refused image;
  -- the slots after them
  pub image_numbers : (l ns : List ℕ) (slots : ℕ) (f : Refusal) → check l ≡ Some f → numbers_run l ns slots ≡ Err f
  pub numbers_few : (l ns : List ℕ) (slots : ℕ) → Accepted l → length ns ≤ 5 → numbers_run l ns slots ≡ Err (refusal 16 0)
  pub numbers_7 : (l ns : List ℕ) → Accepted l → length ns ≡ 7 → numbers_run l ns 1 ≡ Err (refusal 17 0)
  pub numbers_6 : (l ns : List ℕ) → Accepted l → length ns ≡ 6 → numbers_run l ns 2 ≡ Err (refusal 17 0)
  pub numbers_389 : (l ns : List ℕ) → Accepted l → length ns ≡ 389 → numbers_run l ns 64 ≡ Err (refusal 17 0)
  pub numbers_390 : (l ns : List ℕ) (slots : ℕ) → Accepted l → 390 ≤ length ns → numbers_run l ns slots ≡ Err (refusal 16 0)
  pub numbers_384 : (l ns : List ℕ) (f : Refusal) → Accepted l → length ns ≡ 384 → numbers_run l ns 64 ≡ Err f → ⊥
  pub numbers_other :
      (l ns : List ℕ) (slots : ℕ) → Accepted l → 6 ≤ length ns → length ns ≤ 389 → (length ns ≡ 6 * slots → ⊥)
      → numbers_run l ns slots ≡ Err (refusal 17 0)
  pub left_any : (l ns ys : List ℕ) (f : Refusal) → numbers_run l ns (length ys) ≡ Err f → codes_after l ns ys ≡ ys
  pub left_7 : (l ns : List ℕ) (y : ℕ) → Accepted l → length ns ≡ 7 → codes_after l ns (y ∷ []) ≡ y ∷ []
  pub codes_many : (l ns ys : List ℕ) → length (codes_after l ns ys) ≡ length ys
  -- the numbers that include/mungaite.h gives: MUNGAITE_FIT, and row 0, which is 0
  pub fit_code : run_code (Ok None) ≡ 4294967296
  pub row_code_lem : (n : ℕ) → n ≤ 63 → run_code (Ok (Some n)) ≡ n

pub record TermsMet : Type 0 where
  pub reading : ReadingMet
  pub adding : AddingMet
  pub deciding : DecidingMet
  pub ordering : OrderingMet
  pub running : RunningMet
  pub nearing : NearingMet
  pub building : BuildingMet
  pub reaching : ReachingMet
  pub separating : SeparatingMet
  pub switching : SwitchingMet
  pub converting : ConvertingMet
  pub printing : PrintingMet
  pub calling : CallingMet
