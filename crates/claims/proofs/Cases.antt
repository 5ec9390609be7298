-- Facts of values that are written out, by computation. Assumes nothing.
use Prim.Native.Nat.{ℕ, zero, suc, ◌+◌, ◌<◌}
use native.Mathlib.Omega.{arith}
use mathlib.Core.Path.{◌≡◌, refl, sym, subst, ap, ◌∙◌}
use mathlib.Core.Bool.{Bool, true}
use Rattle.std.specs.Prelude.{None, Some}
use mathlib.Core.List.Memᴰ
use mathlib.Core.List.{List, [], ◌∷◌, ◌++◌, flatten, map, append-nil, Memᴰ}
use lib.ListN.{length, get_or, take, drop, replicate, length-append, get_or-append}
use lib.Seq.{get_or-append-add, get_or-set_other}
use lib.Dec.{eqb, ltb}
use borrow.Author.Tests.{ltb-true, ltb-false}
use Rattle.format.specs.declared.Section.TheVariants.{Rules, Constraints}
use Rattle.format.specs.Bytes.{Bytes, word_at, words, put_word}
use Rattle.format.specs.Format.{known_version, limit_of, count_place, count_of, kind_in, length_ok, first_record, shape_ok}
use Rattle.format.specs.Format.{is_type, is_condition, list_ok}
use Rattle.format.specs.Format.{bad_member, bad_type, bad_group, bad_allow, bad_transition, bad_constraint, bad_field}
use Rattle.format.specs.Policy.{Policy, body_of, image_of, record_at, place_after, records_at, start_of, place_of, end_of, policy_of}
use Rattle.format.specs.Twins.{same_bytes, listed, first_twin, twin_at, twin_fault}
use Rattle.format.specs.Check.{read_fields, read_of, read_fault, section_fault, count_fault, header_fault, body_fault, rest_fault, check, Accepted, image_in, check_front}
use Rattle.format.specs.Claims.{type_fields}
use Rattle.format.specs.Sample.{sample, empty}
use Rattle.format.proofs.ByCase.{kind_constraints}
use Rattle.format.proofs.Bytes.{bytes_of}
use Rattle.format.proofs.Front.{front_of, image_in_of}
use Rattle.extension.specs.Add.{section_of, with_record, field_fault, new_number, added_twin, own_fault, add_fault, new_image, overwrite, buffer_after}
use Rattle.extension.proofs.Adds.{section_of_lem}
use Rattle.std.specs.Prelude.{Ok, Err}
use Rattle.format.specs.Answers.{Outcome}
use Rattle.conversion.specs.Cases.{old}
use Rattle.claims.specs.Converting.{old_image, sample_group}
use Rattle.decision.specs.declared.Query.{Query}
use Rattle.decision.specs.Sets.{any_of, all_of, is_in, set_of, touches}
use Rattle.decision.specs.Conditions.{switch_on, is_on}
use Rattle.decision.specs.Reading.{live, rule_of, rules_of}
use Rattle.decision.specs.declared.Decision.{Decision}
use Rattle.decision.specs.declared.Decision.TheVariants.{NotPermitted, Permitted, UnKnown}
use Rattle.decision.specs.Decide.{answer, query_of, near}
use Rattle.decision.specs.Cases.{g0, allow, companion, with_space, extended, ask, ask_on, cases, given, expected_of, MarkedCases}
use Rattle.decision.specs.Clauses.{allow_group}
use Rattle.decision.specs.Steps.{off}
use Rattle.decision.specs.Separation.{From, FromRecord, answer_was, separation, story, elsewhere, shared_cases, SharedCases, was_cases, given_was, SharedWas}
use Rattle.decision.specs.Switches.{up_to, with_word, settled_rule, settled, on_of, only_on, allow_if, sample_if, switch_cases, SwitchCases}
use Rattle.decision.specs.Rows.{query_at, query_bytes}
use Rattle.decision.proofs.Search.{by_test}
use Rattle.format.specs.Refusals.{refusal, need, ◌or_else◌, unless_refused}
use Rattle.decision.proofs.Cases.{Answers}
use Rattle.runs.specs.Numbers.{rows_of, numbers_of}
use Rattle.runs.specs.Cases.{member, group, transition, off_rule, no_source, run_cases, number_cases}
use Rattle.lines.specs.Output.{image_size}
use Rattle.lines.specs.Worked.{worked_lines, asked_on, asked, worked_runs}
use Rattle.claims.specs.Terms.{query, three_queries, two_and_part, by_bytes, cut_sample, long_sample, bad_sample, too_short, separated, switched, shared, one_long, all_on, SwitchRows}

pub empty_nine : length empty ≡ 9
unfolding empty
empty_nine = refl

pub rule_fields : type_fields (allow 14 g0 7 7) ≡ 14 ∷ g0 ∷ []
unfolding type_fields word_at words allow g0
rule_fields = refl

pub roster_fields : type_fields (13 ∷ 4 ∷ 0 ∷ 5 ∷ 0 ∷ 1 ∷ 0 ∷ 10 ∷ 0 ∷ 21 ∷ 2 ∷ 0 ∷ 11 ∷ []) ≡ 10 ∷ 21 ∷ 11 ∷ []
unfolding type_fields word_at words
roster_fields = refl

-- ---- the sample with space behind it

pub space_image : (r : List ℕ) → Accepted sample → image_in (with_space sample r) ≡ sample
unfolding with_space
space_image r e = image_in_of sample (replicate (length r) 0) e

-- ---- the sample's group, and the worked case's old image

pub sample_length : length sample ≡ 80
unfolding sample
sample_length = refl

own_group : Memᴰ sample_group (policy_of sample).groups
unfolding word_at count_place count_of first_record record_at place_after records_at start_of policy_of sample
own_group = Memᴰ.head refl

pub space_front : Accepted sample → check_front (with_space sample sample_group) ≡ None
unfolding with_space
space_front e = front_of sample (replicate 6 0) e

pub space_group : Accepted sample → Memᴰ sample_group (policy_of (image_in (with_space sample sample_group))).groups
space_group e = subst (λ (l : List ℕ). Memᴰ sample_group (policy_of l).groups) (sym (space_image sample_group e)) own_group

pub sample_front : Accepted sample → check_front sample ≡ None
sample_front e = subst (λ (l : List ℕ). check_front l ≡ None) (append-nil sample) (front_of sample [] e)

pub sample_group_lem : Accepted sample → Memᴰ sample_group (policy_of (image_in sample)).groups
sample_group_lem e =
    subst (λ (l : List ℕ). Memᴰ sample_group (policy_of l).groups)
    (sym (ap image_in (sym (append-nil sample)) ∙ image_in_of sample [] e)) own_group

pub old_bytes : Bytes old_image
unfolding flatten put_word body_of image_of old
old_bytes = bytes_of old_image refl

-- ---- the companion

pub companion_bytes : Bytes companion
unfolding companion
companion_bytes = bytes_of companion refl

pub companion_space : Bytes (with_space sample companion)
unfolding with_space sample companion
companion_space = bytes_of (with_space sample companion) refl

pub companion_length : length (with_space sample companion) ≡ 91
unfolding with_space sample companion
companion_length = refl

pub companion_section : section_of (get_or companion 1 0) ≡ Constraints
unfolding companion
companion_section = section_of_lem Constraints 4 (kind_constraints 4 refl)

-- a constraint is no rule
pub companion_no_rule : section_of (get_or companion 1 0) ≡ Rules → ⊥
companion_no_rule e = no_rule (sym companion_section ∙ e)
  where
    no_rule : Constraints ≡ Rules → ⊥
    no_rule k = (let z : ◌≡◌ {A = ℕ} 0 1 = cc in omega arith)

-- ---- the rule

pub rule_bytes : Bytes (allow 14 g0 7 7)
unfolding allow g0
rule_bytes = bytes_of (allow 14 g0 7 7) refl

pub rule_space : Bytes (with_space sample (allow 14 g0 7 7))
unfolding with_space sample allow g0
rule_space = bytes_of (with_space sample (allow 14 g0 7 7)) refl

pub cut_bytes : Bytes (take 79 sample)
unfolding sample
cut_bytes = bytes_of (take 79 sample) refl

-- ---- the program's input and output

abbrev behind : List ℕ → List ℕ
behind i = drop (image_size i) i

-- reads that bring what lies behind an image; the tables' lengths
pub record Inputs : Type 0 where
  pub by_bytes_lem : flatten (by_bytes three_queries) ≡ behind (sample ++ three_queries)
  pub in_two : flatten (take 5 three_queries ∷ [] ∷ drop 5 three_queries ∷ []) ≡ behind (sample ++ three_queries)
  pub at_once : flatten (three_queries ∷ []) ≡ behind (sample ++ three_queries)
  pub none_asked : flatten {A = ℕ} [] ≡ behind empty
  pub short : flatten (drop 9 too_short ∷ []) ≡ behind too_short
  pub header : image_size (take 8 sample) ≡ 9
  pub lines : length worked_lines ≡ 10
  pub runs : length worked_runs ≡ 23

pub inputs : Inputs
unfolding flatten word_at words sample empty asked_on asked image_size worked_lines worked_runs
inputs = record { by_bytes_lem = refl; in_two = refl; at_once = refl; none_asked = refl; short = refl; header = refl; lines = refl; runs = refl }

-- rows of queries
pub record QueryRows : Type 0 where
  pub many : length three_queries ≡ 36
  pub part : length two_and_part ≡ 35
  pub first : query_at two_and_part 0 ≡ query 10 21 5 1
  pub second : query_at two_and_part 12 ≡ query 12 20 9 9

pub query_rows : QueryRows
unfolding word_at asked_on asked
query_rows = record { many = refl; part = refl; first = refl; second = refl }

pub twelve_bytes : (q : Query) → length (query_bytes q) ≡ 12
unfolding query_bytes put_word
twelve_bytes q = refl

-- the rows of runs: what each is answered, and their numbers
pub record RowAnswers : Type 0 where
  pub member_is : answer sample member ≡ Ok (Permitted 0)
  pub group_is : answer sample group ≡ Ok (Permitted 0)
  pub transition_is : answer sample transition ≡ Ok (Permitted 2)
  pub off_is : answer sample off_rule ≡ Ok (NotPermitted (Some (near 1 0)))
  pub no_source_is : answer sample no_source ≡ Err (refusal 8 0)

pub row_answers : Answers → RowAnswers
unfolding member group transition off_rule no_source
row_answers a = record { member_is = a.member; group_is = a.group; transition_is = a.transition; off_is = a.off; no_source_is = a.no_source_lem }

abbrev pub fit_numbers : List ℕ
fit_numbers = 10 ∷ 21 ∷ 5 ∷ 1 ∷ 0 ∷ 0 ∷ 12 ∷ 20 ∷ 9 ∷ 9 ∷ 0 ∷ 0 ∷ []

abbrev pub unfit_numbers : List ℕ
unfit_numbers = 10 ∷ 21 ∷ 5 ∷ 1 ∷ 0 ∷ 0 ∷ 13 ∷ 21 ∷ 5 ∷ 1 ∷ 0 ∷ 0 ∷ []

pub record RunNumbers : Type 0 where
  pub fit : numbers_of (member ∷ transition ∷ []) ≡ fit_numbers
  pub unfit : numbers_of (member ∷ off_rule ∷ []) ≡ unfit_numbers
  pub second : query 12 20 9 9 ≡ transition
  pub cases : length run_cases ≡ 29
  pub number_cases_lem : length number_cases ≡ 21

pub run_numbers : RunNumbers
unfolding member transition off_rule rows_of numbers_of run_cases number_cases
run_numbers = record { fit = refl; unfit = refl; second = refl; cases = refl; number_cases_lem = refl }

-- three images that are refused behind their header
pub record Refused : Type 0 where
  pub cut_header : header_fault eqb cut_sample ≡ None
  pub cut_refused : body_fault cut_sample ≡ Some (refusal 5 69)
  pub bad_header : header_fault eqb bad_sample ≡ None
  pub bad_refused : body_fault bad_sample ≡ Some (refusal 6 25)
  pub long_header : header_fault eqb long_sample ≡ None
  pub long_refused : body_fault long_sample ≡ Some (refusal 7 80)

pub refused_samples : Refused
unfolding word_at words need ◌or_else◌ known_version limit_of count_place count_of kind_in length_ok is_type is_condition list_ok
    first_record shape_ok bad_member bad_type bad_group bad_allow bad_transition bad_constraint bad_field place_after start_of place_of end_of
    read_fields read_of read_fault section_fault count_fault header_fault body_fault sample
refused_samples =
    record { cut_header = refl; cut_refused = refl; bad_header = refl; bad_refused = refl; long_header = refl; long_refused = refl }

-- request 5's tables: how many rows, and some by themselves
pub record SharedAnswers : Type 0 where
  pub many : length shared_cases ≡ 20
  pub story_is : answer story shared ≡ Ok (UnKnown 1 1)
  pub both_reached : answer (extended (extended sample (allow 20 21 5 4)) separation) (query 20 21 5 4) ≡ Ok (UnKnown 4 2)
  pub off_shared : answer (extended sample (off (allow 10 30 5 3))) shared ≡ Ok (Permitted 1)
  pub inside : answer elsewhere (query 40 30 5 2) ≡ Ok (UnKnown 5 2)
  pub outside : answer elsewhere shared ≡ Ok (Permitted 1)

pub shared_answers : SharedCases → SharedAnswers
unfolding shared_cases given expected_of ask ask_on
shared_answers e = record { many = refl; story_is = row 0; both_reached = row 5; off_shared = row 6; inside = row 10; outside = row 11 }
  where
    row : (n : ℕ) → get_or (map given shared_cases) n (Ok (Permitted 0)) ≡ get_or (map expected_of shared_cases) n (Ok (Permitted 0))
    row n = ap (λ (xs : List (Outcome Decision)). get_or xs n (Ok (Permitted 0))) e

pub record WasAnswers : Type 0 where
  pub many : length was_cases ≡ 5
  pub story_was : answer_was story shared ≡ Ok (Permitted 1)
  pub same_source : answer_was (extended sample (allow 20 20 5 3)) shared ≡ Ok (UnKnown 1 1)

pub was_answers : SharedWas → WasAnswers
unfolding was_cases given_was expected_of ask ask_on
was_answers e = record { many = refl; story_was = row 0; same_source = row 2 }
  where
    row : (n : ℕ) → get_or (map given_was was_cases) n (Ok (Permitted 0)) ≡ get_or (map expected_of was_cases) n (Ok (Permitted 0))
    row n = ap (λ (xs : List (Outcome Decision)). get_or xs n (Ok (Permitted 0))) e

pub separated_is : MarkedCases → answer separated shared ≡ Ok (UnKnown 1 1)
unfolding cases given expected_of ask ask_on
separated_is e = ap (λ (xs : List (Outcome Decision)). get_or xs 5 (Ok (Permitted 0))) e

-- the rules of the sample, with one more, and of the story
pub record SharedRules : Type 0 where
  pub sample_one : (w : ℕ) → all_of one_long (rules_of (policy_of sample) w) ≡ true
  pub separated_one : (w : ℕ) → all_of one_long (rules_of (policy_of separated) w) ≡ true
  pub one_more : (w : ℕ) → rules_of (policy_of separated) w ≡ rules_of (policy_of sample) w ++ drop 4 (rules_of (policy_of separated) w)
  pub story_first : (w : ℕ) → From (rules_of (policy_of story) w) (20 ∷ []) 20
  pub story_second : (w : ℕ) → From (rules_of (policy_of story) w) (30 ∷ []) 20
  pub record_first : (w : ℕ) → FromRecord (policy_of story) w 20 20
  pub record_second : (w : ℕ) → FromRecord (policy_of story) w 30 20
  pub switched_first : FromRecord (policy_of switched) 32 20 10
  pub switched_second : FromRecord (policy_of switched) 32 30 10
  pub sample_separates : (get_or (get_or (policy_of sample).constraints 1 []) 10 0 ≡ 1) × (word_at (get_or (policy_of sample).constraints 1 []) 6 ≡ 20) × (word_at (get_or (policy_of sample).constraints 1 []) 8 ≡ 30)
  pub story_separates : get_or (get_or (policy_of story).constraints 1 []) 10 0 ≡ 1

pub shared_rules : SharedRules
unfolding
    flatten word_at words put_word need ◌or_else◌ unless_refused
    known_version limit_of count_place count_of kind_in length_ok is_type is_condition list_ok first_record shape_ok
    bad_member bad_type bad_group bad_allow bad_transition bad_constraint bad_field
    body_of image_of record_at place_after records_at start_of place_of end_of policy_of
    read_fields read_of read_fault section_fault count_fault header_fault body_fault rest_fault check same_bytes listed first_twin twin_at twin_fault image_in check_front
    sample section_of with_record field_fault new_number added_twin own_fault add_fault new_image overwrite buffer_after
    with_space extended allow allow_if allow_group story
    any_of all_of is_in set_of touches switch_on is_on live rule_of rules_of
shared_rules =
    record {
      sample_one = λ w. refl;
      separated_one = λ w. refl;
      one_more = λ w. refl;
      story_first = λ w. record { rule = _; one = fifth; is_live = refl; touching = refl; has = refl };
      story_second = λ w. record { rule = _; one = Memᴰ.tail (Memᴰ.head refl); is_live = refl; touching = refl; has = refl };
      record_first = λ w. record { bytes = _; one = fifth; kind = refl; on = refl; y = 20; there = refl; argued = refl; has = refl };
      record_second = λ w. record { bytes = _; one = Memᴰ.tail (Memᴰ.head refl); kind = refl; on = refl; y = 30; there = refl; argued = refl; has = refl };
      switched_first = record { bytes = _; one = Memᴰ.head refl; kind = refl; on = refl; y = 20; there = refl; argued = refl; has = refl };
      switched_second = record { bytes = _; one = fifth; kind = refl; on = refl; y = 30; there = refl; argued = refl; has = refl };
      sample_separates = (refl, refl, refl);
      story_separates = refl;
    }
  where
    fifth : {A : Type 0} {x₀ x₁ x₂ x₃ x₄ : A} {xs : List A} → Memᴰ x₄ (x₀ ∷ x₁ ∷ x₂ ∷ x₃ ∷ x₄ ∷ xs)
    fifth = Memᴰ.tail (Memᴰ.tail (Memᴰ.tail (Memᴰ.tail (Memᴰ.head refl))))

-- ---- request 6

-- its table, row by row
pub switch_rows : SwitchCases → SwitchRows
unfolding switch_cases given expected_of ask_on
switch_rows e =
    record {
      many = refl;
      switch_0_none = row 0;
      switch_0_on = row 1;
      switch_0_off = row 2;
      switch_1_on = row 3;
      switch_1_off = row 4;
      switch_16_on = row 5;
      switch_16_off = row 6;
      switch_31_on = row 7;
      switch_31_off = row 8;
      switch_15_all = row 9;
      near_on = row 10;
      near_off = row 11;
      on_none = row 12;
      on_all = row 13;
      off_all = row 14;
      transition_none = row 15;
      transition_all = row 16;
      switched_on = row 17;
      switched_off = row 18;
      roster_on = row 19;
      roster_off = row 20;
      helped_off = row 21;
      helped_on = row 22;
      condition_34 = row 23;
      condition_255 = row 24;
    }
  where
    row : (n : ℕ) → get_or (map given switch_cases) n (Ok (Permitted 0)) ≡ get_or (map expected_of switch_cases) n (Ok (Permitted 0))
    row n = ap (λ (xs : List (Outcome Decision)). get_or xs n (Ok (Permitted 0))) e

pub word_is : (s d c a v w : ℕ) → with_word w (query_of s d c a v) ≡ query_of s d c a w
unfolding with_word
word_is s d c a v w = refl

-- 0 to n - 1, in their order
pub up_to_many : (n : ℕ) → length (up_to n) ≡ n
unfolding up_to
up_to_many zero = refl
up_to_many (suc n) = length-append (up_to n) (n ∷ []) ∙ omega (arith, up_to_many n)

pub up_to_at : (n i : ℕ) → i < n → get_or (up_to n) i 0 ≡ i
unfolding up_to
up_to_at zero i h = absurd (omega arith)
up_to_at (suc n) i h =
    by_test (ltb i n)
    (λ t. let k = ltb-true i n t in get_or-append (up_to n) (n ∷ []) 0 i (omega (arith, k, up_to_many n)) ∙ up_to_at n i k)
    (λ t. let k = ltb-false i n t in let e : i ≡ n = omega arith in
    let l : n ≡ length (up_to n) + 0 = omega (arith, up_to_many n) in
    ap (λ (j : ℕ). get_or (up_to n ++ (n ∷ [])) j 0) (e ∙ l) ∙ get_or-append-add (up_to n) (n ∷ []) 0 0 ∙ sym e)

-- the word with all switches on
pub all_on_lem : all_of (switch_on all_on) (up_to 32) ≡ true
unfolding all_of switch_on up_to
all_on_lem = refl

-- a rule whose byte 10 is 0 or 1; a transition has none, which counts as 0
abbrev pub plain : List ℕ → Bool
plain r = ltb (get_or r 10 0) 2

pub record SwitchRules : Type 0 where
  pub sample_plain : all_of plain (policy_of sample).rules ≡ true
  pub settled_on : image_of (settled 1 (policy_of (sample_if 2))) ≡ sample_if 1
  pub settled_off : image_of (settled 0 (policy_of (sample_if 2))) ≡ sample
  pub three : length (only_on 0 (policy_of (sample_if 2))).rules ≡ 3
  pub four : length (only_on 1 (policy_of (sample_if 2))).rules ≡ 4
  pub constraints : (policy_of (sample_if 2)).constraints ≡ (policy_of sample).constraints
  pub allow : get_or (get_or (policy_of (sample_if 2)).rules 3 []) 1 0 ≡ 2
  pub condition : get_or (get_or (policy_of (sample_if 2)).rules 3 []) 10 0 ≡ 2

pub switch_rules : SwitchRules
unfolding
    flatten word_at words put_word count_place count_of first_record body_of image_of record_at place_after records_at start_of place_of end_of policy_of
    sample all_of switch_on is_on rule_of settled_rule settled on_of only_on sample_if
switch_rules =
    record {
      sample_plain = refl;
      settled_on = refl;
      settled_off = refl;
      three = refl;
      four = refl;
      constraints = refl;
      allow = refl;
      condition = refl;
    }

pub sample_if_bytes : Bytes (sample_if 2)
unfolding sample sample_if
sample_if_bytes = bytes_of (sample_if 2) refl

-- a settled rule is one of the settled policy's, of its kind
module _ (p : Policy) (w : ℕ) (r : List ℕ) where
  pub settled_in : Memᴰ r p.rules → Memᴰ (settled_rule w r) (settled w p).rules
  unfolding settled
  settled_in m = Memᴰ.map (settled_rule w) m

  pub settled_kind : get_or (settled_rule w r) 1 0 ≡ get_or r 1 0
  unfolding settled_rule
  settled_kind = get_or-set_other r 10 1 _ 0 (λ e. omega arith)
