-- What meets the terms of reading's and adding's claims, from the statement: no claim's own proof is cited. Assumes nothing.
use Prim.Native.Nat.{ℕ, ◌+◌, ◌≤◌}
use native.Mathlib.Omega.{arith}
use mathlib.Core.Path.{◌≡◌, sym, subst, ap, ap₂, ◌∙◌}
use Rattle.std.specs.Prelude.{Some}
use mathlib.Core.List.{List, [], ◌∷◌, ◌++◌}
use lib.ListN.{length, get_or, take, replicate, length-append, length-replicate}
use Rattle.format.specs.declared.Section.{Section}
use Rattle.format.specs.declared.Section.TheVariants.{Constraints}
use Rattle.format.specs.Bytes.{Bytes}
use Rattle.format.specs.Refusals.{refusal}
use Rattle.format.specs.Format.{limit_of}
use Rattle.format.specs.Policy.{Policy, records_of, image_of, policy_of}
use Rattle.format.specs.Twins.{NoTwins}
use Rattle.format.specs.Check.{image_in}
use Rattle.format.specs.Give.{give_fault}
use Rattle.format.specs.Claims.{WellFormed, given_from}
use Rattle.format.specs.Sample.{sample, empty}
use Rattle.format.specs.Longest.{longest}
use Rattle.format.proofs.ByCase.{records_of_constraints}
use Rattle.format.proofs.Accepted.{given_one, give_image}
use Rattle.format.proofs.Longest.{longest_full}
use Rattle.extension.specs.Add.{section_of, with_record, buffer_after}
use Rattle.extension.specs.Claims.{add_all, all_records}
use Rattle.extension.proofs.Adds.{with_records}
use Rattle.extension.proofs.Trip.{overwrite_is}
use Rattle.decision.specs.Cases.{companion, with_space, extended}
use Rattle.claims.specs.Promises.{Promises}
use Rattle.claims.specs.Terms.{ReadingMet, AddingMet}
use Rattle.claims.proofs.Cases.{empty_nine, rule_fields, roster_fields, companion_bytes, companion_space, space_image, companion_length, companion_section}

module _ (p : Promises) where
  -- ---- reading

  longest_formed : WellFormed longest
  longest_formed =
      let r = p.reading.longest_reached in
      subst WellFormed r.policy (p.reading.accepted_is_well_formed (image_of longest) r.bytes r.accepted).0

  longest_twins : NoTwins longest.groups
  longest_twins =
      let r = p.reading.longest_reached in
      subst (λ (x : Policy). NoTwins x.groups) r.policy (p.reading.accepted_is_well_formed (image_of longest) r.bytes r.accepted).2

  longest_given : (s : Section) → given_from (image_of longest) s 0 (limit_of s) ≡ records_of longest s
  longest_given s =
      let r = p.reading.longest_reached in
      ap (given_from (image_of longest) s 0) (sym (longest_full s))
      ∙ subst (λ (x : Policy). given_from (image_of longest) s 0 (length (records_of x s)) ≡ records_of x s) r.policy
      (p.reading.all_given (image_of longest) r.accepted s)

  longest_past : (s : Section) → give_fault (image_of longest) s (limit_of s) ≡ Some (refusal 14 0)
  longest_past s =
      let r = p.reading.longest_reached in
      p.reading.none_given (image_of longest) r.accepted s (limit_of s)
      (subst (λ (x : Policy). length (records_of x s) ≤ limit_of s) (sym r.policy) (omega (arith, longest_full s)))

  pub reading_met : ReadingMet
  reading_met =
      let a = p.reading.sample_accepted in
      let sample-is = p.reading.accepted_is_well_formed sample a.sample_bytes_lem a.sample_passes in
      let empty-is = p.reading.accepted_is_well_formed empty a.empty_bytes a.empty_passes in
      let longest-is = p.reading.well_formed_is_accepted longest longest_formed longest_twins in
      record {
        sample_well_formed = sample-is.0;
        sample_image = sample-is.1;
        empty_well_formed = empty-is.0;
        longest_well_formed = longest_formed;
        longest_bytes = longest-is.0;
        longest_accepted = longest-is.1;
        longest_policy = longest-is.2;
        longest_most = p.reading.longest_image (image_of longest) longest-is.1;
        last_given = λ l e s n h. (let g = p.reading.records_given l e s n (omega arith) in (g.part, g.inside));
        longest_given = longest_given;
        one_by_one = given_one;
        longest_past = longest_past;
        given_some = λ l s n e. omega (arith, p.reading.empty_tells.given l s n e);
        nothing_given = λ s n. p.reading.empty_tells.refused (take 79 sample) s n (refusal 3 0) (give_image (take 79 sample) s n p.reading.refusal_cases.cut);
        rule_fields = rule_fields;
        roster_fields = roster_fields;
      }

  -- ---- adding

  companion_added_policy : policy_of (image_in (extended sample companion)) ≡ with_record Constraints (policy_of sample) companion
  unfolding extended
  companion_added_policy =
      let a = p.reading.sample_accepted in
      (p.adding.added_accepted (with_space sample companion) companion companion_space companion_bytes p.deciding.marked_adds.companied).1
      ∙ ap₂ (λ (s : Section) (l : List ℕ). with_record s (policy_of l) companion) companion_section (space_image companion a.sample_passes)

  companion_last : (policy_of (image_in (extended sample companion))).constraints ≡ (policy_of sample).constraints ++ (companion ∷ [])
  companion_last =
      let q : Policy = with_record Constraints (policy_of sample) companion in
      ap (λ (x : Policy). x.constraints) companion_added_policy
      ∙ sym (records_of_constraints q)
      ∙ with_records (policy_of sample) companion Constraints
      ∙ ap (λ (rs : List (List ℕ)). rs ++ (companion ∷ [])) (records_of_constraints (policy_of sample))

  companion_two : get_or (policy_of (image_in (extended sample companion))).constraints 2 [] ≡ companion
  unfolding extended
  companion_two =
      let l : List ℕ = image_in (buffer_after (with_space sample companion) companion) in
      ap (λ (rs : List (List ℕ)). get_or rs 2 []) (sym (records_of_constraints (policy_of l)))
      ∙ ap (λ (s : Section). get_or (records_of (policy_of l) s) 2 []) (sym companion_section)
      ∙ ap (λ (n : ℕ). get_or (records_of (policy_of l) (section_of (get_or companion 1 0))) n []) (sym p.deciding.marked_adds.numbered)
      ∙ p.adding.number_named (with_space sample companion) companion companion_space companion_bytes p.deciding.marked_adds.companied

  pub companion_after : Bytes (extended sample companion)
  unfolding extended
  companion_after =
      (p.adding.added_accepted (with_space sample companion) companion companion_space companion_bytes p.deciding.marked_adds.companied).2

  companion_kept_length : length (extended sample companion) ≡ 91
  unfolding extended
  companion_kept_length =
      (p.adding.rest_stays (with_space sample companion) companion companion_space p.deciding.marked_adds.companied).1 ∙ companion_length

  sample_rebuilt : add_all (empty ++ replicate 72 9) (all_records (policy_of sample)) ≡ sample ++ (9 ∷ [])
  unfolding sample empty
  sample_rebuilt =
      let a = p.reading.sample_accepted in
      p.adding.round_trip sample (replicate 72 9) a.sample_bytes_lem a.sample_passes (omega arith)
      ∙ overwrite_is sample (empty ++ replicate 72 9)

  longest_rebuilt : add_all (empty ++ replicate 55552 0) (all_records longest) ≡ image_of longest
  longest_rebuilt =
      let r = p.reading.longest_reached in
      subst (λ (x : Policy). add_all (empty ++ replicate 55552 0) (all_records x) ≡ image_of longest) r.policy
      (p.adding.round_trip_exact (image_of longest) (replicate 55552 0) r.bytes r.accepted
      (length-append empty (replicate 55552 0) ∙ ap (λ (n : ℕ). length empty + n) (length-replicate {A = ℕ} 55552 0) ∙ nine ∙ sym r.reached))
    where
      nine : length empty + 55552 ≡ 55561
      nine = rw empty_nine

  pub adding_met : AddingMet
  adding_met =
      record {
        companion_last = companion_last;
        companion_two = companion_two;
        last_group = λ b r by bytes e n h. p.adding.groups_kept b r by bytes e n (omega arith);
        companion_length = companion_kept_length;
        no_room = p.adding.refused_unchanged sample companion (refusal 13 0) p.reading.refusal_cases.no_room;
        sample_rebuilt = sample_rebuilt;
        longest_rebuilt = longest_rebuilt;
      }
