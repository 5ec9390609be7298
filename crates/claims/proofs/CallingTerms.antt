-- What meets the terms of the claims of the program's output and of the C interface, from the statement: no claim's own proof is
-- cited. Assumes nothing.
use native.Mathlib.Omega.{arith}
use Prim.Native.Nat.{ℕ, zero, suc, ◌*◌, ◌≤◌, ◌<◌}
use Rattle.std.specs.Prelude.{Some}
use mathlib.Core.Path.{◌≡◌, subst, refl, sym, ap, ap₂, ◌∙◌}
use mathlib.Core.List.{List, [], ◌∷◌, ◌++◌, map}
use lib.ListN.{length, get_or, take, replicate, length-append, length-replicate}
use Rattle.format.specs.declared.Section.TheVariants.{Groups, Rules, Constraints}
use Rattle.format.specs.Bytes.{Bytes}
use Rattle.std.specs.Prelude.{Err}
use Rattle.format.specs.Answers.{outcome, extent}
use Rattle.format.specs.Sample.{sample, empty}
use Rattle.format.proofs.Chain.{or_else_next, unless_accepted, some_not_none}
use Rattle.format.specs.Check.{Accepted}
use Rattle.format.specs.Refusals.{refusal}
use Rattle.extension.specs.Add.{new_number}
use Rattle.decision.specs.declared.Query.{Query}
use Rattle.decision.specs.Decide.{answer}
use Rattle.decision.specs.Cases.{companion, with_space, extended}
use Rattle.decision.proofs.Cases.{Answers, marked_answers}
use Rattle.decision.specs.Numbers.{OutcomeFits, DecisionFits}
use Rattle.text.specs.Words.{ascii}
use Rattle.text.proofs.Rows.{answer_of}
use Rattle.lines.specs.Compiled.{compiled, reads, begun}
use Rattle.conversion.specs.Convert.{converted_image}
use Rattle.mungaite.specs.Claims.{FaultFits, ExtentFits, NumberFits, ConvertedFits, RowFits, BuiltFits}
use Rattle.mungaite.specs.Code.{build_code}
use Rattle.mungaite.specs.Host.{host_run, host_built}
use Rattle.runs.specs.Runs.{run_of}
use Rattle.runs.specs.Numbers.{rows_of, numbers_of, numbers_fault, numbers_run, row_code, run_code}
use Rattle.runs.specs.Cases.{member, transition, off_rule}
use Rattle.claims.specs.Promises.{Promises}
use Rattle.claims.specs.Terms.{query, by_bytes, sample_bytes, outside_behind, PrintingMet, CallingMet}
use Rattle.claims.proofs.Cases.{companion_space, cut_bytes, row_answers, fit_numbers, unfit_numbers, run_numbers, inputs}
use Rattle.claims.proofs.Worked.{near_line, no_rules_line, unknown_line, empty_printed, short_printed, three_printed, eleven_left, switch_0_printed, switch_31_printed}
use Rattle.claims.proofs.Worked.{texts, reads_bytes, reads_once, reads_in_two, sample_compiled, refused_compiled, sample_built}
use Rattle.claims.proofs.Worked.{length_code, build_refusal_code}
use Rattle.claims.proofs.TextTerms.{far_outside}
use Rattle.claims.proofs.ReadingTerms.{companion_after}
use Rattle.claims.proofs.RunningTerms.{two_fit, two_unfit}

module _ (p : Promises) where
  answers : Answers
  answers = marked_answers p.deciding.marked_cases

  -- ---- printing

  -- a text that comes byte by byte, in a buffer of 100 bytes
  by_bytes_lem : (text : List ℕ) → reads (begun (replicate 100 0)) (by_bytes text) ≡ compiled text (replicate 100 0)
  by_bytes_lem text = p.printing.any_compiled text (replicate 100 0) (by_bytes text) (omega (arith, length-replicate {A = ℕ} 100 0)) (reads_bytes text)

  pub printing_met : PrintingMet
  printing_met =
      let runs = p.printing.worked_runs_lem in
      let three = three_printed runs in
      record {
        largest_fewest = p.printing.decimal_fewest 18446744073709551615 (omega arith);
        largest_read = p.printing.decimal_read 18446744073709551615 (omega arith);
        read_by_bytes = p.printing.any_reads _ _ inputs.by_bytes_lem ∙ three;
        read_in_two = p.printing.any_reads _ _ inputs.in_two ∙ three;
        read_at_once = p.printing.any_reads _ _ inputs.at_once ∙ three;
        none_asked = p.printing.any_reads _ _ inputs.none_asked ∙ empty_printed runs;
        refused_once = p.printing.any_reads _ _ inputs.short ∙ short_printed runs;
        header_first = inputs.header;
        lines_all = inputs.lines;
        runs_all = inputs.runs;
        near_line = near_line p.printing.worked_lines_lem;
        no_rules_line = no_rules_line p.printing.worked_lines_lem;
        unknown_line = unknown_line p.printing.worked_lines_lem;
        three_printed = three;
        eleven_left = eleven_left runs;
        switch_0_printed = switch_0_printed runs;
        switch_31_printed = switch_31_printed runs;
        compiled_by_bytes = λ text b h. p.printing.any_compiled text b (by_bytes text) h (reads_bytes text);
        compiled_at_once = λ text b h. p.printing.any_compiled text b (text ∷ []) h (reads_once text);
        compiled_in_two = λ text more b h. p.printing.any_compiled (text ++ more) b (text ∷ [] ∷ more ∷ []) h (reads_in_two text more);
        compiled_unread = λ b e. p.printing.any_compiled [] b [] (omega (arith, e)) (reads_bytes []);
        compiled_all = texts.compiled;
        sample_compiled = by_bytes_lem sample_bytes ∙ sample_compiled p.printing.worked_compiled_lem;
        refused_compiled = by_bytes_lem (ascii "\n\nx") ∙ refused_compiled p.printing.worked_compiled_lem;
      }

  -- ---- calling

  sample_bytes_lem : Bytes sample
  sample_bytes_lem = p.reading.sample_accepted.sample_bytes_lem

  -- the numbers of two queries
  numbers_are : (qs : List Query) (ns : List ℕ) → numbers_of qs ≡ ns → numbers_run sample ns 2 ≡ run_of sample qs 2
  numbers_are qs ns e = ap (λ x. numbers_run sample x 2) (sym e) ∙ (p.calling.numbers_run_lem sample qs (7 ∷ 8 ∷ [])).0

  refused_16 : (l ns : List ℕ) (slots : ℕ) → numbers_fault l (length ns) slots ≡ Some (refusal 16 0) → numbers_run l ns slots ≡ Err (refusal 16 0)
  refused_16 l ns slots = (p.calling.numbers_refused l ns slots (refusal 16 0)).0

  refused_17 :
      (l ns : List ℕ) (slots : ℕ) → Accepted l → 6 ≤ length ns → length ns ≤ 389 → (length ns ≡ 6 * slots → ⊥) → numbers_run l ns slots ≡ Err (refusal 17 0)
  refused_17 l ns slots a h k z = (p.calling.numbers_refused l ns slots (refusal 17 0)).0 (((p.calling.numbers_faults l).1 a).2 (length ns) slots h k z)

  six_numbers :
      (s d k a h w : ℕ) → s ≤ 65535 → d ≤ 65535 → k ≤ 65535 → a ≤ 65535 → h ≤ 65535 → w ≤ 65535
      → numbers_of (rows_of (s ∷ d ∷ k ∷ a ∷ h ∷ w ∷ [])) ≡ s ∷ d ∷ k ∷ a ∷ h ∷ w ∷ []
  six_numbers s d k a h w hs hd hk ha hh hw = p.calling.numbers_whole (s ∷ d ∷ k ∷ a ∷ h ∷ w ∷ []) 1 short refl
    where
      short : (i : ℕ) → get_or (s ∷ d ∷ k ∷ a ∷ h ∷ w ∷ []) i 0 < 65536
      short zero = omega (arith, hs)
      short (suc zero) = omega (arith, hd)
      short (suc (suc zero)) = omega (arith, hk)
      short (suc (suc (suc zero))) = omega (arith, ha)
      short (suc (suc (suc (suc zero)))) = omega (arith, hh)
      short (suc (suc (suc (suc (suc zero))))) = omega (arith, hw)
      short (suc (suc (suc (suc (suc (suc i)))))) = omega arith

  outside_fits : (n : ℕ) → n ≤ 281474976710653 → length (outside_behind n) < 281474976710656
  outside_fits n h = omega (arith, h, length-append (replicate n 10) (10 ∷ ascii "x"), length-replicate {A = ℕ} n 10, texts.outside_length)

  pub calling_met : CallingMet
  calling_met =
      let c = p.calling in
      let passes = p.reading.sample_accepted.sample_passes in
      let companied = p.deciding.marked_adds.companied in
      record {
        refusal_fits = λ l b f e. (let h = subst FaultFits e (c.check_whole l b) in (omega (arith, h.0), omega (arith, h.1)));
        rule_fits = λ l b q r e. (let h = subst (OutcomeFits DecisionFits) e (c.decide_whole l b q) in omega (arith, h));
        near_fits = λ l b q s r e. (let h = subst (OutcomeFits DecisionFits) e (c.decide_whole l b q) in (omega (arith, h.0), omega (arith, h.1)));
        unknown_fits = λ l b q r k e. (let h = subst (OutcomeFits DecisionFits) e (c.decide_whole l b q) in (omega (arith, h.0), omega (arith, h.1)));
        record_fits = λ l b s n e. (let h = subst (λ f. OutcomeFits ExtentFits (outcome f (extent l s n))) e ((c.record_whole l b).0 s n) in (omega (arith, h.0), omega (arith, h.1)));
        number_fits = λ b h r e. (let k = subst (λ f. OutcomeFits NumberFits (outcome f (new_number b r))) e (c.add_whole b h r) in omega (arith, k));
        length_fits = λ l b n e.
            subst (λ f. OutcomeFits ConvertedFits (outcome f (length (converted_image l)))) e (c.convert_whole l b n);
        length_read = λ l b n e. c.convert_read l b n ∙ ap (λ f. outcome f (length (converted_image l))) e;
        short_read = λ l b n f e. c.convert_read l b n ∙ ap (λ f. outcome f (length (converted_image l))) e;
        near_code = λ s r h k. c.parts_whole 0 s r (omega arith) (omega arith) ∙ omega arith;
        no_rules_code = c.parts_whole 0 0 65535 (omega arith) (omega arith);
        permitted_code = λ r h. c.parts_whole 1 0 r (omega arith) (omega arith) ∙ omega arith;
        unknown_code = λ r k h h'. c.parts_whole 3 r k (omega arith) (omega arith) ∙ omega arith;
        parts_back = c.parts_read 3 65535 65535 (omega arith) (omega arith) (omega arith);
        sample_read = c.check_read sample sample_bytes_lem ∙ passes;
        cut_read = c.check_read (take 79 sample) cut_bytes ∙ p.reading.refusal_cases.cut;
        member_read = c.decide_read sample sample_bytes_lem (query 10 21 5 1) ∙ answers.member;
        off_read = c.decide_read sample sample_bytes_lem (query 13 21 5 1) ∙ answers.off;
        no_rules_read = c.decide_read empty p.reading.sample_accepted.empty_bytes (query 0 0 0 0) ∙ answers.no_rules;
        transition_read = c.decide_read sample sample_bytes_lem (query 12 20 9 9) ∙ answers.transition;
        unknown_read = c.decide_read (extended sample companion) (companion_after p) (query 10 21 5 1) ∙ answers.companied;
        refused_read = c.decide_read sample sample_bytes_lem (query 32769 21 5 1) ∙ answers.no_group_1;
        group_read = λ l b n. (c.record_read l b).0 Groups n;
        rule_read = λ l b n. (c.record_read l b).0 Rules n;
        constraint_read = λ l b n. (c.record_read l b).0 Constraints n;
        no_section_read = λ s n h. (c.record_read sample sample_bytes_lem).1 s n (omega arith) ∙ or_else_next _ passes;
        companion_read = c.add_read (with_space sample companion) companion_space companion ∙ ap₂ outcome companied p.deciding.marked_adds.numbered;
        no_room_read = c.add_read sample sample_bytes_lem companion ∙ ap (λ f. outcome f (new_number sample companion)) p.reading.refusal_cases.no_room;
        row_fits = λ l b ns slots n e. (let h = subst (OutcomeFits RowFits) e (c.run_whole l b ns slots) in omega (arith, h));
        run_refusal_fits = λ l b ns slots f e. (let h = subst (OutcomeFits RowFits) e (c.run_whole l b ns slots) in (omega (arith, h.0), omega (arith, h.1)));
        any_run_read = λ l b ns ys o e. subst (λ x. host_run (run_code x) ≡ x) e (c.run_read l b ns ys).0;
        fit_read = (c.run_read sample sample_bytes_lem fit_numbers (7 ∷ 8 ∷ [])).0 ∙ numbers_are (member ∷ transition ∷ []) fit_numbers run_numbers.fit ∙ two_fit p;
        unfit_read = (c.run_read sample sample_bytes_lem unfit_numbers (7 ∷ 8 ∷ [])).0 ∙ numbers_are (member ∷ off_rule ∷ []) unfit_numbers run_numbers.unfit ∙ two_unfit p;
        slot_read = (c.run_read sample sample_bytes_lem fit_numbers (7 ∷ 8 ∷ [])).1 1 (((c.numbers_faults sample).1 passes).3 2 (omega arith) (omega arith)) (omega arith)
            ∙ ap (answer sample) run_numbers.second
            ∙ (row_answers answers).transition_is;
        built_fits = λ text b n h e. subst BuiltFits e (c.build_whole text b (omega (arith, h)));
        built_refusal_fits = λ text b f h e.
            (let k = subst BuiltFits e (c.build_whole text b (omega (arith, h))) in
            (omega (arith, k.0), omega (arith, k.1), omega (arith, k.2)));
        any_build_read = λ text b o h e. subst (λ x. host_built (build_code x) ≡ x) e (c.build_read text b (omega (arith, h)));
        sample_build_read =
            c.build_read sample_bytes (replicate 83 7) (omega (arith, texts.sample_length)) ∙ ap answer_of (sample_built p.building.worked_texts_lem);
        far_build_read = λ n b h k. c.build_read (outside_behind n) b (outside_fits n k) ∙ ap answer_of (far_outside p n b h);
        length_code = length_code;
        build_refusal_code = build_refusal_code;
        queries_run = λ l qs ys. (c.numbers_run_lem l qs ys).0;
        queries_codes = λ l qs ys e. (c.numbers_run_lem l qs ys).1 ∙ unless_accepted (map (row_code l) qs) ys e;
        six_numbers = six_numbers;
        all_numbers = λ ns m h e. c.numbers_whole ns m (λ i. let z = h i in omega (arith, z)) e;
        any_row = λ l ns ys i y a e k h. c.numbers_answered l ns ys i y (ap (λ n. numbers_fault l n (length ys)) e ∙ ((c.numbers_faults l).1 a).3 (length ys) (omega (arith, h)) k) h;
        second_row = λ l x₀ x₁ x₂ x₃ x₄ x₅ s d k a h w u v e. c.numbers_answered l (x₀ ∷ x₁ ∷ x₂ ∷ x₃ ∷ x₄ ∷ x₅ ∷ s ∷ d ∷ k ∷ a ∷ h ∷ w ∷ []) (u ∷ v ∷ []) 1 0 (((c.numbers_faults l).1 e).3 2 (omega arith) (omega arith)) (omega arith);
        image_numbers = λ l ns slots f e. (c.numbers_refused l ns slots f).0 ((c.numbers_faults l).0 f (length ns) slots e);
        numbers_few = λ l ns slots e k. refused_16 l ns slots (((c.numbers_faults l).1 e).0 (length ns) slots (omega (arith, k)));
        numbers_7 = λ l ns e k. refused_17 l ns 1 e (omega (arith, k)) (omega (arith, k)) (λ z. absurd (omega (arith, z, k)));
        numbers_6 = λ l ns e k. refused_17 l ns 2 e (omega (arith, k)) (omega (arith, k)) (λ z. absurd (omega (arith, z, k)));
        numbers_389 = λ l ns e k. refused_17 l ns 64 e (omega (arith, k)) (omega (arith, k)) (λ z. absurd (omega (arith, z, k)));
        numbers_390 = λ l ns slots e k. refused_16 l ns slots (((c.numbers_faults l).1 e).1 (length ns) slots (omega (arith, k)));
        numbers_384 = λ l ns f e k h. some_not_none
            (sym ((c.numbers_refused l ns 64 f).1 h) ∙ (let z : length ns ≡ 6 * 64 = omega (arith, k) in ap (λ n. numbers_fault l n 64) z ∙ ((c.numbers_faults l).1 e).3 64 (omega arith) (omega arith)));
        numbers_other = λ l ns slots a h k z. refused_17 l ns slots a h k z;
        left_any = λ l ns ys f. (c.numbers_left l ns ys).1 f;
        left_7 = λ l ns y e k. (c.numbers_left l ns (y ∷ [])).1 (refusal 17 0) (refused_17 l ns 1 e (omega (arith, k)) (omega (arith, k)) (λ z. absurd (omega (arith, z, k))));
        codes_many = λ l ns ys. (c.numbers_left l ns ys).0;
        fit_code = c.parts_whole 1 0 0 (omega arith) (omega arith);
        row_code_lem = λ n h. c.parts_whole 0 0 n (omega arith) (omega arith) ∙ omega arith;
      }
