-- What meets the terms of request 7's claims, from the statement: no claim's own proof is cited. Assumes nothing.
use Prim.Native.Nat.{ℕ, ◌<◌}
use native.Mathlib.Omega.{arith}
use mathlib.Core.Path.{◌≡◌, refl, sym, subst, ap, ◌∙◌}
use mathlib.Core.Logic.{inl, inr, ⊎_elim}
use Rattle.std.specs.Prelude.{None}
use mathlib.Core.List.{List, [], ◌∷◌}
use lib.ListN.{length, get_or, take, drop, replicate, length-replicate}
use Rattle.format.specs.Refusals.{refusal}
use Rattle.format.specs.Policy.{policy_of}
use Rattle.format.specs.Check.{LaidOut, Accepted}
use Rattle.format.specs.Sample.{sample, empty}
use Rattle.decision.specs.Decide.{answer}
use Rattle.decision.specs.Cases.{with_space}
use Rattle.conversion.specs.Groups.{distinct}
use Rattle.conversion.specs.Retype.{retype_query}
use Rattle.conversion.specs.Convert.{follow, converted_image, convert_fault, buffer_converted}
use Rattle.lines.specs.Compiled.{Written}
use Rattle.lines.specs.Converted.{convert_output}
use Rattle.claims.specs.Promises.{Promises}
use Rattle.claims.specs.Converting.{old_image, new_image, sample_group, ConvertingMet}
use Rattle.claims.proofs.Worked.{reads_once}
use Rattle.claims.proofs.Cases.{old_bytes, cut_bytes, sample_length, sample_group_lem, space_group, space_front, sample_front}

module _ (p : Promises) where
  laid_old : LaidOut old_image
  laid_old = p.converting.converted_cases.laid_out

  new_is : converted_image old_image ≡ new_image
  new_is = p.converting.converted_cases.image

  laid : (l : List ℕ) → Accepted l → LaidOut l
  laid l e = ((p.converting.accepted_means l).0 e).0

  sample_same : converted_image sample ≡ sample
  sample_same = let a = p.reading.sample_accepted in p.converting.converted_bytes sample a.sample_bytes_lem a.sample_passes

  -- the sample in a buffer of 83 bytes
  sample_fits : convert_fault sample (length (replicate {A = ℕ} 83 7)) ≡ None
  sample_fits =
      p.converting.convert_numbers.fits sample (length (replicate {A = ℕ} 83 7)) (laid sample p.reading.sample_accepted.sample_passes)
      (omega (arith, ap length sample_same, sample_length, length-replicate {A = ℕ} 83 7))

  eighty : length (converted_image sample) ≡ 80
  eighty = ap length sample_same ∙ sample_length

  sample_past : drop 80 (buffer_converted sample (replicate 83 7)) ≡ replicate 3 7
  sample_past =
      ap (λ (n : ℕ). drop n (buffer_converted sample (replicate 83 7))) (sym eighty)
      ∙ (p.converting.past_stays sample (replicate 83 7) sample_fits).1
      ∙ ap (λ (n : ℕ). drop n (replicate 83 7)) eighty

  sample_first : take 80 (buffer_converted sample (replicate 83 7)) ≡ sample
  sample_first =
      ap (λ (n : ℕ). take n (buffer_converted sample (replicate 83 7))) (sym eighty)
      ∙ (p.converting.past_stays sample (replicate 83 7) sample_fits).0 ∙ sample_same

  new_accepted : Accepted new_image
  new_accepted = subst Accepted new_is (p.converting.converted_accepted old_image old_bytes laid_old).accepted

  order_lowest :
      (gs : List (List ℕ)) (i j k : ℕ) → j < k → k < length (distinct gs) → get_or gs i [] ≡ get_or (distinct gs) k []
      → (m : ℕ) × (m < i) × (get_or gs m [] ≡ get_or (distinct gs) j [])
  order_lowest gs i j k h x e =
      let s = (p.converting.groups_stay gs).0 in
      (s.from j, below i (s.from j) (s.from k) (s.in_order j k h x) (λ q. s.lowest k x i q (e ∙ s.same k x)), sym (s.same j (omega arith)))
    where
      below : (i a b : ℕ) → a < b → (i < b → ⊥) → a < i
      below i a b h n = omega (arith, h, n)

  pub converting_met : ConvertingMet
  converting_met =
      let c = p.converting in
      let a = p.reading.sample_accepted in
      record {
        old_well_formed = (c.laid_is_well_formed old_image old_bytes laid_old).0;
        old_image_lem = (c.laid_is_well_formed old_image old_bytes laid_old).1;
        any_laid = λ q w. (let z = c.well_formed_is_laid q w in (z.1, z.0, z.2));
        no_two = λ l e. (c.no_twins_means (policy_of l).groups).0 ((c.accepted_means l).0 e).1;
        apart_accepted = λ l e h. (c.accepted_means l).1 e ((c.no_twins_means (policy_of l).groups).1 h);
        accepted_laid = laid;
        twin_inside = λ gs n e. (c.first_twin_lem gs n e).inside;
        twin_earlier = λ gs n e. (let t = c.first_twin_lem gs n e in (t.earlier, t.before, t.alike));
        twin_first = λ gs n e. (c.first_twin_lem gs n e).first;
        same_members = λ g x y q r bx by h k. (c.twins_by_members g x y q r bx by).0 (record { there = h; back = k });
        sample_twin = c.twin_refused.refused (with_space sample sample_group) sample_group (space_front a.sample_passes) (space_group a.sample_passes);
        no_room_twin = c.twin_refused.refused sample sample_group (sample_front a.sample_passes) (sample_group_lem a.sample_passes);
        any_twin = c.twin_refused.refused;
        only_twin = λ b r at e. c.twin_refused.only b r (refusal 20 at) e refl;
        stood = λ gs k h.
            (let s = (c.groups_stay gs).0 in
            (s.from k, s.inside k h, sym (s.same k h), λ j i e. s.lowest k h j i (e ∙ s.same k h)));
        each_stays = λ gs g m. (c.groups_stay gs).0.all g m;
        none_twice = λ gs. (c.groups_stay gs).1;
        order_kept = λ gs j k h i.
            (let s = (c.groups_stay gs).0 in
            (s.from j, s.from k, s.in_order j k h i, sym (s.same j (omega arith)), sym (s.same k i)));
        counts_kept = λ l b e. (let r = c.records_stay l b e in (r.rule_count, r.constraint_count, r.version));
        rule_byte = λ l b e i k h m. (c.records_stay l b e).rule_bytes i h k (inr m);
        rule_types = λ l b e i h. ((c.records_stay l b e).rules i h).fields;
        predicate_byte = λ l b e i h. (c.records_stay l b e).constraint_bytes i h 10 (inr refl);
        constraint_types = λ l b e i h. ((c.records_stay l b e).constraints i h).fields;
        any_set = c.types_follow.set;
        last_basic = λ q. c.types_follow.basic q 1023 (omega arith);
        last_group = λ q k h. c.types_follow.group q k (omega arith);
        same_rules = λ l w b e. (c.converted_reads l b e).0 w;
        same_constraints = λ l b e. (c.converted_reads l b e).1;
        same_answer = c.converted_answers;
        old_answer = λ q v.
            ap (λ (l : List ℕ). answer l (retype_query (follow (policy_of old_image)) q)) (sym new_is) ∙ c.converted_answers old_image q old_bytes laid_old v;
        any_accepted = λ l b e. (let n = c.converted_accepted l b e in (n.accepted, n.shorter));
        new_accepted = new_accepted;
        sample_same = sample_same;
        empty_same = c.converted_bytes empty a.empty_bytes a.empty_passes;
        new_same = ap converted_image (sym new_is) ∙ c.converted_once old_image old_bytes laid_old ∙ new_is;
        sample_past = sample_past;
        sample_front = sample_first;
        short_stays = c.refused_stays old_image (replicate 56 7) (refusal 13 0) c.converted_cases.short;
        exact_fits = λ l e. c.convert_numbers.fits l (length (converted_image l)) e (omega arith);
        one_short = λ l n e h. c.convert_numbers.short l n e (omega arith);
        old_twin = c.converted_cases.twins;
        old_end = c.converted_cases.end_first;
        old_field = c.converted_cases.field_first;
        old_last = ap (λ (ts : List ℕ). get_or ts 6 0) c.converted_cases.types;
        any_19 = c.twins_found.found;
        one_to_seven = c.twins_found.image_first;
        any_old = c.laid_is_well_formed;
        any_apart = λ gs. (c.no_twins_means gs).0;
        apart_any = λ gs. (c.no_twins_means gs).1;
        order_lowest = order_lowest;
        groups_are = λ l b e. (c.records_stay l b e).groups;
        rule_front = λ l b e i k h m. (c.records_stay l b e).rule_bytes i h k (inl m);
        rule_size = λ l b e i h. ((c.records_stay l b e).rules i h).size;
        constraint_front = λ l b e i k h m. (c.records_stay l b e).constraint_bytes i h k (inl m);
        constraint_size = λ l b e i h. ((c.records_stay l b e).constraints i h).size;
        any_valid = c.types_follow.valid;
        any_basic = c.types_follow.basic;
        any_group = c.types_follow.group;
        any_policy = λ l b e. (let n = c.converted_accepted l b e in (n.bytes, n.policy));
        any_same = c.converted_bytes;
        any_once = c.converted_once;
        any_past = c.past_stays;
        any_stays = c.refused_stays;
        image_first = c.convert_numbers.image;
        any_short = c.convert_numbers.short;
        any_fits = c.convert_numbers.fits;
        gathered_at_once = λ i. p.printing.any_converted i (i ∷ []) (reads_once i);
        old_output = ap (λ (w : Written). w.output) (p.printing.old_written_lem old_image old_bytes laid_old) ∙ new_is;
        sample_output = ap (λ (w : Written). w.output) (p.printing.accepted_written sample a.sample_bytes_lem a.sample_passes);
        cut_errors = λ f e. ap (λ (w : Written). w.errors) (p.printing.refused_written (take 79 sample) f cut_bytes e);
        no_image_line = λ i e.
            ⊎_elim (λ q. (let z : length (convert_output i).output ≡ 0 = ap length e in absurd (omega (arith, q.0)))) (λ q. q.1)
            (p.printing.one_written i);
        no_line_image = λ i e.
            ⊎_elim (λ q. q.0)
            (λ q. (let z : ◌≡◌ {A = ℕ} 0 82 = ap (λ (l : List ℕ). get_or l 0 0) (sym e) ∙ q.1 in absurd (omega arith)))
            (p.printing.one_written i);
      }
