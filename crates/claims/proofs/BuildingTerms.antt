-- What meets the terms of the claims of texts, from the statement: no claim's own proof is cited. Assumes nothing.
use Prim.Native.Nat.{ℕ, suc}
use native.Mathlib.Omega.{arith}
use mathlib.Core.Path.{refl, sym, ap, ◌∙◌}
use mathlib.Core.List.{List, [], ◌∷◌, ◌++◌, append_assoc}
use lib.ListN.{length}
use Rattle.format.specs.Bytes.{word_at}
use Rattle.format.specs.Refusals.{refusal}
use Rattle.format.specs.Sample.{empty}
use Rattle.format.proofs.Chain.{some_not_none}
use Rattle.extension.specs.Add.{overwrite}
use Rattle.text.specs.Words.{ascii, split}
use Rattle.text.specs.Build.{Made, rows_from, built}
use Rattle.text.specs.Claims.{record_count, complete, outside}
use Rattle.text.proofs.Rows.{answer_of, gives_not_refused}
use Rattle.text.proofs.Follow.{rows_place}
use Rattle.claims.specs.Promises.{Promises}
use Rattle.claims.specs.Terms.{trans, left, BuildingMet}
use Rattle.claims.proofs.Worked.{texts, sample_records, one_added, one_after}
use Rattle.claims.proofs.Worked.{off_row, switch_0_row, switch_31_row, list_row, return_outside, zero_outside, class_outside, switch_32_outside, switch_01_outside}
use Rattle.claims.proofs.Worked.{full_12, full_20, full_18, full_11, full_13, sample_built, trans_built, trans_short, outside_full, switch_built, return_refused}
use Rattle.claims.proofs.TextTerms.{behind_feed, cause_outside, cause_added, cause_there}
use Rattle.claims.proofs.TextTerms.{none_built, empty_built, row_counts, rows_left, left_well_formed, left_behind, next_outside, far_outside, first_built, own_alone, never}

pub building_met : Promises → BuildingMet
building_met p =
    let c = p.building in
    record {
      answer_length = λ text b n e. (c.each_row_added text b n e).image_length;
      rows_left = rows_left p;
      outside_refused = λ text b n h e. some_not_none (sym (c.each_row_added text b n e).from_rows ∙ h);
      sample_seven =
          let q = sample_built c.worked_texts_lem in
          let a = c.each_row_added _ _ 80 (ap answer_of q) in
          ap (λ (x : Made). record_count x.buffer) (sym q) ∙ a.count ∙ sample_records a.records a.from_rows;
      no_record = none_built p;
      one_record = λ text b r h e k.
          c.rows_enough text b (r ∷ []) h e (one_added (overwrite empty b) r k)
          ∙ ap (λ (x : List ℕ). complete x) (one_after (overwrite empty b) r);
      no_record_refused = λ text b rs f h e a k. gives_not_refused (sym (ap answer_of (c.rows_enough text b rs h e a)) ∙ k);
      nine_bytes = λ b e. empty_built p b (omega (arith, e));
      left_accepted = λ text b h. (c.built_accepted text b h).accepted;
      left_well_formed = left_well_formed p;
      left_behind = left_behind p;
      nine_accepted = λ text b e. (c.built_accepted text b (omega (arith, e))).accepted;
      feed_alone = λ b. c.last_line_feed [] b;
      feed_behind = λ text b. ap (λ (x : Made). x.buffer) (c.last_line_feed text b);
      feeds_behind = λ text b.
          ap (λ (x : List ℕ). built x b) (sym (append_assoc text (10 ∷ []) (10 ∷ [])))
          ∙ c.last_line_feed (text ++ (10 ∷ [])) b ∙ c.last_line_feed text b;
      row_counts = row_counts p;
      trans_counts = λ b n e. row_counts p trans b n texts.trans_row (omega (arith, texts.trans_length)) e;
      trans_behind = λ text b n e. (c.last_row_counts trans b texts.trans_row (omega (arith, texts.trans_length))).1 text n e;
      next_first = λ more b h.
          let q = empty_built p b h in
          c.next_rows [] more b _ (ap answer_of q) ∙ ap (λ (x : Made). rows_from 1 (split 10 more) x.buffer) q;
      next_outside = next_outside p;
      far_outside = far_outside p;
      next_place = λ text more b n f e k.
          (rows_place (suc (length text)) more (left text b) f (sym (ap answer_of (c.next_rows text more b n e)) ∙ k)).0;
      refused_whatever = λ text more b f e.
          let q = c.refused_stops text more b f e in
          (ap answer_of q ∙ e, ap (λ (x : Made). x.buffer) q);
      first_outside = λ more b h.
          let q = first_built p b h in
          c.refused_stops (ascii "x") more b (refusal 18 0) (ap answer_of q) ∙ q;
      place_inside = λ text b f h e. omega (arith, (c.refused_keeps text b f h e).inside);
      place_behind = λ text b f n h e k. behind_feed text f.place n (c.refused_keeps text b f h e).row k;
      before_builds = λ text b f h e.
          let q = (c.refused_keeps text b f h e).before in
          ((word_at (left text b) 1, ap answer_of q), ap (λ (x : Made). x.buffer) q);
      nine_refused = λ text b f h e. (c.refused_keeps text b f (omega (arith, h)) e).inside;
      row_refused = λ text b f h e.
          let k = c.refused_keeps text b f h e in
          (k.own, k.later, k.rows, omega (arith, k.not_empty));
      row_outside = λ text b row rows f h e q k.
          cause_outside row (left text b) f.number (cause_there text b row rows f (c.refused_keeps text b f h e) q) k;
      row_not_added = λ text b row r rows f h e q k.
          cause_added row (left text b) r f.number (cause_there text b row rows f (c.refused_keeps text b f h e) q) k;
      eight_bytes = λ text b e. c.refused_short text b (omega (arith, e));
      no_bytes = λ text. c.refused_short text [] (omega arith);
      short_left = λ text b h. ap (λ (x : Made). x.buffer) (c.refused_short text b (omega (arith, h)));
      own_alone = own_alone p;
      never_10 = λ text b f e h. never p text b f e 10 h refl;
      never_14 = λ text b f e h. never p text b f e 14 h refl;
      never_0 = λ text b f e h. never p text b f e 0 h refl;
      longest_enough = λ text b f h. c.space_enough text b f (omega (arith, h));
      space_own = λ text b f h e h₁ h₂ h₃ h₄. own_alone p text b f e h₁ h₂ (c.space_enough text b f h e) h₃ h₄;
      worked_all = (texts.rows, texts.outside, texts.texts);
      off_row = off_row c.worked_rows_lem;
      switch_0_row = switch_0_row c.worked_rows_lem;
      switch_31_row = switch_31_row c.worked_rows_lem;
      list_row = list_row c.worked_rows_lem;
      return_outside = return_outside c.worked_outside;
      zero_outside = zero_outside c.worked_outside;
      class_outside = class_outside c.worked_outside;
      switch_32_outside = switch_32_outside c.worked_outside;
      switch_01_outside = switch_01_outside c.worked_outside;
      zero_byte = c.worked_outside.zero_byte;
      high_byte = c.worked_outside.high_byte;
      members_outside = c.worked_outside.members_65;
      members_most = c.worked_outside.members_64;
      full_12 = full_12 c.worked_full;
      full_20 = full_20 c.worked_full;
      full_18 = full_18 c.worked_full;
      full_11 = full_11 c.worked_full;
      full_13 = full_13 c.worked_full;
      sample_built = sample_built c.worked_texts_lem;
      trans_built = trans_built c.worked_texts_lem;
      trans_short = trans_short c.worked_texts_lem;
      outside_full = outside_full c.worked_texts_lem;
      switch_built = switch_built c.worked_texts_lem;
      return_refused = return_refused c.worked_texts_lem;
    }
