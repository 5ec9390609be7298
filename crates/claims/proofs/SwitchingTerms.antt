-- What meets the terms of request 6's claims, from the statement: no claim's own proof is cited. Assumes nothing.
use Prim.Native.Nat.{ℕ, ◌+◌, ◌*◌, ◌-◌, ◌/◌, ◌%◌, ◌<◌, ◌≤◌, ◌^◌}
use native.Mathlib.Nat.{zero-div}
use native.Mathlib.Omega.{arith}
use mathlib.Core.Path.{◌≡◌, refl, sym, subst, ap, ◌∙◌}
use mathlib.Core.Bool.{Bool, true, false, not}
use mathlib.Core.List.{List, [], map, Memᴰ}
use lib.ListN.{get_or}
use lib.Dec.{eqb}
use borrow.Author.Tests.{ltb-true, eqb-true, eqb-false}
use Rattle.format.specs.Bytes.{Bytes}
use Rattle.format.specs.Policy.{Policy, image_of, policy_of}
use Rattle.format.specs.Check.{Accepted}
use Rattle.std.specs.Prelude.{Ok}
use Rattle.format.specs.Sample.{sample}
use Rattle.format.proofs.Tests.{false_not_true}
use Rattle.decision.specs.declared.Query.{Query}
use Rattle.decision.specs.Conditions.{switch_on, is_on}
use Rattle.decision.specs.declared.Decision.{Decision}
use Rattle.decision.specs.declared.Decision.TheVariants.{Permitted}
use Rattle.decision.specs.Decide.{decide, answer, query_of}
use Rattle.decision.specs.Order.{height, NoCompanion, SwitchedOn}
use Rattle.decision.specs.Switches.{up_to, NoSwitches, settled_rule, settled, only_on, sample_if}
use Rattle.decision.specs.Tepla.{Dcs, forget, eval_policy}
use Rattle.decision.proofs.Search.{by_test, member_at, all_of_elim}
use Rattle.decision.proofs.Above.{height_permitted}
use Rattle.decision.proofs.Switches.{by_switch, none_on}
use Rattle.decision.proofs.Tepla.{forget_permitted}
use Rattle.runs.proofs.Holds.{map_at}
use Rattle.claims.specs.Promises.{Promises}
use Rattle.claims.specs.Terms.{AtLeast, all_on, SwitchRows, SwitchingMet}
use Rattle.claims.proofs.Cases.{switch_rows, word_is, up_to_many, up_to_at, all_on_lem, switch_rules, sample_if_bytes, settled_in, settled_kind}
use Rattle.claims.proofs.Worked.{words_said}
use Rattle.claims.proofs.DecidingTerms.{gives_one}

-- ---- the tables of all switches

module _ (F G : ℕ → ℕ → Bool) where
  -- equal tables are equal at each place
  table_at :
      map (λ k. map (F k) (up_to 32)) (up_to 32) ≡ map (λ k. map (G k) (up_to 32)) (up_to 32)
      → (k j : ℕ) → k < 32 → j < 32 → F k j ≡ G k j
  table_at e k j hk hj = sym (at F) ∙ ap (λ (t : List (List Bool)). get_or (get_or t k []) j false) e ∙ at G
    where
      at : (H : ℕ → ℕ → Bool) → get_or (get_or (map (λ i. map (H i) (up_to 32)) (up_to 32)) k []) j false ≡ H k j
      at H =
          ap (λ (row : List Bool). get_or row j false) (map_at (λ i. map (H i) (up_to 32)) (up_to 32) k 0 [] (omega (arith, up_to_many 32)))
          ∙ map_at (H (get_or (up_to 32) k 0)) (up_to 32) j 0 false (omega (arith, up_to_many 32))
          ∙ ap (λ (i : ℕ). H i (get_or (up_to 32) j 0)) (up_to_at 32 k hk)
          ∙ ap (H k) (up_to_at 32 j hj)

-- ---- words

on_none : (w : ℕ) → SwitchedOn 0 w
on_none w k h t = false_not_true (sym (none_on k) ∙ t)

on_all : (v : ℕ) → SwitchedOn v all_on
on_all v k h t =
    let m : Memᴰ k (up_to 32) = subst (λ (i : ℕ). Memᴰ i (up_to 32)) (up_to_at 32 k h) (member_at (up_to 32) k 0 (omega (arith, up_to_many 32))) in
    all_of_elim (switch_on all_on) all_on_lem m

module _ (p : Promises) where
  is : SwitchRows
  is = switch_rows p.switching.switch_cases_lem

  one_on : (k j : ℕ) → k < 32 → j < 32 → is_on (2 ^ k) (2 + j) ≡ eqb k j
  one_on = table_at (λ k j. is_on (2 ^ k) (2 + j)) eqb p.switching.one_switch.one_on

  -- of the word 1 switch 0 alone is on
  on_first : (w : ℕ) → switch_on w 0 ≡ true → SwitchedOn 1 w
  on_first w t k h u =
      let e : 0 ≡ k = eqb-true 0 k (sym (one_on 0 k (omega arith) h) ∙ by_switch 1 k ∙ u) in
      subst (λ (i : ℕ). switch_on w i ≡ true) e t

  -- an even quotient, or an odd one
  module _ (w k : ℕ) where
    odd_on : w / 2 ^ k % 2 ≡ 1 → is_on w (2 + k) ≡ true
    odd_on e = p.switching.condition_means.switch_on_lem w k (w / 2 ^ k / 2) (odd (w / 2 ^ k) e)
      where
        odd : (n : ℕ) → n % 2 ≡ 1 → n ≡ 2 * (n / 2) + 1
        odd n h = omega arith

    on_odd : is_on w (2 + k) ≡ true → w / 2 ^ k % 2 ≡ 1
    on_odd t =
        by_test (eqb (w / 2 ^ k % 2) 1) (eqb-true (w / 2 ^ k % 2) 1)
        (λ f. false_not_true (sym (p.switching.condition_means.switch_off w k (w / 2 ^ k / 2) (even (w / 2 ^ k) (eqb-false (w / 2 ^ k % 2) 1 f))) ∙ t))
      where
        even : (n : ℕ) → (n % 2 ≡ 1 → ⊥) → n ≡ 2 * (n / 2)
        even n h = omega arith

  -- a query of numbers under another word
  unread : (l : List ℕ) → NoSwitches (policy_of l) → (s d c a v w : ℕ) → answer l (query_of s d c a v) ≡ answer l (query_of s d c a w)
  unread l n s d c a v w = sym (p.switching.word_unread l (query_of s d c a v) w n) ∙ ap (answer l) (word_is s d c a v w)

  sample_no_switches : NoSwitches (policy_of sample)
  sample_no_switches r m k = ltb-true (get_or r 10 0) 2 (all_of_elim _ switch_rules.sample_plain m)

  any_settled :
      (l : List ℕ) (s d c a v w : ℕ) → Bytes l → Accepted l
      → answer (image_of (settled v (policy_of l))) (query_of s d c a w) ≡ answer l (query_of s d c a v)
  any_settled l s d c a v w b e = ap (answer _) (sym (word_is s d c a v w)) ∙ p.switching.answers_settled.answers l (query_of s d c a v) w b e

  sample_if_accepted : Accepted (sample_if 2)
  sample_if_accepted = (p.deciding.decided_only (sample_if 2) _ (Permitted 3) is.switch_0_on).0

  sample_if_settled : (s d c a v w : ℕ) → answer (image_of (settled v (policy_of (sample_if 2)))) (query_of s d c a w) ≡ answer (sample_if 2) (query_of s d c a v)
  sample_if_settled s d c a v w = any_settled (sample_if 2) s d c a v w sample_if_bytes sample_if_accepted

  settled_plain : (o : Policy) (w : ℕ) (r : List ℕ) → Memᴰ r o.rules → get_or r 1 0 ≡ 2 → get_or (settled_rule w r) 10 0 ≤ 1
  settled_plain o w r m k =
      let h = p.switching.answers_settled.plain o w (settled_rule w r) (settled_in o w r m) (settled_kind o w r ∙ k) in
      omega (arith, h)

  as_high : (o : Policy) (s d c a v w : ℕ) → height (decide (only_on v o) (query_of s d c a w)) ≡ height (decide o (query_of s d c a v))
  as_high o s d c a v w = ap (λ (q : Query). height (decide (only_on v o) q)) (sym (word_is s d c a v w)) ∙ p.switching.switches_add.level o (query_of s d c a v) w

  rises :
      (l : List ℕ) (s d c a v w : ℕ) (d₁ d₂ : Decision) → answer l (query_of s d c a v) ≡ Ok d₁ → answer l (query_of s d c a w) ≡ Ok d₂
      → SwitchedOn v w → NoCompanion (policy_of l).constraints → height d₁ ≤ height d₂
  rises l s d c a v w d₁ d₂ e₁ e₂ = p.switching.switch_order l (query_of s d c a v) w d₁ d₂ e₁ (ap (answer l) (word_is s d c a v w) ∙ e₂)

  sample_if_stays : (w : ℕ) → switch_on w 0 ≡ true → AtLeast 1 (sample_if 2) (query_of 13 21 5 1 w)
  sample_if_stays w t d e =
      let None : NoCompanion (policy_of (sample_if 2)).constraints = subst NoCompanion (sym switch_rules.constraints) p.ordering.marked_order.no_companion in
      let h = rises (sample_if 2) 13 21 5 1 1 w (Permitted 3) d is.switch_0_on e (on_first w t) None in
      omega (arith, h, height_permitted 3)

  published : (l : List ℕ) (q : Query) (n : ℕ) → answer l q ≡ Ok (Permitted n) → eval_policy (policy_of l) q ≡ Dcs.Permitted
  published l q n e =
      let v = p.deciding.decided_only l q (Permitted n) e in
      let x = p.deciding.published_answer l q v.0 v.1 in
      x.2 ∙ ap forget (gives_one (sym x.1 ∙ e)) ∙ forget_permitted n

  pub switching_met : SwitchingMet
  switching_met =
      let s = p.switching in
      record {
        byte_0 = s.condition_means.off;
        byte_1 = s.condition_means.on;
        odd_on = odd_on;
        on_odd = on_odd;
        none_on = λ k. s.condition_means.switch_off 0 k 0 (zero-div (2 ^ k));
        one_on = one_on;
        one_off = table_at (λ k j. is_on (all_on - 2 ^ k) (2 + j)) (λ k j. not (eqb k j)) s.one_switch.one_off;
        switch_31 = (s.condition_means.switch_on_lem 0x80000000 31 0 refl, s.condition_means.switch_off 0x7FFFFFFF 31 0 refl);
        plain_unread = λ l q₁ q₂ q₃ q₄ v w h. unread l (λ r m k. let z = h r m k in omega (arith, z)) q₁ q₂ q₃ q₄ v w;
        sample_no_switches = sample_no_switches;
        sample_unread = unread sample sample_no_switches;
        any_settled = any_settled;
        sample_if_on = λ q₁ q₂ q₃ q₄ w. ap (λ (l : List ℕ). answer l (query_of q₁ q₂ q₃ q₄ w)) (sym switch_rules.settled_on) ∙ sample_if_settled q₁ q₂ q₃ q₄ 1 w;
        sample_if_off = λ q₁ q₂ q₃ q₄ w. ap (λ (l : List ℕ). answer l (query_of q₁ q₂ q₃ q₄ w)) (sym switch_rules.settled_off) ∙ sample_if_settled q₁ q₂ q₃ q₄ 0 w;
        settled_accepted = s.answers_settled.accepted;
        settled_plain = settled_plain;
        rules_more = λ l v w e h. (let g = s.switches_add.grows l v w e h in (g.rules, g.constraints, g.groups.count, g.groups.same));
        none_grows = λ l w e. s.switches_add.grows l 0 w e (on_none w);
        all_grows = λ l v e. s.switches_add.grows l v all_on e (on_all v);
        one_rule_more = (switch_rules.three, switch_rules.four);
        as_high = as_high;
        switches_rise = rises;
        from_none = λ l q₁ q₂ q₃ q₄ w d₁ d₂ e₁ e₂. rises l q₁ q₂ q₃ q₄ 0 w d₁ d₂ e₁ e₂ (on_none w);
        to_all = λ l q₁ q₂ q₃ q₄ v d₁ d₂ e₁ e₂. rises l q₁ q₂ q₃ q₄ v all_on d₁ d₂ e₁ e₂ (on_all v);
        sample_if_stays = sample_if_stays;
        each_word = s.condition_words.each;
        words_said = words_said s.condition_words;
        no_other_word = λ word n h e. (let o = s.condition_words.only word n e in h n o.0 o.1);
        no_byte_34 = λ word n h e. (let o = s.condition_words.only word n e in omega (arith, o.0, h));
        switch_rows = is;
        published_on = published _ _ 3 is.switch_0_on;
        published_off = published _ _ 1 is.switched_off;
      }
