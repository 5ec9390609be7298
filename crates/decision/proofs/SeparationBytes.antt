-- What a separation means by the bytes of its record and of the rules'. Claim SeparationRead. Assumes nothing.
use Prim.Native.Nat.{ℕ}
use mathlib.Core.Path.{◌≡◌, refl, sym, ap, subst, ◌∙◌}
use mathlib.Core.Bool.{Bool, true, false, ◌&&◌, cond}
use mathlib.Core.List.Memᴰ
use mathlib.Core.List.{List}
use native.Mathlib.Omega.{arith}
use lib.ListN.{get_or}
use lib.Dec.{eqb}
use borrow.Author.Tests.{eqb-true, ne_eqb}
use Rattle.format.specs.Bytes.{word_at}
use Rattle.format.specs.Policy.{Policy}
use Rattle.format.proofs.Tests.{both}
use Rattle.decision.specs.Sets.{is_in, set_of}
use Rattle.decision.specs.Conditions.{is_on}
use Rattle.decision.specs.Reading.{Rule, live, rule_of, constraint_of, rules_of}
use Rattle.decision.specs.Decide.{separation_broken, broken}
use Rattle.decision.specs.Separation.{From, FromRecord, SeparationRead}
use Rattle.decision.proofs.Implies.{touches_elim, touches_intro}
use Rattle.decision.proofs.Separation.{separation_means}

live_bytes : (p : Policy) (w : ℕ) (r : List ℕ) → live (rule_of p w r) ≡ eqb (get_or r 1 0) 2 && cond (eqb (get_or r 1 0) 3) true (eqb (get_or r 1 0) 2 && is_on w (get_or r 10 0))
unfolding live rule_of
live_bytes p w r = refl

dest_bytes : (p : Policy) (w : ℕ) (r : List ℕ) → (rule_of p w r).dest ≡ set_of p.groups (word_at r 4)
unfolding rule_of
dest_bytes p w r = refl

source_bytes : (p : Policy) (w : ℕ) (r : List ℕ) → (rule_of p w r).source ≡ set_of p.groups (word_at r 2)
unfolding rule_of
source_bytes p w r = refl

is_live : (p : Policy) (w : ℕ) (r : List ℕ) → get_or r 1 0 ≡ 2 → is_on w (get_or r 10 0) ≡ true → live (rule_of p w r) ≡ true
is_live p w r k o = live_bytes p w r ∙ simp (k, o)

live_kind : (p : Policy) (w : ℕ) (r : List ℕ) → live (rule_of p w r) ≡ true → (get_or r 1 0 ≡ 2) × (is_on w (get_or r 10 0) ≡ true)
live_kind p w r t =
    let u = both (eqb (get_or r 1 0) 2) _ (sym (live_bytes p w r) ∙ t) in
    let k = eqb-true (get_or r 1 0) 2 u.0 in
    let n : eqb (get_or r 1 0) 3 ≡ false = ne_eqb (get_or r 1 0) 3 (λ h. absurd (omega (arith, h, k))) in
    let v : eqb (get_or r 1 0) 2 && is_on w (get_or r 10 0) ≡ true = subst (λ (b : Bool). cond b true (eqb (get_or r 1 0) 2 && is_on w (get_or r 10 0)) ≡ true) n u.1 in
    (k, (both (eqb (get_or r 1 0) 2) (is_on w (get_or r 10 0)) v).1)

to_from : (p : Policy) (w t x : ℕ) → FromRecord p w t x → From (rules_of p w) (set_of p.groups t) x
unfolding rules_of
to_from p w t x f =
    record {
      rule = rule_of p w f.bytes;
      one = Memᴰ.map (rule_of p w) f.one;
      is_live = is_live p w f.bytes f.kind f.on;
      touching = touches_intro (rule_of p w f.bytes).dest (set_of p.groups t) f.y (ap (is_in f.y) (dest_bytes p w f.bytes) ∙ f.there) f.argued;
      has = ap (is_in x) (source_bytes p w f.bytes) ∙ f.has;
    }

from_to : (p : Policy) (w t x : ℕ) → From (rules_of p w) (set_of p.groups t) x → FromRecord p w t x
unfolding rules_of
from_to p w t x f =
    let r = Memᴰ.of_map (rule_of p w) p.rules f.one in
    let e = r.2 in
    let k = live_kind p w r.0 (ap live e ∙ f.is_live) in
    let y = touches_elim f.rule.dest (set_of p.groups t) f.touching in
    record {
      bytes = r.0;
      one = r.1;
      kind = k.0;
      on = k.1;
      y = y.0;
      there = sym (ap (is_in y.0) (dest_bytes p w r.0)) ∙ ap (λ (z : Rule). is_in y.0 z.dest) e ∙ y.1;
      argued = y.2;
      has = sym (ap (is_in x) (source_bytes p w r.0)) ∙ ap (λ (z : Rule). is_in x z.source) e ∙ f.has;
    }

broken_read : (p : Policy) (w : ℕ) (r : List ℕ) → get_or r 10 0 ≡ 1 → broken (rules_of p w) (constraint_of p r) ≡ separation_broken (rules_of p w) (constraint_of p r)
unfolding broken constraint_of
broken_read p w r e = simp e

first_bytes : (p : Policy) (w : ℕ) (r : List ℕ) → (constraint_of p r).first ≡ set_of p.groups (word_at r 6)
unfolding constraint_of
first_bytes p w r = refl

second_bytes : (p : Policy) (w : ℕ) (r : List ℕ) → (constraint_of p r).second ≡ set_of p.groups (word_at r 8)
unfolding constraint_of
second_bytes p w r = refl

pub separation_read : SeparationRead
separation_read =
    record {
      only = λ p w r e t.
          (let k = separation_means.only (rules_of p w) (constraint_of p r) (sym (broken_read p w r e) ∙ t) in (
            k.0,
            from_to p w (word_at r 6) k.0 (subst (λ (s : List ℕ). From (rules_of p w) s k.0) (first_bytes p w r) k.1),
            from_to p w (word_at r 8) k.0 (subst (λ (s : List ℕ). From (rules_of p w) s k.0) (second_bytes p w r) k.2),
          ));
      all = λ p w r x e f g.
          broken_read p w r e
          ∙ separation_means.all (rules_of p w) (constraint_of p r) x
          (subst (λ (s : List ℕ). From (rules_of p w) s x) (sym (first_bytes p w r)) (to_from p w (word_at r 6) x f))
          (subst (λ (s : List ℕ). From (rules_of p w) s x) (sym (second_bytes p w r)) (to_from p w (word_at r 8) x g));
    }
