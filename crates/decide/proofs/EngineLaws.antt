-- Laws of the decision, from the lowest rule and the lowest constraint, and of the answer. Assumes nothing.
use Prim.Native.Nat.{ℕ}
use mathlib.Core.Path.{◌≡◌, refl, sym, subst, ap, ◌∙◌}
use mathlib.Core.Bool.{Bool, true, false}
use Rattle.std.specs.Prelude.{Option, None, Some}
use mathlib.Core.List.{List}
use lib.ListN.{length, replicate}
use Rattle.format.specs.declared.Section.TheVariants.{Groups}
use Rattle.format.specs.declared.Refusal.{Refusal}
use Rattle.format.specs.Refusals.{refusal}
use Rattle.format.specs.Format.{count_of, is_type}
use Rattle.format.specs.Policy.{policy_of}
use Rattle.format.specs.Check.{Accepted}
use Rattle.format.specs.Claims.{IsType}
use Rattle.std.specs.Prelude.{Ok, Err}
use Rattle.format.specs.declared.Starts.{Starts}
use Rattle.format.specs.Answers.{outcome, Outcome}
use Rattle.decision.specs.declared.Query.{Query}
use Rattle.decision.specs.Decide as deciding
use Rattle.decision.specs.Decide.{first_at, covers, fails, nearest}
use Rattle.decide.specs.Inner.Parts.{rules_in, request_in, set_in, Ready, Surveyed}
use Rattle.decide.specs.Inner.Marks.{no_marks, mark_all, Marked}
use Rattle.decide.specs.Inner.Rules.{first_rule, first_constraint}
use Rattle.decide.specs.Inner.Nearer.{Uncovered}
use Rattle.decision.proofs.Search.{first_at_none}
use Rattle.format.proofs.Chain.{or_else_next, or_else_first, need_none, need_some, outcome_gives}
use Rattle.decide.proofs.TypeLaws.{set_rising}
use Rattle.decide.proofs.MarkedLaws.{marked_of}

-- the decision is that of the lowest covering rule and the lowest failing constraint, and of the nearest rule
module _ (l : List ℕ) (q : Query) where
  pub engine_is :
      (a b : Option ℕ) → a ≡ first_rule l q → b ≡ first_constraint l q
      → deciding.decision_of (nearest (request_in l q) (rules_in l q.switches)) a b
      ≡ deciding.decide (policy_of l) q
  unfolding deciding.decide deciding.judge first_rule first_constraint
  engine_is a b e f = rw (
    e,
    f,
  )

  -- no rule was found, so none covers
  pub found_none : None ≡ first_rule l q → Uncovered l q
  unfolding first_rule
  found_none e = first_at_none (covers (request_in l q)) 0 (rules_in l q.switches)
      (sym e)

  -- ---- the answer

  pub answer_accepted : Accepted l → deciding.answer l q
      ≡ outcome (deciding.query_fault (count_of l Groups) q) (deciding.decide (policy_of l) q)
  unfolding deciding.answer deciding.answer_fault
  answer_accepted e = ap (λ x. outcome x (deciding.decide (policy_of l) q)) (or_else_next _ e)

module _ (g : ℕ) (q : Query) where
  pub query_source : is_type g q.source ≡ false → deciding.query_fault g q ≡ Some (refusal 8 0)
  unfolding deciding.query_fault
  query_source e = or_else_first _ (need_some _ e)

  pub query_dest : is_type g q.source ≡ true → is_type g q.dest ≡ false → deciding.query_fault g q ≡ Some (refusal 9 0)
  unfolding deciding.query_fault
  query_dest e f = or_else_next _ (need_none _ e) ∙ need_some _ f

  pub query_valid : is_type g q.source ≡ true → is_type g q.dest ≡ true → deciding.query_fault g q ≡ None
  unfolding deciding.query_fault
  query_valid e f = or_else_next _ (need_none _ e) ∙ need_none _ f

pub type_told : (g h t w : ℕ) (b : Bool) → b ≡ is_type g t → g ≡ h → t ≡ w → is_type h w ≡ b
type_told g h t w b e f k = sym (e ∙ ap (λ x. is_type x t) f ∙ ap (is_type h) k)

-- marks of a set, where there were none before
pub marks_after : (ms ns : List Bool) (S : List ℕ) → ns ≡ mark_all ms S → ms ≡ no_marks → ns ≡ mark_all no_marks S
marks_after ms ns S e f = e ∙ ap (λ m. mark_all m S) f

pub marked_type :
    (l : List ℕ) (ms : List Bool) (size t w : ℕ) → Accepted l → IsType (count_of l Groups) w → t ≡ w
    → ms ≡ mark_all (replicate 1024 false) (set_in l t) → size ≡ length (set_in l t)
    → Marked (set_in l w) ms size
marked_type l ms size t w c ok is e f =
    let S = set_in l w in
    let e' : ms ≡ mark_all (replicate 1024 false) S = e ∙ ap (λ x. mark_all (replicate 1024 false) (set_in l x)) is in
    let f' : size ≡ length S = f ∙ ap (λ x. length (set_in l x)) is in
    subst (λ n. Marked S ms n) (sym f') (subst (λ m. Marked S m (length S)) (sym e') (marked_of S (set_rising l w c ok)))

-- where the check gave sections, the policy is accepted
pub surveyed_ready : (l ps : List ℕ) (x : Outcome Starts) (s : Starts) → Surveyed l ps x → x ≡ Ok s → Ready l ps s
surveyed_ready l ps x s p e =
    let k = outcome_gives _ _ (sym e ∙ p.sections) in
    record { known = record { accepted = k.0; placed = p.placed k.0 }; starting = k.1 }

module _ {A : Type 0} (f : Option Refusal) (a : A) where
  pub outcome_some : (x : Refusal) → f ≡ Some x → Err x ≡ outcome f a
  outcome_some x e = rw e refl

  pub outcome_none : f ≡ None → Ok a ≡ outcome f a
  outcome_none e = rw e refl
