-- The decision names the lowest rule, the lowest constraint and the nearest rule. Claims LowestNamed, NamedAlone, LowestAnswered.
-- Assumes nothing.
use Prim.Native.Nat.{ℕ, ◌+◌}
use mathlib.Core.Path.{◌≡◌, refl, sym, subst, ap, ap₂, ◌∙◌}
use mathlib.Core.Bool.{Bool}
use Rattle.std.specs.Prelude.{Option, None, Some}
use mathlib.Core.List.{List}
use native.Mathlib.Omega.{arith}
use Rattle.decision.specs.Reading.{Rule, Constraint, Request}
use Rattle.decision.specs.declared.Decision.TheVariants.{NotPermitted, Permitted, UnKnown}
use Rattle.decision.specs.Decide.{covers, steps, fails, first_at, nearest_of, nearest_by, nearest, decision_of, judge, decide, Nearest}
use Rattle.decision.specs.Lowest.{Lowest, Nears, Names, LowestNamed, NamedAlone, LowestAnswered}
use Rattle.decision.proofs.Search.{first_at_none, first_at_none_intro, first_at_some, first_at_some_intro}
use Rattle.decision.proofs.Nearness.{Says, nearest_says, most_nearest}
use Rattle.decision.proofs.Order.{answer_accepted}

module _ {A : Type 0} (f : A → Bool) (xs : List A) (n : ℕ) where
  first_lowest : first_at f 0 xs ≡ Some n → Lowest f xs n
  first_lowest e = let x = first_at_some f 0 n xs e in let z : x.0 ≡ n = omega (arith, x.1) in subst (Lowest f xs) z x.2

  lowest_first : Lowest f xs n → Some n ≡ first_at f 0 xs
  lowest_first h = let z : 0 + n ≡ n = omega arith in sym (first_at_some_intro f 0 n xs h ∙ ap Some z)

-- of the nearest rule
module _ (a : Request) (rs : List Rule) where
  nearest_named : Nears a rs (nearest a rs)
  unfolding nearest
  nearest_named = go (nearest_by (steps a) rs) (nearest_says (steps a) rs)
    where
      go : (x : Nearest) → Says (steps a) rs x → Nears a rs x
      go None e = e
      go (Some x) h = h

  nearest_alone : (x : Nearest) → Nears a rs x → x ≡ nearest a rs
  unfolding nearest nearest_by nearest_of first_at
  nearest_alone None e = rw e refl
  nearest_alone (Some x) h = sym (most_nearest (steps a) rs x.steps x.rule h)

names : (rs : List Rule) (cs : List Constraint) (a : Request) (r c : Option ℕ) → first_at (covers a) 0 rs ≡ r → first_at (fails rs a) 0 cs ≡ c → Names rs cs a (decision_of (nearest a rs) r c)
unfolding decision_of
names rs cs a None c h k = (first_at_none (covers a) 0 rs h, nearest_named a rs)
names rs cs a (Some r) None h k = (first_lowest (covers a) rs r h, first_at_none (fails rs a) 0 cs k)
names rs cs a (Some r) (Some c) h k = (first_lowest (covers a) rs r h, first_lowest (fails rs a) cs c k)

pub lowest_named : LowestNamed
unfolding judge
lowest_named rs cs a = names rs cs a (first_at (covers a) 0 rs) (first_at (fails rs a) 0 cs) refl refl

pub named_alone : NamedAlone
unfolding judge decision_of
named_alone rs cs a (NotPermitted x) h =
    ap NotPermitted (nearest_alone a rs x h.1)
    ∙ ap (λ (r : Option ℕ). decision_of (nearest a rs) r (first_at (fails rs a) 0 cs)) (sym (first_at_none_intro (covers a) 0 rs h.0))
named_alone rs cs a (Permitted r) h = ap₂ (decision_of (nearest a rs)) (lowest_first (covers a) rs r h.0) (sym (first_at_none_intro (fails rs a) 0 cs h.1))
named_alone rs cs a (UnKnown r c) h = ap₂ (decision_of (nearest a rs)) (lowest_first (covers a) rs r h.0) (lowest_first (fails rs a) cs c h.1)

pub lowest_answered : LowestAnswered
unfolding decide
lowest_answered l q d e = subst (Names _ _ _) (sym (answer_accepted l q d e).1) (lowest_named _ _ _)
