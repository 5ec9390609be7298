-- The claims of runs hold: FitExactly, UnfitFirst, LastCounts, RunRefused, EachAnswered, SlotsLeft, OwnRow, OneRow, AnswerSaid.
-- Assumes nothing.
use Prim.Native.Nat.{ℕ, zero, suc, ◌+◌, ◌≤◌, ◌<◌}
use mathlib.Core.Path.{◌≡◌, refl, sym, ap, subst, ◌∙◌}
use mathlib.Core.Bool.{Bool, true, false, not}
use Rattle.std.specs.Prelude.{Option, None, Some}
use mathlib.Core.List.{List, [], ◌∷◌, ◌++◌, map}
use native.Mathlib.Nat.{not-suc-le-zero, zero-add}
use native.Mathlib.Omega.{arith}
use lib.ListN.{length, take, length-append, length-map, get_or, get_or-append}
use lib.Seq.{get_or-append_seam, take-length}
use borrow.Author.Tests.{not-false}
use Rattle.format.specs.declared.Refusal.{Refusal}
use Rattle.format.specs.Check.{Accepted}
use Rattle.std.specs.Prelude.{Ok, Err}
use Rattle.format.specs.Answers.{Outcome, outcome}
use Rattle.format.proofs.Chain.{unless_accepted, unless_refused_lem, outcome_gives, outcome_refused}
use Rattle.format.proofs.Tests.{true_not_false, false_not_true}
use Rattle.decision.specs.declared.Query.{Query}
use Rattle.decision.specs.declared.Decision.{Decision}
use Rattle.decision.specs.declared.Decision.TheVariants.{NotPermitted, Permitted, UnKnown}
use Rattle.decision.specs.Decide.{answer}
use Rattle.decision.specs.Numbers.{decision_code}
use Rattle.decision.specs.Sets.{any_of}
use Rattle.decision.specs.Lowest.{Lowest}
use Rattle.decision.proofs.Search.{first_at_some, first_at_some_intro, first_at_none, first_at_none_intro, lowest_inside, lowest_at, lowest_intro, none_at, none_intro}
use Rattle.decision.proofs.Order.{answer_accepted}
use Rattle.decision.proofs.Answers.{image_refused}
use Rattle.runs.specs.Runs.{queries_fault, is_permitted, unfit, first_unfit, run_of, row_answer, answers_after}
use Rattle.runs.specs.Numbers.{row_code}
use Rattle.runs.specs.Claims.{Permits, AllPermits, FitExactly, UnfitFirst, LastCounts, RunRefused, EachAnswered, SlotsLeft, OwnRow, OneRow, AnswerSaid}
use Rattle.runs.proofs.Faults.{run_faults, same_lengths}

-- ---- a row

permitted_permits : (o : Outcome Decision) → is_permitted o ≡ true → (r : ℕ) × (o ≡ Ok (Permitted r))
permitted_permits (Ok (NotPermitted x)) e = false_not_true e
permitted_permits (Ok (Permitted r)) e = (r, refl)
permitted_permits (Ok (UnKnown r c)) e = false_not_true e
permitted_permits (Err f) e = false_not_true e

module _ (l : List ℕ) (q : Query) where
  pub fit_permits : unfit l q ≡ false → Permits l q
  unfolding unfit
  fit_permits e = permitted_permits (answer l q) (not-false _ e)

  pub permits_fit : Permits l q → unfit l q ≡ false
  unfolding unfit
  permits_fit p = ap (λ (o : Outcome Decision). not (is_permitted o)) p.1

  unfit_not : unfit l q ≡ true → Permits l q → ⊥
  unfit_not e p = true_not_false (sym e ∙ permits_fit p)

  not_unfit : (Permits l q → ⊥) → unfit l q ≡ true
  not_unfit h = go (unfit l q) refl
    where
      go : (b : Bool) → unfit l q ≡ b → b ≡ true
      go true e = refl
      go false e = absurd (h (fit_permits e))

-- ---- the first row that is not Permitted

module _ (l : List ℕ) (qs : List Query) (d : Query) where
  -- of the first n rows none is unfit: each is Permitted, both ways
  none_permits : (n : ℕ) → n ≤ length qs → any_of (unfit l) (take n qs) ≡ false → AllPermits l qs d n
  none_permits n h e i k = fit_permits l (get_or qs i d) (none_at (unfit l) qs n i d e k (omega arith))

  permits_none : (n : ℕ) → AllPermits l qs d n → any_of (unfit l) (take n qs) ≡ false
  permits_none n p = none_intro (unfit l) qs n d (λ i k _. permits_fit l (get_or qs i d) (p i k))

  none_unfit : first_unfit l qs ≡ None → AllPermits l qs d (length qs)
  unfolding first_unfit
  none_unfit e = none_permits (length qs) (omega arith) (ap (any_of (unfit l)) (take-length qs) ∙ first_at_none (unfit l) 0 qs e)

  all_fit : AllPermits l qs d (length qs) → first_unfit l qs ≡ None
  unfolding first_unfit
  all_fit p = first_at_none_intro (unfit l) 0 qs (ap (any_of (unfit l)) (sym (take-length qs)) ∙ permits_none (length qs) p)

  pub first_unfit_lem : (m : ℕ) → first_unfit l qs ≡ Some m → (m < length qs) × (Permits l (get_or qs m d) → ⊥) × AllPermits l qs d m
  unfolding first_unfit
  first_unfit_lem m e =
      let x = first_at_some (unfit l) 0 m qs e in
      let z : x.0 ≡ m = omega (arith, x.1) in
      let low = subst (Lowest (unfit l) qs) z x.2 in
      let h = lowest_inside (unfit l) qs m low in
      (h, unfit_not l (get_or qs m d) (lowest_at (unfit l) qs m d low), none_permits m (omega arith) low.before)

  unfit_first_is : (m : ℕ) → m < length qs → (Permits l (get_or qs m d) → ⊥) → AllPermits l qs d m → first_unfit l qs ≡ Some m
  unfolding first_unfit
  unfit_first_is m k u p =
      first_at_some_intro (unfit l) 0 m qs (lowest_intro (unfit l) qs m d k (not_unfit l (get_or qs m d) u) (permits_none m p)) ∙ ap Some (zero-add m)

-- ---- what a run comes to

pub fit_exactly : FitExactly
unfolding run_of
fit_exactly l qs slots d = (
  λ e. (let h = outcome_gives (queries_fault l (length qs) slots) (first_unfit l qs) (sym e) in (h.0, none_unfit l qs d (sym h.1))),
  λ e p. ap (λ f. outcome f (first_unfit l qs)) e ∙ ap Ok (all_fit l qs d p),
)

pub unfit_first : UnfitFirst
unfolding run_of
unfit_first l qs slots n d = (
  λ e. (
      let h = outcome_gives (queries_fault l (length qs) slots) (first_unfit l qs) (sym e) in
      let u = first_unfit_lem l qs d n (sym h.1) in
      (h.0, u.0, u.1, u.2)
      ),
  λ e k u p. ap (λ f. outcome f (first_unfit l qs)) e ∙ ap Ok (unfit_first_is l qs d n k u p),
)

pub run_refused : RunRefused
unfolding run_of
run_refused l qs slots f = (
  λ e. ap (λ g. outcome g (first_unfit l qs)) e,
  λ e. outcome_refused (queries_fault l (length qs) slots) (first_unfit l qs) (sym e),
)

-- ---- the slots

pub answer_said : AnswerSaid
unfolding row_answer
answer_said l q = refl

-- an `Answer` that says what the row is answered is the row's
pub said_answer : (l : List ℕ) (q : Query) (a : Outcome Decision) → a ≡ answer l q → a ≡ row_answer l q
unfolding row_answer
said_answer l q a e = e

-- and its number is that of the row
pub answer_code : (l : List ℕ) (q : Query) → decision_code ((row_answer l q)) ≡ row_code l q
unfolding row_answer row_code
answer_code l q = refl

-- element i of a map, whatever stands past the last
pub map_at : {A B : Type 0} (f : A → B) (xs : List A) (i : ℕ) (d : A) (e : B) → i < length xs → get_or (map f xs) i e ≡ f (get_or xs i d)
map_at f [] i d e k = absurd (not-suc-le-zero k)
map_at f (x ∷ xs) zero d e k = refl
map_at f (x ∷ xs) (suc i) d e k = map_at f xs i d e (omega arith)

slot_is :
    (l : List ℕ) (qs : List Query) (ys : List (Outcome Decision)) (i : ℕ) (d : Query) (y : Outcome Decision) → queries_fault l (length qs) (length ys) ≡ None → i < length qs
    → get_or (answers_after l qs ys) i y ≡ row_answer l (get_or qs i d)
unfolding answers_after
slot_is l qs ys i d y e k = ap (λ zs. get_or zs i y) (unless_accepted (map (row_answer l) qs) ys e) ∙ map_at (row_answer l) qs i d y k

pub each_answered : EachAnswered
unfolding row_answer
each_answered l qs ys i d y e k = slot_is l qs ys i d y e k

pub last_counts : LastCounts
last_counts l qs q ys y =
    let slots = length ys in
    let n : length (qs ++ (q ∷ [])) ≡ length qs + 1 = length-append qs (q ∷ []) in
    let last : get_or (qs ++ (q ∷ [])) (length qs) q ≡ q = get_or-append_seam qs q [] q in (
      λ e p u. (unfit_first l (qs ++ (q ∷ [])) slots (length qs) q).1
          (ap (λ k. queries_fault l k slots) n ∙ e)
          (omega (arith, n))
          (λ h. u (subst (Permits l) last h))
          (λ i k. subst (Permits l) (sym (get_or-append qs (q ∷ []) q i k)) (p i k)),
      λ e. subst (Permits l) last (((fit_exactly l (qs ++ (q ∷ [])) slots q).0 e).1 (length qs) (omega (arith, n))),
      λ e. each_answered l (qs ++ (q ∷ [])) ys (length qs) q y (ap (λ k. queries_fault l k slots) n ∙ e) (omega (arith, n)) ∙ ap (answer l) last,
    )

pub own_row : OwnRow
own_row l qs qs' ys ys' i i' d y e e' k k' same = slot_is l qs ys i d y e k ∙ ap (row_answer l) same ∙ sym (slot_is l qs' ys' i' d y e' k')

pub slots_left : SlotsLeft
unfolding answers_after
slots_left l qs ys = (many (queries_fault l (length qs) (length ys)) refl, λ f e. unless_refused_lem (map (row_answer l) qs) ys ((run_refused l qs (length ys) f).1 e))
  where
    many : (f : Option Refusal) → queries_fault l (length qs) (length ys) ≡ f → length (answers_after l qs ys) ≡ length ys
    many None e = ap length (unless_accepted (map (row_answer l) qs) ys e) ∙ length-map qs (row_answer l) ∙ sym (same_lengths l (length qs) (length ys) e)
    many (Some f) e = ap length (unless_refused_lem (map (row_answer l) qs) ys e)

pub one_row : OneRow
unfolding answers_after row_answer
one_row l q y =
    let accepted : Accepted l → queries_fault l 1 1 ≡ None = λ a. ((run_faults l).1 a).3 1 (omega arith) (omega arith) in (
      λ a. unless_accepted (map (row_answer l) (q ∷ [])) (y ∷ []) (accepted a),
      λ p. (fit_exactly l (q ∷ []) 1 q).1 (accepted (answer_accepted l q (Permitted p.0) p.1).0) (one p),
      λ a u. (unfit_first l (q ∷ []) 1 0 q).1 (accepted a) (omega arith) u (λ i k. absurd (not-suc-le-zero k)),
      λ f e. (let r = (run_refused l (q ∷ []) 1 f).0 ((run_faults l).0 f 1 1 e) in (r, image_refused l q f e, (slots_left l (q ∷ []) (y ∷ [])).1 f r)),
    )
  where
    one : Permits l q → AllPermits l (q ∷ []) q 1
    one p zero k = p
    one p (suc i) k = absurd (omega arith)
