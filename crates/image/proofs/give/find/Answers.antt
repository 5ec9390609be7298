-- `find` meets its contract: the check first, then the count, then the place and its length byte. Assumes nothing.
use native.Mathlib.Omega.{arith}
use Prim.Native.Nat.{ℕ, ◌<◌}
use mathlib.Core.Path.{◌≡◌, sym, ap, ◌∙◌}
use mathlib.Core.List.{List}
use Rattle.format.specs.Format.{count_of}
use Rattle.format.specs.Policy.{place_after, start_of, place_of}
use Rattle.format.specs.Check.{Accepted}
use Rattle.format.specs.Answers.{starts}
use Rattle.format.proofs.Chain.{outcome_gives, outcome_refused}
use Rattle.format.proofs.Accepted.{accepted_header}
use Rattle.image.specs.Inner.Walk.{start_in}
use Rattle.image.proofs.BodyLaws.{start_in_lem, start_fits, give_refused, give_past, place_byte, extent_is, hops}
use Rattle.std.specs.Prelude.{Err}
use borrow.Author.Rules.{rules}
use Rattle.image.proofs.give.find.Goals as goal

pub count_in-requires : goal.count_in-requires
count_in-requires c =
    let l : List ℕ = c.args.image.now in
    let accepted : Accepted l × (c.in_ok-starts.starts ≡ starts l) = outcome_gives _ _ (sym c.in_ok-starts.was ∙ c.layout.ensures) in
    (accepted_header _ accepted.0).long

pub returns-then-count_in-n : goal.returns-then-count_in-n
returns-then-count_in-n c =
    let l : List ℕ = c.args.image.now in
    let accepted : Accepted l × (c.in_ok-starts.starts ≡ starts l) = outcome_gives _ _ (sym c.in_ok-starts.was ∙ c.layout.ensures) in
    let a = c.args in
    rw (c.at.ensures, give_past a.image.now a.section a.n accepted.0 (omega (arith, c.count_in.ensures)))

pub overflow_cast-start : goal.overflow_cast-start
overflow_cast-start c =
    let l : List ℕ = c.args.image.now in
    let accepted : Accepted l × (c.in_ok-starts.starts ≡ starts l) = outcome_gives _ _ (sym c.in_ok-starts.was ∙ c.layout.ensures) in
    let started : c.start_in-start.result ≡ start_of l c.args.section = let s = c.args.section in
    c.start_in-start.ensures ∙ ap (λ y. start_in y s) accepted.1 ∙ start_in_lem l s in
    omega (arith, started, start_fits _ accepted.0 c.args.section)

pub place_after-requires : goal.place_after-requires
place_after-requires c =
    let l : List ℕ = c.args.image.now in
    let accepted : Accepted l × (c.in_ok-starts.starts ≡ starts l) = outcome_gives _ _ (sym c.in_ok-starts.was ∙ c.layout.ensures) in
    let counted : c.args.n < count_of l c.args.section = omega (arith, c.count_in.ensures) in
    let started : c.start_in-start.result ≡ start_of l c.args.section = let s = c.args.section in
    c.start_in-start.ensures ∙ ap (λ y. start_in y s) accepted.1 ∙ start_in_lem l s in
    rw started (hops _ _ _ accepted.0 counted)

pub bounds-image-place : goal.bounds-image-place
unfolding place_of
bounds-image-place c =
    let l : List ℕ = c.args.image.now in
    let accepted : Accepted l × (c.in_ok-starts.starts ≡ starts l) = outcome_gives _ _ (sym c.in_ok-starts.was ∙ c.layout.ensures) in
    let counted : c.args.n < count_of l c.args.section = omega (arith, c.count_in.ensures) in
    let started : c.start_in-start.result ≡ start_of l c.args.section = let s = c.args.section in
    c.start_in-start.ensures ∙ ap (λ y. start_in y s) accepted.1 ∙ start_in_lem l s in
    let placed : c.from-place.result ≡ place_of l c.args.section c.args.n = c.from-place.ensures
    ∙ c.place_after.ensures
    ∙ ap (λ at. place_after l at c.args.n) started in
    rw placed (place_byte _ _ _ accepted.0 counted)

pub returns-in_err-starts : goal.returns-in_err-starts
returns-in_err-starts c =
    let a = c.args in
    let e = sym c.in_err-starts.was ∙ c.layout.ensures in
    let passed_on : c.from_residual.result ≡ Err c.in_err-starts.field-0.0 = search rules in
    rw (passed_on, give_refused _ a.section a.n _ (outcome_refused _ _ e))

pub returns : goal.returns
unfolding place_of
returns c =
    let l : List ℕ = c.args.image.now in
    let accepted : Accepted l × (c.in_ok-starts.starts ≡ starts l) = outcome_gives _ _ (sym c.in_ok-starts.was ∙ c.layout.ensures) in
    let counted : c.args.n < count_of l c.args.section = omega (arith, c.count_in.ensures) in
    let started : c.start_in-start.result ≡ start_of l c.args.section = let s = c.args.section in
    c.start_in-start.ensures ∙ ap (λ y. start_in y s) accepted.1 ∙ start_in_lem l s in
    let placed : c.from-place.result ≡ place_of l c.args.section c.args.n = c.from-place.ensures
    ∙ c.place_after.ensures
    ∙ ap (λ at. place_after l at c.args.n) started in
    extent_is _ _ _ accepted.0 counted _ _ placed c.from.ensures
