-- What a text builds, as a number: claims BuildWhole and BuildRead. Assumes nothing.
use Prim.Native.Nat.{ℕ, ◌+◌, ◌*◌, ◌/◌, ◌%◌, ◌≤◌, ◌<◌}
use mathlib.Core.Path.{◌≡◌, refl, sym, subst, ap}
use mathlib.Core.Bool.{Bool, true, false, ◌||◌}
use native.Mathlib.Omega.{arith}
use lib.ListN.{length}
use lib.Dec.{ltb, eqb}
use borrow.Author.Tests.{ltb-true, ltb-false, eqb-true, ne_eqb}
use Rattle.format.specs.Check.{image_in}
use Rattle.std.specs.Prelude.{Ok, Err}
use Rattle.format.specs.Answers.{Outcome}
use Rattle.format.proofs.Front.{front_accepted}
use Rattle.format.proofs.Accepted.{accepted_header}
use Rattle.format.proofs.Reach.{longest_image}
use Rattle.text.specs.Build.{Made, built}
use Rattle.text.proofs.Follow.{refused_short, refused_keeps}
use Rattle.text.proofs.Accepted.{built_accepted, each_row_added, own_numbers}
use Rattle.mungaite.specs.Code.{place_span, build_code}
use Rattle.mungaite.specs.Host.{host_built}
use Rattle.mungaite.specs.Claims.{BuiltFits, BuildWhole, BuildRead}

own_most : (n : ℕ) → (eqb n 11 || eqb n 12 || eqb n 13 || eqb n 18 || eqb n 20) ≡ true → (0 < n) × (n ≤ 20)
own_most n e = step (eqb n 11) (eqb n 12) (eqb n 13) (eqb n 18) (eqb n 20) refl refl refl refl refl e where
  known : (k : ℕ) → eqb n k ≡ true → 0 < k → k ≤ 20 → (0 < n) × (n ≤ 20)
  known k h l m = let q = eqb-true n k h in (omega arith, omega arith)

  step :
      (a b c d e : Bool) → eqb n 11 ≡ a → eqb n 12 ≡ b → eqb n 13 ≡ c → eqb n 18 ≡ d → eqb n 20 ≡ e → (a || b || c || d || e) ≡ true
      → (0 < n) × (n ≤ 20)
  step true b c d e p q r s t h = known 11 p (omega arith) (omega arith)
  step false true c d e p q r s t h = known 12 q (omega arith) (omega arith)
  step false false true d e p q r s t h = known 13 r (omega arith) (omega arith)
  step false false false true e p q r s t h = known 18 s (omega arith) (omega arith)
  step false false false false true p q r s t h = known 20 t (omega arith) (omega arith)
  step false false false false false p q r s t h = absurd (let z : ◌≡◌ {A = ℕ} 0 1 = cc in omega arith)

pub build_whole : BuildWhole
build_whole text b h = size (ltb (length b) 9) refl where
  long : 9 ≤ length b → (o : Outcome ℕ) → (built text b).answer ≡ o → BuiltFits o
  long k (Ok n) e =
      let a = (built_accepted text b k).accepted in
      let m : length (image_in (built text b).buffer) ≤ 55561 = longest_image _ (front_accepted (built text b).buffer a) in
      let l = (accepted_header (image_in (built text b).buffer) (front_accepted (built text b).buffer a)).long in
      (omega (arith, (each_row_added text b n e).image_length, l), omega (arith, (each_row_added text b n e).image_length, m))
  long k (Err f) e =
      let q = own_most f.number (own_numbers text b f e) in
      (q.0, q.1, omega (arith, (refused_keeps text b f k e).inside))

  size : (t : Bool) → ltb (length b) 9 ≡ t → BuiltFits (built text b).answer
  size true e =
      let m = refused_short text b (ltb-true (length b) 9 e) in
      subst BuiltFits (ap (λ (x : Made). x.answer) (sym m)) (omega arith, omega arith, omega arith)
  size false e = long (ltb-false (length b) 9 e) (built text b).answer refl

built_back : (o : Outcome ℕ) → BuiltFits o → host_built (build_code o) ≡ o
unfolding host_built build_code
built_back (Ok n) h =
    let a : n / place_span ≡ 0 = omega (arith, h.1) in
    let b : n % place_span ≡ n = omega (arith, h.1) in
    rw (a, b)
built_back (Err f) h =
    let a : (f.number * place_span + f.place % place_span) / place_span ≡ f.number = omega (arith, h.2) in
    let b : (f.number * place_span + f.place % place_span) % place_span ≡ f.place = omega (arith, h.2) in
    rw (a, b, ne_eqb f.number 0 (omega (arith, h.0)))

pub build_read : BuildRead
build_read text b h = built_back (built text b).answer (build_whole text b h)
