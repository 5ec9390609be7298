-- Laws of the groups that stay and of their new numbers, by the turns of the walk that settles them. Assumes nothing.
--     pick_all        where as many are kept as there are, all are
--     settled_none    nothing is settled yet
--     twin_goes, first_stays   one group more: a twin of an earlier one, or a first one
use Prim.Native.Nat.{ℕ, zero, suc, ◌+◌, ◌≤◌, ◌<◌}
use native.Mathlib.Omega.{arith}
use native.Mathlib.Numerals.{add-one}
use mathlib.Core.Path.{◌≡◌, refl, sym, ap, ap₂, ◌∙◌}
use mathlib.Core.Logic.{⊎_elim}
use mathlib.Core.Bool.{Bool, true, false, cond}
use mathlib.Core.List.{List, [], ◌∷◌, ◌++◌, append-nil}
use lib.ListN.{length, get_or, take, set, replicate, length-append, length-replicate}
use lib.Seq.{take-suc, length-take-le, get_or-set_same, get_or-set_other}
use lib.Dec.{ltb, eqb}
use borrow.Author.Tests.{ltb-true, ltb-false, eqb-true, eqb-false}
use Rattle.std.proofs.lemmas.List.{get_or-replicate, get_or_past, set-get_or}
use Rattle.format.specs.Bytes.{Bytes}
use Rattle.format.proofs.Bytes.{bytes_nil, bytes_cons}
use Rattle.format.specs.Twins.{number_of}
use Rattle.decision.proofs.Search.{by_test}
use Rattle.conversion.specs.Groups.{distinct}
use Rattle.conversion.proofs.Prefix.{distinct_start, first_or_twin, distinct_first, distinct_twin, number_first, number_twin}
use Rattle.rewrite.specs.Inner.Kept.{pick, keep_if}
use Rattle.rewrite.specs.Inner.Settle.{Settled}

-- ---- marks

pick_set :
    (ms : List Bool) (g : ℕ) (b : Bool) (k : ℕ) (rs : List (List ℕ)) → k + length rs ≤ g → pick (set ms g b) k rs ≡ pick ms k rs
unfolding pick
pick_set ms g b k [] h = refl
pick_set ms g b k (r ∷ rs) h =
    rw (get_or-set_other ms g k b false (λ e. absurd (omega arith)), pick_set ms g b (suc k) rs (omega arith)) refl

keep_append : (b : Bool) (r : List ℕ) (rs ts : List (List ℕ)) → keep_if b r (rs ++ ts) ≡ keep_if b r rs ++ ts
unfolding keep_if
keep_append true r rs ts = refl
keep_append false r rs ts = refl

pick_snoc :
    (ms : List Bool) (k : ℕ) (rs : List (List ℕ)) (x : List ℕ)
    → pick ms k (rs ++ (x ∷ [])) ≡ pick ms k rs ++ keep_if (get_or ms (k + length rs) false) x []
unfolding pick
pick_snoc ms k [] x = let e : k + 0 ≡ k = omega arith in rw e refl
pick_snoc ms k (r ∷ rs) x =
    let e : suc k + length rs ≡ k + suc (length rs) = omega arith in
    ap (keep_if (get_or ms k false) r) (pick_snoc ms (suc k) rs x
    ∙ ap (λ (n : ℕ). pick ms (suc k) rs ++ keep_if (get_or ms n false) x []) e)
    ∙ keep_append (get_or ms k false) r (pick ms (suc k) rs) _

keep_least : (b : Bool) (r : List ℕ) (rs ts : List (List ℕ)) → length rs ≤ length ts → length (keep_if b r rs) ≤ suc (length ts)
unfolding keep_if
keep_least true r rs ts h = omega arith
keep_least false r rs ts h = omega arith

pick_least : (ms : List Bool) (k : ℕ) (rs : List (List ℕ)) → length (pick ms k rs) ≤ length rs
unfolding pick
pick_least ms k [] = omega arith
pick_least ms k (r ∷ rs) = keep_least (get_or ms k false) r (pick ms (suc k) rs) rs (pick_least ms (suc k) rs)

keep_all :
    (b : Bool) (r : List ℕ) (rs ts : List (List ℕ)) → length rs ≤ length ts → (length rs ≡ length ts → rs ≡ ts)
    → length (keep_if b r rs) ≡ suc (length ts) → keep_if b r rs ≡ r ∷ ts
unfolding keep_if
keep_all true r rs ts h f e = ap (λ (xs : List (List ℕ)). r ∷ xs) (f (omega arith))
keep_all false r rs ts h f e = absurd (omega arith)

pub pick_all : (ms : List Bool) (k : ℕ) (rs : List (List ℕ)) → length (pick ms k rs) ≡ length rs → pick ms k rs ≡ rs
unfolding pick
pick_all ms k [] e = refl
pick_all ms k (r ∷ rs) e =
    keep_all (get_or ms k false) r (pick ms (suc k) rs) rs (pick_least ms (suc k) rs) (pick_all ms (suc k) rs) e

-- ---- one group more

bytes_set : (to : List ℕ) (g v : ℕ) → g < length to → v < 256 → Bytes to → Bytes (set to g v)
bytes_set to g v h k b i =
    by_test (eqb i g)
    (λ t. let e = eqb-true i g t in rw (e, get_or-set_same to g v 0 h) k)
    (λ t. rw (get_or-set_other to g i v 0 (eqb-false i g t)) (b i))

-- a table of zeros
zeros_bytes : (n : ℕ) → Bytes (replicate n 0)
zeros_bytes zero = bytes_nil
zeros_bytes (suc n) = bytes_cons 0 (replicate n 0) (omega arith) (zeros_bytes n)

none_marked : (n i : ℕ) → get_or (replicate n false) i false ≡ false
none_marked n i =
    by_test (ltb i n)
    (λ t. get_or-replicate n i false false (ltb-true i n t))
    (λ t. get_or_past (replicate n false) i false (omega (arith, length-replicate {A = Bool}, ltb-false i n t)))

pub settled_none : (gs : List (List ℕ)) (n m : ℕ) → Settled gs 0 (replicate n 0) (replicate m false) 0
unfolding pick
settled_none gs n m =
    let e = distinct_start gs in
    record {
      numbers = λ i h. absurd (omega arith);
      kept = sym e;
      later = λ i h. none_marked m i;
      count = sym (ap length e);
      small = zeros_bytes n;
    }

lower : {g : ℕ} (i : ℕ) → (i ≡ g → ⊥) → i < g + 1 → i < g
lower {g} i d k = omega (arith, d)

module _ (gs : List (List ℕ)) (g : ℕ) (less : g < length gs) where
  x : List ℕ
  x = get_or gs g []

  -- b is whether group g stays, and v its new number
  module _ (to : List ℕ) (keep : List Bool) (next : ℕ) (w : Settled gs g to keep next) (wide : g < length to)
      (long : g < length keep)
      (b : Bool) (v : ℕ) (low : v < 256) (is : v ≡ number_of (get_or gs g []) (distinct gs))
      (all : distinct (take (g + 1) gs) ≡ distinct (take g gs) ++ keep_if b (get_or gs g []) [])
    where
      number_at : (i : ℕ) → i < g + 1 → get_or (set to g v) i 0 ≡ number_of (get_or gs i []) (distinct gs)
      number_at i k =
          by_test (eqb i g)
          (λ t. let e = eqb-true i g t in rw e (get_or-set_same to g v 0 wide ∙ is))
          (λ t. let d = eqb-false i g t in get_or-set_other to g i v 0 d ∙ w.numbers i (lower i d k))

      kept_more : pick (set keep g b) 0 (take (g + 1) gs) ≡ distinct (take (g + 1) gs)
      unfolding x
      kept_more =
          let n : length (take g gs) ≡ g = length-take-le g gs (omega arith) in
          let ks : List Bool = set keep g b in
          let e : 0 + length (take g gs) ≡ g = omega arith in
          let t : take (g + 1) gs ≡ take g gs ++ (x ∷ []) = rw add-one (take-suc gs g [] less) in
          ap (pick ks 0) t ∙ pick_snoc ks 0 (take g gs) x
          ∙ ap₂ (λ (a : List (List ℕ)) (c : Bool). a ++ keep_if c x [])
          (pick_set keep g b 0 (take g gs) (omega arith) ∙ w.kept)
          (ap (λ (i : ℕ). get_or ks i false) e ∙ get_or-set_same keep g b false long)
          ∙ sym all

      count_more : next + cond b 1 0 ≡ length (distinct (take (g + 1) gs))
      unfolding keep_if
      count_more =
          ap (λ (n : ℕ). n + cond b 1 0) w.count
          ∙ sym (ap length all ∙ length-append (distinct (take g gs)) _ ∙ ap (λ (n : ℕ). length (distinct (take g gs)) + n) (go b))
        where
          go : (b : Bool) → length (keep_if b (get_or gs g []) []) ≡ cond b 1 0
          go true = refl
          go false = refl

      settled_as : Settled gs (g + 1) (set to g v) (set keep g b) (next + cond b 1 0)
      settled_as = record {
        numbers = number_at;
        kept = kept_more;
        later = λ i k. get_or-set_other keep g i b false (λ e. absurd (omega arith)) ∙ w.later i (omega arith);
        count = count_more;
        small
            = bytes_set to g v wide low w.small;
      }

  module _ (h : ℕ) (first : h ≡ number_of (get_or gs g []) gs) (to : List ℕ) (keep : List Bool) (next : ℕ)
      (w : Settled gs g to keep next) (wide : g < length to) (long : g < length keep)
    where
      pub twin_goes : h < g → Settled gs (g + 1) (set to g (get_or to h 0)) keep next
      unfolding keep_if
      twin_goes l =
          let e : set keep g false ≡ keep = ap (set keep g) (sym (w.later g (omega arith))) ∙ set-get_or keep g false in
          let z : next + 0 ≡ next = omega arith in
          rw (e, z) at
          (settled_as to keep next w wide long false (get_or to h 0) (w.small h)
          (w.numbers h l ∙ ap (λ (i : ℕ). number_of (get_or gs i []) (distinct gs)) first ∙ sym (number_twin gs g less))
          (distinct_twin gs g less (omega arith) ∙ sym (append-nil (distinct (take g gs)))))

      pub first_stays : g ≤ h → next < 256 → Settled gs (g + 1) (set to g next) (set keep g true) (next + 1)
      unfolding keep_if
      first_stays l few =
          ⊎_elim
          (λ e.
          settled_as to keep next w wide long true next few (w.count ∙ sym (number_first gs g less e)) (distinct_first gs g less e))
          (λ k. absurd (omega arith))
          (first_or_twin gs g less)
