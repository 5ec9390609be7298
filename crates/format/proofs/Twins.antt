-- Laws of twin groups, and claims NoTwinsMeans and FirstTwin. Assumes nothing.
--     same_bytes_lem, bytes_same, listed_mem, mem_listed, listed_nil, listed_cons, listed_append   what the tests say
--     twin_fresh, twin_rest, twin_none, twin_snoc   no twins, group by group
--     no_twins_snoc         and with one group more, which none has
--     no_twins_front        no twins among the first groups
--     number_get, number_own, number_least   `number_of` finds the record, its own number where there are no twins, and no
--                           higher number than another group that has the record
--     twin-less             a twin's number is above the first with its record
use Prim.Native.Nat.{ℕ, zero, suc, ◌+◌, ◌≤◌, ◌<◌}
use native.Mathlib.Omega.{arith}
use mathlib.Core.Path.{◌≡◌, refl, sym, subst, ap, ap₂, ◌∙◌}
use mathlib.Core.Logic.{⊎_elim}
use mathlib.Core.Bool.{Bool, true, false, ◌||◌, cond}
use Rattle.std.specs.Prelude.{Option, None, Some}
use mathlib.Core.List.{List, [], ◌∷◌, ◌++◌, append_assoc, append-nil}
use mathlib.Core.List.Memᴰ
use mathlib.Core.List.{Memᴰ}
use lib.ListN.{length, get_or, take}
use lib.Seq.{length-take-le, get_or-take}
use lib.Dec.{ltb, eqb}
use borrow.Author.Tests.{eqb-true, eq-eqb, ltb-true, ltb-false}
use Rattle.format.specs.Twins.{same_bytes, listed, first_twin, NoTwins, number_of, Apart, NoTwinsMeans, TwinIs, FirstTwin}
use Rattle.format.proofs.Tests.{both, and_true, either, neither, or_left, or_right, or_assoc, false_not_true}
use Rattle.format.proofs.Chain.{some_not_none}

-- ---- elements and their numbers

pub mem_get_or : {A : Type 0} {x : A} (xs : List A) (d : A) → Memᴰ x xs → (i : ℕ) × (i < length xs) × (get_or xs i d ≡ x)
mem_get_or [] d m = absurd (Memᴰ.not-nil m)
mem_get_or {x = x} (y ∷ ys) d m =
    ⊎_elim
    (λ e. (0, omega arith, sym e))
    (λ (k : Memᴰ x ys).
    let r : (i : ℕ) × (i < length ys) × (get_or ys i d ≡ x) = mem_get_or ys d k in
    (suc r.0, omega (arith, r.1), r.2))
    (Memᴰ.cases_cons m)

pub get_or_mem : {A : Type 0} (xs : List A) (i : ℕ) (d : A) → i < length xs → Memᴰ (get_or xs i d) xs
get_or_mem [] i d h = absurd (omega arith)
get_or_mem (y ∷ ys) zero d h = Memᴰ.head refl
get_or_mem (y ∷ ys) (suc i) d h = Memᴰ.tail (get_or_mem ys i d (omega arith))

-- ---- the tests

pub same_bytes_lem : (a b : List ℕ) → same_bytes a b ≡ true → a ≡ b
unfolding same_bytes
same_bytes_lem [] [] t = refl
same_bytes_lem [] (y ∷ ys) t = false_not_true t
same_bytes_lem (x ∷ xs) [] t = false_not_true t
same_bytes_lem (x ∷ xs) (y ∷ ys) t =
    let c = both (eqb x y) (same_bytes xs ys) t in
    ap₂ (λ (z : ℕ) (zs : List ℕ). z ∷ zs) (eqb-true x y c.0) (same_bytes_lem xs ys c.1)

pub bytes_same : (a : List ℕ) → same_bytes a a ≡ true
unfolding same_bytes
bytes_same [] = refl
bytes_same (x ∷ xs) = and_true (eq-eqb x x refl) (bytes_same xs)

pub differ_bytes : (a b : List ℕ) → (a ≡ b → ⊥) → same_bytes a b ≡ false
differ_bytes a b h = go (same_bytes a b) refl
  where
    go : (t : Bool) → same_bytes a b ≡ t → same_bytes a b ≡ false
    go true e = absurd (h (same_bytes_lem a b e))
    go false e = e

pub listed_mem : (g : List ℕ) (gs : List (List ℕ)) → listed g gs ≡ true → Memᴰ g gs
unfolding listed
listed_mem g [] t = false_not_true t
listed_mem g (x ∷ xs) t =
    either (same_bytes g x) (listed g xs) t (λ e. Memᴰ.head (same_bytes_lem g x e)) (λ e. Memᴰ.tail (listed_mem g xs e))

pub mem_listed : {g : List ℕ} (gs : List (List ℕ)) → Memᴰ g gs → listed g gs ≡ true
unfolding listed
mem_listed [] m = absurd (Memᴰ.not-nil m)
mem_listed {g} (x ∷ xs) m =
    ⊎_elim (λ e. or_left _ _ (subst (λ (z : List ℕ). same_bytes g z ≡ true) e (bytes_same g))) (λ k. or_right (same_bytes g x) _ (mem_listed xs k))
    (Memᴰ.cases_cons m)

pub listed_nil : (g : List ℕ) → listed g [] ≡ false
unfolding listed
listed_nil g = refl

pub listed_cons : (g x : List ℕ) (xs : List (List ℕ)) → listed g (x ∷ xs) ≡ same_bytes g x || listed g xs
unfolding listed
listed_cons g x xs = refl

pub listed_append : (g : List ℕ) (fs bs : List (List ℕ)) → listed g (fs ++ bs) ≡ listed g fs || listed g bs
unfolding listed
listed_append g [] bs = refl
listed_append g (a ∷ fs) bs = rw (listed_append g fs bs) (sym (or_assoc (same_bytes g a) (listed g fs) (listed g bs)))

pub unlisted : (g : List ℕ) (gs : List (List ℕ)) → ((i : ℕ) → i < length gs → get_or gs i [] ≡ g → ⊥) → listed g gs ≡ false
unlisted g gs h = go (listed g gs) refl
  where
    go : (b : Bool) → listed g gs ≡ b → listed g gs ≡ false
    go true e = let m = mem_get_or gs [] (listed_mem g gs e) in absurd (h m.0 m.1 m.2)
    go false e = e

-- ---- no twins, group by group

module _ (seen : List (List ℕ)) (n : ℕ) (g : List ℕ) (gs : List (List ℕ)) where
  pub twin_fresh : first_twin seen n (g ∷ gs) ≡ None → listed g seen ≡ false
  unfolding first_twin
  twin_fresh e = go (listed g seen) refl e
    where
      go : (b : Bool) → listed g seen ≡ b → cond b (Some n) (first_twin (seen ++ (g ∷ [])) (suc n) gs) ≡ None → listed g seen ≡ false
      go true h e = some_not_none e
      go false h e = h

  pub twin_rest : first_twin seen n (g ∷ gs) ≡ None → first_twin (seen ++ (g ∷ [])) (suc n) gs ≡ None
  unfolding first_twin
  twin_rest e = go (listed g seen) e
    where
      go : (b : Bool) → cond b (Some n) (first_twin (seen ++ (g ∷ [])) (suc n) gs) ≡ None → first_twin (seen ++ (g ∷ [])) (suc n) gs ≡ None
      go true e = some_not_none e
      go false e = e

  pub twin_none : listed g seen ≡ false → first_twin (seen ++ (g ∷ [])) (suc n) gs ≡ None → first_twin seen n (g ∷ gs) ≡ None
  unfolding first_twin
  twin_none h e = rw h e

pub nil_none : (seen : List (List ℕ)) (n : ℕ) → first_twin seen n [] ≡ None
unfolding first_twin
nil_none seen n = refl

twin_snoc :
    (seen : List (List ℕ)) (n : ℕ) (ks : List (List ℕ)) (g : List ℕ) → first_twin seen n ks ≡ None → listed g (seen ++ ks) ≡ false
    → first_twin seen n (ks ++ (g ∷ [])) ≡ None
twin_snoc seen n [] g e h =
    twin_none seen n g [] (subst (λ (l : List (List ℕ)). listed g l ≡ false) (append-nil seen) h) (nil_none (seen ++ (g ∷ [])) (suc n))
twin_snoc seen n (k ∷ ks) g e h =
    twin_none seen n k (ks ++ (g ∷ [])) (twin_fresh seen n k ks e)
    (twin_snoc (seen ++ (k ∷ [])) (suc n) ks g (twin_rest seen n k ks e)
    (subst (λ (l : List (List ℕ)). listed g l ≡ false) (sym (append_assoc seen (k ∷ []) ks)) h))

pub no_twins_nil : NoTwins []
no_twins_nil = nil_none [] 0

pub no_twins_snoc : (gs : List (List ℕ)) (g : List ℕ) → NoTwins gs → listed g gs ≡ false → NoTwins (gs ++ (g ∷ []))
no_twins_snoc gs g e h = twin_snoc [] 0 gs g e h

front : (seen : List (List ℕ)) (n : ℕ) (fs bs : List (List ℕ)) → first_twin seen n (fs ++ bs) ≡ None → first_twin seen n fs ≡ None
front seen n [] bs e = nil_none seen n
front seen n (a ∷ fs) bs e =
    twin_none seen n a fs (twin_fresh seen n a (fs ++ bs) e) (front (seen ++ (a ∷ [])) (suc n) fs bs (twin_rest seen n a (fs ++ bs) e))

pub no_twins_front : (fs bs : List (List ℕ)) → NoTwins (fs ++ bs) → NoTwins fs
no_twins_front fs bs e = front [] 0 fs bs e

next : (seen : List (List ℕ)) (n : ℕ) (fs : List (List ℕ)) (g : List ℕ) (bs : List (List ℕ)) → first_twin seen n (fs ++ (g ∷ bs)) ≡ None
    → listed g (seen ++ fs) ≡ false
next seen n [] g bs e = ap (listed g) (append-nil seen) ∙ twin_fresh seen n g bs e
next seen n (a ∷ fs) g bs e =
    ap (listed g) (sym (append_assoc seen (a ∷ []) fs)) ∙ next (seen ++ (a ∷ [])) (suc n) fs g bs (twin_rest seen n a (fs ++ (g ∷ bs)) e)

-- the group behind the first ones is none of them
pub no_twins_next : (fs : List (List ℕ)) (g : List ℕ) (bs : List (List ℕ)) → NoTwins (fs ++ (g ∷ bs)) → listed g fs ≡ false
no_twins_next fs g bs e = next [] 0 fs g bs e

-- ---- the number of a group

pub number_get : {g : List ℕ} (gs : List (List ℕ)) → Memᴰ g gs → (number_of g gs < length gs) × (get_or gs (number_of g gs) [] ≡ g)
unfolding number_of
number_get [] m = absurd (Memᴰ.not-nil m)
number_get {g} (x ∷ xs) m = go (λ k. number_get xs k) (same_bytes g x) refl
  where
    go :
        (Memᴰ g xs → (number_of g xs < length xs) × (get_or xs (number_of g xs) [] ≡ g)) → (b : Bool) → same_bytes g x ≡ b
        → (cond b 0 (suc (number_of g xs)) < suc (length xs)) × (get_or (x ∷ xs) (cond b 0 (suc (number_of g xs))) [] ≡ g)
    go rec true e = (omega arith, sym (same_bytes_lem g x e))
    go rec false e =
        let r = rec (⊎_elim (λ q. false_not_true (sym e ∙ (ap (same_bytes g) (sym q) ∙ bytes_same g))) (λ k. k) (Memᴰ.cases_cons m)) in
        (omega (arith, r.0), r.1)

pub number_least : (gs : List (List ℕ)) (g : List ℕ) (i : ℕ) → i < length gs → get_or gs i [] ≡ g → number_of g gs ≤ i
unfolding number_of
number_least [] g i h e = absurd (omega arith)
number_least (x ∷ xs) g i h e = go (λ j l k. number_least xs g j l k) (same_bytes g x) refl i h e
  where
    go :
        ((j : ℕ) → j < length xs → get_or xs j [] ≡ g → number_of g xs ≤ j) → (b : Bool) → same_bytes g x ≡ b
        → (i : ℕ) → i < length (x ∷ xs) → get_or (x ∷ xs) i [] ≡ g → cond b 0 (suc (number_of g xs)) ≤ i
    go rec true q i h e = omega arith
    go rec false q zero h e = false_not_true (sym q ∙ (ap (same_bytes g) e ∙ bytes_same g))
    go rec false q (suc i) h e = omega (arith, rec i (omega arith) e)

-- of the group itself
pub number_self : (gs : List (List ℕ)) (i : ℕ) → i < length gs
    → (number_of (get_or gs i []) gs ≤ i) × (get_or gs (number_of (get_or gs i []) gs) [] ≡ get_or gs i [])
number_self gs i h = (number_least gs (get_or gs i []) i h refl, (number_get gs (get_or_mem gs i [] h)).1)

-- ---- the first twin

record At (seen : List (List ℕ)) (k : ℕ) (gs : List (List ℕ)) (n : ℕ) : Type 0 where
  number : ℕ
  is : n ≡ k + number
  inside : number < length gs
  twin : listed (get_or gs number []) (seen ++ take number gs) ≡ true
  before : first_twin seen k (take number gs) ≡ None

twin_at_lem : (seen : List (List ℕ)) (k : ℕ) (gs : List (List ℕ)) (n : ℕ) → first_twin seen k gs ≡ Some n → At seen k gs n
unfolding first_twin
twin_at_lem seen k [] n e = some_not_none (sym e)
twin_at_lem seen k (g ∷ gs) n e = go (λ h. twin_at_lem (seen ++ (g ∷ [])) (suc k) gs n h) (listed g seen) refl e
  where
    go :
        (first_twin (seen ++ (g ∷ [])) (suc k) gs ≡ Some n → At (seen ++ (g ∷ [])) (suc k) gs n) → (b : Bool) → listed g seen ≡ b
        → cond b (Some k) (first_twin (seen ++ (g ∷ [])) (suc k) gs) ≡ Some n → At seen k (g ∷ gs) n
    go rec true t e =
        let z : k ≡ n = cc in
        record {
          number = 0;
          is = omega arith;
          inside = omega arith;
          twin = ap (listed g) (append-nil seen) ∙ t;
          before = nil_none seen k;
        }
    go rec false t e =
        let a = rec e in
        let i = a.is in
        record {
          number = suc a.number;
          is = omega arith;
          inside = omega (arith, a.inside);
          twin = ap (listed (get_or gs a.number [])) (sym (append_assoc seen (g ∷ []) (take a.number gs))) ∙ a.twin;
          before = twin_none seen k g (take a.number gs) t a.before;
        }

pub first_twin_lem : FirstTwin
first_twin_lem gs n e =
    let a = twin_at_lem [] 0 gs n e in
    let z : a.number ≡ n = omega (arith, a.is) in
    let l : length (take a.number gs) ≡ a.number = length-take-le a.number gs (omega (arith, a.inside)) in
    let m = mem_get_or (take a.number gs) [] (listed_mem (get_or gs a.number []) (take a.number gs) a.twin) in
    let i : m.0 < a.number = omega (arith, m.1) in
    subst (TwinIs gs) z
    (record { inside = a.inside; earlier = m.0; before = i; alike = sym (get_or-take a.number gs m.0 [] i) ∙ m.2; first = a.before })

pub apart_none : (gs : List (List ℕ)) → Apart gs → NoTwins gs
apart_none gs h = go (first_twin [] 0 gs) refl
  where
    go : (o : Option ℕ) → first_twin [] 0 gs ≡ o → first_twin [] 0 gs ≡ None
    go None e = e
    go (Some n) e = let a = first_twin_lem gs n e in absurd (h a.earlier n a.before a.inside a.alike)

apart_from : (seen : List (List ℕ)) (n : ℕ) (gs : List (List ℕ)) → first_twin seen n gs ≡ None → (i : ℕ) → i < length gs
    → listed (get_or gs i []) seen ≡ false
unfolding listed
apart_from seen n [] e i h = absurd (omega arith)
apart_from seen n (g ∷ gs) e zero h = twin_fresh seen n g gs e
apart_from seen n (g ∷ gs) e (suc i) h =
    (neither (listed (get_or gs i []) seen) (listed (get_or gs i []) (g ∷ []))
    (sym (listed_append (get_or gs i []) seen (g ∷ [])) ∙ apart_from (seen ++ (g ∷ [])) (suc n) gs (twin_rest seen n g gs e) i (omega arith))).0

pub none_apart : (gs : List (List ℕ)) → NoTwins gs → Apart gs
none_apart gs e i j h l q = go [] 0 gs e i j h l q
  where
    go :
        (seen : List (List ℕ)) (n : ℕ) (gs : List (List ℕ)) → first_twin seen n gs ≡ None → (i j : ℕ) → i < j → j < length gs
        → get_or gs i [] ≡ get_or gs j [] → ⊥
    go seen n [] e i j h l q = absurd (omega arith)
    go seen n (g ∷ gs) e i zero h l q = absurd (omega arith)
    go seen n (g ∷ gs) e zero (suc j) h l q =
        let f = apart_from (seen ++ (g ∷ [])) (suc n) gs (twin_rest seen n g gs e) j (omega arith) in
        false_not_true (sym f ∙ mem_listed (seen ++ (g ∷ [])) (Memᴰ.append_right seen (Memᴰ.head (sym q))))
    go seen n (g ∷ gs) e (suc i) (suc j) h l q =
        go (seen ++ (g ∷ [])) (suc n) gs (twin_rest seen n g gs e) i j (omega arith) (omega arith) q

pub no_twins_means : NoTwinsMeans
no_twins_means gs = (none_apart gs, apart_none gs)

-- ---- by the number

-- where there are no twins, each group is the first with its record
pub number_own : (gs : List (List ℕ)) → NoTwins gs → (i : ℕ) → i < length gs → number_of (get_or gs i []) gs ≡ i
number_own gs e i h = go (ltb (number_of (get_or gs i []) gs) i) refl
  where
    go : (t : Bool) → ltb (number_of (get_or gs i []) gs) i ≡ t → number_of (get_or gs i []) gs ≡ i
    go true q = absurd (none_apart gs e _ i (ltb-true _ i q) h (number_self gs i h).1)
    go false q = let k = ltb-false (number_of (get_or gs i []) gs) i q in omega (arith, (number_self gs i h).0)
