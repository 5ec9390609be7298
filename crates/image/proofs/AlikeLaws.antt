-- Laws of the search for alike groups. Assumes nothing.
--     same_apart, same_byte, same_fold   two records compared byte by byte
--     placed-*           a group's record at its place
--     filed_none, filed_next   the groups filed by their keys, one more each time
--     looks-*            the search among those with one key, from the last to the first
--     settled_is         the first group alike to a group, by an earlier one that is
--     fills_none, fills_next, filled   the table of alike groups
--     own_none, own_some   the first group that is not the first of its kind
--     twins_end, twins_here, twins_few   and what it says of twins
use Prim.Native.Nat.{ℕ, zero, suc, ◌+◌, ◌-◌, ◌≤◌, ◌<◌}
use mathlib.Core.Path.{◌≡◌, refl, sym, subst, ap, ◌∙◌}
use mathlib.Core.Bool.{Bool, true, false, ◌&&◌, cond}
use Rattle.std.specs.Prelude.{None, Some}
use Rattle.std.specs.Prelude.{Option, Some, None, fold}
use Rattle.std.specs.List.{zip}
use mathlib.Core.List.{List, [], ◌∷◌}
use native.Mathlib.Omega.{arith}
use native.Mathlib.Nat.{add-sub_cancel_left}
use lib.ListN.{length, get_or, take, drop, set, replicate}
use lib.Seq.{get_or-set_same, get_or-set_other, get_or-take, length-take-le}
use lib.Dec.{ltb, eqb}
use borrow.Author.Tests.{eqb-true, eqb-false, lt-ltb, le-ltb, ltb-true, ltb-false}
use Rattle.format.specs.declared.Section.TheVariants.{Groups}
use Rattle.format.specs.Refusals.{refusal}
use Rattle.format.specs.Bytes.{word_at}
use Rattle.format.specs.Format.{count_of}
use Rattle.format.specs.Policy.{policy_of, record_at, place_of}
use Rattle.format.specs.Twins.{same_bytes, first_twin, NoTwins, twin_fault, number_of}
use Rattle.format.specs.Inner.Places.{Stands}
use Rattle.format.proofs.Tests.{false_not_true}
use Rattle.format.proofs.Shapes.{record_part, shape_most}
use Rattle.format.proofs.Twins.{same_bytes_lem, bytes_same, differ_bytes, number_least, number_self, apart_none, none_apart, first_twin_lem}
use Rattle.format.proofs.Accepted.{laid_header, laid_formed, laid_stands, group_nth, none_twins, twin_fault_some}
use Rattle.format.proofs.ByCase.{limit_groups, count_groups}
use Rattle.format.proofs.Images.{group_count}
use Rattle.image.specs.Inner.Alike.{key_of, key_at, Placed, Filed, Looks, Found, settled_slot, Fills, FirstOff}

-- ---- two records

pub same_apart : (a b : List ℕ) → (length a ≡ length b → ⊥) → same_bytes a b ≡ false
same_apart a b h = differ_bytes a b (λ e. h (ap length e))

pub same_byte : (a b : List ℕ) (i : ℕ) → (get_or a i 0 ≡ get_or b i 0 → ⊥) → same_bytes a b ≡ false
same_byte a b i h = differ_bytes a b (λ e. h (ap (λ (l : List ℕ). get_or l i 0) e))

same_from :
    (s : Bool) (a b : List ℕ) → length a ≡ length b → fold (λ (s : Bool) (p : ℕ × ℕ). s && eqb p.0 p.1) s (zip a b) ≡ s && same_bytes a b
unfolding same_bytes
same_from true [] [] e = refl
same_from false [] [] e = refl
same_from s [] (y ∷ b) e = absurd (omega arith)
same_from s (x ∷ a) [] e = absurd (omega arith)
same_from true (x ∷ a) (y ∷ b) e = same_from (eqb x y) a b (omega arith)
same_from false (x ∷ a) (y ∷ b) e = same_from false a b (omega arith)

pub same_fold : (a b : List ℕ) → length a ≡ length b → fold (λ (s : Bool) (p : ℕ × ℕ). s && eqb p.0 p.1) true (zip a b) ≡ same_bytes a b
same_fold a b e = same_from true a b e

-- ---- a group's record at its place

module _ (l places : List ℕ) (n : ℕ) (p : Placed l places n) (g : ℕ) (h : g < n) where
  placed_own : g < count_of l Groups
  placed_own = let c = p.count in omega arith

  placed_stands : Stands l (place_of l Groups g) (record_at l (place_of l Groups g))
  placed_stands = laid_stands l p.laid Groups g placed_own

  pub placed_record : get_or (policy_of l).groups g [] ≡ record_at l (place_of l Groups g)
  placed_record = group_nth l g placed_own

  pub placed_inside : get_or places g 0 < length l
  placed_inside = let s = placed_stands in omega (arith, p.place g h, s.some, s.inside)

  pub placed_end : get_or places g 0 + get_or l (get_or places g 0) 0 ≤ length l
  placed_end =
      let s = placed_stands in
      rw (p.place g h) (omega (arith, s.size, s.inside))

  pub placed_part :
      take (get_or places g 0 + get_or l (get_or places g 0) 0 - get_or places g 0) (drop (get_or places g 0) l) ≡ get_or (policy_of l).groups g []
  placed_part =
      let s = placed_stands in
      rw add-sub_cancel_left
      (rw (p.place g h) (ap (λ (k : ℕ). take k (drop (place_of l Groups g) l)) (sym s.size) ∙ sym (record_part l _ s) ∙ sym placed_record))

  pub placed_least : 4 ≤ length (get_or (policy_of l).groups g [])
  placed_least = rw placed_record placed_stands.some

  pub placed_most : length (get_or (policy_of l).groups g []) < 256
  placed_most = rw placed_record (let k = shape_most _ (laid_formed l p.laid Groups g placed_own).shape in omega arith)

pub placed_few : (l places : List ℕ) (n : ℕ) → Placed l places n → n ≤ 256
placed_few l places n p = omega (arith, p.count, (laid_header l p.laid).few Groups, limit_groups)

pub placed_long : (l places : List ℕ) (n : ℕ) → Placed l places n → 4 < length l
placed_long l places n p = omega (arith, (laid_header l p.laid).long)

pub placed_as : (l places : List ℕ) (n : ℕ) → n ≡ count_of l Groups → Placed l places (count_of l Groups) → Placed l places n
placed_as l places n e p = subst (Placed l places) (sym e) p

pub placed_word : (l places : List ℕ) (n : ℕ) → n ≡ word_at l 3 → Placed l places (count_of l Groups) → Placed l places n
placed_word l places n e p = placed_as l places n (e ∙ sym (count_groups l)) p

-- group k of an image, and its place in the table
pub record Own (l places : List ℕ) (k : ℕ) : Type 0 where
  pub placed : Placed l places (count_of l Groups)
  pub own : k < count_of l Groups
  pub few : k < 256

pub placed_turn : (l places : List ℕ) (n : ℕ) → Placed l places n → (k : ℕ) → k < n → Own l places k
placed_turn l places n p k h =
    let placed : Placed l places (count_of l Groups) = subst (Placed l places) p.count p in
    record { placed = placed; own = omega (arith, p.count); few = omega (arith, placed_few l places n p) }

-- ---- the groups by their keys

pub key_small : (r : List ℕ) → key_of r < 1024
unfolding key_of
key_small r = omega arith

nones : (n i : ℕ) → get_or {A = Option ℕ} (replicate n None) i None ≡ None
nones zero i = refl
nones (suc n) zero = refl
nones (suc n) (suc i) = nones n i

pub filed_none : (gs : List (List ℕ)) (n m : ℕ) → Filed gs 0 (replicate n None) (replicate m None)
filed_none gs n m =
    record {
      head = λ b g e. absurd (cc (nones n b));
      head_last = λ i h. absurd (omega arith);
      earlier = λ j g h e. absurd (omega arith);
      earlier_last = λ i j h m e. absurd (omega arith);
    }

same_or : {C : Type 0} (a b : ℕ) → (a ≡ b → C) → ((a ≡ b → ⊥) → C) → C
same_or {C} a b f g = go (eqb a b) refl
  where
    go : (t : Bool) → eqb a b ≡ t → C
    go true e = f (eqb-true a b e)
    go false e = g (eqb-false a b e)

less_or : {C : Type 0} (a b : ℕ) → (a < b → C) → (b ≤ a → C) → C
less_or {C} a b f g = go (ltb a b) refl
  where
    go : (t : Bool) → ltb a b ≡ t → C
    go true e = f (ltb-true a b e)
    go false e = g (ltb-false a b e)

module _ (gs : List (List ℕ)) (k : ℕ) (heads before : List (Option ℕ)) (f : Filed gs k heads before) (key : ℕ) (own : key ≡ key_at gs k)
    (few : key < length heads) (more : k < length before) where
  heads' : List (Option ℕ)
  heads' = set heads key (Some k)

  before' : List (Option ℕ)
  before' = set before k (get_or heads key None)

  head_here : (b : ℕ) → b ≡ key → get_or heads' b None ≡ Some k
  unfolding heads'
  head_here b e = rw e (get_or-set_same heads key (Some k) None few)

  head_there : (b : ℕ) → (b ≡ key → ⊥) → get_or heads' b None ≡ get_or heads b None
  unfolding heads'
  head_there b n = get_or-set_other heads key b (Some k) None n

  before_here : (j : ℕ) → j ≡ k → get_or before' j None ≡ get_or heads key None
  unfolding before'
  before_here j e = rw e (get_or-set_same before k (get_or heads key None) None more)

  before_there : (j : ℕ) → j < k → get_or before' j None ≡ get_or before j None
  unfolding before'
  before_there j h = get_or-set_other before k j (get_or heads key None) None (λ e. absurd (omega arith))

  head' : (b g : ℕ) → get_or heads' b None ≡ Some g → (g < k + 1) × (key_at gs g ≡ b)
  head' b g e =
      same_or b key
      (λ q. let z : g ≡ k = cc (head_here b q) in (omega arith, ap (key_at gs) z ∙ sym own ∙ sym q))
      (λ n. let y = f.head b g (sym (head_there b n) ∙ e) in (omega (arith, y.0), y.1))

  head_last' : (i : ℕ) → i < k + 1 → (g : ℕ) × (get_or heads' (key_at gs i) None ≡ Some g) × (i ≤ g)
  head_last' i h =
      same_or (key_at gs i) key
      (λ e. (k, head_here _ e, omega arith))
      (λ n.
      let y : i < k = same_or i k (λ e. absurd (n (ap (key_at gs) e ∙ sym own))) (λ m. omega arith) in
      let a = f.head_last i y in
      (a.0, head_there _ n ∙ a.1, a.2))

  earlier' : (j g : ℕ) → j < k + 1 → get_or before' j None ≡ Some g → (g < j) × (key_at gs g ≡ key_at gs j)
  earlier' j g h e =
      same_or j k
      (λ q. let y = f.head key g (sym (before_here j q) ∙ e) in (omega (arith, y.0), y.1 ∙ own ∙ ap (key_at gs) (sym q)))
      (λ n. f.earlier j g (omega arith) (sym (before_there j (omega arith)) ∙ e))

  earlier_last' : (i j : ℕ) → i < j → j < k + 1 → key_at gs i ≡ key_at gs j → (g : ℕ) × (get_or before' j None ≡ Some g) × (i ≤ g)
  earlier_last' i j h m e =
      same_or j k
      (λ q.
      let a = f.head_last i (omega arith) in
      let y : key_at gs i ≡ key = e ∙ ap (key_at gs) q ∙ sym own in
      (a.0, before_here j q ∙ ap (λ (x : ℕ). get_or heads x None) (sym y) ∙ a.1, a.2))
      (λ n. let a = f.earlier_last i j h (omega arith) e in (a.0, before_there j (omega arith) ∙ a.1, a.2))

  pub filed_next : Filed gs (k + 1) (set heads key (Some k)) (set before k (get_or heads key None))
  unfolding heads' before'
  filed_next = record { head = head'; head_last = head_last'; earlier = earlier'; earlier_last = earlier_last' }

-- how many groups there may be from the next one down
abbrev pub left : Option ℕ → ℕ
left (Some g) = g + 1
left None = 0

-- ---- the search among those with one key: an earlier group alike to group k is at most the next one

pub record Sought (gs : List (List ℕ)) (k : ℕ) (next : Option ℕ) : Type 0 where
  pub here : (g : ℕ) → next ≡ Some g → (g < k) × (key_at gs g ≡ key_at gs k)
  pub most : (i : ℕ) → i < k → get_or gs i [] ≡ get_or gs k [] → (g : ℕ) × (next ≡ Some g) × (i ≤ g)

pub sought_at : {gs : List (List ℕ)} {k : ℕ} {next : Option ℕ} → Sought gs k next → (g h : ℕ) → next ≡ Some g → h ≡ g → Sought gs k (Some h)
sought_at {gs} {k} s g h e f = subst (Sought gs k) (e ∙ ap Some (sym f)) s

module _ (l places : List ℕ) (heads before : List (Option ℕ)) (k key : ℕ) (w : Looks l places heads before k key) where
  gs : List (List ℕ)
  gs = (policy_of l).groups

  pub looks_key : key < 1024
  looks_key = rw w.key_is (key_small _)

  pub looks_own : (g : ℕ) → Sought (policy_of l).groups k (Some g) → g < count_of l Groups
  looks_own g s = let e = s.here g refl in omega (arith, e.0, w.own)

  pub looks_few : (g : ℕ) → Sought (policy_of l).groups k (Some g) → g < 256
  looks_few g s = omega (arith, looks_own g s, placed_few _ _ _ w.placed)

  pub looks_first : Sought (policy_of l).groups k (get_or heads key None)
  unfolding gs
  looks_first =
      let f = w.filed in
      record {
        here = λ g e. (let y = f.head key g e in (y.0, y.1 ∙ w.key_is));
        most = λ i h q.
            (let a = f.head_last i h in
            (a.0, ap (λ (x : ℕ). get_or heads x None) (w.key_is ∙ ap key_of (sym q)) ∙ a.1, a.2));
      }

  pub looks_next :
      (g : ℕ) → Sought (policy_of l).groups k (Some g) → same_bytes (get_or (policy_of l).groups k []) (get_or (policy_of l).groups g []) ≡ false
      → Sought (policy_of l).groups k (get_or before g None)
  unfolding gs
  looks_next g s t =
      let f = w.filed in
      let own = s.here g refl in
      record {
        here = λ h e. (let y = f.earlier g h own.0 e in (omega (arith, y.0, own.0), y.1 ∙ own.1));
        most = λ i p q.
            (let a = s.most i p q in
            let z : g ≡ a.0 = cc (a.1) in
            same_or i g
            (λ e.
            false_not_true
            (sym t ∙ ap (λ (x : ℕ). same_bytes (get_or gs k []) (get_or gs x [])) (sym e) ∙ ap (same_bytes (get_or gs k [])) q ∙ bytes_same (get_or gs k [])))
            (λ n. f.earlier_last i g (omega (arith, a.2, z, n)) own.0 (ap key_of q ∙ sym own.1)));
      }

  pub looks_less : (g : ℕ) → Sought (policy_of l).groups k (Some g) → left (get_or before g None) < g + 1
  unfolding gs
  looks_less g s = go (get_or before g None) refl
    where
      go : (o : Option ℕ) → get_or before g None ≡ o → left o < g + 1
      go (Some h) e = let y = w.filed.earlier g h (s.here g refl).0 e in omega (arith, y.0)
      go None e = omega arith

  pub looks_here :
      (g : ℕ) → Sought (policy_of l).groups k (Some g) → same_bytes (get_or (policy_of l).groups k []) (get_or (policy_of l).groups g []) ≡ true
      → Found (policy_of l).groups k (Some g)
  looks_here g s t =
      record {
        alike = λ h e. (let z : g ≡ h = cc in rw (sym z) ((s.here g refl).0, sym (same_bytes_lem _ _ t)));
        none = λ e. absurd (cc);
      }

  pub looks_none : Sought (policy_of l).groups k None → Found (policy_of l).groups k None
  looks_none s =
      record { alike = λ g e. absurd (cc); none = λ e i p q. (let a = s.most i p q in absurd (cc (a.1))) }

-- ---- the table

module _ (gs : List (List ℕ)) where
  settled_is :
      (same : List ℕ) (r : Option ℕ) (k : ℕ) → k < length gs → Found gs k r → ((i : ℕ) → i < k → get_or same i 0 ≡ number_of (get_or gs i []) gs)
      → settled_slot same r k ≡ number_of (get_or gs k []) gs
  settled_is same (Some g) k h f s =
      let a = f.alike g refl in
      s g a.0 ∙ ap (λ (r : List ℕ). number_of r gs) a.1
  settled_is same None k h f s =
      let q = number_self gs k h in
      less_or (number_of (get_or gs k []) gs) k (λ p. absurd (f.none refl _ p q.1)) (λ p. omega (arith, q.0))

  pub fills_none : (before : List ℕ) → Fills gs 0 before before
  fills_none before = record { slot = λ g. ap (λ (t : Bool). cond t (number_of (get_or gs g []) gs) (get_or before g 0)) (sym (le-ltb g 0 (omega arith))) }

  pub fills_next :
      (before same : List ℕ) (r : Option ℕ) (k : ℕ) → k < length gs → k < length same → Found gs k r → Fills gs k before same
      → Fills gs (k + 1) before (set same k (settled_slot same r k))
  fills_next before same r k h m f s =
      record {
        slot = λ g.
            same_or g k
            (λ e. (let t : g < k + 1 = omega arith in
            ap (λ (x : ℕ). get_or (set same k (settled_slot same r k)) x 0) e ∙ get_or-set_same same k _ 0 m
            ∙ settled_is same r k h f (λ i p. s.slot i ∙ ap (λ (t : Bool). cond t (number_of (get_or gs i []) gs) (get_or before i 0)) (lt-ltb i k p))
            ∙ ap (λ (x : ℕ). number_of (get_or gs x []) gs) (sym e)
            ∙ ap (λ (t : Bool). cond t (number_of (get_or gs g []) gs) (get_or before g 0)) (sym (lt-ltb g (k + 1) t))))
            (λ n. get_or-set_other same k g _ 0 n ∙ s.slot g
            ∙ ap (λ (t : Bool). cond t (number_of (get_or gs g []) gs) (get_or before g 0)) (below g n));
      }
    where
      below : (g : ℕ) → (g ≡ k → ⊥) → ltb g k ≡ ltb g (k + 1)
      below g n =
          less_or g k
          (λ p. lt-ltb g k p ∙ sym (lt-ltb g (k + 1) (omega arith)))
          (λ p. le-ltb g k p ∙ sym (le-ltb g (k + 1) (omega (arith, n, p))))

  pub filled : (n : ℕ) (before same : List ℕ) → Fills gs n before same → (i : ℕ) → i < n → get_or same i 0 ≡ number_of (get_or gs i []) gs
  filled n before same s i h = s.slot i ∙ ap (λ (t : Bool). cond t (number_of (get_or gs i []) gs) (get_or before i 0)) (lt-ltb i n h)

  -- ---- twins

  pub own_none : ((i : ℕ) → i < length gs → number_of (get_or gs i []) gs ≡ i) → NoTwins gs
  own_none h =
      apart_none gs
      (λ i j p q e.
      let z : i ≡ j = sym (h i (omega arith)) ∙ ap (λ (g : List ℕ). number_of g gs) e ∙ h j q in
      absurd (omega arith))

  pub own_some :
      (r : ℕ) → r < length gs → ((i : ℕ) → i < r → number_of (get_or gs i []) gs ≡ i) → (number_of (get_or gs r []) gs ≡ r → ⊥)
      → first_twin [] 0 gs ≡ Some r
  own_some r h own off = go (first_twin [] 0 gs) refl
    where
      earlier : number_of (get_or gs r []) gs < r
      earlier = let q = number_self gs r h in omega (arith, q.0, off)

      go : (o : Option ℕ) → first_twin [] 0 gs ≡ o → first_twin [] 0 gs ≡ Some r
      go None e = absurd (none_apart gs e _ r earlier h (number_self gs r h).1)
      go (Some m) e =
          let a = first_twin_lem gs m e in
          let i = a.inside in
          let b = a.before in
          less_or m r
          (λ p.
          let z : m ≤ a.earlier = omega (arith, own m p, number_least gs (get_or gs m []) a.earlier (omega arith) a.alike) in
          absurd (omega arith))
          (λ y. less_or r m
          (λ p.
          let len = length-take-le m gs (omega arith) in
          let k = number_of (get_or gs r []) gs in
          absurd (none_apart (take m gs) a.first k r earlier (omega arith)
          (get_or-take m gs k [] (omega (arith, earlier)) ∙ (number_self gs r h).1 ∙ sym (get_or-take m gs r [] p))))
          (λ x. let z : m ≡ r = omega (arith, x, y) in e ∙ ap Some z))

module _ (l before same : List ℕ) (n : ℕ) (c : n ≡ count_of l Groups) (s : Fills (policy_of l).groups n before same)
    (long : n ≤ length same) (r : Option ℕ) (o : FirstOff (take n same) r) where
  groups_are : length (policy_of l).groups ≡ n
  groups_are = group_count l ∙ sym c

  slots_are : length (take n same) ≡ n
  slots_are = length-take-le n same long

  first_is : (i : ℕ) → i < n → number_of (get_or (policy_of l).groups i []) (policy_of l).groups ≡ get_or (take n same) i 0
  first_is i h = sym (get_or-take n same i 0 h ∙ filled (policy_of l).groups n before same s i h)

  pub twins_end : r ≡ None → twin_fault l ≡ None
  twins_end e =
      none_twins l (own_none (policy_of l).groups (λ i p. first_is i (omega (arith, groups_are)) ∙ o.none e i (omega (arith, groups_are, slots_are))))

  pub twins_here : (k : ℕ) → r ≡ Some k → twin_fault l ≡ Some (refusal 19 (place_of l Groups k))
  twins_here k e =
      let f = o.off k e in
      let own : k < n = omega (arith, f.0, slots_are) in
      twin_fault_some l k
      (own_some (policy_of l).groups k (omega (arith, groups_are)) (λ i p. first_is i (omega arith) ∙ f.1 i p)
      (λ q. f.2 (sym (first_is k own) ∙ q)))

  pub twins_own : (k : ℕ) → r ≡ Some k → k < n
  twins_own k e = let f = o.off k e in omega (arith, f.0, slots_are)

-- one group, or none, has no twin
pub twins_few : (l : List ℕ) → count_of l Groups < 2 → twin_fault l ≡ None
twins_few l h = none_twins l (apart_none (policy_of l).groups (λ i j p q e. absurd (omega (arith, group_count l))))
