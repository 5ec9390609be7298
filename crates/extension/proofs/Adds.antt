-- Laws of adding. Assumes nothing.
--     section_of_lem           the section that a formed record is of
--     OwnPasses            what it says that none of the call's own causes applies
--     own_refused, add_refused   a refusal's number and place, and whose it is
--     number_few           the new record's number is below its section's limit
--     buffer_refused       a refused call leaves the buffer
--     with_sound           a sound policy with one formed record more, which is no twin, is sound
--     add_image            adding to an image with bytes behind it
--     buffer_inserted      the buffer after adding, as the bytes are moved and written
--     added_accepted, number_named, groups_kept, rest_stays, refused_unchanged   claims AddedAccepted, NumberNamed, GroupsKept,
--                          RestStays, RefusedUnchanged
use Prim.Native.Nat.{ℕ, ◌+◌, ◌≤◌, ◌<◌}
use mathlib.Core.Path.{◌≡◌, refl, sym, subst, ap, ◌∙◌}
use mathlib.Core.Logic.{◌⊎◌, inl, inr, ⊎_elim}
use mathlib.Core.Bool.{Bool, true, false, not}
use Rattle.std.specs.Prelude.{Option, None, Some}
use mathlib.Core.List.Memᴰ
use mathlib.Core.List.{List, [], ◌∷◌, ◌++◌, Memᴰ}
use native.Mathlib.Omega.{arith}
use lib.ListN.{length, get_or, drop, length-append, length-drop, get_or-append}
use lib.Seq.{drop-append-add, drop_at, get_or-append-add}
use lib.Dec.{leb, ltb}
use borrow.Author.Tests.{leb-true, ltb-true, eq-eqb, ne_eqb, le-leb, lt-ltb}
use Rattle.format.specs.declared.Section.{Section}
use Rattle.format.specs.declared.Section.TheVariants.{Groups, Rules, Constraints}
use Rattle.format.specs.declared.Refusal.{Refusal}
use Rattle.format.specs.Bytes.{Bytes, word_at}
use Rattle.format.specs.Refusals.{refusal, need}
use Rattle.format.specs.Format.{limit_of, count_place, count_of, kind_in, shape_ok, bad_field}
use Rattle.format.specs.Policy.{Policy, records_of, image_of, policy_of}
use Rattle.format.specs.Twins.{NoTwins}
use Rattle.format.specs.Check.{image_in, check_front, Accepted}
use Rattle.format.proofs.Bytes.{bytes_append, bytes_drop}
use Rattle.format.proofs.Chain.{or_else_split, or_else_none, need_true, need_none, some_not_none, or_else_refuses, need_refuses, unless_accepted, unless_refused_lem}
use Rattle.format.proofs.ByCase.{kind_groups, kind_rules, kind_constraints, groups_kind, rules_kind, constraints_kind, records_of_groups, records_of_rules, records_of_constraints}
use Rattle.format.proofs.Shapes.{Formed, length_cases, shape_kind, shape_most}
use Rattle.format.proofs.Fields.{formed_more, field_inside}
use Rattle.format.proofs.Tests.{false_not_true}
use Rattle.format.proofs.Twins.{no_twins_snoc}
use Rattle.format.proofs.Images.{Regular, Sound, policy_sound, image_of_policy, policy_of_image, image_accepted, image_bytes, image_length, image_count}
use Rattle.format.proofs.Front.{front_accepted, front_length, front_count, front_split, front_bytes, front_of, image_in_of, front_of_length, front_of_count}
use Rattle.extension.specs.Add.{section_of, with_record, added_twin, field_fault, new_number, own_fault, add_fault, new_image, overwrite, buffer_after}
use Rattle.extension.specs.Inner.Splice.{inserted, end_of_section}
use Rattle.extension.specs.Claims.{AddedAccepted, NumberNamed, GroupsKept, RestStays, RefusedUnchanged}
use Rattle.extension.proofs.Splices.{before, section_end, length_with, inserted_image}

-- ---- the section of a record

pub section_of_lem : (s : Section) (k : ℕ) → kind_in s k ≡ true → section_of k ≡ s
unfolding section_of
section_of_lem Groups k h = simp (eq-eqb k 1 (groups_kind k h))
section_of_lem Rules k h =
    let b = rules_kind k h in
    simp (ne_eqb k 1 (omega (arith, b.0)), ne_eqb k 4 (omega (arith, b.1)))
section_of_lem Constraints k h = let e = constraints_kind k h in simp (ne_eqb k 1 (omega arith), eq-eqb k 4 e)

pub kind_of_lem : (r : List ℕ) → shape_ok r ≡ true → kind_in (section_of (get_or r 1 0)) (get_or r 1 0) ≡ true
kind_of_lem r e =
    let k : ℕ = get_or r 1 0 in
    length_cases k (length r) (shape_kind r e)
    (λ h _ _ _. of Groups (kind_groups k h)) (λ h _. of Rules (kind_rules k (omega arith) (omega arith)))
    (λ h _. of Rules (kind_rules k (omega arith) (omega arith))) (λ h _ _ _. of Constraints (kind_constraints k h))
  where
    of : (s : Section) → kind_in s (get_or r 1 0) ≡ true → kind_in (section_of (get_or r 1 0)) (get_or r 1 0) ≡ true
    of s h = rw (section_of_lem s (get_or r 1 0) h) h

-- ---- the call's own causes

pub record OwnPasses (b r : List ℕ) : Type 0 where
  pub formed : Formed (section_of (get_or r 1 0)) (count_of b Groups) r
  pub fresh : added_twin (section_of (get_or r 1 0)) (policy_of (image_in b)) r ≡ false
  pub few : count_of b (section_of (get_or r 1 0)) < limit_of (section_of (get_or r 1 0))
  pub room : word_at b 1 + length r ≤ length b

pub not_true : (t : Bool) → not t ≡ true → t ≡ false
not_true true e = false_not_true e
not_true false e = refl

pub field_none : (f : Option ℕ) → field_fault f ≡ None → f ≡ None
unfolding field_fault
field_none None e = refl
field_none (Some i) e = some_not_none e

none_field : {f : Option ℕ} → f ≡ None → field_fault f ≡ None
unfolding field_fault
none_field e = rw e

module _ (b r : List ℕ) where
  pub own_passes : own_fault b r ≡ None → OwnPasses b r
  unfolding own_fault new_number
  own_passes e =
      let s : Section = section_of (get_or r 1 0) in
      let a = or_else_split (need (shape_ok r) (refusal 10 0)) _ e in
      let c = or_else_split (field_fault (bad_field (count_of b Groups) r)) _ a.1 in
      let g = or_else_split (need (not (added_twin s (policy_of (image_in b)) r)) (refusal 20 0)) _ c.1 in
      let d = or_else_split (need (ltb (count_of b s) (limit_of s)) (refusal 12 0)) (need (leb (word_at b 1 + length r) (length b)) (refusal 13 0)) g.1 in
      let shape = need_true (shape_ok r) (refusal 10 0) a.0 in
      record {
        formed = record { shape = shape; kind = kind_of_lem r shape; fields = field_none (bad_field (count_of b Groups) r) c.0 };
        fresh = not_true (added_twin s (policy_of (image_in b)) r) (need_true _ _ g.0);
        few = ltb-true (count_of b s) (limit_of s) (need_true _ _ d.0);
        room = leb-true (word_at b 1 + length r) (length b) (need_true _ _ d.1);
      }

  pub passes_own : OwnPasses b r → own_fault b r ≡ None
  unfolding own_fault new_number
  passes_own q =
      let s : Section = section_of (get_or r 1 0) in
      or_else_none (need_none _ q.formed.shape)
      (or_else_none (none_field q.formed.fields)
      (or_else_none (need_none _ (rw q.fresh))
      (or_else_none (need_none _ (lt-ltb (count_of b s) (limit_of s) q.few)) (need_none _ (le-leb (word_at b 1 + length r) (length b) q.room)))))

  -- what a refusal of the call's own is
  abbrev Own : Refusal → Type 0
  Own f = (10 ≤ f.number) × (f.number ≤ 20) × (f.place < 130)

  field_refused : shape_ok r ≡ true → (o : Option ℕ) → bad_field (count_of b Groups) r ≡ o → (f : Refusal) → field_fault o ≡ Some f → Own f
  unfolding field_fault
  field_refused h None e f q = some_not_none (sym q)
  field_refused h (Some i) e f q =
      let k = field_inside (count_of b Groups) r i h e in
      let n = shape_most r h in
      let z : refusal 11 i ≡ f = cc in
      subst Own z (omega arith, omega arith, omega arith)

  pub own_refused : (f : Refusal) → own_fault b r ≡ Some f → (10 ≤ f.number) × (f.number ≤ 20) × (f.place < 130)
  unfolding own_fault
  own_refused =
      let s : Section = section_of (get_or r 1 0) in
      or_else_refuses Own (need (shape_ok r) (refusal 10 0)) _ (need_refuses Own (shape_ok r) (refusal 10 0) (omega arith, omega arith, omega arith))
      (λ e. or_else_refuses Own (field_fault (bad_field (count_of b Groups) r)) _
      (field_refused (need_true (shape_ok r) (refusal 10 0) e) (bad_field (count_of b Groups) r) refl)
      (λ _. or_else_refuses Own (need (not (added_twin s (policy_of (image_in b)) r)) (refusal 20 0)) _
      (need_refuses Own (not (added_twin s (policy_of (image_in b)) r)) (refusal 20 0) (omega arith, omega arith, omega arith))
      (λ _. or_else_refuses Own (need (ltb (new_number b r) (limit_of s)) (refusal 12 0)) (need (leb (word_at b 1 + length r) (length b)) (refusal 13 0))
      (need_refuses Own (ltb (new_number b r) (limit_of s)) (refusal 12 0) (omega arith, omega arith, omega arith))
      (λ _. need_refuses Own (leb (word_at b 1 + length r) (length b)) (refusal 13 0) (omega arith, omega arith, omega arith)))))

  pub add_refused : (f : Refusal) → add_fault b r ≡ Some f → (check_front b ≡ Some f) ⊎ (own_fault b r ≡ Some f)
  unfolding add_fault
  add_refused =
      or_else_refuses (λ f. (check_front b ≡ Some f) ⊎ (own_fault b r ≡ Some f)) (check_front b) (own_fault b r) (λ f e. inl e) (λ _ f e. inr e)

  -- the new record's number is below its section's limit
  pub number_few : add_fault b r ≡ None → new_number b r < limit_of (section_of (get_or r 1 0))
  unfolding add_fault new_number
  number_few e = (own_passes (or_else_split (check_front b) (own_fault b r) e).1).few

  pub buffer_refused : (f : Refusal) → add_fault b r ≡ Some f → buffer_after b r ≡ b
  unfolding buffer_after
  buffer_refused f e = unless_refused_lem _ _ e

-- ---- a policy with one record more

module _ (p : Policy) (r : List ℕ) where
  pub with_records : (s : Section) → records_of (with_record s p r) s ≡ records_of p s ++ (r ∷ [])
  unfolding with_record
  with_records Groups = simp records_of_groups
  with_records Rules = simp records_of_rules
  with_records Constraints = simp records_of_constraints

  -- the records of a section are those that there were, and r in its own
  with_section : (s s' : Section) → (records_of (with_record s p r) s' ≡ records_of p s') ⊎ (s ≡ s')
  unfolding with_record
  with_section Groups Groups = inr refl
  with_section Groups Rules = inl (simp records_of_rules)
  with_section Groups Constraints = inl (simp records_of_constraints)
  with_section Rules Groups = inl (simp records_of_groups)
  with_section Rules Rules = inr refl
  with_section Rules Constraints = inl (simp records_of_constraints)
  with_section Constraints Groups = inl (simp records_of_groups)
  with_section Constraints Rules = inl (simp records_of_rules)
  with_section Constraints Constraints = inr refl

  with_version : (s : Section) → (with_record s p r).version ≡ p.version
  unfolding with_record
  with_version Groups = refl
  with_version Rules = refl
  with_version Constraints = refl

  pub with_groups_lem : (s : Section) → length p.groups ≤ length (with_record s p r).groups
  unfolding with_record
  with_groups_lem Groups = omega (arith, length-append p.groups (r ∷ []))
  with_groups_lem Rules = omega arith
  with_groups_lem Constraints = omega arith

  -- no rule and no constraint is lost, and a record that is no rule leaves the rules
  pub with_rules : (s : Section) (x : List ℕ) → Memᴰ x p.rules → Memᴰ x (with_record s p r).rules
  unfolding with_record
  with_rules Groups x m = m
  with_rules Rules x m = Memᴰ.append_left (r ∷ []) m
  with_rules Constraints x m = m

  pub with_constraints : (s : Section) (x : List ℕ) → Memᴰ x p.constraints → Memᴰ x (with_record s p r).constraints
  unfolding with_record
  with_constraints Groups x m = m
  with_constraints Rules x m = m
  with_constraints Constraints x m = Memᴰ.append_left (r ∷ []) m

  pub rules_with : (s : Section) → (s ≡ Rules → ⊥) → (x : List ℕ) → Memᴰ x (with_record s p r).rules → Memᴰ x p.rules
  unfolding with_record
  rules_with Groups n x m = m
  rules_with Rules n x m = absurd (n refl)
  rules_with Constraints n x m = m

  -- what holds of each record of p, and of r in its section, holds of each record of the two together
  with_all_lem :
      (P : Section → List ℕ → Type 0) → ((s : Section) (x : List ℕ) → Memᴰ x (records_of p s) → P s x)
      → (s : Section) → P s r → (s' : Section) (x : List ℕ) → Memᴰ x (records_of (with_record s p r) s') → P s' x
  with_all_lem P h s q s' x m =
      ⊎_elim (λ e. h s' x (subst (Memᴰ x) e m))
      (λ e. ⊎_elim (λ k. h s' x k) (λ k. subst (P s') (sym (Memᴰ.eq_of_singleton k)) (subst (λ z. P z r) e q))
      (Memᴰ.append_cases (records_of p s') (subst (Memᴰ x) (with_records s') (subst (λ z. Memᴰ x (records_of (with_record z p r) s')) e m))))
      (with_section s s')

  with_few : (s : Section) → Regular p → length (records_of p s) < limit_of s → (s' : Section) → length (records_of (with_record s p r) s') ≤ limit_of s'
  with_few s w h s' =
      ⊎_elim (λ e. rw e (w.few s'))
      (λ e. subst (λ z. length (records_of (with_record s p r) z) ≤ limit_of z) e
      (rw (with_records s) (omega (arith, length-append (records_of p s) (r ∷ [])))))
      (with_section s s')

  with_regular : (s : Section) → Regular p → Formed s (length p.groups) r → Bytes r → length (records_of p s) < limit_of s → Regular (with_record s p r)
  with_regular s w f b h =
      let g' : ℕ = length (with_record s p r).groups in
      record {
        version = rw (with_version s) w.version;
        few = with_few s w h;
        formed = with_all_lem (λ s' x. Formed s' g' x) (λ s' x m. formed_more _ g' x s' (with_groups_lem s) (w.formed s' x m)) s (formed_more _ g' r s (with_groups_lem s) f);
        bytes = with_all_lem (λ s' x. Bytes x) w.bytes s b;
      }

  with_twins : (s : Section) → NoTwins p.groups → added_twin s p r ≡ false → NoTwins (with_record s p r).groups
  unfolding with_record added_twin
  with_twins Groups n e = no_twins_snoc p.groups r n e
  with_twins Rules n e = n
  with_twins Constraints n e = n

  pub with_sound :
      (s : Section) → Sound p → Formed s (length p.groups) r → Bytes r → added_twin s p r ≡ false → length (records_of p s) < limit_of s
      → Sound (with_record s p r)
  with_sound s w f b e h = record { regular = with_regular s w.regular f b h; twins = with_twins s w.twins e }

pub with_length : (s : Section) (p : Policy) (r : List ℕ) → length (image_of (with_record s p r)) ≡ length (image_of p) + length r
with_length s p r = image_length (with_record s p r) ∙ sym (length_with s p r [])

-- ---- adding to an image with bytes behind it

pub count_is : (p : Policy) (t : List ℕ) → Sound p → (s : Section) → count_of (image_of p ++ t) s ≡ length (records_of p s)
count_is p t w s = front_of_count (image_of p) t (image_accepted p w) s ∙ image_count p s

module _ (p : Policy) (t : List ℕ) (s : Section) (r : List ℕ) (w : Sound p) (f : Formed s (length p.groups) r)
    (fresh : added_twin s p r ≡ false) (few : length (records_of p s) < limit_of s)
    (room : length (image_of p) + length r ≤ length (image_of p ++ t)) where
  groups_are : count_of (image_of p ++ t) Groups ≡ length p.groups
  groups_are = count_is p t w Groups ∙ ap length (records_of_groups p)

  size_is : word_at (image_of p ++ t) 1 ≡ length (image_of p)
  size_is = front_of_length (image_of p) t (image_accepted p w)

  is_section : section_of (get_or r 1 0) ≡ s
  is_section = section_of_lem s (get_or r 1 0) f.kind

  policy_is : policy_of (image_in (image_of p ++ t)) ≡ p
  policy_is = ap policy_of (image_in_of (image_of p) t (image_accepted p w)) ∙ policy_of_image p w.regular

  pub add_passes : add_fault (image_of p ++ t) r ≡ None
  unfolding add_fault
  add_passes =
      or_else_none (front_of (image_of p) t (image_accepted p w))
      (passes_own (image_of p ++ t) r
      (record {
        formed = rw (is_section, groups_are) f;
        fresh = rw (is_section, policy_is) fresh;
        few = rw (is_section, count_is p t w s) few;
        room = rw size_is room;
      }))

  new_image_lem : new_image (image_of p ++ t) r ≡ image_of (with_record s p r)
  unfolding new_image
  new_image_lem = rw (is_section, policy_is)

  pub add_image : buffer_after (image_of p ++ t) r ≡ image_of (with_record s p r) ++ drop (length r) t
  unfolding buffer_after overwrite
  add_image =
      unless_accepted _ _ add_passes
      ∙ rw (new_image_lem, with_length s p r) (ap (λ (l : List ℕ). image_of (with_record s p r) ++ l) (drop-append-add (image_of p) t (length r)))

-- ---- adding to any buffer that passes

module _ (b r : List ℕ) (by : Bytes b) (e : add_fault b r ≡ None) where
  front_none : check_front b ≡ None
  unfolding add_fault
  front_none = (or_else_split (check_front b) (own_fault b r) e).0

  own : OwnPasses b r
  unfolding add_fault
  own = own_passes b r (or_else_split (check_front b) (own_fault b r) e).1

  p : Policy
  p = policy_of (image_in b)

  s : Section
  s = section_of (get_or r 1 0)

  t : List ℕ
  t = drop (word_at b 1) b

  sound : Sound p
  unfolding p
  sound = policy_sound (image_in b) (front_bytes b front_none by) (front_accepted b front_none)

  image_is : image_of p ≡ image_in b
  unfolding p
  image_is = image_of_policy (image_in b) (front_bytes b front_none by) (front_accepted b front_none)

  buffer_is : b ≡ image_of p ++ t
  unfolding t
  buffer_is = front_split b front_none ∙ ap (λ (l : List ℕ). l ++ t) (sym image_is)

  counts : (s' : Section) → count_of b s' ≡ length (records_of p s')
  counts s' = sym (front_count b front_none s') ∙ ap (λ (l : List ℕ). count_of l s') (sym image_is) ∙ image_count p s'

  group_counts : count_of b Groups ≡ length p.groups
  group_counts = counts Groups ∙ ap length (records_of_groups p)

  size : word_at b 1 ≡ length (image_of p)
  size = sym (front_length b front_none) ∙ ap length (sym image_is)

  formed : Formed s (length p.groups) r
  unfolding s
  formed = rw group_counts at own.formed

  few : length (records_of p s) < limit_of s
  unfolding s
  few = rw (counts s) at own.few

  room : length (image_of p) + length r ≤ length (image_of p ++ t)
  room = rw (size, ap length buffer_is) at own.room

  fresh : added_twin s p r ≡ false
  unfolding s p
  fresh = own.fresh

  buffer_image : buffer_after b r ≡ image_of (with_record s p r) ++ drop (length r) t
  buffer_image = ap (λ (x : List ℕ). buffer_after x r) buffer_is ∙ add_image p t s r sound formed fresh few room

  pub buffer_inserted :
      inserted b r (end_of_section (image_in b) (section_of (get_or r 1 0))) (word_at b 1) (count_place (section_of (get_or r 1 0))) (count_of b (section_of (get_or r 1 0)))
      ≡ buffer_after b r
  unfolding s
  buffer_inserted =
      let at : end_of_section (image_in b) s ≡ 9 + length (before s p) = ap (λ (l : List ℕ). end_of_section l s) (sym image_is) ∙ section_end s p sound in
      ap (λ (x : List ℕ). inserted x r (end_of_section (image_in b) s) (word_at b 1) (count_place s) (count_of b s)) buffer_is
      ∙ ap (λ (x : ℕ). inserted (image_of p ++ t) r x (word_at b 1) (count_place s) (count_of b s)) at
      ∙ ap (λ (x : ℕ). inserted (image_of p ++ t) r (9 + length (before s p)) x (count_place s) (count_of b s)) size
      ∙ ap (λ (x : ℕ). inserted (image_of p ++ t) r (9 + length (before s p)) (length (image_of p)) (count_place s) x) (counts s)
      ∙ inserted_image s p r t
      ∙ sym buffer_image

  -- the new image and what lies past it
  after_is : buffer_after b r ≡ new_image b r ++ drop (length (new_image b r)) b
  unfolding buffer_after overwrite
  after_is = unless_accepted _ _ e

  new_fits : length (new_image b r) ≤ length b
  unfolding new_image p s
  new_fits = omega (arith, with_length s p r, room, ap length buffer_is)

  after_rest : (drop (length (new_image b r)) (buffer_after b r) ≡ drop (length (new_image b r)) b) × (length (buffer_after b r) ≡ length b)
  after_rest =
      let n : ℕ = length (new_image b r) in
      let h = new_fits in (
        ap (drop n) after_is ∙ drop_at (new_image b r) (drop n b) n refl,
        ap length after_is ∙ length-append (new_image b r) (drop n b) ∙ rw (length-drop n b) (omega arith),
      )

  module _ (bytes : Bytes r) where
    sound_with : Sound (with_record s p r)
    sound_with = with_sound p r s sound formed bytes fresh few

    with_accepted : Accepted (image_of (with_record s p r))
    with_accepted = image_accepted (with_record s p r) sound_with

    after_accepted : check_front (buffer_after b r) ≡ None
    after_accepted = rw buffer_image (front_of (image_of (with_record s p r)) (drop (length r) t) with_accepted)

    after_bytes : Bytes (buffer_after b r)
    unfolding t
    after_bytes =
        let i : Bytes (image_of (with_record s p r)) = image_bytes (with_record s p r) sound_with.regular in
        subst Bytes (sym buffer_image)
        (bytes_append (image_of (with_record s p r)) (drop (length r) t) i (bytes_drop (length r) t (bytes_drop (word_at b 1) b by)))

    after_policy : policy_of (image_in (buffer_after b r)) ≡ with_record s p r
    after_policy =
        rw buffer_image
        (ap policy_of (image_in_of (image_of (with_record s p r)) (drop (length r) t) with_accepted)
        ∙ policy_of_image (with_record s p r) sound_with.regular)

    after_number : get_or (records_of (policy_of (image_in (buffer_after b r))) s) (new_number b r) [] ≡ r
    unfolding new_number s
    after_number =
        let k : count_of b s ≡ length (records_of p s) + 0 = omega (arith, counts s) in
        ap (λ (q : Policy). get_or (records_of q s) (count_of b s) []) after_policy
        ∙ ap (λ (xs : List (List ℕ)). get_or xs (count_of b s) []) (with_records p r s)
        ∙ ap (λ (n : ℕ). get_or (records_of p s ++ (r ∷ [])) n []) k
        ∙ get_or-append-add (records_of p s) (r ∷ []) 0 []

pub number_named : NumberNamed
unfolding s
number_named b r by bytes e = after_number b r by e bytes

pub rest_stays : RestStays
rest_stays b r by e = after_rest b r by e

pub refused_unchanged : RefusedUnchanged
refused_unchanged b r f e = buffer_refused b r f e

pub added_accepted : AddedAccepted
unfolding p s
added_accepted b r by bytes e = (after_accepted b r by e bytes, after_policy b r by e bytes, after_bytes b r by e bytes)

groups_first : (s : Section) (p : Policy) (r : List ℕ) (n : ℕ) → n < length p.groups → get_or (with_record s p r).groups n [] ≡ get_or p.groups n []
unfolding with_record
groups_first Groups p r n h = get_or-append p.groups (r ∷ []) [] n h
groups_first Rules p r n h = refl
groups_first Constraints p r n h = refl

pub groups_kept : GroupsKept
unfolding p s
groups_kept b r by bytes e n h =
    ap (λ (q : Policy). get_or q.groups n []) (after_policy b r by e bytes) ∙ groups_first (s b r by e) (p b r by e) r n h
