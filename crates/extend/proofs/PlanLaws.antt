-- Laws of the plan of an add, by the ways that the code goes. Assumes nothing.
use Prim.Native.Nat.{ℕ, suc, ◌+◌, ◌-◌, ◌≤◌, ◌<◌}
use mathlib.Core.Path.{◌≡◌, refl, sym, ap, ◌∙◌}
use mathlib.Core.Bool.{Bool, true, false, ◌||◌}
use Rattle.std.specs.Prelude.{None, Some, Err}
use mathlib.Core.List.{List, []}
use native.Mathlib.Omega.{arith}
use lib.ListN.{length, get_or, take, drop, length-drop, drop_of_length-le}
use lib.Seq.{drop-cons, drop-drop, get_or-drop}
use borrow.Author.Tests.{le-ltb, lt-ltb, lt-leb}
use Rattle.format.specs.declared.Section.{Section}
use Rattle.format.specs.declared.Section.TheVariants.{Groups, Rules, Constraints}
use Rattle.format.specs.declared.Misread.TheVariants.{Malformed, BadField}
use Rattle.format.specs.declared.Starts.{Starts}
use Rattle.format.specs.Bytes.{Bytes, word_at}
use Rattle.format.specs.Refusals.{refusal}
use Rattle.format.specs.Format.{limit_of, count_of, kind_in, first_record, shape_ok}
use Rattle.format.specs.Policy.{Policy, policy_of, record_at, place_of}
use Rattle.format.specs.Twins.{same_bytes, listed}
use Rattle.format.specs.Inner.Places.{Stands}
use Rattle.format.specs.Check.{read_of, image_in, check_front, Accepted}
use Rattle.std.specs.Prelude.{Ok}
use Rattle.format.specs.Answers.{outcome, starts}
use Rattle.format.proofs.Chain.{or_else_split, or_else_next, or_else_first, need_none, need_some}
use Rattle.format.proofs.Shapes.{Formed, record_part, length_least, length_cases, shape_length, shape_kind, first_whole, read_whole, read_bad_field, read_malformed}
use Rattle.format.proofs.ByCase.{limit_most}
use Rattle.format.proofs.Accepted.{accepted_header, accepted_body, start_inside, start_least, record_stands, group_nth, place_first, place_next, start_groups}
use Rattle.format.proofs.Twins.{listed_nil, listed_cons}
use Rattle.format.proofs.Images.{group_count}
use Rattle.format.proofs.Front.{front_accepted, front_length}
use Rattle.format.proofs.Reach.{longest_image}
use Rattle.extension.specs.Add.{section_of, added_twin, field_fault, new_number, own_fault, add_fault}
use Rattle.extension.specs.Inner.Splice.{end_of_section}
use Rattle.extension.proofs.Adds.{section_of_lem, own_passes, passes_own}
use Rattle.extend.proofs.WordLaws.{part_is}
use Rattle.extend.specs.Inner.Plans.{slot_at, slot_of}
use Rattle.extend.specs.Inner.Moves.{Fits}

-- ---- refusal 10

pub own_shape : (b r : List ℕ) → (shape_ok r ≡ true → ⊥) → own_fault b r ≡ Some (refusal 10 0)
unfolding own_fault
own_shape b r f = or_else_first _ (need_some _ (go (shape_ok r) refl))
  where
    go : (x : Bool) → shape_ok r ≡ x → shape_ok r ≡ false
    go true e = absurd (f e)
    go false e = e

module _ (b r : List ℕ) where
  pub own_tiny : length r < 2 → own_fault b r ≡ Some (refusal 10 0)
  own_tiny h = own_shape b r (λ e. (let n = length_least (get_or r 1 0) (length r) (shape_kind r e) in omega arith))

  pub own_length : (n : ℕ) → n ≡ get_or r 0 0 → (n ≡ length r → ⊥) → own_fault b r ≡ Some (refusal 10 0)
  own_length n is h = own_shape b r (λ e. h (is ∙ sym (shape_length r e)))

  pub own_kind : (k : ℕ) → k ≡ get_or r 1 0 → (k ≡ 1 → ⊥) → (k ≡ 2 → ⊥) → (k ≡ 3 → ⊥) → (k ≡ 4 → ⊥) → own_fault b r ≡ Some (refusal 10 0)
  own_kind k is a₁ a₂ a₃ a₄ =
      own_shape b r (λ e. length_cases (get_or r 1 0) (length r) (shape_kind r e)
      (λ j _ _ _. a₁ (is ∙ j)) (λ j _. a₂ (is ∙ j)) (λ j _. a₃ (is ∙ j)) (λ j _ _ _. a₄ (is ∙ j)))

-- ---- a record whose length is its length byte, of a kind of the section

module _ (b r : List ℕ) (s : Section) (size : get_or r 0 0 ≡ length r) (kind : kind_in s (get_or r 1 0) ≡ true) where
  whole_first : first_record r ≡ r
  whole_first = first_whole r size

  is_section : section_of (get_or r 1 0) ≡ s
  is_section = section_of_lem s (get_or r 1 0) kind

  pub own_malformed : read_of s (count_of b Groups) r ≡ Err Malformed → own_fault b r ≡ Some (refusal 10 0)
  own_malformed e = own_shape b r (λ h. read_malformed s (count_of b Groups) r e (rw whole_first h) (rw whole_first kind))

  pub own_field : (i : ℕ) → read_of s (count_of b Groups) r ≡ Err (BadField i) → own_fault b r ≡ Some (refusal 11 i)
  unfolding own_fault field_fault
  own_field i e =
      let q = rw whole_first at (read_bad_field s (count_of b Groups) i r e) in
      or_else_next _ (need_none _ q.0) ∙ or_else_first _ (rw q.1)

  module _ (n : ℕ) (e : read_of s (count_of b Groups) r ≡ Ok n) where
    whole_formed : Formed s (count_of b Groups) r
    whole_formed = rw whole_first at (read_whole s (count_of b Groups) n r e).0

    pub own_twin : added_twin s (policy_of (image_in b)) r ≡ true → own_fault b r ≡ Some (refusal 20 0)
    unfolding own_fault field_fault
    own_twin h =
        or_else_next _ (need_none _ whole_formed.shape) ∙ or_else_next _ (rw whole_formed.fields)
        ∙ or_else_first _ (need_some _ (rw (is_section, h)))

    pub own_full : added_twin s (policy_of (image_in b)) r ≡ false → limit_of s ≤ count_of b s → own_fault b r ≡ Some (refusal 12 0)
    unfolding own_fault field_fault new_number
    own_full t h =
        or_else_next _ (need_none _ whole_formed.shape) ∙ or_else_next _ (rw whole_formed.fields)
        ∙ or_else_next _ (need_none _ (rw (is_section, t)))
        ∙ or_else_first _ (need_some _ (rw is_section (le-ltb (count_of b s) (limit_of s) h)))

    module _ (fresh : added_twin s (policy_of (image_in b)) r ≡ false) (few : count_of b s < limit_of s) where
      pub own_short : length b < word_at b 1 + length r → own_fault b r ≡ Some (refusal 13 0)
      unfolding own_fault field_fault new_number
      own_short h =
          or_else_next _ (need_none _ whole_formed.shape) ∙ or_else_next _ (rw whole_formed.fields)
          ∙ or_else_next _ (need_none _ (rw (is_section, fresh)))
          ∙ or_else_next _ (need_none _ (rw is_section (lt-ltb (count_of b s) (limit_of s) few)))
          ∙ need_some _ (lt-leb (word_at b 1 + length r) (length b) h)

      pub own_none : word_at b 1 + length r ≤ length b → own_fault b r ≡ None
      own_none h = passes_own b r (record { formed = rw is_section whole_formed; fresh = rw is_section fresh; few = rw is_section few; room = h })

  -- the slot at the end of the section is the record's
  pub slot_is : (at : ℕ) → at ≡ end_of_section (image_in b) s → slot_at b s at ≡ slot_of b r
  unfolding slot_of
  slot_is at e = rw (is_section, e)

-- ---- where the sections end

module _ (b : List ℕ) (e : check_front b ≡ None) (y : Starts) (is : y ≡ starts (image_in b)) where
  pub end_groups : y.rules ≡ end_of_section (image_in b) Groups
  unfolding end_of_section
  end_groups = ap (λ z. z.rules) is

  pub end_rules : y.constraints ≡ end_of_section (image_in b) Rules
  unfolding end_of_section
  end_rules = ap (λ z. z.constraints) is

pub end_constraints : (b : List ℕ) (n : ℕ) → check_front b ≡ None → n ≡ word_at b 1 → n ≡ end_of_section (image_in b) Constraints
unfolding end_of_section
end_constraints b n e is = is ∙ sym (front_length b e)

-- ---- the slot fits

module _ (l : List ℕ) (e : Accepted l) where
  end_inside : (s : Section) → end_of_section l s ≤ length l
  unfolding end_of_section
  end_inside Groups = start_inside l (accepted_body l e) (accepted_header l e).long Rules
  end_inside Rules = start_inside l (accepted_body l e) (accepted_header l e).long Constraints
  end_inside Constraints = omega arith

  end_least : (s : Section) → 9 ≤ end_of_section l s
  unfolding end_of_section
  end_least Groups = start_least l Rules
  end_least Rules = start_least l Constraints
  end_least Constraints = (accepted_header l e).long

pub slot_fits : (b r : List ℕ) → Bytes r → add_fault b r ≡ None → Fits b r (slot_of b r)
unfolding add_fault slot_of
slot_fits b r bytes e =
    let s : Section = section_of (get_or r 1 0) in
    let q = or_else_split (check_front b) (own_fault b r) e in
    let own = own_passes b r q.1 in
    let ok = front_accepted b q.0 in
    let n = front_length b q.0 in
    record {
      low = end_least (image_in b) ok s;
      within = omega (arith, end_inside (image_in b) ok s);
      room = own.room;
      size = omega (arith, longest_image (image_in b) ok, shape_length r own.formed.shape, bytes 0);
      count = omega (arith, own.few, limit_most s);
    }

pub slot_made :
    (b r : List ℕ) (s : Section) (at size count : ℕ) → size ≡ word_at b 1 → count ≡ count_of b s → own_fault b r ≡ None
    → Ok (record { at = at; size = size; section = s; count = count }) ≡ outcome (own_fault b r) (slot_at b s at)
slot_made b r s at size count x z e = rw (e, x, z)

-- ---- the groups, one after the other

module _ (l part : List ℕ) (e : Accepted l) where
  abbrev gs : List (List ℕ)
  gs = (policy_of l).groups

  pub header_inside : 9 ≤ length l
  header_inside = (accepted_header l e).long

  pub groups_start : take (length l - 9) (drop 9 l) ≡ drop (place_of l Groups 0) l
  groups_start = part_is l 9 ∙ ap (λ (i : ℕ). drop i l) (sym (start_groups l) ∙ sym (place_first l Groups))

  -- the part of the image from a group's place on, and the length byte there
  module _ (k : ℕ) (h : k < count_of l Groups) (rest : List ℕ) (left : rest ≡ drop (place_of l Groups k) l) where
    group_stands : Stands l (place_of l Groups k) (record_at l (place_of l Groups k))
    group_stands = record_stands l e Groups k h

    size_is : length rest ≡ length l - place_of l Groups k
    size_is = ap length left ∙ length-drop (place_of l Groups k) l

    byte_is : get_or rest 0 0 ≡ get_or l (place_of l Groups k) 0
    byte_is =
        ap (λ (x : List ℕ). get_or x 0 0) left ∙ get_or-drop (place_of l Groups k) l 0 0 ∙ ap (λ (i : ℕ). get_or l i 0) (omega arith)

    pub group_byte : 0 < length rest
    group_byte = let s = group_stands in omega (arith, s.some, s.inside, size_is)

    module _ (n : ℕ) (is : n ≡ get_or rest 0 0) where
      pub group_end : n ≤ length rest
      group_end = let s = group_stands in omega (arith, s.size, s.inside, size_is, byte_is)

      group_first : take n rest ≡ get_or gs k []
      group_first =
          let s = group_stands in
          let q : n ≡ length (record_at l (place_of l Groups k)) = omega (arith, s.size, byte_is) in
          rw (left, q) (sym (record_part l _ s) ∙ sym (group_nth l k h))

      pub group_next : drop n rest ≡ drop (place_of l Groups (k + 1)) l
      group_next =
          let q : place_of l Groups k + n ≡ place_of l Groups (k + 1) = omega (arith, byte_is, place_next l Groups k) in
          rw left (drop-drop n (place_of l Groups k) l ∙ ap (λ (i : ℕ). drop i l) q)

      groups_left : {t : Bool} → same_bytes part (take n rest) ≡ t → listed part (drop k gs) ≡ (t || listed part (drop (k + 1) gs))
      groups_left q =
          let one : suc k ≡ k + 1 = omega arith in
          ap (listed part) (drop-cons gs k [] (omega (arith, group_count l))) ∙ listed_cons part _ _
          ∙ rw (← group_first, q, one)

      pub listed_here : same_bytes part (take n rest) ≡ true → listed part (drop k gs) ≡ true
      listed_here q = groups_left q

      pub listed_on : same_bytes part (take n rest) ≡ false → listed part (drop k gs) ≡ listed part (drop (k + 1) gs)
      listed_on q = groups_left q

  pub listed_end : (k : ℕ) → count_of l Groups ≤ k → listed part (drop k gs) ≡ false
  listed_end k h = ap (listed part) (drop_of_length-le gs {i = k} (omega (arith, group_count l))) ∙ listed_nil part

pub twin_groups : (p : Policy) (r : List ℕ) → added_twin Groups p r ≡ listed r p.groups
unfolding added_twin
twin_groups p r = refl

pub twin_rules : (p : Policy) (r : List ℕ) → added_twin Rules p r ≡ false
unfolding added_twin
twin_rules p r = refl

pub twin_constraints : (p : Policy) (r : List ℕ) → added_twin Constraints p r ≡ false
unfolding added_twin
twin_constraints p r = refl
