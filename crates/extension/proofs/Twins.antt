-- An added twin: claim TwinRefused. Assumes nothing.
use Prim.Native.Nat.{ℕ, ◌+◌}
use mathlib.Core.Path.{◌≡◌, refl, sym, subst, ◌∙◌}
use mathlib.Core.Bool.{Bool, true, false, not}
use Rattle.std.specs.Prelude.{Option, None, Some}
use mathlib.Core.List.{List, Memᴰ}
use native.Mathlib.Omega.{arith}
use lib.ListN.{length, get_or}
use lib.Dec.{leb, ltb}
use Rattle.format.specs.declared.Section.{Section}
use Rattle.format.specs.declared.Section.TheVariants.{Groups, Rules, Constraints}
use Rattle.format.specs.declared.Refusal.{Refusal}
use Rattle.format.specs.Bytes.{word_at}
use Rattle.format.specs.Refusals.{refusal, need}
use Rattle.format.specs.Format.{limit_of, count_of, shape_ok, bad_field}
use Rattle.format.specs.Policy.{Policy, policy_of}
use Rattle.format.specs.Check.{image_in, check_front}
use Rattle.format.proofs.Tests.{false_not_true}
use Rattle.format.proofs.Chain.{some_not_none, or_else_next, or_else_first, need_none, need_some, or_else_refuses, need_refuses}
use Rattle.format.proofs.Shapes.{Formed}
use Rattle.format.proofs.Bounds.{front_number}
use Rattle.format.proofs.Twins.{mem_listed, listed_mem}
use Rattle.format.proofs.ByCase.{records_of_groups}
use Rattle.format.proofs.Images.{policy_formed}
use Rattle.format.proofs.Front.{front_accepted, front_count}
use Rattle.extension.specs.Add.{section_of, added_twin, field_fault, new_number, own_fault, add_fault}
use Rattle.extension.specs.Claims.{TwinRefused}
use Rattle.extension.proofs.Adds.{section_of_lem}

-- a group that the policy has
module _ (b r : List ℕ) (e : check_front b ≡ None) (m : Memᴰ r (policy_of (image_in b)).groups) where
  formed : Formed Groups (count_of b Groups) r
  formed =
      subst (λ (g : ℕ). Formed Groups g r) (front_count b e Groups)
      (policy_formed (image_in b) (front_accepted b e) Groups r (rw (records_of_groups (policy_of (image_in b))) m))

  is_group : section_of (get_or r 1 0) ≡ Groups
  is_group = section_of_lem Groups (get_or r 1 0) formed.kind

  twin : added_twin (section_of (get_or r 1 0)) (policy_of (image_in b)) r ≡ true
  unfolding added_twin
  twin = rw is_group (mem_listed (policy_of (image_in b)).groups m)

  refused : add_fault b r ≡ Some (refusal 20 0)
  unfolding add_fault own_fault field_fault
  refused =
      or_else_next _ e ∙ or_else_next _ (need_none _ formed.shape) ∙ or_else_next _ (rw formed.fields)
      ∙ or_else_first _ (need_some _ (rw twin))

-- and no other record
abbrev Twin : List ℕ → List ℕ → Refusal → Type 0
Twin b r f = f.number ≡ 20 → (f.place ≡ 0) × Memᴰ r (policy_of (image_in b)).groups

known : (b r : List ℕ) (n at : ℕ) → (n ≡ 20 → ⊥) → Twin b r (refusal n at)
known b r n at h e = absurd (h e)

in_groups : (s : Section) (p : Policy) (r : List ℕ) → added_twin s p r ≡ true → Memᴰ r p.groups
unfolding added_twin
in_groups Groups p r t = listed_mem r p.groups t
in_groups Rules p r t = false_not_true t
in_groups Constraints p r t = false_not_true t

module _ (b r : List ℕ) where
  twin_need : (f : Refusal) → need (not (added_twin (section_of (get_or r 1 0)) (policy_of (image_in b)) r)) (refusal 20 0) ≡ Some f → Twin b r f
  twin_need f = go (added_twin (section_of (get_or r 1 0)) (policy_of (image_in b)) r) refl
    where
      go : (t : Bool) → added_twin (section_of (get_or r 1 0)) (policy_of (image_in b)) r ≡ t → need (not t) (refusal 20 0) ≡ Some f → Twin b r f
      go true h q =
          need_refuses (Twin b r) (not true) (refusal 20 0) (λ _. (refl, in_groups (section_of (get_or r 1 0)) (policy_of (image_in b)) r h)) f q
      go false h q = some_not_none (sym q ∙ need_none (refusal 20 0) refl)

  field_need : (o : Option ℕ) (f : Refusal) → field_fault o ≡ Some f → Twin b r f
  unfolding field_fault
  field_need None f q = some_not_none (sym q)
  field_need (Some i) f q = let z : refusal 11 i ≡ f = cc in subst (Twin b r) z (known b r 11 i (omega arith))

  only : (f : Refusal) → add_fault b r ≡ Some f → Twin b r f
  unfolding add_fault own_fault
  only =
      or_else_refuses (Twin b r) (check_front b) _ (λ f e k. absurd (front_number b f e k))
      (λ _. or_else_refuses (Twin b r) (need (shape_ok r) (refusal 10 0)) _ (need_refuses (Twin b r) _ (refusal 10 0) (known b r 10 0 (omega arith)))
      (λ _. or_else_refuses (Twin b r) (field_fault (bad_field (count_of b Groups) r)) _ (field_need (bad_field (count_of b Groups) r))
      (λ _. or_else_refuses (Twin b r) (need (not (added_twin (section_of (get_or r 1 0)) (policy_of (image_in b)) r)) (refusal 20 0)) _ twin_need
      (λ _. or_else_refuses (Twin b r) (need (ltb (new_number b r) (limit_of (section_of (get_or r 1 0)))) (refusal 12 0)) _
      (need_refuses (Twin b r) _ (refusal 12 0) (known b r 12 0 (omega arith)))
      (λ _. need_refuses (Twin b r) (leb (word_at b 1 + length r) (length b)) (refusal 13 0) (known b r 13 0 (omega arith)))))))

pub twin_refused : TwinRefused
twin_refused = record { refused = refused; only = only }
