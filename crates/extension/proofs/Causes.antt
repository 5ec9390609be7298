-- Why a record is refused, on a front that is accepted. Assumes nothing.
--     add_own            a record that is not refused has no cause of its own
--     own_is             what refuses it is its own
--     formed_refused     a record that has its shape can be refused with 11, 12, 13 and 20
--     short_formed       with 13 only where nothing else is amiss
--     not_short          and not where it passes
use Prim.Native.Nat.{ℕ, ◌+◌, ◌<◌}
use mathlib.Core.Path.{◌≡◌, sym, subst, ◌∙◌}
use mathlib.Core.Bool.{true, false, not}
use Rattle.std.specs.Prelude.{Option, None, Some}
use mathlib.Core.List.{List}
use native.Mathlib.Omega.{arith}
use lib.ListN.{length, get_or}
use lib.Dec.{leb, ltb}
use borrow.Author.Tests.{ltb-true}
use Rattle.format.specs.declared.Section.{Section}
use Rattle.format.specs.declared.Section.TheVariants.{Groups}
use Rattle.format.specs.declared.Refusal.{Refusal}
use Rattle.format.specs.Bytes.{word_at}
use Rattle.format.specs.Refusals.{refusal, need}
use Rattle.format.specs.Format.{limit_of, count_of, shape_ok, bad_field}
use Rattle.format.specs.Policy.{policy_of}
use Rattle.format.specs.Check.{image_in, check_front}
use Rattle.format.proofs.Chain.{or_else_split, or_else_next, need_true, need_none, some_not_none, or_else_refuses, need_refuses}
use Rattle.format.proofs.Shapes.{Formed}
use Rattle.extension.specs.Add.{section_of, added_twin, field_fault, new_number, own_fault, add_fault}
use Rattle.extension.proofs.Adds.{OwnPasses, own_passes, kind_of_lem, field_none, not_true}

pub add_own : (b r : List ℕ) → add_fault b r ≡ None → OwnPasses b r
unfolding add_fault
add_own b r e = own_passes b r (or_else_split (check_front b) (own_fault b r) e).1

module _ (b r : List ℕ) (ok : check_front b ≡ None) where
  pub own_is : add_fault b r ≡ own_fault b r
  unfolding add_fault
  own_is = or_else_next (own_fault b r) ok

  -- it can be refused with 11, 12, 13 and 20
  pub formed_refused : (P : ℕ → Type 0) → P 11 → P 12 → P 13 → P 20 → shape_ok r ≡ true → (f : Refusal) → add_fault b r ≡ Some f → P f.number
  unfolding own_fault field_fault
  formed_refused P eleven twelve thirteen twenty shape f e =
      or_else_refuses (λ x. P x.number) (need (shape_ok r) (refusal 10 0)) _ (λ x q. some_not_none (sym q ∙ need_none (refusal 10 0) shape))
      (λ _. or_else_refuses (λ x. P x.number) (field_fault (bad_field (count_of b Groups) r)) _ (field (bad_field (count_of b Groups) r))
      (λ _. or_else_refuses (λ x. P x.number) (need (not (added_twin (section_of (get_or r 1 0)) (policy_of (image_in b)) r)) (refusal 20 0)) _
      (need_refuses (λ x. P x.number) _ (refusal 20 0) twenty)
      (λ _. or_else_refuses (λ x. P x.number) (need (ltb (new_number b r) (limit_of (section_of (get_or r 1 0)))) (refusal 12 0)) _
      (need_refuses (λ x. P x.number) _ (refusal 12 0) twelve)
      (λ _. need_refuses (λ x. P x.number) (leb (word_at b 1 + length r) (length b)) (refusal 13 0) thirteen))))
      f (sym own_is ∙ e)
    where
      field : (o : Option ℕ) (x : Refusal) → field_fault o ≡ Some x → P x.number
      field None x q = some_not_none (sym q)
      field (Some i) x q = let z : refusal 11 i ≡ x = cc in subst (λ (y : Refusal). P y.number) z eleven

  -- with 13 only where nothing else is amiss
  pub short_formed :
      (f : Refusal) → add_fault b r ≡ Some f → f.number ≡ 13
      → Formed (section_of (get_or r 1 0)) (count_of b Groups) r × (count_of b (section_of (get_or r 1 0)) < limit_of (section_of (get_or r 1 0)))
      × (added_twin (section_of (get_or r 1 0)) (policy_of (image_in b)) r ≡ false)
  unfolding own_fault field_fault new_number
  short_formed f e =
      or_else_refuses Short (need (shape_ok r) (refusal 10 0)) _ (need_refuses Short _ (refusal 10 0) (λ z. absurd (omega arith)))
      (λ a. or_else_refuses Short (field_fault (bad_field (count_of b Groups) r)) _ (field (bad_field (count_of b Groups) r))
      (λ c. or_else_refuses Short (need (not (added_twin s₁ (policy_of (image_in b)) r)) (refusal 20 0)) _
      (need_refuses Short _ (refusal 20 0) (λ z. absurd (omega arith)))
      (λ t. or_else_refuses Short (need (ltb (count_of b s₁) (limit_of s₁)) (refusal 12 0)) _ (need_refuses Short _ (refusal 12 0) (λ z. absurd (omega arith)))
      (λ d x q z.
      let shape = need_true (shape_ok r) (refusal 10 0) a in (
        record { shape = shape; kind = kind_of_lem r shape; fields = field_none (bad_field (count_of b Groups) r) c },
        ltb-true (count_of b s₁) (limit_of s₁) (need_true _ _ d),
        not_true (added_twin s₁ (policy_of (image_in b)) r) (need_true _ _ t),
      )))))
      f (sym own_is ∙ e)
    where
      s₁ : Section
      s₁ = section_of (get_or r 1 0)

      Short : Refusal → Type 0
      Short x =
          x.number ≡ 13 → Formed (section_of (get_or r 1 0)) (count_of b Groups) r × (count_of b (section_of (get_or r 1 0)) < limit_of (section_of (get_or r 1 0)))
          × (added_twin (section_of (get_or r 1 0)) (policy_of (image_in b)) r ≡ false)

      field : (o : Option ℕ) (x : Refusal) → field_fault o ≡ Some x → Short x
      field None x q = some_not_none (sym q)
      field (Some i) x q = let z : refusal 11 i ≡ x = cc in subst Short z (λ y. absurd (omega arith))

  pub not_short : (f : Refusal) → add_fault b r ≡ Some f → own_fault b r ≡ None → ⊥
  not_short f e h = some_not_none (sym e ∙ own_is ∙ h)
