-- No set is empty. Claims TypesFilled, FieldsFilled. Assumes nothing.
use Prim.Native.Nat.{ℕ, ◌-◌, ◌<◌}
use native.Mathlib.Omega.{arith}
use mathlib.Core.Path.{◌≡◌, subst}
use mathlib.Core.Logic.{inl, inr}
use mathlib.Core.List.{List, []}
use lib.ListN.{length, get_or, drop, length-drop}
use borrow.Author.Tests.{lt-ltb, le-ltb}
use Rattle.format.specs.declared.Section.TheVariants.{Groups}
use Rattle.format.specs.Bytes.{words}
use Rattle.format.specs.Format.{count_of}
use Rattle.format.specs.Policy.{policy_of, record_at, place_of}
use Rattle.format.specs.Check.{Accepted}
use Rattle.format.specs.Claims.{IsGroup}
use Rattle.format.proofs.Bytes.{length_words}
use Rattle.format.proofs.Fields.{formed_is, record_group}
use Rattle.format.proofs.Accepted.{record_formed, group_nth}
use Rattle.format.proofs.Images.{group_count}
use Rattle.format.proofs.References.{references_held}
use Rattle.decision.specs.Sets.{set_of}
use Rattle.decision.specs.Filled.{TypesFilled, FieldsFilled}

group_filled : (r : List ℕ) (n : ℕ) → IsGroup r n → 0 < length (words (drop 2 r))
group_filled r n g = omega (arith, g.size.1, g.some, length_words (drop 2 r), length-drop 2 r)

module _ (l : List ℕ) (e : Accepted l) (k : ℕ) (h : k < count_of l Groups) where
  group_is : (n : ℕ) × IsGroup (record_at l (place_of l Groups k)) n
  group_is = record_group _ _ (formed_is _ _ Groups (record_formed l e Groups k h))

  nth_filled : 0 < length (words (drop 2 (get_or (policy_of l).groups k [])))
  nth_filled = rw (group_nth l k h) (group_filled _ _ group_is.1)

pub types_filled : TypesFilled
unfolding set_of
types_filled l e t (inl h) = simp (lt-ltb t 32768 (omega arith)) (omega arith)
types_filled l e t (inr q) =
    let k : q.0 < count_of l Groups = subst (λ (n : ℕ). q.0 < n) (group_count l) q.1 in
    let z : t - 32768 ≡ q.0 = omega (arith, q.2) in
    simp (le-ltb t 32768 (omega (arith, q.2)), z) (nth_filled l e q.0 k)

pub fields_filled : FieldsFilled
fields_filled l e s r m t h = types_filled l e t (references_held l e s r m t h)
