-- Laws of the sections' places after one record more. Assumes nothing.
use Prim.Native.Nat.{ℕ, ◌+◌, ◌≤◌, ◌<◌}
use mathlib.Core.Path.{◌≡◌, sym, ap, ap₂, ◌∙◌}
use Rattle.std.specs.Prelude.{None, Some, Err}
use mathlib.Core.List.{List, [], ◌∷◌, ◌++◌, flatten}
use native.Mathlib.Omega.{arith}
use lib.ListN.{length, get_or, length-append}
use Rattle.format.specs.declared.Section.{Section}
use Rattle.format.specs.declared.Section.TheVariants.{Groups, Rules, Constraints}
use Rattle.format.specs.declared.Starts.{Starts}
use Rattle.format.specs.Bytes.{Bytes}
use Rattle.format.specs.Refusals.{refusal}
use Rattle.format.specs.Format.{count_place}
use Rattle.format.specs.Policy.{Policy, image_of, policy_of, start_of}
use Rattle.format.specs.Check.{image_in, check_front}
use Rattle.std.specs.Prelude.{Ok}
use Rattle.format.specs.Answers.{starts}
use Rattle.format.proofs.Chain.{or_else_split}
use Rattle.format.proofs.Front.{front_accepted, front_bytes}
use Rattle.format.proofs.Reach.{longest_image}
use Rattle.format.proofs.Images.{Sound, policy_sound, image_of_policy, start_rules, start_constraints}
use Rattle.extension.specs.Add.{section_of, with_record, own_fault, add_fault, buffer_after}
use Rattle.format.specs.declared.Refusal.{Refusal}
use Rattle.format.proofs.Shapes.{length_cases, shape_kind}
use Rattle.format.proofs.Accepted.{accepted_header, accepted_body, start_inside}
use Rattle.extension.specs.Inner.Splice.{inserted}
use Rattle.extension.proofs.Splices.{flatten_snoc}
use Rattle.extension.proofs.Adds.{own_passes, buffer_inserted, buffer_refused, added_accepted}
use Rattle.extend.specs.declared.plan.Slot.{Slot}
use Rattle.extend.specs.Inner.Plans.{slot_of}
use Rattle.text.specs.Build.{moved_to}
use Rattle.extend.specs.Inner.Grow.{moved_starts, Grows}

flatten_more : (xs : List (List ℕ)) (r : List ℕ) → length (flatten (xs ++ (r ∷ []))) ≡ length (flatten xs) + length r
flatten_more xs r = ap length (flatten_snoc xs r) ∙ length-append (flatten xs) r

abbrev places : ℕ → ℕ → Starts
places a b = record { rules = a; constraints = b }

starts_with :
    (s : Section) (p : Policy) (r : List ℕ) → Sound p → Sound (with_record s p r)
    → moved_starts (starts (image_of p)) s (length r) ≡ starts (image_of (with_record s p r))
unfolding moved_starts with_record
starts_with Groups p r w v =
    let n = flatten_more p.groups r in
    ap₂ places (omega (arith, start_rules p w.regular, start_rules _ v.regular, n)) (omega (arith, start_constraints p w.regular, start_constraints _ v.regular, n))
starts_with Rules p r w v =
    let n = flatten_more p.rules r in
    ap₂ places (omega (arith, start_rules p w.regular, start_rules _ v.regular)) (omega (arith, start_constraints p w.regular, start_constraints _ v.regular, n))
starts_with Constraints p r w v =
    ap₂ places (omega (arith, start_rules p w.regular, start_rules _ v.regular)) (omega (arith, start_constraints p w.regular, start_constraints _ v.regular))

pub starts_moved :
    (b r : List ℕ) → Bytes b → Bytes r → add_fault b r ≡ None
    → moved_starts (starts (image_in b)) (section_of (get_or r 1 0)) (length r) ≡ starts (image_in (buffer_after b r))
unfolding add_fault
starts_moved b r by bytes e =
    let s : Section = section_of (get_or r 1 0) in
    let f : check_front b ≡ None = (or_else_split (check_front b) (own_fault b r) e).0 in
    let q = added_accepted b r by bytes e in
    let i : image_of (policy_of (image_in b)) ≡ image_in b = image_of_policy (image_in b) (front_bytes b f by) (front_accepted b f) in
    let l : List ℕ = image_in (buffer_after b r) in
    let lb : Bytes l = front_bytes (buffer_after b r) q.0 q.2 in
    let la = front_accepted (buffer_after b r) q.0 in
    let j : image_of (with_record s (policy_of (image_in b)) r) ≡ l = ap image_of (sym q.1) ∙ image_of_policy l lb la in
    ap (λ (x : List ℕ). moved_starts (starts x) s (length r)) (sym i)
    ∙ starts_with s (policy_of (image_in b)) r (policy_sound (image_in b) (front_bytes b f by) (front_accepted b f)) (rw q.1 at (policy_sound l lb la))
    ∙ ap starts j

pub starts_small :
    (b r : List ℕ) → add_fault b r ≡ None → (y : Starts) → y ≡ starts (image_in b) → (y.rules + length r < 131072) × (y.constraints + length r < 131072)
unfolding add_fault
starts_small b r e y is =
    let f = or_else_split (check_front b) (own_fault b r) e in
    let l : List ℕ = image_in b in
    let ok = front_accepted b f.0 in
    let shape = (own_passes b r f.1).formed.shape in
    let n : length r < 256 = length_cases (get_or r 1 0) (length r) (shape_kind r shape) (λ _ _ h _. omega arith) (λ _ h. omega arith) (λ _ h. omega arith) (λ _ _ h _. omega arith) in
    let m : length l ≤ 55561 = longest_image l ok in
    let i : start_of l Rules ≤ length l = start_inside l (accepted_body l ok) (accepted_header l ok).long Rules in
    let j : start_of l Constraints ≤ length l = start_inside l (accepted_body l ok) (accepted_header l ok).long Constraints in
    let a : y.rules ≡ start_of l Rules = ap (λ z. z.rules) is in
    let c : y.constraints ≡ start_of l Constraints = ap (λ z. z.constraints) is in
    (omega arith, omega arith)

pub grown :
    (at : ℕ) (b r : List ℕ) → Bytes b → Bytes r → add_fault b r ≡ None → (y : Starts) (slot : Slot) {z : Starts} {after : List ℕ}
    → y ≡ starts (image_in b) → slot ≡ slot_of b r → z ≡ moved_starts y slot.section (length r)
    → after ≡ inserted b r slot.at slot.size (count_place slot.section) slot.count → Grows at b r (Ok z) after
unfolding slot_of moved_to
grown at b r by bytes e y slot {z} {after} is where_to moved put =
    let k : after ≡ buffer_after b r = put ∙ ap (λ (x : Slot). inserted b r x.at x.size (count_place x.section) x.count) where_to ∙ buffer_inserted b r by e in
    let m : z ≡ starts (image_in after) =
    moved ∙ ap₂ (λ (x : Starts) (q : Slot). moved_starts x q.section (length r)) is where_to ∙ starts_moved b r by bytes e
    ∙ ap (λ (x : List ℕ). starts (image_in x)) (sym k) in
    record { answer = rw e (ap Ok m); buffer = k; accepted = rw k (added_accepted b r by bytes e).0 }

pub not_grown : (at : ℕ) (b r : List ℕ) {f : Refusal} → check_front b ≡ None → add_fault b r ≡ Some f → Grows at b r (Err (refusal f.number at)) b
unfolding moved_to
not_grown at b r {f} ok e = record { answer = rw e; buffer = sym (buffer_refused b r f e); accepted = ok }
