-- What a call answers and leaves, by its cases. Assumes nothing.
--     alike_all            the check's table has the first alike of every group
--     groups_few           there are at most 256 groups
--     ready_for            what is settled, with the part of the table that is handed
--     converts_refused, converts_short, converts_whole, converts_same   the four ways out of a call
use Prim.Native.Nat.{ℕ, ◌+◌, ◌≤◌, ◌<◌}
use native.Mathlib.Omega.{arith}
use mathlib.Core.Path.{◌≡◌, refl, sym, ap, ◌∙◌}
use Rattle.std.specs.Prelude.{Some, Err}
use mathlib.Core.List.{List, ◌++◌}
use lib.ListN.{length, get_or, take, drop}
use Rattle.format.specs.declared.Section.TheVariants.{Groups}
use Rattle.format.specs.Format.{count_of}
use Rattle.image.specs.Survey.{alike_slot}
use lib.Seq.{length-take-le}
use Rattle.std.proofs.lemmas.List.{get_or-take}
use Rattle.format.specs.declared.Starts.{Starts}
use Rattle.format.specs.declared.Refusal.{Refusal}
use Rattle.format.specs.Bytes.{Bytes, word_at}
use Rattle.format.specs.Refusals.{refusal}
use Rattle.format.specs.Policy.{policy_of}
use Rattle.format.specs.Check.{layout_fault, LaidOut}
use Rattle.std.specs.Prelude.{Ok}
use Rattle.format.specs.Answers.{starts}
use Rattle.format.proofs.ByCase.{count_groups}
use Rattle.format.proofs.Images.{laid_is_well_formed, group_count}
use Rattle.image.proofs.SurveyLaws.{alike_slot_lem}
use Rattle.conversion.specs.Convert.{converted_image, Converts}
use Rattle.conversion.proofs.Buffers.{convert_numbers, buffer_written, buffer_refused}
use Rattle.rewrite.specs.declared.twins.Renumbering.{Renumbering}
use Rattle.rewrite.specs.Inner.Put.{put_at, Wrote}
use Rattle.rewrite.specs.Inner.Settle.{Alike, Settled}
use Rattle.rewrite.specs.Inner.Ready.{Ready}
use Rattle.rewrite.proofs.NewLaws.{ready}

pub groups_few : (l : List ℕ) → LaidOut l → Bytes l → word_at l 3 ≤ 256
groups_few l laid by = omega (arith, sym (count_groups l), sym (group_count l), (laid_is_well_formed l by laid).0.few_groups)

-- the table that the check leaves
pub alike_all :
    (l before after : List ℕ) → LaidOut l → ((g : ℕ) → get_or after g 0 ≡ alike_slot l g (get_or before g 0))
    → Alike (policy_of l).groups (length (policy_of l).groups) after
alike_all l before after e f =
    record {
      count = refl;
      first = λ i h.
          let k : i < count_of l Groups = omega (arith, group_count l) in
          f i ∙ alike_slot_lem l i (get_or before i 0) e k;
    }

-- what is settled of the groups of an image, with the part of the table that is handed
pub ready_for :
    (l : List ℕ) (s : Starts) (new : Renumbering) (n : ℕ) (alike : List ℕ) → LaidOut l → s ≡ starts l
    → Alike (policy_of l).groups (length (policy_of l).groups) alike → Bytes l → n ≡ word_at l 3 → length alike ≡ 256
    → length new.keep ≡ 256 → new.groups ≡ length (take n alike)
    → ((gs : List (List ℕ)) → Alike gs (length (take n alike)) (take n alike) → Settled gs (length (take n alike)) new.to new.keep new.kept)
    → Ready l s new
ready_for l s new n alike laid places same by e long long_keep eg settles =
    let k : n ≡ length (policy_of l).groups = e ∙ sym (count_groups l) ∙ sym (group_count l) in
    let few : n ≤ 256 = omega (arith, k, (laid_is_well_formed l by laid).0.few_groups) in
    let m : length (take n alike) ≡ n = length-take-le n alike (omega arith) in
    let front : Alike (policy_of l).groups (length (take n alike)) (take n alike) =
    record {
      count = sym k ∙ sym m;
      first = λ i h. get_or-take n alike i 0 (omega arith) ∙ same.first i (omega arith);
    } in
    ready l s new laid places by (eg ∙ m ∙ e) long_keep (rw (m ∙ k) at (settles (policy_of l).groups front))

pub converts_refused : (l b : List ℕ) (f : Refusal) → layout_fault l ≡ Some f → Converts l b (Err f) b
converts_refused l b f e =
    let z = convert_numbers.image l (length b) f e in
    record { answer = rw z refl; buffer = sym (buffer_refused l b f z) }

pub converts_short : (l b : List ℕ) → LaidOut l → length b < length (converted_image l) → Converts l b (Err (refusal 13 0)) b
converts_short l b e h =
    let z = convert_numbers.short l (length b) e h in
    record { answer = rw z refl; buffer = sym (buffer_refused l b (refusal 13 0) z) }

pub converts_whole :
    (l b after : List ℕ) (n : ℕ) → LaidOut l → length (converted_image l) ≤ length b → Wrote b after 0 n (converted_image l)
    → Converts l b (Ok n) after
unfolding put_at
converts_whole l b after n e h w =
    let z = convert_numbers.fits l (length b) e h in
    let i : 0 + length (converted_image l) ≡ length (converted_image l) = omega arith in
    record {
      answer = rw z (ap Ok (w.next ∙ i));
      buffer = w.bytes ∙ ap (λ (k : ℕ). converted_image l ++ drop k b) i ∙ sym (buffer_written l b z);
    }

pub converts_same :
    (l b after : List ℕ) (n : ℕ) → LaidOut l → converted_image l ≡ l → length l ≤ length b → Wrote b after 0 n l
    → Converts l b (Ok n) after
converts_same l b after n e same h w = converts_whole l b after n e (rw same h) (rw same w)
