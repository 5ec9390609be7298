-- Laws of a type of the query against the members of a part: what settles whether it is within. Assumes nothing.
use Prim.Native.Nat.{ℕ, ◌+◌, ◌-◌, ◌*◌, ◌≤◌, ◌<◌}
use mathlib.Core.Path.{◌≡◌, refl, sym, ap, ◌∙◌}
use mathlib.Core.Bool.{Bool, true, false, ◌&&◌}
use mathlib.Core.List.{List, [], ◌∷◌}
use Rattle.format.specs.Bytes.{word_at}
use Rattle.format.specs.Inner.Places.{words_at}
use Rattle.decision.specs.Sets.{all_of, is_in, within}
use Rattle.decide.specs.Inner.Parts.{set_in, group_set, Part, Spans}
use Rattle.decide.proofs.TypeLaws.{set_basic, group_again}
use Rattle.decide.proofs.HalfLaws.{ends_first, ends_last}

one_within : (x : ℕ) (W : List ℕ) → is_in x W ≡ within (x ∷ []) W
unfolding within all_of
one_within x W = go (is_in x W)
  where
    go : (b : Bool) → b ≡ (b && true)
    go true = refl
    go false = refl

module _ (l : List ℕ) (t from count : ℕ) (p : Part l from count) (x : ℕ) (is : x ≡ t) where
  abbrev W : List ℕ
  W = words_at l count from

  -- a basic type is looked for
  pub basic_within : x < 32768 → is_in x W ≡ within (set_in l t) W
  basic_within h = one_within x W ∙ ap (λ (S : List ℕ). within S W) (sym (set_basic l x h) ∙ ap (set_in l) is)

  -- a group is not within where its ends are not
  module _ (g : 32768 ≤ x) (sf sc : ℕ) (s : Spans l sf sc (group_set l (x - 32768))) where
    apart : within (words_at l sc sf) W ≡ false → false ≡ within (set_in l t) W
    apart e = sym (ap (λ (S : List ℕ). within S W) (sym (s.are ∙ group_again l x g ∙ ap (set_in l) is)) ∙ e)

    pub first_apart : word_at l sf < word_at l from → false ≡ within (set_in l t) W
    first_apart e = apart (ends_first l sf sc from count s.some p.some p.rising e)

    pub last_apart : word_at l (from + 2 * (count - 1)) < word_at l (sf + 2 * (sc - 1)) → false ≡ within (set_in l t) W
    last_apart e = apart (ends_last l sf sc from count s.some p.some p.rising e)
