-- `insert` meets its contract: what follows moves up, the record is written, and two numbers grow. Assumes nothing.
use Rattle.std.proofs.Common.{◌≡◌, ap₂, ◌∙◌, ℕ, ◌+◌, List, length}
use Rattle.extension.specs.Inner.Splice.{put_word_at, spliced, inserted}
use Rattle.extend.proofs.MoveLaws.{put_is}
use Rattle.extend.proofs.splice.insert.Goals as goal

pub returns : goal.returns
unfolding inserted
returns c =
    let a = c.args in
    let long : List ℕ = put_word_at (spliced a.buffer.now a.part.now a.slot.at a.slot.size) 1 (a.slot.size + length a.part.now) in
    let written : c.put_word.new.buffer ≡ long =
    rw (
      c.put_word.ensures,
      c.copy_from_slice.ensures.after,
      c.copy_within.ensures.after,
      put_is a.buffer.now a.part.now a.slot.at a.slot.size c.requires.within c.requires.room,
    ) in
    c.put_word-2.ensures ∙ ap₂ (λ (l : List ℕ) (p : ℕ). put_word_at l p (a.slot.count + 1)) written c.count_place.ensures.0
