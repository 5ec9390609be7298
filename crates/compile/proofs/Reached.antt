-- The reading that the program has come to, and what is due there. Assumes nothing.
--     reached_first   the empty policy, and no byte read
--     reached_read    a read leaves what was kept
--     read_bytes      what was kept, and what came behind it
--     reached_next    a turn that goes on
--     due_fault       a turn that refuses a row
--     due_ended       the end of the input
--     goes_most       a turn goes on by no more than its bytes
use Prim.Native.Nat.{ℕ, ◌+◌, ◌≤◌}
use native.Mathlib.Omega.{arith}
use mathlib.Core.Path.{◌≡◌, sym, subst, ap, ◌∙◌}
use Rattle.std.specs.Prelude.{None, Some}
use mathlib.Core.List.{List, [], ◌∷◌, ◌++◌, append_assoc, append-nil}
use lib.ListN.{length, take, drop}
use lib.Seq.{take-add}
use Rattle.format.specs.Check.{check_front}
use Rattle.format.specs.Sample.{empty}
use Rattle.extension.specs.Add.{overwrite}
use Rattle.text.specs.Build.{Builds}
use Rattle.text.proofs.Buffers.{imaged_accepted, imaged_empty}
use Rattle.text.proofs.Follow.{built_long, rows_none}
use Rattle.lines.specs.declared.RowRefusal.{RowRefusal}
use Rattle.lines.specs.Compiled.{Written, row_line, Reading, turn_fault, turned, begun, reads}
use Rattle.lines.proofs.Feeds.{feeds_most, cut_is}
use Rattle.lines.proofs.Compiled.{begun_is, turned_is, reads_on, reads_stop}
use Rattle.compile.specs.declared.turn.Place.{Place}
use Rattle.compile.specs.Inner.Turn.{reading_of, Goes}
use Rattle.compile.specs.Inner.Due.{Due, DueErrors, Reached, Starts}
use Rattle.format.specs.Answers.{Outcome}

pub starts_built : (b after : List ℕ) (r : Outcome ℕ) → 65536 ≡ length b → Builds [] b r after → Starts after
starts_built b after r h a =
    record {
      space = b;
      long = h;
      starts = a.buffer ∙ ap (λ m. m.buffer) (built_long [] b (omega arith) ∙ rows_none 0 (overwrite empty b));
    }

pub starts_accepted : (image : List ℕ) → Starts image → check_front image ≡ None
starts_accepted image s =
    ap check_front s.starts ∙ imaged_accepted s.space (overwrite empty s.space) (imaged_empty s.space (omega (arith, s.long)))

pub reached_first : (input image : List ℕ) → Starts image → Reached (reading_of (record { at = 0; row = 1; kept = 0 }) input image)
reached_first input image s =
    record {
      space = s.space;
      long = s.long;
      brought = [];
      onward = λ more. ap (λ x. reads x more)
          (begun_is s.space ∙ ap (λ x. record { at = 0; row = 1; kept = []; buffer = x }) (sym s.starts));
    }

pub reached_read :
    (p : Place) (input input' image : List ℕ) → take p.kept input' ≡ take p.kept input → Reached (reading_of p input image)
    → Reached (reading_of p input' image)
reached_read p input input' image e k =
    subst Reached (ap (λ x. record { at = p.at; row = p.row; kept = x; buffer = image }) (sym e)) k

pub read_bytes : (input : List ℕ) (kept n : ℕ) → take kept input ++ take n (drop kept input) ≡ take (kept + n) input
read_bytes input kept n = sym (take-add kept n input)

module _ (s : Reading) (k : Reached s) where
  pub due_ended : (w : Written) → reads s [] ≡ w → Due w
  due_ended w e =
      Due.ended k.space k.brought k.long
      (ap (reads (begun k.space)) (sym (append-nil k.brought)) ∙ k.onward [] ∙ e)

  module _ (c l : List ℕ) (came : s.kept ++ c ≡ l) where
    -- the reads so far, and the next one
    on_to : (more : List (List ℕ)) → reads (begun k.space) ((k.brought ++ (c ∷ [])) ++ more) ≡ reads s (c ∷ more)
    on_to more = ap (reads (begun k.space)) (append_assoc k.brought (c ∷ []) more) ∙ k.onward (c ∷ more)

    pub due_fault : (f : RowRefusal) → turn_fault s l ≡ Some f → DueErrors (row_line f)
    due_fault f e =
        Due.refused k.space (k.brought ++ (c ∷ [])) k.long
        (λ more. on_to more ∙ reads_stop s c more f (ap (turn_fault s) came ∙ e))

    pub reached_next : (q : Place) (input image : List ℕ) → Goes s l q input image → Reached (reading_of q input image)
    reached_next q input image g =
        record {
          space = k.space;
          long = k.long;
          brought = k.brought ++ (c ∷ []);
          onward = λ more.
              on_to more
              ∙ reads_on s c more (ap (turn_fault s) came ∙ g.none_refused)
              ∙ ap (λ x. reads x more) (ap (turned s) came ∙ g.next);
        }

pub goes_most :
    (s : Reading) (l : List ℕ) (q : Place) (input image : List ℕ) → Goes s l q input image
    → (q.at ≤ s.at + length l) × (q.row ≤ s.row + length l)
goes_most s l q input image g =
    let next = sym (turned_is s l) ∙ g.next in
    (omega (arith, ap (λ (x : Reading). x.at) next, (cut_is l).most), omega (arith, ap (λ (x : Reading). x.row) next, feeds_most l))
