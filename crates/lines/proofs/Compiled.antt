-- However reads cut a text, what is written for it is the same: claim AnyCompiled. Assumes nothing.
--     said at row t b    what is written for the text t, which starts at a place with the row of this number, added to b
--     said_refused       where it is refused
--     said_moved         where the whole rows of its first bytes are not: what is written for the text behind them
--     turn_faulty, turn_full, turn_goes   what a turn refuses: a row, one that fills the space, or none
--     read_on            a turn, and then what is written for the rest
--     begun_is, turned_is, reads_on, reads_stop, reads_refused, reads_image   what the program does, read by read
--     reads_all          all turns
use Prim.Native.Nat.{ℕ, ◌+◌, ◌≤◌, ◌<◌}
use native.Mathlib.Omega.{arith}
use mathlib.Core.Path.{◌≡◌, refl, sym, ap, ◌∙◌}
use mathlib.Core.Bool.{Bool, true, false}
use Rattle.std.specs.Prelude.{None, Some}
use mathlib.Core.List.{List, [], ◌∷◌, ◌++◌, append_assoc, append-nil, flatten}
use lib.ListN.{length, take, drop, take-append-drop}
use lib.Seq.{take-append-le, take-append-add, length-take-le}
use lib.Dec.{ltb}
use borrow.Author.Tests.{ltb-true, ltb-false, lt-ltb, le-ltb}
use Rattle.format.specs.declared.Refusal.{Refusal}
use Rattle.format.specs.Bytes.{word_at}
use Rattle.format.specs.Refusals.{refusal}
use Rattle.format.specs.Check.{image_in, check_front}
use Rattle.std.specs.Prelude.{Ok, Err}
use Rattle.format.specs.Answers.{Outcome}
use Rattle.format.specs.Sample.{empty}
use Rattle.format.proofs.Chain.{or_else_first, or_else_next, need_none, need_some}
use Rattle.format.proofs.Front.{image_in_is}
use Rattle.extension.specs.Add.{overwrite}
use Rattle.text.specs.Build.{Made, rows_added}
use Rattle.text.specs.Inner.Moves.{made_by}
use Rattle.text.proofs.Rows.{answer_of}
use Rattle.text.proofs.Buffers.{Imaged, imaged_accepted, imaged_empty}
use Rattle.text.proofs.Chunks.{added_place, built_added}
use Rattle.lines.specs.declared.RowRefusal.{RowRefusal}
use Rattle.lines.specs.Compiled.{feeds, refused_row, part_fault, Written, written, compiled, Reading, cut, row_space, turn_fault, turned, unless_turned, reads, begun, row_line}
use Rattle.lines.specs.Claims.{AnyCompiled}
use Rattle.lines.proofs.Feeds.{feeds_append, cut_is}
use Rattle.text.proofs.Moved.{moved_buffer, moved_gives, moved_refused}
use Rattle.lines.proofs.Pieces.{added_size, whole_refused, whole_gives, rest_refused, pieces_imaged}

abbrev pub said : ℕ → ℕ → List ℕ → List ℕ → Written
said at row t b = written (part_fault at row t (rows_added t b).answer) (image_in (rows_added t b).buffer)

module _ (at row : ℕ) (part : List ℕ) where
  pub fault_some : (o : Outcome ℕ) (f : Refusal) → o ≡ Err f → part_fault at row part o ≡ Some (refused_row at row part f)
  unfolding part_fault
  fault_some o f e = rw e refl

  pub fault_none : (o : Outcome ℕ) (n : ℕ) → o ≡ Ok n → part_fault at row part o ≡ None
  unfolding part_fault
  fault_none o n e = rw e refl

module _ (at row : ℕ) (t b : List ℕ) where
  said_refused : (f : Refusal) → (rows_added t b).answer ≡ Err f → said at row t b ≡ written (Some (refused_row at row t f)) []
  unfolding written
  said_refused f e = rw (fault_some at row t (rows_added t b).answer f e) refl

  said_gives : (n : ℕ) → (rows_added t b).answer ≡ Ok n → said at row t b ≡ written None (image_in (rows_added t b).buffer)
  said_gives n e = ap (λ f. written f (image_in (rows_added t b).buffer)) (fault_none at row t (rows_added t b).answer n e)

-- ---- the bytes up to the last line feed, and those behind it

module _ (at row : ℕ) (l t b : List ℕ) where
  n : ℕ
  n = cut l

  p : List ℕ
  p = take (cut l) l

  r : List ℕ
  r = drop (cut l) l

  after : List ℕ
  after = (rows_added (take (cut l) l) b).buffer

  parts : p ++ (r ++ t) ≡ l ++ t
  unfolding p r
  parts = sym (append_assoc p r t) ∙ ap (λ x. x ++ t) (take-append-drop (cut l) l)

  -- no line feed stands behind the last
  feeds_whole : feeds l ≡ feeds p
  unfolding p r
  feeds_whole =
      let apart : feeds p + feeds r ≡ feeds l = sym (feeds_append p r) ∙ ap feeds (take-append-drop (cut l) l) in
      omega (arith, apart, (cut_is l).rest)

  row_later : (f : Refusal) → refused_row at row (l ++ t) (refusal f.number (n + f.place)) ≡ refused_row (at + n) (row + feeds l) (r ++ t) f
  unfolding n p r parts feeds_whole
  row_later f =
      let place : at + (n + f.place) ≡ at + n + f.place = omega arith in
      let size : length (take (cut l) l) ≡ cut l = length-take-le (cut l) l (cut_is l).most in
      let first : take (n + f.place) (l ++ t) ≡ p ++ take f.place (r ++ t) =
      ap (take (n + f.place)) (sym parts) ∙ ap (λ k. take (k + f.place) (p ++ (r ++ t))) (sym size) ∙ take-append-add p (r ++ t) f.place in
      let count : row + feeds (take (n + f.place) (l ++ t)) ≡ row + feeds l + feeds (take f.place (r ++ t)) =
      omega (arith, ap feeds first, feeds_append p (take f.place (r ++ t)), feeds_whole) in
      ap (λ k. record { number = f.number; place = k; row = row + feeds (take (n + f.place) (l ++ t)) }) place
      ∙ ap (λ k. record { number = f.number; place = at + n + f.place; row = k }) count

  said_moved : rows_added (l ++ t) b ≡ made_by n (rows_added (r ++ t) after) → said at row (l ++ t) b ≡ said (at + n) (row + feeds l) (r ++ t) after
  said_moved e = step (rows_added (r ++ t) after).answer refl where
    step : (o : Outcome ℕ) → (rows_added (r ++ t) after).answer ≡ o → said at row (l ++ t) b ≡ said (at + n) (row + feeds l) (r ++ t) after
    step (Ok m) h =
        let rest = rows_added (r ++ t) after in
        said_gives at row (l ++ t) b m (ap answer_of e ∙ moved_gives n rest m h)
        ∙ ap (λ x. written None (image_in x)) (ap (λ (x : Made). x.buffer) e ∙ moved_buffer n rest)
        ∙ sym (said_gives (at + n) (row + feeds l) (r ++ t) after m h)
    step (Err f) h =
        let rest = rows_added (r ++ t) after in
        said_refused at row (l ++ t) b (refusal f.number (n + f.place)) (ap answer_of e ∙ moved_refused n rest f h)
        ∙ ap (λ x. written (Some x) []) (row_later f)
        ∙ sym (said_refused (at + n) (row + feeds l) (r ++ t) after f h)

-- ---- a turn

-- what it refuses
module _ (s : Reading) (l : List ℕ) where
  pub turn_faulty :
      (f : Refusal) → (rows_added (take (cut l) l) s.buffer).answer ≡ Err f → turn_fault s l ≡ Some (refused_row s.at s.row l f)
  unfolding turn_fault
  turn_faulty f h = or_else_first _ (fault_some s.at s.row l (rows_added (take (cut l) l) s.buffer).answer f h)

  module _ (m : ℕ) (h : (rows_added (take (cut l) l) s.buffer).answer ≡ Ok m) where
    pub turn_full :
        row_space ≤ length (drop (cut l) l) → turn_fault s l ≡ Some (record { number = 18; place = s.at + cut l; row = s.row + feeds l })
    unfolding turn_fault
    turn_full e =
        or_else_next _ (fault_none s.at s.row l (rows_added (take (cut l) l) s.buffer).answer m h)
        ∙ need_some _ (le-ltb (length (drop (cut l) l)) row_space e)

    pub turn_goes : length (drop (cut l) l) < row_space → turn_fault s l ≡ None
    unfolding turn_fault
    turn_goes e =
        or_else_next _ (fault_none s.at s.row l (rows_added (take (cut l) l) s.buffer).answer m h)
        ∙ need_none _ (lt-ltb (length (drop (cut l) l)) row_space e)

module _ (b₀ : List ℕ) (s : Reading) (k : Imaged b₀ s.buffer) (l : List ℕ) where
  accepted : check_front s.buffer ≡ None
  accepted = imaged_accepted b₀ s.buffer k

  pub turn_imaged : Imaged b₀ (turned s l).buffer
  unfolding turned
  turn_imaged = pieces_imaged b₀ s.buffer (take (cut l) l) k

  turn_on :
      (t : List ℕ) (m : ℕ) → (rows_added (take (cut l) l) s.buffer).answer ≡ Ok m
      → said s.at s.row (l ++ t) s.buffer ≡ said (s.at + cut l) (s.row + feeds l) (drop (cut l) l ++ t) (turned s l).buffer
  unfolding turned n p r after parts
  turn_on t m h =
      said_moved s.at s.row l t s.buffer
      (ap (λ x. rows_added x s.buffer) (sym (parts s.at s.row l t s.buffer))
      ∙ whole_gives s.buffer accepted l (cut l) (drop (cut l) l ++ t) m (cut_is l).most (cut_is l).whole h
      (imaged_accepted b₀ (turned s l).buffer turn_imaged))

  turn_refused :
      (t : List ℕ) (f : Refusal) → (rows_added (take (cut l) l) s.buffer).answer ≡ Err f
      → said s.at s.row (l ++ t) s.buffer ≡ written (Some (refused_row s.at s.row l f)) []
  unfolding p r parts
  turn_refused t f h =
      let same =
      ap (λ x. rows_added x s.buffer) (sym (parts s.at s.row l t s.buffer))
      ∙ whole_refused s.buffer accepted l (cut l) (drop (cut l) l ++ t) f (cut_is l).whole h in
      let inside : f.place ≤ length l =
      omega (arith, added_place s.buffer accepted (take (cut l) l) f h, length-take-le (cut l) l (cut_is l).most, (cut_is l).most) in
      said_refused s.at s.row (l ++ t) s.buffer f (ap answer_of same ∙ h)
      ∙ ap (λ x. written (Some (record { number = f.number; place = s.at + f.place; row = s.row + feeds x })) [])
      (take-append-le f.place l t inside)

  -- a rest that fills the space
  turn_long :
      (t : List ℕ) (m : ℕ) → (rows_added (take (cut l) l) s.buffer).answer ≡ Ok m → row_space ≤ length (drop (cut l) l)
      → said s.at s.row (l ++ t) s.buffer
      ≡ written (Some (record { number = 18; place = s.at + cut l; row = s.row + feeds l })) []
  unfolding feeds
  turn_long t m h long =
      let refuses =
      rest_refused (drop (cut l) l) t (turned s l).buffer (imaged_accepted b₀ (turned s l).buffer turn_imaged) (cut_is l).rest (omega arith) in
      let place : s.at + cut l + 0 ≡ s.at + cut l = omega arith in
      let count : s.row + feeds l + 0 ≡ s.row + feeds l = omega arith in
      turn_on t m h
      ∙ said_refused (s.at + cut l) (s.row + feeds l) (drop (cut l) l ++ t) (turned s l).buffer (refusal 18 0) refuses
      ∙ ap (λ x. written (Some (record { number = 18; place = x; row = s.row + feeds l + 0 })) []) place
      ∙ ap (λ x. written (Some (record { number = 18; place = s.at + cut l; row = x })) []) count

  module _ (t : List ℕ) (w : Written) where
    on_fault : (f : RowRefusal) → turn_fault s l ≡ Some f → unless_turned (turn_fault s l) w ≡ written (Some f) []
    unfolding unless_turned
    on_fault f e = rw e refl

    on_turned : turn_fault s l ≡ None → unless_turned (turn_fault s l) w ≡ w
    unfolding unless_turned
    on_turned e = rw e refl

    pub read_on :
        w ≡ said (s.at + cut l) (s.row + feeds l) (drop (cut l) l ++ t) (turned s l).buffer
        → unless_turned (turn_fault s l) w ≡ said s.at s.row (l ++ t) s.buffer
    read_on q = step (rows_added (take (cut l) l) s.buffer).answer refl where
      short :
          (m : ℕ) → (rows_added (take (cut l) l) s.buffer).answer ≡ Ok m → (x : Bool) → ltb (length (drop (cut l) l)) row_space ≡ x
          → unless_turned (turn_fault s l) w ≡ said s.at s.row (l ++ t) s.buffer
      short m h true e = on_turned (turn_goes s l m h (ltb-true _ _ e)) ∙ q ∙ sym (turn_on t m h)
      short m h false e = let long = ltb-false _ _ e in on_fault _ (turn_full s l m h long) ∙ sym (turn_long t m h long)

      step :
          (o : Outcome ℕ) → (rows_added (take (cut l) l) s.buffer).answer ≡ o
          → unless_turned (turn_fault s l) w ≡ said s.at s.row (l ++ t) s.buffer
      step (Err f) h = on_fault _ (turn_faulty s l f h) ∙ sym (turn_refused t f h)
      step (Ok m) h = short m h (ltb (length (drop (cut l) l)) row_space) refl

-- ---- what the program does, read by read

pub begun_is : (b : List ℕ) → begun b ≡ record { at = 0; row = 1; kept = []; buffer = overwrite empty b }
unfolding begun
begun_is b = refl

pub turned_is :
    (s : Reading) (l : List ℕ)
    → turned s l
    ≡ record { at = s.at + cut l; row = s.row + feeds l; kept = drop (cut l) l; buffer = (rows_added (take (cut l) l) s.buffer).buffer }
unfolding turned
turned_is s l = refl

module _ (s : Reading) (c : List ℕ) (cs : List (List ℕ)) where
  pub reads_on : turn_fault s (s.kept ++ c) ≡ None → reads s (c ∷ cs) ≡ reads (turned s (s.kept ++ c)) cs
  unfolding reads unless_turned
  reads_on e = rw e refl

  pub reads_stop : (f : RowRefusal) → turn_fault s (s.kept ++ c) ≡ Some f → reads s (c ∷ cs) ≡ record { output = []; errors = row_line f }
  unfolding reads unless_turned written
  reads_stop f e = rw e refl

module _ (s : Reading) where
  pub reads_refused :
      (f : Refusal) → (rows_added s.kept s.buffer).answer ≡ Err f
      → reads s [] ≡ record { output = []; errors = row_line (refused_row s.at s.row s.kept f) }
  unfolding reads written
  reads_refused f e = said_refused s.at s.row s.kept s.buffer f e

  pub reads_image :
      (n : ℕ) → check_front s.buffer ≡ None → (rows_added s.kept s.buffer).answer ≡ Ok n
      → (n ≡ word_at (rows_added s.kept s.buffer).buffer 1)
      × (reads s [] ≡ record { output = take n (rows_added s.kept s.buffer).buffer; errors = [] })
  unfolding reads written
  reads_image n a e =
      let b = (rows_added s.kept s.buffer).buffer in
      let size : Ok n ≡ Ok (word_at (rows_added s.kept s.buffer).buffer 1) = sym e ∙ added_size s.buffer a s.kept n e in
      let same : n ≡ word_at (rows_added s.kept s.buffer).buffer 1 = cc in
      (same, said_gives s.at s.row s.kept s.buffer n e ∙ ap (λ x. record { output = x; errors = [] }) (image_in_is b ∙ ap (λ k. take k b) (sym same)))

pub reads_all :
    (b₀ : List ℕ) (cs : List (List ℕ)) (s : Reading) → Imaged b₀ s.buffer
    → reads s cs ≡ said s.at s.row (s.kept ++ flatten cs) s.buffer
unfolding reads flatten turned
reads_all b₀ [] s k = ap (λ x. said s.at s.row x s.buffer) (sym (append-nil s.kept))
reads_all b₀ (c ∷ cs) s k =
    let l = s.kept ++ c in
    read_on b₀ s k l (flatten cs) (reads (turned s l) cs) (reads_all b₀ cs (turned s l) (turn_imaged b₀ s k l))
    ∙ ap (λ x. said s.at s.row x s.buffer) (append_assoc s.kept c (flatten cs))

pub any_compiled : AnyCompiled
unfolding compiled begun
any_compiled text b cs h e =
    reads_all b cs (begun b) (imaged_empty b h)
    ∙ ap (λ x. said 0 1 x (overwrite empty b)) e
    ∙ ap (λ (m : Made). written (part_fault 0 1 text m.answer) (image_in m.buffer)) (sym (built_added text b h))
