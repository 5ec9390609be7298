-- `check_header` meets its contract: the tests are the definition's, in its order. Assumes nothing.
use native.Mathlib.Omega.{arith}
use mathlib.Core.Path.{ap, ◌∙◌}
use Rattle.std.specs.Prelude.{Err}
use lib.ListN.{length, get_or}
use borrow.Author.Tests.{le-leb, lt-leb, eq-eqb, ne_eqb}
use Rattle.format.specs.Bytes.{word_at}
use Rattle.format.specs.Refusals.{need, ◌or_else◌}
use Rattle.format.specs.Format.{known_version, limit_of, count_place, count_of}
use Rattle.format.specs.Check.{count_fault, header_fault}
use Rattle.image.proofs.checker.check_header.Goals as goal

pub returns-then-image-lt-SIZE : goal.returns-then-image-lt-SIZE
unfolding header_fault count_fault count_of count_place limit_of known_version need ◌or_else◌
returns-then-image-lt-SIZE c = let l = c.args.image.now in ap Err c.at.ensures ∙ simp (lt-leb 9 (length l) (omega arith))

pub returns-then-image-ne1 : goal.returns-then-image-ne1
unfolding header_fault count_fault count_of count_place limit_of known_version need ◌or_else◌
returns-then-image-ne1 c = let l = c.args.image.now in ap Err c.at-then-image-ne1.ensures ∙ simp (le-leb 9 (length l) (omega arith), ne_eqb (get_or l 0 0) 1 (omega arith))

pub returns-then-size-lt-SIZE : goal.returns-then-size-lt-SIZE
unfolding header_fault count_fault count_of count_place limit_of known_version need ◌or_else◌
returns-then-size-lt-SIZE c = let l = c.args.image.now in ap Err c.at-then-size-lt-SIZE.ensures ∙ simp (le-leb 9 (length l) (omega arith), eq-eqb (get_or l 0 0) 1 (omega arith), lt-leb 9 (word_at l 1) (omega arith))

pub returns-then-size-image : goal.returns-then-size-image
unfolding header_fault count_fault count_of count_place limit_of known_version need ◌or_else◌
returns-then-size-image c = let l = c.args.image.now in ap Err c.at-then-size-image.ensures ∙ simp (le-leb 9 (length l) (omega arith), eq-eqb (get_or l 0 0) 1 (omega arith), le-leb 9 (word_at l 1) (omega arith), ne_eqb (word_at l 1) (length l) (omega arith))

pub returns-then-word_in-gt-MOST_GROUPS : goal.returns-then-word_in-gt-MOST_GROUPS
unfolding header_fault count_fault count_of count_place limit_of known_version need ◌or_else◌
returns-then-word_in-gt-MOST_GROUPS c = let l = c.args.image.now in ap Err c.at-then-word_in-gt-MOST_GROUPS.ensures ∙ simp (le-leb 9 (length l) (omega arith), eq-eqb (get_or l 0 0) 1 (omega arith), le-leb 9 (word_at l 1) (omega arith), eq-eqb (word_at l 1) (length l) (omega arith), lt-leb (word_at l 3) 256 (omega arith))

pub returns-then-word_in-gt-MOST_RULES : goal.returns-then-word_in-gt-MOST_RULES
unfolding header_fault count_fault count_of count_place limit_of known_version need ◌or_else◌
returns-then-word_in-gt-MOST_RULES c = let l = c.args.image.now in ap Err c.at-then-word_in-gt-MOST_RULES.ensures ∙ simp (le-leb 9 (length l) (omega arith), eq-eqb (get_or l 0 0) 1 (omega arith), le-leb 9 (word_at l 1) (omega arith), eq-eqb (word_at l 1) (length l) (omega arith), le-leb (word_at l 3) 256 (omega arith), lt-leb (word_at l 5) 1024 (omega arith))

pub returns-then-word_in-gt-MOST_CONSTRAINTS : goal.returns-then-word_in-gt-MOST_CONSTRAINTS
unfolding header_fault count_fault count_of count_place limit_of known_version need ◌or_else◌
returns-then-word_in-gt-MOST_CONSTRAINTS c = let l = c.args.image.now in ap Err c.at-then-word_in-gt-MOST_CONSTRAINTS.ensures ∙ simp (le-leb 9 (length l) (omega arith), eq-eqb (get_or l 0 0) 1 (omega arith), le-leb 9 (word_at l 1) (omega arith), eq-eqb (word_at l 1) (length l) (omega arith), le-leb (word_at l 3) 256 (omega arith), le-leb (word_at l 5) 1024 (omega arith), lt-leb (word_at l 7) 256 (omega arith))

pub returns : goal.returns
unfolding header_fault count_fault count_of count_place limit_of known_version need ◌or_else◌
returns c = let l = c.args.image.now in simp (le-leb 9 (length l) (omega arith), eq-eqb (get_or l 0 0) 1 (omega arith), le-leb 9 (word_at l 1) (omega arith), eq-eqb (word_at l 1) (length l) (omega arith), le-leb (word_at l 3) 256 (omega arith), le-leb (word_at l 5) 1024 (omega arith), le-leb (word_at l 7) 256 (omega arith))
