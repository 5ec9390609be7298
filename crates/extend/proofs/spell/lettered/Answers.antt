-- `lettered` meets its contract: by the first byte. Assumes nothing.
use Rattle.std.proofs.Common.{sym, ◌∙◌, arith}
use Rattle.extend.proofs.WordLaws.{part_is, letter_other, letter_none, letter_some}
use Rattle.extend.proofs.spell.lettered.Goals as goal

pub returns-in_default : goal.returns-in_default
returns-in_default c = let a = c.args in sym (letter_other a.letter a.base a.most c.requires.0 a.text.now (λ h. absurd (omega arith)))

pub returns-then-first-letter : goal.returns-then-first-letter
returns-then-first-letter c = let a = c.args in sym (letter_other a.letter a.base a.most c.requires.0 a.text.now (λ _. c.if-first-letter.true))

pub returns-in_err-word : goal.returns-in_err-word
returns-in_err-word c =
    let a = c.args in
    let none = rw (part_is a.text.now 1) at (sym c.number.ensures ∙ c.in_err-word.was) in
    c.from_residual.ensures ∙ sym (letter_none a.letter a.base a.most c.requires.0 a.text.now (omega arith) (omega arith) none)

pub overflow_add-result : goal.overflow_add-result
overflow_add-result c =
    let a = c.args in
    let word = rw (part_is a.text.now 1) at (sym c.number.ensures ∙ c.in_ok-word.was) in
    let few = (letter_some a.letter a.base a.most c.requires.0 a.text.now (omega arith) (omega arith) c.in_ok-word.word word).1 in
    omega arith

pub overflow_add-result-2 : goal.overflow_add-result-2
overflow_add-result-2 c =
    let a = c.args in
    let word = rw (part_is a.text.now 1) at (sym c.number.ensures ∙ c.in_ok-word.was) in
    let inside = (letter_some a.letter a.base a.most c.requires.0 a.text.now (omega arith) (omega arith) c.in_ok-word.word word).2 in
    omega arith

pub returns : goal.returns
returns c =
    let a = c.args in
    let word = rw (part_is a.text.now 1) at (sym c.number.ensures ∙ c.in_ok-word.was) in
    sym (letter_some a.letter a.base a.most c.requires.0 a.text.now (omega arith) (omega arith) c.in_ok-word.word word).0
