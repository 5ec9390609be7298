-- `number` meets its contract. Assumes nothing.
use Rattle.std.proofs.Common.{sym, ◌∙◌, arith}
use Rattle.extend.proofs.WordLaws.{number_none, number_inside, number_no_digit, number_leading, number_some}
use Rattle.extend.proofs.spell.number.Goals as goal
use Rattle.extend.proofs.spell.number.Goals.{else-word-gt1-via-then-word-gt1+else-text-eq48, else-word-gt1-via-else-word-gt1}

pub returns-in_err-word : goal.returns-in_err-word
returns-in_err-word c = c.from_residual.ensures ∙ sym (number_none c.args.text.now c.args.most (sym c.digits.ensures ∙ c.in_err-word.was))

pub returns-then-word-eq0 : goal.returns-then-word-eq0
returns-then-word-eq0 c = sym (number_no_digit c.args.text.now c.args.most c.in_ok-word.word (sym c.digits.ensures ∙ c.in_ok-word.was) c.if-word-eq0.true)

pub bounds-text-0 : goal.bounds-text-0
bounds-text-0 c = omega (arith, number_inside c.args.text.now c.args.most c.in_ok-word.word (sym c.digits.ensures ∙ c.in_ok-word.was))

pub returns-then-text-eq48 : goal.returns-then-text-eq48
returns-then-text-eq48 c =
    sym (number_leading c.args.text.now c.args.most c.in_ok-word.word (sym c.digits.ensures ∙ c.in_ok-word.was) c.if-word-gt1.true c.if-text-eq48.true)

pub returns : goal.returns
returns c =
    let some = number_some c.args.text.now c.args.most c.in_ok-word.word (sym c.digits.ensures ∙ c.in_ok-word.was) c.if-word-eq0.false in
    elim c.else-word-gt1.branch [
      | else-word-gt1-via-then-word-gt1+else-text-eq48 w ↦ sym (some (λ _. w.if-text-eq48.false))
      | else-word-gt1-via-else-word-gt1 w ↦ sym (some (λ h. absurd (omega arith)))
    ]
