-- `digits` meets its contract: the digits left, from the number come to, give the number of all. Assumes nothing.
use Rattle.std.proofs.Common.{◌≡◌, sym, ap, ◌∙◌, arith, rules, get_or, true, false}
use Rattle.text.specs.Words.{is_digit, up_to}
use Rattle.extend.specs.Inner.Filled.{said}
use Rattle.extend.proofs.WordLaws.{digit_last, digits_all, digit_size, digit_next, upto_over}
use Rattle.text.proofs.Read.{word_none}
use Rattle.extend.proofs.spell.digits.Goals as goal

pub returns-then-ends_word : goal.returns-then-ends_word
unfolding is_digit
returns-then-ends_word c =
    let l = c.loop-size in
    let no_digit : is_digit (get_or c.args.text.now l.size 0) ≡ false = search rules in
    digit_last c.args.text.now c.args.most l.size l.number true (omega arith) l.invariant.few l.invariant.width l.invariant.left no_digit
    (sym c.if-ends_word.true ∙ c.ends_word.ensures)

pub returns-then-not-is_ascii_digit : goal.returns-then-not-is_ascii_digit
unfolding is_digit
returns-then-not-is_ascii_digit c =
    let l = c.loop-size in
    let no_digit : is_digit (get_or c.args.text.now l.size 0) ≡ false = search rules in
    digit_last c.args.text.now c.args.most l.size l.number false (omega arith) l.invariant.few l.invariant.width l.invariant.left no_digit
    (sym c.if-ends_word.false ∙ c.ends_word.ensures)

pub returns-then-most-number : goal.returns-then-most-number
unfolding said is_digit
returns-then-most-number c =
    let l = c.loop-size in
    let digit : is_digit (get_or c.args.text.now l.size 0) ≡ true = search rules in
    let left = l.invariant.left ∙ digit_next c.args.text.now l.size l.number (omega arith) c.from.result c.from.ensures digit in
    rw (ap (up_to c.args.most) left ∙ upto_over _ _ _ (omega arith))

pub loop-size-preserved : goal.loop-size-preserved
unfolding is_digit
loop-size-preserved c =
    let l = c.loop-size in
    let digit : is_digit (get_or c.args.text.now l.size 0) ≡ true = search rules in
    record {
      few = omega arith;
      width = omega (arith, l.invariant.width, digit_size c.args.text.now l.size l.number (omega arith) c.from.result c.from.ensures digit);
      left = l.invariant.left ∙ digit_next c.args.text.now l.size l.number (omega arith) c.from.result c.from.ensures digit;
    }

pub returns : goal.returns
returns c =
    let l = c.loop-size in
    let none = word_none c.args.text.now l.size (omega arith) in
    sym (digits_all c.args.text.now c.args.most l.size l.number l.invariant.few l.invariant.left none (omega (arith, l.invariant.width, none)))
