-- The digits are the fewest, so they are those of `decimal`.
use Rattle.std.proofs.Common.{◌≡◌, ◌+◌, ◌∙◌, length, take, sym, ap, arith}
use Rattle.lines.specs.Lines.{decimal}
use Rattle.lines.proofs.Numbers.{decimal_one}
use Rattle.streams.specs.Put.{placed}
use Rattle.streams.proofs.Puts.{placed_one, placed_put, decimal_digits}
use Rattle.streams.proofs.number.put_number.Goals as goal

pub returns-then-n-lt10 : goal.returns-then-n-lt10
returns-then-n-lt10 c =
    let one = decimal_one c.args.n c.if-n-lt10.true in (
      ap (λ s. c.args.at + length s) (sym one),
      placed_one c.args.output.now c.args.at (48 + c.args.n) (omega arith) ∙ ap (λ s. placed c.args.at s c.args.output.now) (sym one),
    )

pub returns : goal.returns
returns c =
    let told = c.decimal-count in
    let digits : take told.result told.new.out ≡ decimal c.args.n = told.ensures.digits ∙ decimal_digits c.args.n told.result (omega arith) told.ensures.len in
    let long : told.result ≡ length (decimal c.args.n) = told.ensures.in_bounds.1 ∙ ap length digits in
    let put : c.copy_from_slice.new.self ≡ decimal c.args.n = c.copy_from_slice.ensures.after ∙ digits in
    (ap (λ k. c.args.at + k) long, placed_put c.args.at _ c.args.output.now _ _ (omega arith) put (omega (arith, long)))
