-- `add_each` meets its contract: what the rows left do, to what the rows before left, is what all do. Assumes nothing.
use Rattle.std.proofs.Common.{◌≡◌, refl, sym, ap, ◌∙◌, ℕ, List, Ok, Err, arith, rules}
use Rattle.format.specs.Answers.{Outcome}
use Rattle.text.specs.Build.{Made}
use Rattle.extend.specs.Inner.Grow.{AddsEach}
use Rattle.extend.proofs.RowsLaws.{From, rows_past, rows_feed, rows_outside, rows_refused, rows_starts, rows_ahead, rows_added_lem}
use Rattle.extend.proofs.rows.add_each.Goals as goal

-- the answer and the buffer, where the rows come to this
adds : {text b after : List ℕ} {r : Outcome ℕ} {m : Made} → From text 0 b ≡ m → r ≡ m.answer → after ≡ m.buffer → AddsEach text b r after
adds e x y = record { answer = x ∙ ap (λ (k : Made). k.answer) (sym e); buffer = y ∙ ap (λ (k : Made). k.buffer) (sym e) }

pub loop-at-init : goal.loop-at-init
loop-at-init c = record { inside = omega arith; same = refl; accepted = c.requires.0; places = c.requires.1 }

pub loop-at-preserved-then-text-at-eq10 : goal.loop-at-preserved-then-text-at-eq10
loop-at-preserved-then-text-at-eq10 c =
    let l = c.loop-at in
    record {
      inside = omega arith;
      same = l.invariant.same ∙ rows_feed c.args.text.now l.at l.buffer (omega arith) c.if-text-at-eq10.true;
      accepted = l.invariant.accepted;
      places = l.invariant.places;
    }

pub returns-in_default : goal.returns-in_default
returns-in_default c =
    let l = c.loop-at in
    adds
    (l.invariant.same
    ∙ rows_outside c.args.text.now l.at l.buffer (omega arith) c.if-text-at-eq10.false c.record_at.new.part c.in_default.ensures)
    (ap Err c.at.ensures) refl

pub grow-requires : goal.grow-requires
grow-requires c = (c.loop-at.invariant.accepted, c.loop-at.invariant.places)

pub returns-in_err-starts : goal.returns-in_err-starts
returns-in_err-starts c =
    let l = c.loop-at in
    let passed_on : c.from_residual.result ≡ Err c.in_err-starts.field-0.0 = search rules in
    adds
    (l.invariant.same
    ∙ rows_refused c.args.text.now l.at l.buffer (omega arith) c.if-text-at-eq10.false c.in-Some.row c.record_at.new.part c.in-Some.ensures
    c.in_err-starts.was c.grow.ensures)
    passed_on refl

pub loop-at-smaller : goal.loop-at-smaller
loop-at-smaller c =
    let l = c.loop-at in
    let ahead =
    rows_ahead c.args.text.now l.at l.buffer (omega arith) c.if-text-at-eq10.false c.in-Some.row c.record_at.new.part c.in-Some.ensures
    c.in_ok-starts.was c.grow.ensures in
    omega (arith, ahead.0, ahead.1)

pub loop-at-preserved : goal.loop-at-preserved
loop-at-preserved c =
    let l = c.loop-at in
    let text = c.args.text.now in
    let row = c.in-Some.row in
    let part = c.record_at.new.part in
    record {
      inside =
          (rows_ahead text l.at l.buffer (omega arith) c.if-text-at-eq10.false row part c.in-Some.ensures c.in_ok-starts.was c.grow.ensures).1;
      same =
          l.invariant.same
          ∙ rows_added_lem text l.at l.buffer (omega arith) c.if-text-at-eq10.false row part c.in-Some.ensures c.in_ok-starts.was c.grow.ensures;
      accepted = c.grow.ensures.accepted;
      places = rows_starts text l.at l.buffer (omega arith) c.if-text-at-eq10.false row part c.in-Some.ensures c.in_ok-starts.was c.grow.ensures;
    }

pub returns : goal.returns
returns c =
    let l = c.loop-at in
    adds (l.invariant.same ∙ rows_past c.args.text.now l.at l.buffer (omega arith)) (ap Ok c.word_at.ensures.0) refl
