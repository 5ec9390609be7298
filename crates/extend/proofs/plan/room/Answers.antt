-- `room` meets its contract: a law for each way that it goes. Assumes nothing.
use native.Mathlib.Omega.{arith}
use Prim.Native.Nat.{◌<◌}
use mathlib.Core.Path.{◌≡◌, sym, ap, ◌∙◌}
use mathlib.Core.Bool.{false}
use Rattle.format.specs.declared.Section.TheVariants.{Groups}
use Rattle.format.specs.Check.{Read}
use Rattle.format.specs.Bytes.{word_at}
use Rattle.format.specs.Format.{limit_of, count_of}
use Rattle.format.specs.Policy.{policy_of}
use Rattle.format.specs.Check.{read_of, image_in}
use Rattle.format.proofs.ByCase.{count_at, count_groups}
use Rattle.format.proofs.Front.{front_fits}
use Rattle.extension.specs.Add.{added_twin}
use Rattle.extend.proofs.PlanLaws.{own_malformed, own_field, own_twin, own_full, own_short, own_none, slot_made}
use Rattle.extend.proofs.plan.room.Goals as goal
use Rattle.std.specs.Prelude.{Ok, Err}

pub returns-then-is_twin : goal.returns-then-is_twin
returns-then-is_twin c =
    let read : (w : Read) → c.read_record.result ≡ w
    → read_of c.args.section (count_of c.args.buffer.now Groups) c.args.part.now ≡ w = λ w e. let a = c.args in
    ap (λ g. read_of a.section g a.part.now) (count_groups _ ∙ sym c.word_at.ensures.0) ∙ sym c.read_record.ensures ∙ e in
    let whole : read_of c.args.section (count_of c.args.buffer.now Groups) c.args.part.now
    ≡ Ok c.in-Ok.field-0 = read _ c.in-Ok.is in
    rw (c.at-then-is_twin.ensures, own_twin _ _ _ c.requires.1 c.requires.2 _ whole (sym c.is_twin.ensures ∙ c.if-is_twin.true))

pub returns-then-limit_of-count : goal.returns-then-limit_of-count
returns-then-limit_of-count c =
    let read : (w : Read) → c.read_record.result ≡ w
    → read_of c.args.section (count_of c.args.buffer.now Groups) c.args.part.now ≡ w = λ w e. let a = c.args in
    ap (λ g. read_of a.section g a.part.now) (count_groups _ ∙ sym c.word_at.ensures.0) ∙ sym c.read_record.ensures ∙ e in
    let whole : read_of c.args.section (count_of c.args.buffer.now Groups) c.args.part.now
    ≡ Ok c.in-Ok.field-0 = read _ c.in-Ok.is in
    let fresh : added_twin c.args.section (policy_of (image_in c.args.buffer.now)) c.args.part.now ≡ false = sym c.is_twin.ensures ∙ c.if-is_twin.false in
    let counted : c.word_at-count.result ≡ count_of c.args.buffer.now c.args.section = let a = c.args in
    c.word_at-count.ensures.0 ∙ ap (word_at a.buffer.now) c.count_place.ensures.0 ∙ sym (count_at _ _) in
    rw (
      c.at-then-limit_of-count.ensures,
      own_full _ _ _ c.requires.1 c.requires.2 _ whole fresh
          (omega (arith, counted, c.limit_of.ensures, c.if-limit_of-count.true)),
    )

pub overflow_sub-buffer : goal.overflow_sub-buffer
overflow_sub-buffer c =
    omega (arith, front_fits _ c.requires.0, c.word_at-size.ensures.0)

pub returns-then-buffer-size : goal.returns-then-buffer-size
returns-then-buffer-size c =
    let read : (w : Read) → c.read_record.result ≡ w
    → read_of c.args.section (count_of c.args.buffer.now Groups) c.args.part.now ≡ w = λ w e. let a = c.args in
    ap (λ g. read_of a.section g a.part.now) (count_groups _ ∙ sym c.word_at.ensures.0) ∙ sym c.read_record.ensures ∙ e in
    let whole : read_of c.args.section (count_of c.args.buffer.now Groups) c.args.part.now
    ≡ Ok c.in-Ok.field-0 = read _ c.in-Ok.is in
    let fresh : added_twin c.args.section (policy_of (image_in c.args.buffer.now)) c.args.part.now ≡ false = sym c.is_twin.ensures ∙ c.if-is_twin.false in
    let counted : c.word_at-count.result ≡ count_of c.args.buffer.now c.args.section = let a = c.args in
    c.word_at-count.ensures.0 ∙ ap (word_at a.buffer.now) c.count_place.ensures.0 ∙ sym (count_at _ _) in
    let few : count_of c.args.buffer.now c.args.section < limit_of c.args.section = omega (arith, counted, c.limit_of.ensures) in
    rw (
      c.at-then-buffer-size.ensures,
      own_short _ _ _ c.requires.1 c.requires.2 _ whole fresh few
          (omega (arith, front_fits _ c.requires.0, c.word_at-size.ensures.0, c.if-buffer-size.true)),
    )

pub returns-in-Err-Malformed : goal.returns-in-Err-Malformed
returns-in-Err-Malformed c =
    let read : (w : Read) → c.read_record.result ≡ w
    → read_of c.args.section (count_of c.args.buffer.now Groups) c.args.part.now ≡ w = λ w e. let a = c.args in
    ap (λ g. read_of a.section g a.part.now) (count_groups _ ∙ sym c.word_at.ensures.0) ∙ sym c.read_record.ensures ∙ e in
    rw (c.at.ensures, own_malformed _ _ _ c.requires.1 c.requires.2 (read _ c.in-Err-Malformed.is ∙ ap Err c.in-Err-Malformed.field-0-is))

pub returns-in-Err-BadField : goal.returns-in-Err-BadField
returns-in-Err-BadField c =
    let read : (w : Read) → c.read_record.result ≡ w
    → read_of c.args.section (count_of c.args.buffer.now Groups) c.args.part.now ≡ w = λ w e. let a = c.args in
    ap (λ g. read_of a.section g a.part.now) (count_groups _ ∙ sym c.word_at.ensures.0) ∙ sym c.read_record.ensures ∙ e in
    rw (c.at-in-Err-BadField.ensures, c.in-Err-BadField.field-0-is, own_field _ _ _ c.requires.1 c.requires.2 _ (read _ c.in-Err-BadField.is ∙ ap Err c.in-Err-BadField.field-0-is))

pub returns-else-buffer-size : goal.returns-else-buffer-size
returns-else-buffer-size c =
    let read : (w : Read) → c.read_record.result ≡ w
    → read_of c.args.section (count_of c.args.buffer.now Groups) c.args.part.now ≡ w = λ w e. let a = c.args in
    ap (λ g. read_of a.section g a.part.now) (count_groups _ ∙ sym c.word_at.ensures.0) ∙ sym c.read_record.ensures ∙ e in
    let whole : read_of c.args.section (count_of c.args.buffer.now Groups) c.args.part.now
    ≡ Ok c.in-Ok.field-0 = read _ c.in-Ok.is in
    let fresh : added_twin c.args.section (policy_of (image_in c.args.buffer.now)) c.args.part.now ≡ false = sym c.is_twin.ensures ∙ c.if-is_twin.false in
    let counted : c.word_at-count.result ≡ count_of c.args.buffer.now c.args.section = let a = c.args in
    c.word_at-count.ensures.0 ∙ ap (word_at a.buffer.now) c.count_place.ensures.0 ∙ sym (count_at _ _) in
    let few : count_of c.args.buffer.now c.args.section < limit_of c.args.section = omega (arith, counted, c.limit_of.ensures) in
    slot_made _ _ _ _ _ _ c.word_at-size.ensures.0 counted
    (own_none _ _ _ c.requires.1 c.requires.2 _ whole fresh few
    (omega (arith, front_fits _ c.requires.0, c.word_at-size.ensures.0, c.if-buffer-size.false)))
