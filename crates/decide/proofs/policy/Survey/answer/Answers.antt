-- `answer` meets its contract: the source is looked at before the destination, and both before the decision.
-- Assumes nothing.
use native.Mathlib.Omega.{arith}
use mathlib.Core.Path.{◌≡◌, sym, ap, ◌∙◌}
use mathlib.Core.Bool.{true}
use Rattle.format.specs.declared.Section.TheVariants.{Groups}
use Rattle.format.specs.Format.{count_of, is_type}
use Rattle.format.proofs.Accepted.{accepted_header}
use Rattle.format.proofs.ByCase.{count_groups}
use Rattle.format.proofs.Chain.{outcome_refused}
use Rattle.decision.proofs.Answers.{image_refused}
use Rattle.decide.specs.Inner.Parts.{Ready}
use Rattle.decide.proofs.VerdictLaws.{left_same}
use Rattle.decide.proofs.EngineLaws.{query_source, query_dest, query_valid, type_told, outcome_some, outcome_none, answer_accepted}
use Rattle.decide.proofs.EngineLaws.{surveyed_ready}
use Rattle.std.specs.Prelude.{Ok, Err}
use borrow.Author.Rules.{rules}
use Rattle.decide.proofs.policy.Survey.answer.Goals as goal

pub word_in-count-requires : goal.word_in-count-requires
word_in-count-requires c =
    let ready : Ready c.args.self.image.now c.args.self.groups.now c.in_ok-starts.starts =
    surveyed_ready _ _ _ _ c.args.self.surveyed c.in_ok-starts.was in
    omega (arith, (accepted_header _ ready.known.accepted).long)

pub returns-then-not-is_type : goal.returns-then-not-is_type
returns-then-not-is_type c =
    let ready : Ready c.args.self.image.now c.args.self.groups.now c.in_ok-starts.starts =
    surveyed_ready _ _ _ _ c.args.self.surveyed c.in_ok-starts.was in
    let counted : c.word_in-count.result ≡ count_of c.args.self.image.now Groups =
    c.word_in-count.ensures.0 ∙ sym (count_groups _) in
    let source_told : is_type (count_of c.args.self.image.now Groups) c.args.q.source ≡ c.is_type.result =
    type_told _ _ _ _ _ c.is_type.ensures counted c.from.ensures in
    let k = ready in
    record {
      is = rw c.at.ensures (outcome_some _ _ _ (query_source _ _ (source_told ∙ c.if-not-is_type.true))
          ∙ sym (answer_accepted _ _ k.known.accepted));
      kept = left_same _ _ _ c.requires;
    }

pub returns-then-not-is_type-2 : goal.returns-then-not-is_type-2
returns-then-not-is_type-2 c =
    let ready : Ready c.args.self.image.now c.args.self.groups.now c.in_ok-starts.starts =
    surveyed_ready _ _ _ _ c.args.self.surveyed c.in_ok-starts.was in
    let counted : c.word_in-count.result ≡ count_of c.args.self.image.now Groups =
    c.word_in-count.ensures.0 ∙ sym (count_groups _) in
    let dest_told : is_type (count_of c.args.self.image.now Groups) c.args.q.dest ≡ c.is_type-2.result =
    type_told _ _ _ _ _ c.is_type-2.ensures counted c.from-2.ensures in
    let source_told : is_type (count_of c.args.self.image.now Groups) c.args.q.source ≡ c.is_type.result =
    type_told _ _ _ _ _ c.is_type.ensures counted c.from.ensures in
    let source_yes : is_type (count_of c.args.self.image.now Groups) c.args.q.source ≡ true =
    source_told ∙ c.if-not-is_type.false in
    let k = ready in
    record {
      is = rw c.at-then-not-is_type-2.ensures (outcome_some _ _ _ (query_dest _ _ source_yes (dest_told ∙ c.if-not-is_type-2.true))
          ∙ sym (answer_accepted _ _ k.known.accepted));
      kept = left_same _ _ _ c.requires;
    }

pub judge-requires : goal.judge-requires
judge-requires c =
    let counted : c.word_in-count.result ≡ count_of c.args.self.image.now Groups =
    c.word_in-count.ensures.0 ∙ sym (count_groups _) in
    let source_told : is_type (count_of c.args.self.image.now Groups) c.args.q.source ≡ c.is_type.result =
    type_told _ _ _ _ _ c.is_type.ensures counted c.from.ensures in
    let source_yes : is_type (count_of c.args.self.image.now Groups) c.args.q.source ≡ true =
    source_told ∙ c.if-not-is_type.false in
    let dest_told : is_type (count_of c.args.self.image.now Groups) c.args.q.dest ≡ c.is_type-2.result =
    type_told _ _ _ _ _ c.is_type-2.ensures counted c.from-2.ensures in
    let dest_yes : is_type (count_of c.args.self.image.now Groups) c.args.q.dest ≡ true = dest_told ∙ c.if-not-is_type-2.false in
    ((source_yes, dest_yes), c.requires)

pub returns-in_err-starts : goal.returns-in_err-starts
returns-in_err-starts c = let passed_on : c.from_residual.result ≡ Err c.in_err-starts.field-0.0 = search rules in
    record {
      is = passed_on ∙ sym (image_refused _ _ _ (outcome_refused _ _ (sym c.in_err-starts.was ∙ c.args.self.surveyed.sections)));
      kept = left_same _ _ _ c.requires;
    }

pub returns : goal.returns
returns c =
    let ready : Ready c.args.self.image.now c.args.self.groups.now c.in_ok-starts.starts =
    surveyed_ready _ _ _ _ c.args.self.surveyed c.in_ok-starts.was in
    let counted : c.word_in-count.result ≡ count_of c.args.self.image.now Groups =
    c.word_in-count.ensures.0 ∙ sym (count_groups _) in
    let source_told : is_type (count_of c.args.self.image.now Groups) c.args.q.source ≡ c.is_type.result =
    type_told _ _ _ _ _ c.is_type.ensures counted c.from.ensures in
    let source_yes : is_type (count_of c.args.self.image.now Groups) c.args.q.source ≡ true =
    source_told ∙ c.if-not-is_type.false in
    let dest_told : is_type (count_of c.args.self.image.now Groups) c.args.q.dest ≡ c.is_type-2.result =
    type_told _ _ _ _ _ c.is_type-2.ensures counted c.from-2.ensures in
    let dest_yes : is_type (count_of c.args.self.image.now Groups) c.args.q.dest ≡ true = dest_told ∙ c.if-not-is_type-2.false in
    let r = c.judge.ensures in
    record {
      is = ap Ok r.is ∙ outcome_none _ _ (query_valid _ _ source_yes dest_yes) ∙ sym (answer_accepted _ _ ready.known.accepted);
      kept = r.kept;
    }
