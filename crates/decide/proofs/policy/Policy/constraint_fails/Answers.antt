-- `constraint_fails` meets its contract: a test that fails settles it, and the predicate has the last word. Assumes nothing.
use Prim.Native.Nat.{◌+◌}
use mathlib.Core.Path.{◌≡◌, sym, ap, ◌∙◌}
use Rattle.format.specs.Bytes.{word_at}
use Rattle.decision.specs.Sets.{within}
use Rattle.decision.specs.Decide.{broken, fails}
use Rattle.decide.specs.Inner.Parts.{rules_in, constraint_in, request_in, set_in, set_at}
use Rattle.decide.specs.Inner.Verdicts.{verdict_of}
use Rattle.decide.proofs.PartLaws.{constraint_first, constraint_second}
use Rattle.decide.proofs.VerdictLaws.{front_says, front_adds, written_same}
use Rattle.decide.proofs.ConstraintLaws.{fails_class, fails_action, fails_first, fails_second, fails_broken}
use Rattle.decide.proofs.policy.Policy.constraint_fails.Goals as goal

pub returns-then-word_in-from : goal.returns-then-word_in-from
returns-then-word_in-from c = record {
  is = sym (fails_class _ _ _ c.requires.1.here _
      (λ e. c.if-word_in-from.true (c.word_in.ensures.0 ∙ e ∙ sym c.from.ensures)));
  kept = (c.requires.0, written_same _ _ _ c.requires.2);
}

pub returns-then-word_in-from-2 : goal.returns-then-word_in-from-2
returns-then-word_in-from-2 c =
    let same_class : word_at c.args.self.image.now (c.args.at + 2) ≡ c.args.q.class =
    sym c.word_in.ensures.0 ∙ c.if-word_in-from.false ∙ c.from.ensures in
    record {
      is = sym (fails_action _ _ _ c.requires.1.here _ same_class
          (λ e. c.if-word_in-from-2.true (c.word_in-2.ensures.0 ∙ e ∙ sym c.from-2.ensures)));
      kept = (c.requires.0, written_same _ _ _ c.requires.2);
    }

pub inside-requires : goal.inside-requires
inside-requires c = (constraint_first _ _ _ c.requires.1.here, c.requires.0.source)

pub returns-then-not-inside : goal.returns-then-not-inside
returns-then-not-inside c =
    let same_class : word_at c.args.self.image.now (c.args.at + 2) ≡ c.args.q.class =
    sym c.word_in.ensures.0 ∙ c.if-word_in-from.false ∙ c.from.ensures in
    let same_action : word_at c.args.self.image.now (c.args.at + 4) ≡ c.args.q.action =
    sym c.word_in-2.ensures.0 ∙ c.if-word_in-from-2.false ∙ c.from-2.ensures in
    let first_told : within (set_in c.args.self.image.now c.args.q.source) (set_at c.args.self.image.now (c.args.at + 6))
    ≡ c.inside.result = sym c.inside.ensures.is in
    record {
      is = sym (fails_first _ _ _ c.requires.1.here _ same_class same_action (first_told ∙ c.if-not-inside.true));
      kept = (record { source = c.inside.ensures.kept; dest = c.requires.0.dest }, written_same _ _ _ c.requires.2);
    }

pub inside-requires-2 : goal.inside-requires-2
inside-requires-2 c = (constraint_second _ _ _ c.requires.1.here, c.requires.0.dest)

pub returns-then-not-inside-2 : goal.returns-then-not-inside-2
returns-then-not-inside-2 c =
    let same_class : word_at c.args.self.image.now (c.args.at + 2) ≡ c.args.q.class =
    sym c.word_in.ensures.0 ∙ c.if-word_in-from.false ∙ c.from.ensures in
    let same_action : word_at c.args.self.image.now (c.args.at + 4) ≡ c.args.q.action =
    sym c.word_in-2.ensures.0 ∙ c.if-word_in-from-2.false ∙ c.from-2.ensures in
    let first_told : within (set_in c.args.self.image.now c.args.q.source) (set_at c.args.self.image.now (c.args.at + 6))
    ≡ c.inside.result = sym c.inside.ensures.is in
    let second_told : within (set_in c.args.self.image.now c.args.q.dest) (set_at c.args.self.image.now (c.args.at + 8))
    ≡ c.inside-2.result =
    sym c.inside-2.ensures.is in
    record {
      is =
          sym
          (fails_second _ _ _ c.requires.1.here _ same_class same_action (first_told ∙ c.if-not-inside.false)
          (second_told ∙ c.if-not-inside-2.true));
      kept = (record { source = c.inside.ensures.kept; dest = c.inside-2.ensures.kept }, written_same _ _ _ c.requires.2);
    }

pub returns-in-Some : goal.returns-in-Some
returns-in-Some c =
    let same_class : word_at c.args.self.image.now (c.args.at + 2) ≡ c.args.q.class =
    sym c.word_in.ensures.0 ∙ c.if-word_in-from.false ∙ c.from.ensures in
    let same_action : word_at c.args.self.image.now (c.args.at + 4) ≡ c.args.q.action =
    sym c.word_in-2.ensures.0 ∙ c.if-word_in-from-2.false ∙ c.from-2.ensures in
    let first_told : within (set_in c.args.self.image.now c.args.q.source) (set_at c.args.self.image.now (c.args.at + 6))
    ≡ c.inside.result = sym c.inside.ensures.is in
    let second_told : within (set_in c.args.self.image.now c.args.q.dest) (set_at c.args.self.image.now (c.args.at + 8))
    ≡ c.inside-2.result =
    sym c.inside-2.ensures.is in
    let by_place : broken (rules_in c.args.self.image.now c.args.q.switches) (constraint_in c.args.self.image.now c.args.at)
    ≡ verdict_of c.args.self.image.now c.args.q.switches c.args.n =
    ap (λ x. broken (rules_in c.args.self.image.now c.args.q.switches) (constraint_in c.args.self.image.now x)) c.requires.1.place in
    let by_rules : fails (rules_in c.args.self.image.now c.args.q.switches) (request_in c.args.self.image.now c.args.q)
    (constraint_in c.args.self.image.now c.args.at) ≡ verdict_of c.args.self.image.now c.args.q.switches c.args.n =
    fails_broken _ _ _ c.requires.1.here _ same_class same_action (first_told ∙ c.if-not-inside.false)
    (second_told ∙ c.if-not-inside-2.false)
    ∙ by_place in
    record {
      is = front_says _ _ _ c.requires.2 _ _ c.requires.1.few (sym c.front.ensures ∙ c.in-Some.is) ∙ sym by_rules;
      kept = (
        record { source = c.inside.ensures.kept; dest = c.inside-2.ensures.kept },
        written_same _ _ _ c.requires.2,
      );
    }

pub returns : goal.returns
returns c =
    let by_place : broken (rules_in c.args.self.image.now c.args.q.switches) (constraint_in c.args.self.image.now c.args.at)
    ≡ verdict_of c.args.self.image.now c.args.q.switches c.args.n =
    ap (λ x. broken (rules_in c.args.self.image.now c.args.q.switches) (constraint_in c.args.self.image.now x)) c.requires.1.place in
    let same_class : word_at c.args.self.image.now (c.args.at + 2) ≡ c.args.q.class =
    sym c.word_in.ensures.0 ∙ c.if-word_in-from.false ∙ c.from.ensures in
    let same_action : word_at c.args.self.image.now (c.args.at + 4) ≡ c.args.q.action =
    sym c.word_in-2.ensures.0 ∙ c.if-word_in-from-2.false ∙ c.from-2.ensures in
    let first_told : within (set_in c.args.self.image.now c.args.q.source) (set_at c.args.self.image.now (c.args.at + 6))
    ≡ c.inside.result = sym c.inside.ensures.is in
    let second_told : within (set_in c.args.self.image.now c.args.q.dest) (set_at c.args.self.image.now (c.args.at + 8))
    ≡ c.inside-2.result =
    sym c.inside-2.ensures.is in
    let by_rules : fails (rules_in c.args.self.image.now c.args.q.switches) (request_in c.args.self.image.now c.args.q)
    (constraint_in c.args.self.image.now c.args.at) ≡ verdict_of c.args.self.image.now c.args.q.switches c.args.n =
    fails_broken _ _ _ c.requires.1.here _ same_class same_action (first_told ∙ c.if-not-inside.false)
    (second_told ∙ c.if-not-inside-2.false)
    ∙ by_place in
    let e = c.predicate_broken-broken.ensures ∙ by_place in
    record {
      is = e ∙ sym by_rules;
      kept = (
        record { source = c.inside.ensures.kept; dest = c.inside-2.ensures.kept },
        front_adds _ _ _ c.requires.2 _ _ e _ c.with_front.ensures,
      );
    }
