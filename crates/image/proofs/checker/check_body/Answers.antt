-- `check_body` meets its contract: where a section stops, the body does, and else the end decides. Assumes nothing.
use native.Mathlib.Omega.{arith}
use mathlib.Core.Path.{◌≡◌, sym, ap, ◌∙◌}
use Rattle.std.specs.Prelude.{Err}
use lib.Dec.{eqb}
use Rattle.format.specs.declared.Section.TheVariants.{Groups, Rules, Constraints}
use Rattle.format.proofs.Accepted.{header_holds}
use Rattle.format.proofs.ByCase.{count_groups, count_rules, count_constraints}
use Rattle.image.specs.Inner.Walk.{noted_from}
use Rattle.image.proofs.BodyLaws.{walked, walk_inside, groups_fit, rules_fit, constraints_fit}
use Rattle.image.proofs.BodyLaws.{groups_stop, rules_stop, constraints_stop, body_ends}
use borrow.Author.Rules.{rules}
use Rattle.image.proofs.checker.check_body.Goals as goal

pub word_in-groups-requires : goal.word_in-groups-requires
word_in-groups-requires c = let long = (header_holds eqb _ c.requires).long in omega (arith, long)

pub word_in-rules-requires : goal.word_in-rules-requires
word_in-rules-requires c = let long = (header_holds eqb _ c.requires).long in omega (arith, long)

pub word_in-constraints-requires : goal.word_in-constraints-requires
word_in-constraints-requires c = let long = (header_holds eqb _ c.requires).long in omega (arith, long)

pub walk-requires : goal.walk-requires
walk-requires c =
    let counted = c.word_in-groups.ensures.0 ∙ sym (count_groups _) in
    record { groups = counted; inside = (header_holds eqb _ c.requires).long; fits = groups_fit _ c.requires _ counted }

pub returns-in_err-second : goal.returns-in_err-second
returns-in_err-second c =
    let counted = c.word_in-groups.ensures.0 ∙ sym (count_groups _) in
    let passed_on : c.from_residual.result ≡ Err c.in_err-second.field-0.0 = search rules in
    record {
      sections = rw (passed_on, groups_stop _ _ (walked _ Groups _ _ counted c.walk.ensures.comes c.in_err-second.was));
      table = c.walk.ensures.table ∙ ap (λ n. noted_from c.args.image.now Groups 9 0 n c.args.places.now) counted;
    }

pub walk_on-requires : goal.walk_on-requires
walk_on-requires c =
    let counted = c.word_in-groups.ensures.0 ∙ sym (count_groups _) in
    let groups = walked _ Groups _ _ counted c.walk.ensures.comes c.in_ok-second.was in
    record {
      groups = counted;
      inside = walk_inside _ _ _ _ _ ((header_holds eqb _ c.requires).long) groups;
      fits = rules_fit _ _ groups c.requires _ (c.word_in-rules.ensures.0 ∙ sym (count_rules _));
    }

pub returns-in_err-third : goal.returns-in_err-third
returns-in_err-third c =
    let counted = c.word_in-groups.ensures.0 ∙ sym (count_groups _) in
    let groups = walked _ Groups _ _ counted c.walk.ensures.comes c.in_ok-second.was in
    let rules_fault = walked _ Rules _ _ (c.word_in-rules.ensures.0 ∙ sym (count_rules _)) c.walk_on.ensures c.in_err-third.was in
    let passed_on : c.from_residual-in_err-third.result ≡ Err c.in_err-third.field-0.0 = search rules in
    record {
      sections = rw (passed_on, rules_stop _ _ groups _ rules_fault);
      table = c.walk.ensures.table ∙ ap (λ n. noted_from c.args.image.now Groups 9 0 n c.args.places.now) counted;
    }

pub walk_on-requires-2 : goal.walk_on-requires-2
walk_on-requires-2 c =
    let counted = c.word_in-groups.ensures.0 ∙ sym (count_groups _) in
    let groups = walked _ Groups _ _ counted c.walk.ensures.comes c.in_ok-second.was in
    let rules_end = walked _ Rules _ _ (c.word_in-rules.ensures.0 ∙ sym (count_rules _)) c.walk_on.ensures c.in_ok-third.was in
    record {
      groups = counted;
      inside = walk_inside _ _ _ _ _ (walk_inside _ _ _ _ _ ((header_holds eqb _ c.requires).long) groups) rules_end;
      fits = constraints_fit _ _ groups _ rules_end c.requires _ (c.word_in-constraints.ensures.0 ∙ sym (count_constraints _));
    }

pub returns-in_err-end : goal.returns-in_err-end
returns-in_err-end c =
    let counted = c.word_in-groups.ensures.0 ∙ sym (count_groups _) in
    let groups = walked _ Groups _ _ counted c.walk.ensures.comes c.in_ok-second.was in
    let rules_end = walked _ Rules _ _ (c.word_in-rules.ensures.0 ∙ sym (count_rules _)) c.walk_on.ensures c.in_ok-third.was in
    let fault = walked _ Constraints _ _ (c.word_in-constraints.ensures.0 ∙ sym (count_constraints _)) c.walk_on-2.ensures c.in_err-end.was in
    let passed_on : c.from_residual-in_err-end.result ≡ Err c.in_err-end.field-0.0 = search rules in
    record {
      sections = rw (passed_on, constraints_stop _ _ groups _ rules_end _ fault);
      table = c.walk.ensures.table ∙ ap (λ n. noted_from c.args.image.now Groups 9 0 n c.args.places.now) counted;
    }

pub returns : goal.returns
returns c =
    let counted = c.word_in-groups.ensures.0 ∙ sym (count_groups _) in
    let groups = walked _ Groups _ _ counted c.walk.ensures.comes c.in_ok-second.was in
    let rules_end = walked _ Rules _ _ (c.word_in-rules.ensures.0 ∙ sym (count_rules _)) c.walk_on.ensures c.in_ok-third.was in
    let end = walked _ Constraints _ _ (c.word_in-constraints.ensures.0 ∙ sym (count_constraints _)) c.walk_on-2.ensures c.in_ok-end.was in
    record {
      sections = c.check_end.ensures ∙ body_ends _ _ groups _ rules_end _ end;
      table = c.walk.ensures.table ∙ ap (λ n. noted_from c.args.image.now Groups 9 0 n c.args.places.now) counted;
    }
