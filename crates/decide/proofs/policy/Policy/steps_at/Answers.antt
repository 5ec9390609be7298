-- `steps_at` meets its contract: what passes no more is not walked. Assumes nothing.
use native.Mathlib.Omega.{arith}
use mathlib.Core.Path.{refl, sym, ◌∙◌}
use Rattle.decide.proofs.PartLaws.{rule_source, rule_dest}
use Rattle.decide.proofs.KeptLaws.{outside_tells}
use Rattle.decide.proofs.NearerLaws.{class_says, stops_says, class_stops_lem, off_stops, source_stops, dest_stops, counts_exact, counts_none}
use Rattle.decide.proofs.policy.Policy.steps_at.Goals as goal

pub is_stopped_by_class-requires : goal.is_stopped_by_class-requires
is_stopped_by_class-requires c = (c.requires.0, c.requires.1)

pub returns-then-is_stopped_by_class : goal.returns-then-is_stopped_by_class
returns-then-is_stopped_by_class c =
    let s = class_says _ _ _ _ (sym c.is_stopped_by_class.ensures ∙ c.if-is_stopped_by_class.true) in
    (counts_none _ _ (class_stops_lem _ _ _ _ c.requires.0 _ s.0 s.1), c.requires.2)

pub overflow_add-at : goal.overflow_add-at
overflow_add-at c = let h = c.requires.0 in omega (arith, h.long, h.here.inside)

pub is_known_to_stop-requires : goal.is_known_to_stop-requires
is_known_to_stop-requires c = (c.args.self.ready.known.accepted, rule_source _ _ _ c.requires.0)

pub returns-then-is_known_to_stop : goal.returns-then-is_known_to_stop
returns-then-is_known_to_stop c =
    let s = stops_says _ _ _ _ _ _ (sym c.is_known_to_stop.ensures ∙ c.if-is_known_to_stop.true) in
    let no = outside_tells c.requires.2.source c.args.self.ready.known.accepted _ _ c.requires.0.source refl s.1 in
    (counts_none _ _ (source_stops _ _ _ _ c.requires.0 _ s.0 no), c.requires.2)

pub is_off-requires : goal.is_off-requires
is_off-requires c = (c.requires.0, c.requires.1)

pub returns-then-is_off : goal.returns-then-is_off
returns-then-is_off c =
    (counts_none _ _ (off_stops _ _ _ _ c.requires.0 _ (sym c.is_off.ensures ∙ c.if-is_off.true)), c.requires.2)

pub overflow_add-at-2 : goal.overflow_add-at-2
overflow_add-at-2 c = let h = c.requires.0 in omega (arith, h.long, h.here.inside)

pub is_known_to_stop-requires-2 : goal.is_known_to_stop-requires-2
is_known_to_stop-requires-2 c = (c.args.self.ready.known.accepted, rule_dest _ _ _ c.requires.0)

pub returns-then-is_known_to_stop-2 : goal.returns-then-is_known_to_stop-2
returns-then-is_known_to_stop-2 c =
    let s = stops_says _ _ _ _ _ _ (sym c.is_known_to_stop-2.ensures ∙ c.if-is_known_to_stop-2.true) in
    let no = outside_tells c.requires.2.dest c.args.self.ready.known.accepted _ _ c.requires.0.dest refl s.1 in
    (counts_none _ _ (dest_stops _ _ _ _ c.requires.0 _ s.0 no), c.requires.2)

pub steps_on-requires : goal.steps_on-requires
steps_on-requires c =
    (record { here = c.requires.0; on = sym c.is_off.ensures ∙ c.if-is_off.false }, c.requires.2)

pub returns : goal.returns
returns c = let r = c.steps_on.ensures in (counts_exact _ _ _ (sym r.is), r.kept)
