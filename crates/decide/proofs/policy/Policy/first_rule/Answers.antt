-- `first_rule` meets its contract: the rules from the running one on answer as all do. Assumes nothing.
use native.Mathlib.Omega.{arith}
use Prim.Native.Nat.{suc, ◌-◌}
use mathlib.Core.Path.{◌≡◌, sym, subst, ap, ◌∙◌}
use mathlib.Core.Bool.{false}
use Rattle.format.specs.Claims.{IsType}
use Rattle.format.proofs.Accepted.{accepted_header}
use Rattle.format.proofs.ByCase.{count_rules}
use Rattle.decision.specs.Sets.{within}
use Rattle.decision.specs.Decide.{covers, first_at}
use Rattle.decide.specs.Inner.Parts.{RuleHere, request_in, rule_in}
use Rattle.decide.specs.Inner.Kept.{Sides}
use Rattle.decide.specs.Inner.Rules.{first_rule}
use Rattle.decide.proofs.MarkLaws.{walk_small, walk_rest, tally_end, tally_yes, tally_no, hits_on, hits_off}
use Rattle.decide.proofs.TypeLaws.{span_rising, span_told, type_basic, type_small}
use Rattle.decide.proofs.SetLaws.{hits_full, hits_short}
use Rattle.decide.proofs.PartLaws.{ready_rules, rule_source, rule_dest}
use Rattle.decide.proofs.KeptLaws.{outside_tells, outside_kept}
use Rattle.decide.proofs.RuleLaws.{allow_long}
use Rattle.decide.proofs.CoverLaws.{covers_no_may, covers_no_dest, covers_no_source, covers_yes, asked_stops}
use Rattle.decide.proofs.WalkLaws.{walk_start, walk_rule, first_end, first_hit, first_next, all_rules}
use Rattle.decide.proofs.policy.Policy.first_rule.Goals as goal
use Rattle.decide.proofs.policy.Policy.first_rule.Goals.{then-dest-word_in, else-dest-word_in}
use Rattle.decide.proofs.policy.Policy.first_rule.Goals.{then-may+then-holds_if_asked+then-inside+then-not-known_outside+then-left-eq0+else-hits-dest}
use Rattle.decide.proofs.policy.Policy.first_rule.Goals.{then-may+then-holds_if_asked+then-inside+else-not-known_outside}
use Rattle.decide.proofs.policy.Policy.first_rule.Goals.{then-may+then-holds_if_asked+else-inside, then-may+else-holds_if_asked, else-may}

pub word_in-count-requires : goal.word_in-count-requires
word_in-count-requires c = omega (arith, (accepted_header _ c.args.self.ready.known.accepted).long)

pub rules-init : goal.rules-init
unfolding first_rule
rules-init c = let l = c.args.self.image.now in
    record {
      walk = walk_start _ _ _ _ _ _ _ (ready_rules _ _ _ c.args.self.ready) (c.word_in-count.ensures.0 ∙ sym (count_rules _))
          (ap (λ rs. first_at (covers (request_in l c.args.q)) 0 rs) (all_rules l c.args.q.switches));
      kept = c.requires;
    }

pub returns-then-count-n : goal.returns-then-count-n
returns-then-count-n c = let I = c.rules.invariant in
    record { is = first_end _ I.walk (λ z. absurd (omega arith)); kept = I.kept }

pub is_allow-allow-requires : goal.is_allow-allow-requires
is_allow-allow-requires c = walk_rule c.rules.invariant.walk (omega arith) c.args.self.ready.known.accepted

pub may-requires : goal.may-requires
may-requires c =
    let here : RuleHere c.args.self.image.now c.rules.at =
    walk_rule c.rules.invariant.walk (omega arith) c.args.self.ready.known.accepted in
    (here, c.is_allow-allow.ensures)

pub overflow_add-to : goal.overflow_add-to
overflow_add-to c =
    let h = walk_rule c.rules.invariant.walk (omega arith) c.args.self.ready.known.accepted in
    omega (arith, h.long, h.here.inside)

pub holds_if_asked-requires : goal.holds_if_asked-requires
holds_if_asked-requires c =
    let here : RuleHere c.args.self.image.now c.rules.at =
    walk_rule c.rules.invariant.walk (omega arith) c.args.self.ready.known.accepted in
    (rule_dest _ _ _ here, c.rules.invariant.kept.dest)

pub overflow_add-at : goal.overflow_add-at
overflow_add-at c =
    let h = walk_rule c.rules.invariant.walk (omega arith) c.args.self.ready.known.accepted in
    omega (arith, h.long, h.here.inside)

pub inside-requires : goal.inside-requires
inside-requires c =
    let here : RuleHere c.args.self.image.now c.rules.at =
    walk_rule c.rules.invariant.walk (omega arith) c.args.self.ready.known.accepted in
    (rule_source _ _ _ here, c.rules.invariant.kept.source)

pub word_in-t-requires : goal.word_in-t-requires
word_in-t-requires c =
    let h = walk_rule c.rules.invariant.walk (omega arith) c.args.self.ready.known.accepted in
    omega (arith, h.long, h.here.inside)

pub known_outside-requires : goal.known_outside-requires
known_outside-requires c =
    let here : RuleHere c.args.self.image.now c.rules.at =
    walk_rule c.rules.invariant.walk (omega arith) c.args.self.ready.known.accepted in
    let is = c.word_in-t.ensures.0 in
    (type_basic _ _ (subst (IsType _) (sym is) here.dest), type_small _ _ _ is c.args.self.ready.known.accepted here.dest)

pub members-span-requires : goal.members-span-requires
members-span-requires c =
    let here : RuleHere c.args.self.image.now c.rules.at =
    walk_rule c.rules.invariant.walk (omega arith) c.args.self.ready.known.accepted in
    (rule_dest _ _ _ here)

pub members-init : goal.members-init
members-init c = let s = c.members-span.ensures in
    record { room = s.room; few = omega arith; rising = span_rising _ _ _ _ s; hits = omega arith }

pub word_in-requires : goal.word_in-requires
word_in-requires c = let I = c.members.invariant in omega (arith, I.room)

pub bounds-dest-word_in : goal.bounds-dest-word_in
bounds-dest-word_in c = let M = c.members in
    let e : M.left ≡ suc (M.left - 1) = omega arith in
    omega (arith, walk_small _ _ _ _ e M.invariant.rising, c.word_in.ensures.0)

pub members-preserved : goal.members-preserved
members-preserved c = let M = c.members in
    let I = M.invariant in
    let e : M.left ≡ suc (M.left - 1) = omega arith in
    let t = c.word_in.ensures.0 in
    elim c.if-dest-word_in.branch [
      | then-dest-word_in w ↦ record {
        room = omega (arith, I.room);
        few = omega (arith, I.few, w.hits-is);
        rising = walk_rest _ _ _ _ e I.rising;
        hits = hits_on M.hits _ _ I.hits (tally_yes _ _ _ _ _ e _ t w.if-dest-word_in.true) w.hits-is;
      }
      | else-dest-word_in w ↦ record {
        room = omega (arith, I.room);
        few = omega (arith, I.few, w.hits-is);
        rising = walk_rest _ _ _ _ e I.rising;
        hits = hits_off M.hits _ _ I.hits (tally_no _ _ _ _ _ e _ t w.if-dest-word_in.false) w.hits-is;
      }
    ]

pub keep_outside-requires : goal.keep_outside-requires
keep_outside-requires c =
    let here : RuleHere c.args.self.image.now c.rules.at =
    walk_rule c.rules.invariant.walk (omega arith) c.args.self.ready.known.accepted in
    type_small _ _ _ c.word_in-t.ensures.0 c.args.self.ready.known.accepted here.dest

pub past-at-requires : goal.past-at-requires
past-at-requires c =
    let here : RuleHere c.args.self.image.now c.rules.at =
    walk_rule c.rules.invariant.walk (omega arith) c.args.self.ready.known.accepted in
    (here, λ e. allow_long _ _ _ here (sym c.is_allow-allow.ensures ∙ e))

pub rules-preserved : goal.rules-preserved
rules-preserved c =
    let here : RuleHere c.args.self.image.now c.rules.at =
    walk_rule c.rules.invariant.walk (omega arith) c.args.self.ready.known.accepted in
    let I = c.rules.invariant.kept in
    let l = c.args.self.image.now in
    let k : (covers (request_in l c.args.q) (rule_in l c.args.q.switches c.rules.at) ≡ false)
    × Sides l c.args.q c.if-may.source c.if-may.dest =
    elim c.if-may.branch [
      | then-may+then-holds_if_asked+then-inside+then-not-known_outside+then-left-eq0+else-hits-dest w ↦
          let span = w.members-span.ensures in
          let D = w.holds_if_asked.ensures.kept in
          let all = w.members.invariant.hits ∙ rw (tally_end _ _ _ _ w.if-left-eq0.true) (omega arith) in
          let short = hits_short _ _ _ D.marked _ (span_rising _ _ _ _ span) _ all w.if-hits-dest.false in
          let no = sym (span_told _ _ _ _ span (within _) _ (sym short)) in
          let out = outside_kept (within _) l _ D.kept _ _ w.word_in-t.ensures.0 no in (
            covers_no_dest _ _ _ _ here no,
            record {
              source = rw w.source-is w.inside.ensures.kept;
              dest = rw (w.dest-is, w.keep_outside.ensures) (record { type = D.type; marked = D.marked; kept = out });
            },
          )
      | then-may+then-holds_if_asked+then-inside+else-not-known_outside w ↦
          let D = w.holds_if_asked.ensures.kept in
          let out = sym w.known_outside.ensures ∙ w.if-not-known_outside.false in
          let no = outside_tells D c.args.self.ready.known.accepted _ _ here.dest w.word_in-t.ensures.0 out in
          (covers_no_dest _ _ _ _ here no, record { source = rw w.source-is w.inside.ensures.kept; dest = rw w.dest-is D })
      | then-may+then-holds_if_asked+else-inside w ↦ (
        covers_no_source _ _ _ _ here (sym w.inside.ensures.is ∙ w.if-inside.false),
        record {
          source =
              rw w.source-is w.inside.ensures.kept;
          dest = rw w.dest-is w.holds_if_asked.ensures.kept;
        },
      )
      | then-may+else-holds_if_asked w ↦
          let no = asked_stops _ _ (sym w.holds_if_asked.ensures.is ∙ w.if-holds_if_asked.false) in
          (covers_no_dest _ _ _ _ here no, record { source = rw w.source-is I.source; dest = rw w.dest-is w.holds_if_asked.ensures.kept })
      | else-may w ↦
          let no = sym c.may.ensures ∙ w.if-may.false in
          (covers_no_may _ _ _ _ here no, record { source = rw w.source-is I.source; dest = rw w.dest-is I.dest })
    ] in
    record { walk = first_next _ c.rules.invariant.walk (omega arith) k.0 _ c.past-at.ensures; kept = k.1 }

pub returns : goal.returns
returns c =
    let here : RuleHere c.args.self.image.now c.rules.at =
    walk_rule c.rules.invariant.walk (omega arith) c.args.self.ready.known.accepted in
    let s = c.members-span.ensures in
    let m = sym c.may.ensures ∙ c.if-may.true in
    record {
      is = first_hit _ c.rules.invariant.walk (omega arith)
          (covers_yes _ _ _ _ here m
          (sym (span_told _ _ _ _ s (within _) _
          (sym (hits_full _ _ _ c.holds_if_asked.ensures.kept.marked _
          (span_rising _ _ _ _ s) _ _ c.members.invariant.hits c.if-hits-dest.true)))) (sym c.inside.ensures.is ∙ c.if-inside.true));
      kept = record { source = c.inside.ensures.kept; dest = c.holds_if_asked.ensures.kept };
    }
