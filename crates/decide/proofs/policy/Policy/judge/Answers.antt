-- `judge` meets its contract: the marks of the two types are set, asked, and taken off again. Assumes nothing.
use mathlib.Core.Path.{sym, subst}
use Rattle.format.specs.Claims.{IsType}
use Rattle.format.proofs.Fields.{type_is}
use Rattle.decide.proofs.TypeLaws.{type_basic}
use Rattle.decide.proofs.KeptLaws.{kept_none}
use Rattle.decide.proofs.EngineLaws.{marks_after, marked_type}
use Rattle.decide.proofs.policy.Policy.judge.Goals as goal

pub mark_type-sources-requires : goal.mark_type-sources-requires
mark_type-sources-requires c = subst (IsType _) (sym c.from-from.ensures) (type_is _ _ c.requires.0.0)

pub mark_type-dests-requires : goal.mark_type-dests-requires
mark_type-dests-requires c = subst (IsType _) (sym c.from-to.ensures) (type_is _ _ c.requires.0.1)

pub judge_marked-answer-requires : goal.judge_marked-answer-requires
judge_marked-answer-requires c =
    let s = c.mark_type-sources.ensures in
    let d = c.mark_type-dests.ensures in (
      record {
        source = record {
          type = type_is _ _ c.requires.0.0;
          marked = marked_type _ _ _ _ _ c.args.self.ready.known.accepted (type_is _ _ c.requires.0.0) c.from-from.ensures
              (marks_after _ _ _ s.0 c.requires.1.source) s.1;
          kept = kept_none _ 256;
        };
        dest = record {
          type = type_is _ _ c.requires.0.1;
          marked = marked_type _ _ _ _ _ c.args.self.ready.known.accepted (type_is _ _ c.requires.0.1) c.from-to.ensures
              (marks_after _ _ _ d.0 c.requires.1.dest) d.1;
          kept = kept_none _ 256;
        };
      },
      c.requires.1.verdicts c.args.self.ready.known.accepted,
    )

pub unmark_type-requires : goal.unmark_type-requires
unmark_type-requires c = type_basic _ _ (subst (IsType _) (sym c.from-from.ensures) (type_is _ _ c.requires.0.0))

pub unmark_type-requires-2 : goal.unmark_type-requires-2
unmark_type-requires-2 c = type_basic _ _ (subst (IsType _) (sym c.from-to.ensures) (type_is _ _ c.requires.0.1))

pub returns : goal.returns
returns c =
    let r = c.judge_marked-answer.ensures in
    record {
      is = r.is;
      kept = record {
        tables = record {
          verdicts = λ _. r.kept.front;
          source = c.unmark_type.ensures _ (marks_after _ _ _ c.mark_type-sources.ensures.0 c.requires.1.source);
          dest = c.unmark_type-2.ensures _ (marks_after _ _ _ c.mark_type-dests.ensures.0 c.requires.1.dest);
        };
        behind = r.kept.behind;
      };
    }
