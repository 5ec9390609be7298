-- By the kind.
use Rattle.std.proofs.Common.{◌∙◌, ap, arith}
use Rattle.std.specs.Prelude.{Ok}
use Rattle.decision.specs.declared.Decision.TheVariants.{NotPermitted}
use Rattle.decision.proofs.Numbers.{host_permitted, host_refused, host_unknown, host_none, host_no_rules, host_near}
use Rattle.streams.proofs.Puts.{put_one, put_two}
use Rattle.permit.proofs.Laws.{put_said}
use Rattle.permit.proofs.line.put_line.Goals as goal
use Rattle.decision.specs.Decide.{Nearest}

pub returns-in-1 : goal.returns-in-1
returns-in-1 c =
    let put = put_one 80 _ (omega arith) (omega arith) c.put_line.ensures in
    (put_said (host_permitted _ c.in-1.is) put.0, omega (arith, put.1))

pub returns-in-2 : goal.returns-in-2
returns-in-2 c =
    let put = put_two 82 _ _ (omega arith) (omega arith) (omega arith) c.put_line-in-2.ensures in
    (put_said (host_refused _ c.in-2.is) put.0, omega (arith, put.1))

pub returns-in-3 : goal.returns-in-3
returns-in-3 c =
    let put = put_two 85 _ _ (omega arith) (omega arith) (omega arith) c.put_line-in-3.ensures in
    (put_said (host_unknown _ c.in-3.is) put.0, omega (arith, put.1))

pub returns-in_default : goal.returns-in_default
returns-in_default c =
    let none = host_none c.args.number (omega arith) (omega arith) (omega arith) in
    let none_near = ap (λ (x : Nearest). Ok (NotPermitted x)) (host_no_rules _ _ c.if-fourth-eq65535.true) in
    (put_said (none ∙ none_near) c.put_no_rules.ensures, omega (arith, c.put_no_rules.ensures.ends))

pub returns-in_default-2 : goal.returns-in_default-2
returns-in_default-2 c =
    let none = host_none c.args.number (omega arith) (omega arith) (omega arith) in
    let put = put_two 78 _ _ (omega arith) (omega arith) (omega arith) c.put_line-in_default-2.ensures in
    let near = ap (λ (x : Nearest). Ok (NotPermitted x)) (host_near _ _ c.if-fourth-eq65535.false) in
    (put_said (none ∙ near) put.0, omega (arith, put.1))
