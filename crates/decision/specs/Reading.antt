-- Rules, constraints and queries as they are read: types as sets, and of a rule what it asks of a query (document 01, "How a
-- draw is decided"), the rules under a switch word (request [6]).
--     Rule                      `allow`: it is an allow rule; `on`: its condition is on, and a transition is always on; its two
--                               sets; the class and the action that it asks for, if it asks
--     asks o n                  the number n is what is asked for, where something is
--     live r                    document 01's "live": an allow rule that is on
--     Constraint, Request       a constraint and a query
--     rule_of p w r              a rule, read from a record of a policy under the word w: the one place where a condition is read
--     constraint_of p c, request_of p q    a constraint, from a record, and a query on the policy
--     rules_of p w, constraints_of p       all of a policy's
use Rattle.std.specs.Prelude.{ℕ, Bool, true, ◌&&◌, cond, List, map, get_or, drop, eqb}
use Rattle.std.specs.Prelude.{Option, None, Some}
use Rattle.format.specs.Bytes.{word_at, words}
use Rattle.format.specs.Policy.{Policy}
use Rattle.decision.specs.declared.Query.{Query}
use Rattle.decision.specs.Sets.{set_of, union_of}
use Rattle.decision.specs.Conditions.{is_on}

pub record Rule : Type 0 where
  pub allow : Bool
  pub on : Bool
  pub source : List ℕ
  pub dest : List ℕ
  pub class : Option ℕ
  pub action : Option ℕ

unfoldable pub asks : Option ℕ → ℕ → Bool
asks None n = true
asks (Some k) n = eqb k n

unfoldable pub live : Rule → Bool
live r = r.allow && r.on

-- kind 2 is an allow rule, 3 a transition, which is always on and asks for neither class nor action; it has 8 bytes, and nothing
-- past them is read
unfoldable pub rule_of : Policy → ℕ → List ℕ → Rule
rule_of p w r =
    record {
      allow = eqb (get_or r 1 0) 2;
      on = cond (eqb (get_or r 1 0) 3) true (eqb (get_or r 1 0) 2 && is_on w (get_or r 10 0));
      source = set_of p.groups (word_at r 2);
      dest = set_of p.groups (word_at r 4);
      class = cond (eqb (get_or r 1 0) 3) None (Some (word_at r 6));
      action = cond (eqb (get_or r 1 0) 3) None (Some (word_at r 8));
    }

pub record Constraint : Type 0 where
  pub class : ℕ
  pub action : ℕ
  pub first : List ℕ
  pub second : List ℕ
  pub predicate : ℕ
  pub list : List ℕ

unfoldable pub constraint_of : Policy → List ℕ → Constraint
constraint_of p c =
    record {
      class = word_at c 2;
      action = word_at c 4;
      first = set_of p.groups (word_at c 6);
      second = set_of p.groups (word_at c 8);
      predicate = get_or c 10 0;
      list = union_of p.groups (words (drop 11 c));
    }

pub record Request : Type 0 where
  pub source : List ℕ
  pub dest : List ℕ
  pub class : ℕ
  pub action : ℕ

unfoldable pub request_of : Policy → Query → Request
request_of p q =
    record { source = set_of p.groups q.source; dest = set_of p.groups q.dest; class = q.class; action = q.action }

unfoldable pub rules_of : Policy → ℕ → List Rule
rules_of p w = map (rule_of p w) p.rules

unfoldable pub constraints_of : Policy → List Constraint
constraints_of p = map (constraint_of p) p.constraints
