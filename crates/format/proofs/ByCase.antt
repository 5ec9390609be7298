-- What the definitions by section and by kind say, case by case. Assumes nothing.
--     limit_groups, limit_rules, limit_constraints, limit_most   limit_of
--     count_place_groups, .., count_place_most   count_place
--     count_at, count_groups, count_rules, count_constraints   count_of
--     records_of_groups, records_of_rules, records_of_constraints   records_of
--     kind_groups, kind_rules, kind_constraints; groups_kind, rules_kind, constraints_kind   kind_in, both ways
--     known_version_lem       known_version
use Prim.Native.Nat.{ℕ, ◌≤◌}
use mathlib.Core.Path.{◌≡◌, refl}
use mathlib.Core.Bool.{true}
use mathlib.Core.List.{List}
use native.Mathlib.Omega.{arith}
use lib.Dec.{leb}
use borrow.Author.Tests.{eqb-true, leb-true, eq-eqb, le-leb}
use Rattle.format.specs.declared.Section.{Section}
use Rattle.format.specs.declared.Section.TheVariants.{Groups, Rules, Constraints}
use Rattle.format.specs.Bytes.{word_at}
use Rattle.format.specs.Format.{known_version, limit_of, count_place, count_of, kind_in}
use Rattle.format.specs.Policy.{Policy, records_of}
use Rattle.format.proofs.Tests.{both, and_true}

pub limit_groups : limit_of Groups ≡ 256
unfolding limit_of
limit_groups = refl

pub limit_rules : limit_of Rules ≡ 1024
unfolding limit_of
limit_rules = refl

pub limit_constraints : limit_of Constraints ≡ 256
unfolding limit_of
limit_constraints = refl

pub limit_most : (s : Section) → limit_of s ≤ 1024
unfolding limit_of
limit_most Groups = omega arith
limit_most Rules = omega arith
limit_most Constraints = omega arith

pub count_place_groups : count_place Groups ≡ 3
unfolding count_place
count_place_groups = refl

pub count_place_rules : count_place Rules ≡ 5
unfolding count_place
count_place_rules = refl

pub count_place_constraints : count_place Constraints ≡ 7
unfolding count_place
count_place_constraints = refl

pub count_place_most : (s : Section) → count_place s ≤ 7
unfolding count_place
count_place_most Groups = omega arith
count_place_most Rules = omega arith
count_place_most Constraints = omega arith

module _ (l : List ℕ) where
  pub count_at : (s : Section) → count_of l s ≡ word_at l (count_place s)
  unfolding count_of
  count_at s = refl

  pub count_groups : count_of l Groups ≡ word_at l 3
  unfolding count_of count_place
  count_groups = refl

  pub count_rules : count_of l Rules ≡ word_at l 5
  unfolding count_of count_place
  count_rules = refl

  pub count_constraints : count_of l Constraints ≡ word_at l 7
  unfolding count_of count_place
  count_constraints = refl

module _ (p : Policy) where
  pub records_of_groups : records_of p Groups ≡ p.groups
  unfolding records_of
  records_of_groups = refl

  pub records_of_rules : records_of p Rules ≡ p.rules
  unfolding records_of
  records_of_rules = refl

  pub records_of_constraints : records_of p Constraints ≡ p.constraints
  unfolding records_of
  records_of_constraints = refl

module _ (k : ℕ) where
  pub kind_groups : k ≡ 1 → kind_in Groups k ≡ true
  unfolding kind_in
  kind_groups e = eq-eqb k 1 e

  pub kind_rules : 2 ≤ k → k ≤ 3 → kind_in Rules k ≡ true
  unfolding kind_in
  kind_rules h j = and_true (le-leb 2 k h) (le-leb k 3 j)

  pub kind_constraints : k ≡ 4 → kind_in Constraints k ≡ true
  unfolding kind_in
  kind_constraints e = eq-eqb k 4 e

  pub groups_kind : kind_in Groups k ≡ true → k ≡ 1
  unfolding kind_in
  groups_kind e = eqb-true k 1 e

  pub rules_kind : kind_in Rules k ≡ true → (2 ≤ k) × (k ≤ 3)
  unfolding kind_in
  rules_kind e = let b = both (leb 2 k) (leb k 3) e in (leb-true 2 k b.0, leb-true k 3 b.1)

  pub constraints_kind : kind_in Constraints k ≡ true → k ≡ 4
  unfolding kind_in
  constraints_kind e = eqb-true k 4 e

pub known_version_lem : (v : ℕ) → known_version v ≡ true → v ≡ 1
unfolding known_version
known_version_lem v e = eqb-true v 1 e
