-- `is_listed` meets its contract: the walk comes to a group's place, and none before it has the record. Assumes nothing.
use Rattle.std.proofs.Common.{◌≡◌, drop}
use Rattle.format.specs.declared.Section.TheVariants.{Groups}
use Rattle.format.specs.Format.{count_of}
use Rattle.format.specs.Policy.{policy_of, place_of}
use Rattle.format.specs.Twins.{listed}
use Rattle.extend.proofs.plan.is_listed.Given as goal

abbrev pub invariant-loop-k : goal.invariant-loop-k
invariant-loop-k l =
    record {
      all : l.count ≡ count_of l.image Groups;
      left : l.rest ≡ drop (place_of l.image Groups l.k) l.image;
      none : listed l.part (policy_of l.image).groups ≡ listed l.part (drop l.k (policy_of l.image).groups);
    }
