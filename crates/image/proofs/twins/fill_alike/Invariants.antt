-- `fill_alike` meets its contract: the groups before are filed by their keys, and their slots filled. Assumes nothing.
use mathlib.Core.Path.{◌≡◌}
use lib.ListN.{length}
use Rattle.format.specs.Policy.{policy_of}
use Rattle.image.specs.Inner.Alike.{Filed, Fills}
use Rattle.image.proofs.twins.fill_alike.Given as goal

abbrev pub invariant-loop-k : goal.invariant-loop-k
invariant-loop-k l =
    record {
      heads : length l.heads ≡ 1024;
      before : length l.before ≡ 256;
      filed : Filed (policy_of l.image).groups l.k l.heads l.before;
      filled : Fills (policy_of l.image).groups l.k l.initial.alike l.alike;
    }
