-- What meets the claims' terms, from the statement. Assumes nothing.
use Rattle.claims.specs.Promises.{Promises}
use Rattle.claims.specs.Terms.{TermsMet}
use Rattle.claims.proofs.Promises.{promises}
use Rattle.claims.proofs.ReadingTerms.{reading_met, adding_met}
use Rattle.claims.proofs.DecidingTerms.{deciding_met, ordering_met}
use Rattle.claims.proofs.RunningTerms.{running_met}
use Rattle.claims.proofs.NearingTerms.{nearing_met}
use Rattle.claims.proofs.BuildingTerms.{building_met}
use Rattle.claims.proofs.ReachingTerms.{reaching_met}
use Rattle.claims.proofs.SeparatingTerms.{separating_met}
use Rattle.claims.proofs.SwitchingTerms.{switching_met}
use Rattle.claims.proofs.ConvertingTerms.{converting_met}
use Rattle.claims.proofs.CallingTerms.{printing_met, calling_met}

pub terms_met : Promises → TermsMet
terms_met p =
    record {
      reading = reading_met p;
      adding = adding_met p;
      deciding = deciding_met p;
      ordering = ordering_met p;
      running = running_met p;
      nearing = nearing_met p;
      building = building_met p;
      reaching = reaching_met p;
      separating = separating_met p;
      switching = switching_met p;
      converting = converting_met p;
      printing = printing_met p;
      calling = calling_met p;
    }

pub all_met : TermsMet
all_met = terms_met promises
