-- What is printed of what is listed.
use Rattle.std.proofs.Common.{◌≡◌, ℕ, List, inr, subst}
use Rattle.std.specs.Prelude.{Option}
use Rattle.std.specs.Io.KnownBytes.{Appends}
use Rattle.sms_files.specs.Output.{WritesFront}
use Rattle.sms_journal.specs.declared.bill.listing.Columns.{Columns}
use Rattle.sms_journal.specs.declared.recovery.fault.RecoveryFault.{RecoveryFault}
use Rattle.sms_journal.specs.declared.recovery.resuming.JournaledRun.{JournaledRun}
use Rattle.sms_journal.specs.Faults.{output_failed}
use Rattle.sms_journal.specs.Listings.{IsFaultOfPrinting, IsFaultOfRunListing, IsListed, ListsRun, PrintsListing}
use Rattle.sms_journal.specs.Resuming.{IsRunOfJournal}

-- the octets that were written are the listing's
pub prints : (run : JournaledRun) (journal text octets : List ℕ) (listing : Columns) (old new : Option (List ℕ)) → octets ≡ text → IsListed run journal listing text → Appends old new octets → PrintsListing run journal listing old new
prints run journal text octets listing old new same is written = record { text = text; is = is; written = subst (λ (t : List ℕ). Appends old new t) same written }

pub cuts : (run : JournaledRun) (journal text octets : List ℕ) (listing : Columns) (old new : Option (List ℕ)) (fault : RecoveryFault) → fault ≡ output_failed → octets ≡ text → IsListed run journal listing text → WritesFront old new octets
    → IsFaultOfPrinting run journal listing old new fault
cuts run journal text octets listing old new fault failed same is front = inr (failed, record { text = text; is = is; front = subst (λ (t : List ℕ). WritesFront old new t) same front })

-- of a run that was read
pub lists : (config accounts messages : List ℕ) (tariff : Option (List ℕ)) (journal : List ℕ) (listing : Columns) (old new : Option (List ℕ)) (run : JournaledRun) → IsRunOfJournal config accounts messages tariff journal run
    → PrintsListing run journal listing old new → ListsRun config accounts messages tariff journal listing old new
lists config accounts messages tariff journal listing old new run is printed = record { run = run; is = is; prints = printed }

pub faults : (config accounts messages : List ℕ) (tariff : Option (List ℕ)) (journal : List ℕ) (listing : Columns) (old new : Option (List ℕ)) (run : JournaledRun) (fault : RecoveryFault) → IsRunOfJournal config accounts messages tariff journal run
    → IsFaultOfPrinting run journal listing old new fault → IsFaultOfRunListing config accounts messages tariff journal listing old new fault
faults config accounts messages tariff journal listing old new run fault is refused = inr (run, is, refused)
