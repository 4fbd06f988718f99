-- What is listed as it was asked for, with the references of the messages or without them.
use Rattle.std.proofs.Common.{◌≡◌, ℕ, Bool, true, false, List, Option, inl, inr, String, Global}
use Rattle.sms_journal.specs.declared.bill.listing.Columns.{Columns}
use Rattle.sms_journal.specs.declared.bill.listing.Columns.TheVariants.{Usual}
use Rattle.sms_journal.specs.declared.bill.listing.Listing.{Listing}
use Rattle.sms_send.specs.Listed.{AreWith, FailsAsked, FailsListing, ListsAsked, ListsRun}
use Rattle.sms_send.specs.Refs.{AsksBy, FailsRefs, IsWithoutRefs}
use Rattle.sms_send.specs.declared.faults.fault.Fault.{Fault}
use Rattle.sms_send.specs.declared.files.run_files.RunFiles.{RunFiles}

module _ (listing : Listing) (asked : Bool) (run : RunFiles) (old new : Option (List ℕ)) where
  pub usual : asked ≡ false → ListsRun run (Usual listing) old new → ListsAsked listing asked run old new
  usual e is = rw e is

  pub fails_usual : (fault : Fault) → asked ≡ false → FailsListing run (Usual listing) old new fault → FailsAsked listing asked run old new fault
  fails_usual fault e is = rw e is

  pub fails_refs : (fault : Fault) → asked ≡ true → FailsRefs run fault → FailsAsked listing asked run old new fault
  fails_refs fault e is = rw e (inl is)

  pub referred : (plain : RunFiles) (refs : List (String Global)) (columns : Columns) → asked ≡ true → IsWithoutRefs run plain refs → AreWith listing refs columns → ListsRun plain columns old new → ListsAsked listing asked run old new
  referred plain refs columns e without are is = rw e (plain, refs, without, columns, are, is)

  pub fails_referred : (plain : RunFiles) (refs : List (String Global)) (columns : Columns) (fault : Fault) → asked ≡ true → IsWithoutRefs run plain refs → AreWith listing refs columns → FailsListing plain columns old new fault
      → FailsAsked listing asked run old new fault
  fails_referred plain refs columns fault e without are is = rw e (inr (plain, refs, without, columns, are, is))

pub asked_without : (asked : Bool) (run : RunFiles) (holds : Type 0) (with_refs : List (String Global) → RunFiles → Type 0) → asked ≡ false → holds → AsksBy asked run holds with_refs
asked_without asked run holds with_refs e is = rw e is

pub asked_with : (asked : Bool) (run plain : RunFiles) (refs : List (String Global)) (holds : Type 0) (with_refs : List (String Global) → RunFiles → Type 0) → asked ≡ true → IsWithoutRefs run plain refs → with_refs refs plain → AsksBy asked run holds with_refs
asked_with asked run plain refs holds with_refs e without is = rw e (plain, refs, without, is)
