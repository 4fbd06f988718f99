-- What `delivered` printed, from its parts.
use Rattle.std.proofs.Common.{◌≡◌, ◌⊎◌, inl, inr, subst, ℕ, List, Option, Result, Ok, Err, IfOk, IfErr, OnOk}
use Rattle.std.proofs.lemmas.Option.{IfSome_then}
use Rattle.std.specs.Prelude.{String, string_bytes}
use Rattle.std.specs.declared.alloc.Global.{Global}
use Rattle.std.specs.Io.KnownBytes.{Appends}
use Rattle.sms_files.specs.Inputs.{Told}
use Rattle.sms_files.specs.Output.{WritesFront}
use Rattle.sms_inbox.specs.Lines.{Spells}
use Rattle.sms_inbox.specs.declared.record.Record.{Record}
use Rattle.sms_journal.specs.declared.recovery.resuming.JournaledRun.{JournaledRun}
use Rattle.sms_send.specs.Delivered.{BeginsDelivered, DeliversBy, FailsDeliverFree, FailsInbox, IsBadInbox, IsRunAt, TellsDelivered, printed}
use Rattle.sms_send.specs.Faults.{output_failed}
use Rattle.sms_send.specs.Opened.{FailsReadingFile, OfFile}
use Rattle.sms_send.specs.PlainFiles.{sees}
use Rattle.sms_send.specs.declared.args.delivered_args.DeliveredArgs.{DeliveredArgs}
use Rattle.sms_send.specs.declared.faults.fault.Fault.{Fault}
use Rattle.sms_send.specs.declared.faults.fault.Fault.TheVariants.{OutOfMemory}
use Rattle.sms_send.proofs.Sendings.{beside}

-- what follows from a file's octets is of them
file_then : (finds : List ℕ → Option Told → Type 0) (name : List ℕ) (P Q : List ℕ → Type 0) → ((octets : List ℕ) → P octets → Q octets) → OfFile finds name P → OfFile finds name Q
file_then finds name P Q more (told, found, are) = (told, found, IfSome_then told are more)

pub delivers : (finds : List ℕ → Option Told → Type 0) (order : DeliveredArgs) (run : JournaledRun) (records rs : List Record) (old new : Option (List ℕ)) (r : Result ℕ Fault)
    → IsRunAt (sees order.refs finds) (string_bytes order.config) (string_bytes order.journal) run → OfFile finds (string_bytes order.inbox) (λ octets. Spells octets records) → rs ≡ records
    → OnOk r (Appends old new (printed order.ids rs run)) → IfOk r (λ status. DeliversBy finds order old new)
delivers finds order run records rs old new (Ok status) at spells same appends = (
  run,
  at,
  file_then finds (string_bytes order.inbox) (λ octets. Spells octets records) (TellsDelivered order.ids old new run)
      (λ octets s. (records, s, subst (λ (l : List Record). Appends old new (printed order.ids l run)) same appends)) spells,
)
delivers finds order run records rs old new (Err fault) at spells same appends = tt

pub fails_printing : (finds : List ℕ → Option Told → Type 0) (order : DeliveredArgs) (run : JournaledRun) (records rs : List Record) (old new : Option (List ℕ)) (r : Result ℕ Fault)
    → IsRunAt (sees order.refs finds) (string_bytes order.config) (string_bytes order.journal) run → OfFile finds (string_bytes order.inbox) (λ octets. Spells octets records) → rs ≡ records
    → IfErr r (λ fault. (fault ≡ OutOfMemory) ⊎ ((fault ≡ output_failed) × WritesFront old new (printed order.ids rs run))) → IfErr r (FailsDeliverFree finds order old new)
fails_printing finds order run records rs old new (Ok status) at spells same why = tt
fails_printing finds order run records rs old new (Err fault) at spells same (inl memory) = inl (inl memory)
fails_printing finds order run records rs old new (Err fault) at spells same (inr (out, front)) =
    inr (inr (
      out,
      (
        run,
        at,
        file_then finds (string_bytes order.inbox) (λ octets. Spells octets records) (BeginsDelivered order.ids old new run)
            (λ octets s. (records, s, subst (λ (l : List Record). WritesFront old new (printed order.ids l run)) same front)) spells,
      ),
    ))

-- the records of an inbox, and why there are none
pub spelled : (finds : List ℕ → Option Told → Type 0) (name items octets : List ℕ) (records : List Record) → OfFile finds name (λ bytes. items ≡ bytes) → octets ≡ items → Spells octets records
    → OfFile finds name (λ o. Spells o records)
spelled finds name items octets records are same spells = beside finds name items octets (λ o. Spells o records) are same spells

pub bad_inbox : (finds : List ℕ → Option Told → Type 0) (inbox : String Global) (items octets : List ℕ) (fault : Fault) → OfFile finds (string_bytes inbox) (λ bytes. items ≡ bytes) → octets ≡ items
    → (fault ≡ OutOfMemory) ⊎ IsBadInbox fault octets → FailsInbox finds inbox fault
bad_inbox finds inbox items octets fault are same (inl memory) = inl memory
bad_inbox finds inbox items octets fault are same (inr bad) = inr (inr (beside finds (string_bytes inbox) items octets (IsBadInbox fault) are same bad))

pub unread_inbox : (finds : List ℕ → Option Told → Type 0) (inbox : String Global) (fault : Fault) → (fault ≡ OutOfMemory) ⊎ FailsReadingFile finds inbox fault → FailsInbox finds inbox fault
unread_inbox finds inbox fault (inl memory) = inl memory
unread_inbox finds inbox fault (inr lost) = inr (inl lost)
