-- A journal as it goes to its file, and the requests that are noted in it.
use Rattle.std.specs.Prelude.{◌≡◌, ◌≤◌, ◌<◌, ◌+◌, ◌++◌, ◌⊎◌, ℕ, Bool, true, false, List, Option, Some, None, String, if◌then◌else◌}
use Rattle.std.specs.Io.KnownBytes.{Appends}
use Rattle.std.specs.Option.{is_some}
use Rattle.std.specs.String.{string_bytes, string_capacity, string_len}
use Rattle.std.specs.declared.alloc.Global.{Global}
use Rattle.std.specs.declared.io.ErrorKind.{ErrorKind}
use Rattle.std.specs.declared.io.ErrorKind.TheVariants as kind
use Rattle.sms_journal.specs.declared.notes.note.Note.{Note}
use Rattle.sms_journal.specs.declared.notes.note.Note.TheVariants.{End, Sent, Unsent}
use Rattle.sms_journal.specs.Lines.{IsU64}
use Rattle.sms_journal.specs.Text.{note_text}
use Rattle.sms_devices.specs.declared.journal.Journal.{Journal}
use Rattle.sms_devices.specs.declared.journal.lines.Lines.{Lines}
use Rattle.sms_devices.specs.declared.journal.failure.JournalFailure.{JournalFailure}
use Rattle.sms_devices.specs.declared.journal.failure.JournalFailure.TheVariants as why
use Rattle.sms_devices.specs.declared.journal.WaitsFor.{WaitsFor}
use Rattle.sms_devices.specs.declared.journal.WaitsFor.TheVariants.{Disk, File, Nothing}

-- the notes that no thread has taken to the file yet
abbrev pub waiting_lines : Lines → List ℕ
waiting_lines lines = string_bytes lines.waiting

-- as many octets more would take memory of their own, or the last number is used up
abbrev pub HasNoRoom : Lines → ℕ → Type 0
HasNoRoom lines more = (string_capacity lines.waiting < string_len lines.waiting + more) ⊎ (lines.count ≡ 18446744073709551615)

-- the lines once the journal has failed for a reason; its first one is kept
abbrev pub failed_for : JournalFailure → Lines → Lines
failed_for reason lines = if is_some lines.failure then lines else record lines { failure = Some reason }

-- notes that this journal has let out are durable
abbrev pub is_durable : {F : Type 0} → Journal F → Bool
is_durable journal = journal.is_synced

-- the name of the sign by which the run of this journal is asked to stop
abbrev pub stop_sign_of : {F : Type 0} → Journal F → Option (String Global)
stop_sign_of journal = journal.stop.sign

-- what each write to a connection waits for in a run with a journal or without
abbrev pub wait_for : {F : Type 0} → Option (Journal F) → WaitsFor
wait_for None = Nothing
wait_for (Some journal) = if journal.is_synced then Disk else File

-- a file was given lines, and the last is the note that a run has ended with this status
pub record HasEnded {F : Type 0} (contents : F → Option (List ℕ)) (status : ℕ) (file : F) : Type 0 where
  pub before : F
  pub lines : List ℕ
  pub time : ℕ
  pub small : IsU64 time
  pub given : Appends (contents before) (contents file) (lines ++ note_text time (End status))

-- the note of a worker's request for the part at this place of a message; parts are counted from 1
abbrev pub request_note : ℕ → ℕ → ℕ → ℕ → Note
request_note worker number message place = Sent (record { worker = worker; number = number }) message (place + 1)

-- the note that a worker's request was not sent after all
abbrev pub unsent_note : ℕ → ℕ → Note
unsent_note worker number = Unsent (record { worker = worker; number = number })

-- a note can hold the numbers of a worker and of a part
abbrev pub HasRoom : ℕ → ℕ → Type 0
HasRoom worker place = (worker ≤ 4294967295) × (place + 1 ≤ 255)

-- why a file fails with an error of a kind
abbrev pub failure_of : ErrorKind → JournalFailure
failure_of kind.OutOfMemory = why.OutOfMemory
failure_of kind.StorageFull = why.StorageFull
failure_of kind.QuotaExceeded = why.QuotaExceeded
failure_of kind.FileTooLarge = why.FileTooLarge
failure_of kind.ReadOnlyFilesystem = why.ReadOnly
failure_of _ = why.Other

-- whether a note is made: a run without a journal has none to make, a note that can't hold its numbers isn't made, and any other is where the
-- journal says so
abbrev pub IsMadeIn : {J : Type 0} → (J → Note → Bool → Type 0) → Option J → Option Note → Bool → Type 0
IsMadeIn makes None given made = made ≡ true
IsMadeIn makes (Some journal) None made = made ≡ false
IsMadeIn makes (Some journal) (Some given) made = makes journal given made

-- a file was made so, and was only written to since
pub record FromMade {F : Type 0} (contents : F → Option (List ℕ)) (made : F → Type 0) (file : F) : Type 0 where
  pub first : F
  pub is_made : made first
  pub lines : List ℕ
  pub given : Appends (contents first) (contents file) lines
