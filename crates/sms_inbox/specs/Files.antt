-- An inbox's file, and what is known of octets whose deliver_sm are kept.
use Rattle.std.specs.Prelude.{ℕ, List, Option}
use Rattle.std.specs.Io.KnownBytes.{Appends}
use Rattle.std.specs.declared.io.ErrorKind.{ErrorKind}
use Rattle.sms_pdu.specs.Streams.{SomeAppended}
use Rattle.sms_inbox.specs.declared.file.InboxFile.{InboxFile}
use Rattle.sms_inbox.specs.declared.file.Kept.{Kept}
use Rattle.sms_inbox.specs.declared.file.Unkept.{Unkept}
use Rattle.sms_inbox.specs.Arrivals.{IsPage}

-- the octets whose deliver_sm are kept
abbrev pub stream_of : Kept → List ℕ
stream_of kept = kept.stream.now

-- how many deliver_sm these are
abbrev pub count_of : Kept → ℕ
count_of kept = kept.count

-- the octets whose deliver_sm couldn't be kept
abbrev pub unkept_of : Unkept → List ℕ
unkept_of unkept = unkept.stream.now

abbrev pub file_of : {F : Type 0} → InboxFile F → F
file_of inbox = inbox.file

-- why nothing more is written
abbrev pub failure_of : {F : Type 0} → InboxFile F → Option ErrorKind
failure_of inbox = inbox.failure

-- the file was given the lines of each deliver_sm among the whole frames of the stream, which came at this time on this bind: once, whole and in
-- order
pub record HasKept {F : Type 0} (contents : F → Option (List ℕ)) (time bind : ℕ) (stream : List ℕ) (count : ℕ) (old new : F) : Type 0 where
  pub page : List ℕ
  pub is : IsPage time bind stream page count
  pub given : Appends (contents old) (contents new) page

-- the file was given first octets of these lines at most, or all of them, which aren't known to be durable
pub record KeptInPart {F : Type 0} (contents : F → Option (List ℕ)) (time bind : ℕ) (stream : List ℕ) (old new : F) : Type 0 where
  pub page : List ℕ
  pub count : ℕ
  pub is : IsPage time bind stream page count
  pub given : SomeAppended (contents old) (contents new) page
