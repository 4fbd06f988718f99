-- A journal's file that is written to is still the file that was made.
use Rattle.std.proofs.Common.{ℕ, List, ◌++◌, Option}
use Rattle.std.specs.Io.KnownBytes.{Keeps, WriteAppends}
use Rattle.std.proofs.KnownBytes.{Appends-kept, Appends-trans}
use Rattle.std.specs.Prelude.{Result, Ok, Err, take}
use Rattle.sms_devices.specs.Journals.{FromMade}

pub made_kept : {F : Type 0} (contents : F → Option (List ℕ)) (made : F → Type 0) (old new : F) → FromMade contents made old → Keeps (contents old) (contents new) → FromMade contents made new
made_kept contents made old new was kept =
    record { first = was.first; is_made = was.is_made; lines = was.lines; given = Appends-kept (contents was.first) (contents old) (contents new) was.lines was.given kept }

pub made_written : {F E : Type 0} (contents : F → Option (List ℕ)) (made : F → Type 0) (old new : F) (result : Result ℕ E) (buf : List ℕ)
    → FromMade contents made old → WriteAppends (contents old) (contents new) result buf → FromMade contents made new
made_written contents made old new (Ok n) buf was grown =
    record { first = was.first; is_made = was.is_made; lines = was.lines ++ take n buf; given = Appends-trans (contents was.first) (contents old) (contents new) was.lines (take n buf) was.given grown }
made_written contents made old new (Err e) buf was kept = made_kept contents made old new was kept
