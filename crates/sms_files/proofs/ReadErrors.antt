-- Which errors a reader of records of any length can meet.
use Rattle.std.proofs.Common.{◌≡◌, refl, inl, inr, List, ℕ, Option, true, false}
use Rattle.csv.specs.Reading.{ExplainsRead, is_flexible}
use Rattle.csv.specs.declared.error.ErrorKind.{ErrorKind}
use Rattle.csv.specs.declared.error.ErrorKind.TheVariants as kind
use Rattle.csv.specs.declared.reader.Reader.{Reader}
use Rattle.sms_files.specs.Records.{IsDeviceError}

pub only-device : {R : Type 0} (rem : R → Option (List ℕ)) (old new : Reader R) (k : ErrorKind) → is_flexible old ≡ true → ExplainsRead rem old new false k → IsDeviceError k
only-device rem old new (kind.Io e) flexible why = inl refl
only-device rem old new kind.OutOfMemory flexible why = inr refl
only-device rem old new (kind.UnequalLengths pos expected len) flexible why = let bad = why.0 in cc
only-device rem old new (kind.Utf8 pos err) flexible why = let bad = why.0 in cc
only-device rem old new (kind.Serialize text) flexible why = absurd why
only-device rem old new (kind.Deserialize pos err) flexible why = absurd why
