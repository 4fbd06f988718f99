-- Why there is no connection: the reason that an address gives, or that a host's name gives.
use Rattle.std.specs.Prelude.{◌≡◌, ◌⊎◌, ℤ, List, [], ◌∷◌, ◌++◌, Option, Some, None}
use Rattle.std.specs.IoError.{error_kind, raw_os_error}
use Rattle.std.specs.declared.io.Error.{Error}
use Rattle.std.specs.declared.io.ErrorKind.{ErrorKind}
use Rattle.std.specs.declared.io.ErrorKind.TheVariants as kind
use Rattle.sms_devices.specs.declared.transport.connecting.Unconnected.{Unconnected}
use Rattle.sms_devices.specs.declared.transport.connecting.Unconnected.TheVariants.{Refused, Unresolved, TimedOut, Unreachable, Other}

-- by the kind of an address's error
abbrev pub reason_of : ErrorKind → Unconnected
reason_of kind.ConnectionRefused = Refused
reason_of kind.TimedOut = TimedOut
reason_of kind.HostUnreachable = Unreachable
reason_of kind.NetworkUnreachable = Unreachable
reason_of kind.NetworkDown = Unreachable
reason_of _ = Other

-- of a name without addresses: an error of the system itself, which has a number, or of memory, lies with this machine; otherwise the name
-- wasn't resolved
abbrev pub reason_by : Option ℤ → ErrorKind → Unconnected
reason_by (Some number) k = reason_of k
reason_by None kind.OutOfMemory = Other
reason_by None _ = Unresolved

abbrev pub name_reason : Error → Unconnected
name_reason error = reason_by (raw_os_error error) (error_kind error)

-- of these addresses in order, none of which connects, it is the reason of the last; without any address the name isn't resolved
abbrev pub IsLastReason : {A : Type 0} → (A → Unconnected → Type 0) → List A → Unconnected → Type 0
IsLastReason {A} Says addresses why =
    ((addresses ≡ []) × (why ≡ Unresolved))
    ⊎ ((before : List A) × (last : A) × (addresses ≡ before ++ last ∷ []) × Says last why)
