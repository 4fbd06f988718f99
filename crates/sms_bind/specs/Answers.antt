-- What the octets that were read mean for a bind.
use Rattle.std.specs.Prelude.{◌≡◌, ℕ, ◌+◌, ◌<◌, List, [], ◌∷◌, Bool, true, false, Result, Ok, Err, ◌⊎◌}
use Rattle.sms_pdu.specs.declared.command.Mode.{Mode}
use Rattle.sms_pdu.specs.declared.tap.Tap.{Tap}
use Rattle.sms_pdu.specs.Devices.{faults_of, failures_of}
use Rattle.sms_pdu.specs.Faults.{Counts, CountsMany}
use Rattle.sms_pdu.specs.Header.{header_at_front}
use Rattle.sms_pdu.specs.Frame.{Division, IsBad}
use Rattle.sms_session.specs.declared.session.State.{State}
use Rattle.sms_session.specs.declared.session.OpenFault.{OpenFault}
use Rattle.sms_session.specs.declared.session.OpenFault.TheVariants.{Refused, NotBind}
use Rattle.sms_session.specs.Session.{opening}
use Rattle.sms_bind.specs.declared.bound.Bound.{Bound}
use Rattle.sms_bind.specs.declared.binding.BindFault.{BindFault}
use Rattle.sms_bind.specs.declared.binding.BindFault.TheVariants as fault

-- the most octets that are read for the answer: fewer than the longest frame has, and one read more
abbrev pub most_answer : ℕ
most_answer = 70000 + 4096

-- the reads that may give nothing; the last of them is a fault
abbrev pub most_tries : ℕ
most_tries = 600

-- the device's counts after a call that returns a failed read: one failure more, or none and 600 reads that gave nothing
abbrev pub Fails : {T : Type 0} → Tap T → Tap T → Type 0
Fails old new = Counts (failures_of old) (failures_of new) ⊎ ((failures_of new ≡ failures_of old) × CountsMany most_tries (faults_of old) (faults_of new))

-- the device's counts after any other call: no failure more, and fewer than 600 reads that gave nothing
abbrev pub Passes : {T : Type 0} → Tap T → Tap T → Type 0
Passes old new = (failures_of new ≡ failures_of old) × (faults_of new < faults_of old + most_tries)

-- whether the bind was written whole
abbrev pub sent_at : BindFault → Bool
sent_at (fault.Refused status) = true
sent_at fault.Closed = true
sent_at fault.NotSmpp = true
sent_at fault.Read = true
sent_at fault.Write = false
sent_at fault.OutOfMemory = false

abbrev pub is_sent : {B : Type 0} → Result B BindFault → Bool
is_sent (Ok b) = true
is_sent (Err e) = sent_at e

-- the first frame bound the session; the further frames and the rest are kept
abbrev pub Bounds : Mode → List ℕ → State → List (List ℕ) → List ℕ → Type 0
Bounds mode got state frames rest = (first : List ℕ) × Division got (first ∷ frames) rest × (opening mode (header_at_front first) ≡ Ok state)

-- the first frame didn't bind it
abbrev pub FirstSays : Mode → List ℕ → OpenFault → Type 0
FirstSays mode got why = (first : List ℕ) × (others : List (List ℕ)) × (rest : List ℕ) × Division got (first ∷ others) rest × (opening mode (header_at_front first) ≡ Err (mode, why))

abbrev pub fault_of : OpenFault → BindFault
fault_of (Refused status) = fault.Refused status
fault_of NotBind = fault.NotSmpp

-- no frame came
abbrev pub NoFrame : List ℕ → Type 0
NoFrame got = (rest : List ℕ) × Division got [] rest

abbrev pub BadFirst : List ℕ → Type 0
BadFirst got = (rest : List ℕ) × Division got [] rest × IsBad rest

abbrev pub FoundNone : List ℕ → BindFault → Type 0
FoundNone got (fault.Refused status) = ⊥
FoundNone got fault.Closed = NoFrame got
FoundNone got fault.NotSmpp = BadFirst got
FoundNone got fault.Read = NoFrame got
FoundNone got fault.Write = ⊥
FoundNone got fault.OutOfMemory = Unit {0}

abbrev pub Refuses : Mode → List ℕ → BindFault → Type 0
Refuses mode got (fault.Refused status) = FirstSays mode got (Refused status)
Refuses mode got fault.Closed = NoFrame got
Refuses mode got fault.NotSmpp = FirstSays mode got NotBind ⊎ BadFirst got
Refuses mode got fault.Read = NoFrame got
Refuses mode got fault.Write = got ≡ []
Refuses mode got fault.OutOfMemory = Unit {0}

abbrev pub Answers : Mode → List ℕ → Result Bound BindFault → Type 0
Answers mode got (Ok b) = Bounds mode got b.session b.frames b.framer
Answers mode got (Err e) = Refuses mode got e
