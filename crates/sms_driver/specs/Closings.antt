-- Why a bind was closed to its workers.
use Rattle.std.specs.Prelude.{◌≡◌, ◌⊎◌, ℕ, true, false, List, [], ◌∷◌, Option, Some, None, IsSome, slice_get, take, drop}
use Rattle.sms_bind.specs.declared.down.DownCause.{DownCause}
use Rattle.sms_bind.specs.declared.down.DownCause.TheVariants as cause
use Rattle.sms_worker.specs.Closing.{IsClosed, NoneIsClosed}
use Rattle.sms_worker.specs.declared.state.closing.ClosedBy.{ClosedBy}
use Rattle.sms_worker.specs.declared.state.closing.ClosedBy.TheVariants.{Down, Stopped, Turns}
use Rattle.sms_worker.specs.Reasons.{ReasonState}
use Rattle.sms_worker.specs.ReasonsOf.{AllHaveReasons}
use Rattle.sms_worker.specs.Types.{MessageEnd}
use Rattle.sms_driver.specs.declared.bind_end.BindEnd.{BindEnd}
use Rattle.sms_driver.specs.declared.bind_end.BindClosing.{BindClosing}
use Rattle.sms_driver.specs.declared.bind_end.DownBy.{DownBy}
use Rattle.sms_driver.specs.declared.bind_end.DownBy.TheVariants.{Reader, Write}
use Rattle.sms_driver.specs.Answered.{ends_at}
use Rattle.sms_driver.specs.Seated.{of_bind}

abbrev pub down_by : DownCause → DownBy
down_by (cause.Reader why) = Reader
down_by cause.Write = Write

-- the cause that was found first stays
abbrev pub first_of : Option DownBy → DownCause → Option DownBy
first_of None why = Some (down_by why)
first_of (Some found) why = Some found

abbrev pub no_closing : BindClosing
no_closing = record { down = None; turns_over = false; stopped = false }

-- adds one more worker's cause
abbrev pub with_cause : BindClosing → Option ClosedBy → BindClosing
with_cause c None = c
with_cause c (Some (Down why)) = record c { down = first_of c.down why }
with_cause c (Some (Turns taken)) = record c { turns_over = true }
with_cause c (Some (Stopped refusal)) = record c { stopped = true }

abbrev pub with_all : BindClosing → List (Option ClosedBy) → BindClosing
with_all c [] = c
with_all c (x ∷ xs) = with_all (with_cause c x) xs

-- joins the workers' causes
abbrev pub closing_of : List (Option ClosedBy) → BindClosing
closing_of causes = with_all no_closing causes

-- the same of each bind and its workers
abbrev pub HaveClosings : ℕ → List (Option ClosedBy) → List BindClosing → Type 0
HaveClosings workers causes [] = Unit {0}
HaveClosings workers causes (c ∷ cs) = (c ≡ closing_of (take workers causes)) × HaveClosings workers (drop workers causes) cs

-- a worker that gives no cause refused no message as bind-closed
abbrev pub SaysWhy : Option ClosedBy → List MessageEnd → Type 0
SaysWhy why es = why ≡ None → NoneIsClosed es

-- the bind was closed to a worker
abbrev pub HasCause : BindClosing → Type 0
HasCause c = IsSome c.down ⊎ (c.turns_over ≡ true)

-- or a worker was to begin no further message
abbrev pub BeginsNoMore : BindClosing → Type 0
BeginsNoMore c = HasCause c ⊎ (c.stopped ≡ true)

-- if one of these messages was refused as bind-closed, there is a cause
abbrev pub IsExplained : BindClosing → List (List MessageEnd) → Type 0
IsExplained c ess = (w k : ℕ) (es : List MessageEnd) (e : MessageEnd) → slice_get ess w ≡ Some es → slice_get es k ≡ Some e → IsClosed e → BeginsNoMore c

-- each of these workers' parts that was given up was so for a reason that its worker lists, or the bind was closed, which has a cause then; and memory
-- was refused for each message that is refused for lack of it
abbrev pub IsReasoned : ℕ → BindClosing → List ReasonState → List (List MessageEnd) → Type 0
IsReasoned most c rs ess = (w : ℕ) (r : ReasonState) (es : List MessageEnd) → slice_get rs w ≡ Some r → slice_get ess w ≡ Some es → AllHaveReasons most (HasCause c) r es

-- the same of each bind, whose workers list these reasons
abbrev pub AreReasoned : ℕ → ℕ → List BindEnd → List ReasonState → List (List MessageEnd) → Type 0
AreReasoned most workers binds rs ess = (bind : ℕ) (b : BindEnd) → slice_get binds bind ≡ Some b → IsReasoned most b.closing (of_bind workers bind rs) (ends_at workers bind ess)

-- the same of each bind and the messages of its workers
abbrev pub AreExplained : ℕ → List BindEnd → List (List MessageEnd) → Type 0
AreExplained workers binds ess = (bind : ℕ) (b : BindEnd) → slice_get binds bind ≡ Some b → IsExplained b.closing (ends_at workers bind ess)
