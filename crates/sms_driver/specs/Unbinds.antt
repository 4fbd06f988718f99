-- The result of a bind's unbind (SMPP 3.4 4.2.1), and why one is skipped.
use Rattle.std.specs.Prelude.{◌++◌, ◌≡◌, ◌≢◌, ◌+◌, ◌<◌, ◌≤◌, ℕ, Bool, true, List, [], ◌∷◌, length, Some, slice_get}
use Rattle.sms_core.specs.Limits.{top_number}
use Rattle.sms_pdu.specs.Grammar.{Spells}
use Rattle.sms_pdu.specs.declared.body.Body.TheVariants.{Unbind}
use Rattle.sms_bind.specs.Downs.{cause_of, IsDownAt}
use Rattle.sms_bind.specs.declared.down.Down.{Down as Seen}
use Rattle.sms_bind.specs.declared.down.DownMark.{DownMark}
use Rattle.sms_window.specs.declared.outcome.Closed.{Closed}
use Rattle.sms_window.specs.declared.view.View.{View}
use Rattle.sms_window.specs.Drawing.{HasDrawn}
use Rattle.sms_window.specs.Seats.{used_up}
use Rattle.sms_worker.specs.Limits.{most_draws}
use Rattle.sms_driver.specs.declared.binding.binds.DriverSeat.{DriverSeat}
use Rattle.sms_driver.specs.declared.binding.binds.SharedBind.{SharedBind}
use Rattle.sms_driver.specs.declared.ending.skipped.SkipReason.{SkipReason as Why}
use Rattle.sms_driver.specs.declared.ending.skipped.SkipReason.TheVariants.{Down, UsedUp, Contended, OutOfMemory, Broken}
use Rattle.sms_driver.specs.declared.ending.skipped.WasDown.{WasDown}
use Rattle.sms_driver.specs.declared.ending.unbind_result.UnbindResult.{UnbindResult}
use Rattle.sms_driver.specs.declared.ending.unbind_result.UnbindResult.TheVariants.{Idle, Sent, Failed, Skipped}

-- the octets spell the unbind with this number (SMPP 3.4 4.2.1)
abbrev pub SpellsUnbind : ℕ → List ℕ → Type 0
SpellsUnbind number octets = Spells (record { status = 0; number = number; body = Unbind }) octets

-- the line of this mark was seen down, for this cause
abbrev pub WasDownAt : DownMark → WasDown → Type 0
WasDownAt mark was = (seen : Seen) × IsDownAt mark seen × (was.cause ≡ cause_of seen)

-- the same if an unbind was skipped for that reason
abbrev pub IsOfMark : DownMark → UnbindResult → Type 0
IsOfMark mark u = (was : WasDown) → u ≡ Skipped (Down was) → WasDownAt mark was

-- what the seat did if an unbind was skipped: nothing if the line was down; it drew no number, since all are drawn or each try met another seat's
-- step; or it drew a number, and memory for its frame was refused or the wire was broken
abbrev pub IsWhy : View → Why → View → Type 0
IsWhy before (Down was) after = after ≡ before
IsWhy before (UsedUp all) after = HasDrawn before [] after × (all.last ≡ top_number) × (after.seen ≡ used_up)
IsWhy before (Contended none) after = HasDrawn before [] after × (before.seen + most_draws ≤ after.seen)
IsWhy before (OutOfMemory unmade) after = HasDrawn before (unmade.number ∷ []) after
IsWhy before (Broken untaken) after = HasDrawn before (untaken.number ∷ []) after

-- an unbind was written with the number that the seat drew, or it was skipped for such a reason
abbrev pub HasAsked : View → UnbindResult → View → Type 0
HasAsked before Idle after = ⊥
HasAsked before (Sent receipt) after = (number : ℕ) × SpellsUnbind number receipt × HasDrawn before (number ∷ []) after
HasAsked before (Failed receipt) after = (number : ℕ) × SpellsUnbind number receipt × HasDrawn before (number ∷ []) after
HasAsked before (Skipped why) after = IsWhy before why after

-- the octets of the unbind that was handed to the wire, if one was
abbrev pub handed_in : UnbindResult → List (List ℕ)
handed_in Idle = []
handed_in (Sent receipt) = receipt ∷ []
handed_in (Failed receipt) = receipt ∷ []
handed_in (Skipped why) = []

-- the seat's requests are that unbind
abbrev pub HasHanded : {N : Type 0} → DriverSeat N → Type 0
HasHanded s = s.requests ≡ handed_in s.unbind_result

-- an unbind was tried from this seat
abbrev pub HasTried : {N : Type 0} → DriverSeat N → Type 0
HasTried s = (before : View) × HasAsked before s.unbind_result s.seat.view

-- an unbind was tried once, from the seat as it was, and what was handed to the wire is one of its requests
abbrev pub Asks : {N : Type 0} → DriverSeat N → DriverSeat N → Type 0
Asks old new = HasAsked old.seat.view new.unbind_result new.seat.view × (new.requests ≡ old.requests ++ handed_in new.unbind_result)

-- the same from the seat at this place; the others are unchanged
abbrev pub AsksAt : {N : Type 0} → ℕ → List (DriverSeat N) → List (DriverSeat N) → Type 0
AsksAt {N} bind old new = (place : ℕ) (s t : DriverSeat N) → slice_get old place ≡ Some s → slice_get new place ≡ Some t → (place ≡ bind → Asks s t) × (place ≢ bind → t ≡ s)

-- the same from each seat before this place; the others are unchanged
abbrev pub AsksBefore : {N : Type 0} → ℕ → List (DriverSeat N) → List (DriverSeat N) → Type 0
AsksBefore {N} n old new = (place : ℕ) (s t : DriverSeat N) → slice_get old place ≡ Some s → slice_get new place ≡ Some t → (place < n → Asks s t) × (n ≤ place → t ≡ s)

-- the same from each seat
abbrev pub AsksEach : {N : Type 0} → List (DriverSeat N) → List (DriverSeat N) → Type 0
AsksEach old new = AsksBefore (length old) old new

-- a frame was handed to a wire; the wire was broken if it took none
abbrev pub IsHandedOver : Bool → ℕ → List ℕ → UnbindResult → Type 0
IsHandedOver broken number frame Idle = ⊥
IsHandedOver broken number frame (Sent receipt) = receipt ≡ frame
IsHandedOver broken number frame (Failed receipt) = receipt ≡ frame
IsHandedOver broken number frame (Skipped (Broken untaken)) = (untaken.number ≡ number) × (broken ≡ true)
IsHandedOver broken number frame (Skipped _) = ⊥

-- a bind's unbind, beside what the bind's window was closed with: its number is below the one that would have come next; if it has none, all
-- numbers were drawn, or at least as many as were tried
abbrev pub IsUnbound : UnbindResult → Closed → Type 0
IsUnbound Idle closed = ⊥
IsUnbound (Sent receipt) closed = (number : ℕ) × SpellsUnbind number receipt × (number < closed.next)
IsUnbound (Failed receipt) closed = (number : ℕ) × SpellsUnbind number receipt × (number < closed.next)
IsUnbound (Skipped (Down was)) closed = Unit {0}
IsUnbound (Skipped (UsedUp all)) closed = closed.next ≡ used_up
IsUnbound (Skipped (Contended none)) closed = most_draws ≤ closed.next
IsUnbound (Skipped (OutOfMemory unmade)) closed = unmade.number < closed.next
IsUnbound (Skipped (Broken untaken)) closed = untaken.number < closed.next

-- the unbind was written
abbrev pub IsSent : UnbindResult → Type 0
IsSent (Sent receipt) = Unit {0}
IsSent Idle = ⊥
IsSent (Failed receipt) = ⊥
IsSent (Skipped why) = ⊥

-- the same of one of the binds
abbrev pub IsOneSent : {N : Type 0} → List (DriverSeat N) → Type 0
IsOneSent {N} seats = (place : ℕ) × (s : DriverSeat N) × (slice_get seats place ≡ Some s) × IsSent s.unbind_result

-- no answer is awaited: the bind's unbind wasn't written, or its line was seen down
abbrev pub IsDone : {N W : Type 0} → SharedBind N W → DriverSeat N → Type 0
IsDone shared s = IsSent s.unbind_result → (seen : Seen) × IsDownAt shared.line.down seen

-- the same of each bind before this place
abbrev pub AreDone : {N W : Type 0} → ℕ → List (SharedBind N W) → List (DriverSeat N) → Type 0
AreDone {N} {W} n binds seats = (place : ℕ) (shared : SharedBind N W) (s : DriverSeat N) → place < n → slice_get binds place ≡ Some shared → slice_get seats place ≡ Some s → IsDone shared s
