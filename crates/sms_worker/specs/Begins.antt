-- A message that is begun.
use Rattle.std.specs.Prelude.{◌≡◌, ℕ, zero, suc, ◌+◌, ◌<◌, ◌⊎◌, true, List, Option, None, Some, [], ◌∷◌, ◌++◌, length, string_bytes}
use Rattle.sms_core.specs.Rows.{reserved_of}
use Rattle.sms_book.specs.Name.{BookId}
use Rattle.sms_book.specs.Portions.{amounts_at}
use Rattle.sms_book.specs.Shares.{Share}
use Rattle.sms_book.specs.Tariffs.{cost_of}
use Rattle.sms_message.specs.declared.message.Message.{Message}
use Rattle.sms_message.specs.declared.rules.Rules.{Rules}
use Rattle.sms_worker.specs.Types.{MessageEnd, SegmentEnd}
use Rattle.sms_message.specs.Ends.{segments_in, total_in, credit}
use Rattle.sms_message.specs.declared.user_data.UserData.{UserData}
use Rattle.sms_message.specs.Results.{IsResultOf}
use Rattle.sms_message.specs.UserData.{message_data}
use Rattle.sms_message.specs.declared.ends.MessageRefusal.{MessageRefusal}
use Rattle.sms_message.specs.declared.ends.MessageRefusal.TheVariants.{BindClosed, NoCredit, OutOfMemory, TooLong}
use Rattle.sms_segment.specs.Message.{IsTooLong}
use Rattle.sms_message.specs.Submits.{coded_text, reference_of}
use Rattle.sms_worker.specs.declared.state.stop.MayBegin.{MayBegin}
use Rattle.sms_worker.specs.declared.steps.parts.NoMessageMemory.{NoMessageMemory}
use Rattle.sms_worker.specs.declared.steps.parts.NoParts.{NoParts}
use Rattle.sms_worker.specs.declared.steps.parts.NoParts.TheVariants as no
use Rattle.sms_worker.specs.Reasons.{RestsOn}
use Rattle.sms_message.specs.declared.ends.MessageResult.TheVariants.{Refused, Sent}
use Rattle.sms_message.specs.declared.ends.Outcome.TheVariants.{Unanswered}
use Rattle.sms_worker.specs.Credit.{IsCovered, LacksFor}
use Rattle.sms_worker.specs.PendingState.{PendingState, data_in}
use Rattle.sms_worker.specs.Tally.{TallyState}

-- a segment that waits for its first attempt
abbrev pub fresh : ℕ → SegmentEnd
fresh cost = record { cost = cost; attempts = []; outcome = Unanswered }

-- so many of them
abbrev pub ready : ℕ → ℕ → List SegmentEnd
ready cost zero = []
ready cost (suc n) = fresh cost ∷ ready cost n

-- a message was begun: its end, the user data that is kept of it, and what its share reserved for it
pub record Begins (rules : Rules) (m : Message) (old new : Share) (pending : List UserData) (e : MessageEnd) : Type 0 where
  pub index : e.index ≡ m.index
  pub result : IsResultOf rules (length old.amounts) m e.result
  pub pending_kept : (pending ≡ []) ⊎ (pending ≡ message_data rules m)
  pub count : ℕ
  pub some : 0 < count → 0 < cost_of rules.tariff (string_bytes m.dest)
  pub segments : segments_in e.result ≡ ready (cost_of rules.tariff (string_bytes m.dest)) count
  pub number : new.number ≡ old.number
  pub accounts : length new.amounts ≡ length old.amounts
  pub reserved : (i : ℕ) → (amounts_at new.amounts i).reserved ≡ (amounts_at old.amounts i).reserved + total_in (credit reserved_of i m.account) (segments_in e.result)
  pub charged : (i : ℕ) → (amounts_at new.amounts i).charged ≡ (amounts_at old.amounts i).charged
  pub returned : (i : ℕ) → (amounts_at new.amounts i).returned ≡ (amounts_at old.amounts i).returned

-- the end of a message that has these segments, and of one that is refused
abbrev pub end_sent : Message → List SegmentEnd → MessageEnd
end_sent m segments = record { index = m.index; result = Sent segments }

abbrev pub end_refused : Message → MessageRefusal → MessageEnd
end_refused m refusal = record { index = m.index; result = Refused refusal }

-- why a message has no parts
abbrev pub IsNoParts : Rules → Message → NoParts → Type 0
IsNoParts rules m no.TooLong = IsTooLong (coded_text m) (reference_of rules m)
IsNoParts rules m (no.Memory evidence) = evidence.message ≡ m.index

-- how it is refused then
abbrev pub Refuses : NoParts → MessageRefusal → Option NoMessageMemory → Type 0
Refuses no.TooLong refusal evidence = (refusal ≡ TooLong) × (evidence ≡ None)
Refuses (no.Memory no_memory) refusal evidence = (refusal ≡ OutOfMemory) × (evidence ≡ Some no_memory)

-- a message was begun: its end stands behind the others, and it is refused as bind-closed exactly where nothing permits it
pub record HasBegun (book : BookId) (rules : Rules) (m : Message) (permit : Option MayBegin) (old new : TallyState) (pending : PendingState) (no_memory : Option NoMessageMemory) : Type 0 where
  pub end : MessageEnd
  pub ends : new.ends ≡ old.ends ++ end ∷ []
  pub room : new.room ≡ old.room
  pub begins : Begins rules m old.share new.share (data_in pending) end
  pub closed : end.result ≡ Refused BindClosed → permit ≡ None
  pub if_none : permit ≡ None → end.result ≡ Refused BindClosed
  pub credit : end.result ≡ Refused NoCredit → LacksFor book rules old.share m
  pub covered : book.sealed ≡ true → IsCovered book.opening rules m end
  -- for lack of memory it is refused only with evidence
  pub memory : end.result ≡ Refused OutOfMemory → RestsOn m.index OutOfMemory no_memory
