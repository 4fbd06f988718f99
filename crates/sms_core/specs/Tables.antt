-- What a world's tables stand for, and how they hang together.
use Rattle.std.specs.Prelude.{◌≡◌, ℕ, suc, ◌≤◌, ◌==◌, Bool, true, false, IsTrue, List, sum_by, if◌then◌else◌}
use Rattle.sms_core.specs.declared.event.Event.{Event}
use Rattle.sms_core.specs.declared.event.Event.TheVariants.{TopUp, Reserve, Claim, Post, Respond, Settle, Expire, Discard, Release}
use Rattle.sms_core.specs.declared.mark.Mark.{Mark}
use Rattle.sms_core.specs.declared.mark.Mark.TheVariants.{Empty, Open, Replied}
use Rattle.sms_core.specs.declared.request.Request.{Request}
use Rattle.sms_core.specs.declared.tables.Tables.{Tables}
use Rattle.sms_core.specs.Limits.{most_slots, top_number}
use Rattle.sms_core.specs.Ledger.{is_open_named}
use Rattle.sms_core.specs.State.{State}

abbrev pub state_of : Tables → State
state_of t =
    record {
      limit = t.limit;
      attempts = t.ledger.attempts;
      topped = t.ledger.topped;
      requests = t.ledger.requests;
      holds = t.slots.holds;
      marks = t.slots.marks;
      next = t.next;
    }

-- 1 for the mark of a slot that has this request, else 0
abbrev pub is_marked : ℕ → Mark → ℕ
is_marked id Empty = 0
is_marked id (Open request number) = if request == id then 1 else 0
is_marked id (Replied request number status nack) = if request == id then 1 else 0

-- each open request has one slot, and each slot that is used an open request
abbrev pub AreMarks : List Request → List Mark → Type 0
AreMarks rs ms = (id : ℕ) → sum_by (is_open_named id) rs ≡ sum_by (is_marked id) ms

pub record IsSound (t : Tables) : Type 0 where
  pub limit : t.limit ≤ most_slots
  pub next : t.next ≤ suc top_number
  pub marks : AreMarks t.ledger.requests t.slots.marks

-- whether the event may need memory
abbrev pub takes_memory : Event → Bool
takes_memory (TopUp account amount) = false
takes_memory (Reserve request account cost) = true
takes_memory (Claim worker slot) = false
takes_memory (Post worker slot request) = false
takes_memory (Respond number status nack) = false
takes_memory (Settle worker slot) = false
takes_memory (Expire worker slot) = false
takes_memory (Discard request) = false
takes_memory (Release worker slot) = false

abbrev pub TakesMemory : Event → Type 0
TakesMemory event = IsTrue (takes_memory event)
