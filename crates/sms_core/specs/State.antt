-- What a world is: the whole state that the events of the core change.
use Rattle.std.specs.Prelude.{ℕ, ◌≤◌, ◌==◌, ◌&&◌, nat_lt, List, [], ◌∷◌, map, length, replicate, slice_index_or, Option, Some, None, if◌then◌else◌}
use Rattle.sms_core.specs.declared.mark.Mark.{Mark}
use Rattle.sms_core.specs.declared.mark.Mark.TheVariants.{Empty}
use Rattle.sms_core.specs.declared.request.Request.{Request}
use Rattle.sms_core.specs.declared.request.RequestState.{RequestState}
use Rattle.sms_core.specs.declared.row.Row.{Row}
use Rattle.sms_core.specs.Limits.{most_slots, most_accounts, most_attempts}
use Rattle.sms_core.specs.Holds.{weigh}
use Rattle.sms_core.specs.Rows.{Entry, row_of}

pub record State : Type 0 where
  -- how many slots the window has, and how often a request may be sent
  pub limit : ℕ
  pub attempts : ℕ
  -- what each account was topped up with
  pub topped : List ℕ
  -- the requests in order of reservation
  pub requests : List Request
  -- which worker has which slot
  pub holds : List (ℕ × ℕ)
  -- what each slot is used for; Empty where nobody has it
  pub marks : List Mark
  -- the next sequence number
  pub next : ℕ

-- the limits of a world: accounts, slots, attempts
pub record AreLimits (accounts limit attempts : ℕ) : Type 0 where
  pub an_account : 1 ≤ accounts
  pub few_accounts : accounts ≤ most_accounts
  pub a_slot : 1 ≤ limit
  pub few_slots : limit ≤ most_slots
  pub an_attempt : 1 ≤ attempts
  pub few_attempts : attempts ≤ most_attempts

-- the world before any event
abbrev pub new_world : ℕ → ℕ → ℕ → State
new_world accounts limit attempts =
    record {
      limit = limit;
      attempts = attempts;
      topped = replicate accounts 0;
      requests = [];
      holds = [];
      marks = replicate most_slots Empty;
      next = 1;
    }

-- what an account was topped up with, 0 where there is no such account
abbrev pub topped_of : State → ℕ → ℕ
topped_of w account = slice_index_or w.topped account 0

-- a request as an entry of its account
abbrev pub entry_of : Request → Entry
entry_of r = record { account = r.state.account; cost = r.state.cost; phase = r.state.phase }

-- an account's row: the sums over the requests
abbrev pub row_at : State → ℕ → Row
row_at w account = row_of (topped_of w account) account (map entry_of w.requests)

abbrev pub rows : State → ℕ → Option Row
rows w account = if nat_lt account (length w.topped) then Some (row_at w account) else None

-- the request of this name
abbrev pub find_request : ℕ → List Request → Option RequestState
find_request id [] = None
find_request id (r ∷ rs) = if r.id == id then Some r.state else find_request id rs

abbrev pub request_of : State → ℕ → Option RequestState
request_of w id = find_request id w.requests

-- the requests after a change of the one of this name
abbrev pub changed : ℕ → (RequestState → RequestState) → List Request → List Request
changed id f [] = []
changed id f (r ∷ rs) = (if r.id == id then record { id = r.id; state = f r.state } else r) ∷ changed id f rs

-- 1 for the pair of this worker and this slot, else 0
abbrev pub is_pair : ℕ → ℕ → ℕ × ℕ → ℕ
is_pair worker slot p = if (p.0 == worker) && (p.1 == slot) then 1 else 0

-- in how many pairs this worker has this slot
abbrev pub times_held : ℕ → ℕ → List (ℕ × ℕ) → ℕ
times_held worker slot holds = weigh (is_pair worker slot) holds

-- the worker that has the slot: the first pair's
abbrev pub find_holder : ℕ → List (ℕ × ℕ) → Option ℕ
find_holder slot [] = None
find_holder slot (p ∷ ps) = if p.1 == slot then Some p.0 else find_holder slot ps

abbrev pub holder_of : State → ℕ → Option ℕ
holder_of w slot = find_holder slot w.holds

-- the mark of a slot
abbrev pub mark_of : State → ℕ → Mark
mark_of w slot = slice_index_or w.marks slot Empty
