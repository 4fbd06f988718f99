-- What a ledger keeps: a running balance for each account beside the requests.
use Rattle.std.specs.Prelude.{◌≡◌, ℕ, suc, ◌+◌, ◌-◌, ◌*◌, ◌^◌, ◌<◌, ◌≤◌, ◌==◌, List, map, length, sum_by, slice_index_or, if◌then◌else◌}
use Rattle.sms_core.specs.declared.request.Phase.{Phase}
use Rattle.sms_core.specs.declared.request.Phase.TheVariants.{Ready, Open, Charged, Refused, Unanswered, Unsent}
use Rattle.sms_core.specs.declared.request.Request.{Request}
use Rattle.sms_core.specs.Limits.{most_accounts, most_attempts, most_topped, largest_cost}
use Rattle.sms_core.specs.declared.row.Row.{Row}
use Rattle.sms_core.specs.Requests.{StandsAt}
use Rattle.sms_core.specs.Rows.{no_row, Entry, over, reserved_of, charged_of, returned_of}
use Rattle.sms_core.specs.State.{entry_of}

pub record Records : Type 0 where
  -- how often a request may be sent
  pub attempts : ℕ
  -- what each account was topped up with
  pub topped : List ℕ
  pub requests : List Request
  -- the links by which they are found
  pub links : List ℕ
  -- how many more requests surely fit without memory being taken
  pub room : ℕ

-- the row has the sums of its account
pub record IsRowOf (r : Row) (account : ℕ) (es : List Entry) : Type 0 where
  pub balance : r.free + r.reserved + r.charged ≡ r.topped
  pub limit : r.topped ≤ most_topped
  pub reserved : r.reserved ≡ over reserved_of account es
  pub charged : r.charged ≡ over charged_of account es
  pub returned : r.returned ≡ over returned_of account es

abbrev pub AreRows : List Row → List Request → Type 0
AreRows rows rs = (account : ℕ) → account < length rows → IsRowOf (slice_index_or rows account no_row) account (map entry_of rs)

-- 1 for the request of this name, else 0
abbrev pub is_named : ℕ → Request → ℕ
is_named id r = if r.id == id then 1 else 0

-- 1 for a phase in which a request may be sent, else 0
abbrev pub one_if_ready : Phase → ℕ
one_if_ready Ready = 1
one_if_ready Open = 0
one_if_ready Charged = 0
one_if_ready Refused = 0
one_if_ready Unanswered = 0
one_if_ready Unsent = 0

-- 1 for a phase in which a slot has the request, else 0
abbrev pub one_if_open : Phase → ℕ
one_if_open Ready = 0
one_if_open Open = 1
one_if_open Charged = 0
one_if_open Refused = 0
one_if_open Unanswered = 0
one_if_open Unsent = 0

-- 1 for the request of this name while a slot has it, else 0
abbrev pub is_open_named : ℕ → Request → ℕ
is_open_named id r = if r.id == id then one_if_open r.state.phase else 0

-- by how much a request is beyond its bounds: a name, an account, and attempts that leave one where it is ready
abbrev pub excess : ℕ → ℕ → Request → ℕ
excess most accounts r = (suc r.id - 2 ^ 32) + (suc r.state.account - accounts) + (r.state.attempts + one_if_ready r.state.phase - most)

abbrev pub cost_of : Request → ℕ
cost_of r = r.state.cost

pub record AreRequests (most accounts : ℕ) (rs : List Request) : Type 0 where
  pub distinct : (id : ℕ) → sum_by (is_named id) rs ≤ 1
  pub bounded : sum_by (excess most accounts) rs ≡ 0
  pub costs : sum_by cost_of rs ≤ largest_cost * length rs

pub record IsKept (most : ℕ) (rows : List Row) (rs : List Request) : Type 0 where
  pub some : 1 ≤ most
  pub few : most ≤ most_attempts
  pub accounts : length rows ≤ most_accounts
  pub rows_are : AreRows rows rs
  pub requests_are : AreRequests most (length rows) rs

-- a phase in which the credits of a request are reserved and may still move
abbrev pub IsLive : Phase → Type 0
IsLive Ready = Unit {0}
IsLive Open = Unit {0}
IsLive Charged = ⊥
IsLive Refused = ⊥
IsLive Unanswered = ⊥
IsLive Unsent = ⊥

-- a request after its next phase
abbrev pub became : ℕ → Phase → Request → Request
became attempts phase r = record { id = r.id; state = record { account = r.state.account; cost = r.state.cost; attempts = attempts; phase = phase } }

-- the request of this name is in a phase, at a place
pub record IsFound (rs : List Request) (id place : ℕ) (r : Request) (phase : Phase) : Type 0 where
  pub at : StandsAt rs place r
  pub named : r.id ≡ id
  pub in_phase : r.state.phase ≡ phase
