-- Accounts: what their entries add up to, and the law of a row. An entry is whatever has an account, a cost and an
-- outcome: a request of the core, or the end of a segment.
use Rattle.std.specs.Prelude.{◌≡◌, ℕ, ◌+◌, ◌-◌, ◌==◌, List, sum_by, if◌then◌else◌}
use Rattle.sms_core.specs.declared.row.Row.{Row}
use Rattle.sms_core.specs.declared.request.Phase.{Phase}
use Rattle.sms_core.specs.declared.request.Phase.TheVariants.{Ready, Open, Charged, Refused, Unanswered, Unsent}

-- the row of an account without credits
abbrev pub no_row : Row
no_row = record { topped = 0; free = 0; reserved = 0; charged = 0; returned = 0 }

pub record Entry : Type 0 where
  pub account : ℕ
  pub cost : ℕ
  pub phase : Phase

-- a cost stays reserved until its outcome is known, and for good where no answer came
abbrev pub reserved_of : Phase → ℕ → ℕ
reserved_of Ready cost = cost
reserved_of Open cost = cost
reserved_of Charged cost = 0
reserved_of Refused cost = 0
reserved_of Unanswered cost = cost
reserved_of Unsent cost = 0

abbrev pub charged_of : Phase → ℕ → ℕ
charged_of Ready cost = 0
charged_of Open cost = 0
charged_of Charged cost = cost
charged_of Refused cost = 0
charged_of Unanswered cost = 0
charged_of Unsent cost = 0

abbrev pub returned_of : Phase → ℕ → ℕ
returned_of Ready cost = 0
returned_of Open cost = 0
returned_of Charged cost = 0
returned_of Refused cost = cost
returned_of Unanswered cost = 0
returned_of Unsent cost = cost

-- what one entry adds to an account
abbrev pub part : (Phase → ℕ → ℕ) → ℕ → Entry → ℕ
part f account e = if e.account == account then f e.phase e.cost else 0

-- what all entries add to an account
abbrev pub over : (Phase → ℕ → ℕ) → ℕ → List Entry → ℕ
over f account es = sum_by (part f account) es

-- the row of an account with these top-ups and entries
abbrev pub row_of : ℕ → ℕ → List Entry → Row
row_of topped account es =
    record {
      topped = topped;
      free = topped - over reserved_of account es - over charged_of account es;
      reserved = over reserved_of account es;
      charged = over charged_of account es;
      returned = over returned_of account es;
    }

-- the row law: what was topped up is free, reserved or charged
abbrev pub IsBalanced : Row → Type 0
IsBalanced r = r.topped ≡ r.free + r.reserved + r.charged
