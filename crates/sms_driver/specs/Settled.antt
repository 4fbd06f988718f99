-- What all workers together give back.
use Rattle.std.specs.Prelude.{◌≡◌, ◌+◌, ℕ, List, [], ◌∷◌, length, true}
use Rattle.std.specs.List.{AllZip}
use Rattle.sms_core.specs.Rows.{reserved_of, charged_of, returned_of}
use Rattle.sms_book.specs.Name.{BookId}
use Rattle.sms_book.specs.Shares.{Share, AreAll}
use Rattle.sms_book.specs.Sums.{over_shares}
use Rattle.sms_message.specs.declared.message.Message.{Message}
use Rattle.sms_message.specs.declared.rules.Rules.{Rules}
use Rattle.sms_worker.specs.Types.{MessageEnd, SegmentEnd}
use Rattle.sms_message.specs.Ends.{credits, total}
use Rattle.sms_driver.specs.Deals.{dealt}
use Rattle.sms_worker.specs.Credit.{IsCovered}
use Rattle.sms_worker.specs.EndOf.{IsEndOf}

-- the sums over messages and their ends, list by list
abbrev pub totals : (Message → SegmentEnd → ℕ) → List (List Message) → List (List MessageEnd) → ℕ
totals f [] ess = 0
totals f (ms ∷ mss) [] = 0
totals f (ms ∷ mss) (es ∷ ess) = total f ms es + totals f mss ess

-- the shares hold the sums over the ends
pub record Summed (ms : List Message) (es : List MessageEnd) (shares : List Share) : Type 0 where
  pub reserved : (i : ℕ) → over_shares (λ a. a.reserved) i shares ≡ credits reserved_of i ms es
  pub charged : (i : ℕ) → over_shares (λ a. a.charged) i shares ≡ credits charged_of i ms es
  pub returned : (i : ℕ) → over_shares (λ a. a.returned) i shares ≡ credits returned_of i ms es

-- the ends are those of all messages, dealt out to the book's workers as the messages were; the shares are all of the book's, and hold the sums over the
-- ends; where the book is sealed, no message was begun that its account could never have paid
pub record AreSettled (book : BookId) (rules : Rules) (ms : List Message) (shares : List Share) (ess : List (List MessageEnd)) : Type 0 where
  pub es : List MessageEnd
  pub long : length es ≡ length ms
  pub dealt_is : ess ≡ dealt book.workers 0 es
  pub ends : AllZip (IsEndOf rules book.accounts) ms es
  pub covered : book.sealed ≡ true → AllZip (IsCovered book.opening rules) ms es
  pub sums : Summed ms es shares
  pub all : AreAll book.workers shares
