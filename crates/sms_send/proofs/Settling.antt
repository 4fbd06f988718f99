-- The end of a run on a ledger.
use Rattle.std.proofs.Common.{◌≡◌, ◌⊎◌, ◌∙◌, ap, inl, inr, sym, subst, ℕ, Bool, true, List, Option, Some, None, Result, Ok, Err, IfErr, IfSome}
use Rattle.std.proofs.lemmas.Option.{IfSome_then}
use Rattle.std.specs.Prelude.{◌==◌, OnOk, if◌then◌else◌, is_ok, is_some}
use Rattle.std.specs.declared.io.ErrorKind.{ErrorKind}
use Rattle.sms_core.specs.declared.row.Row.{Row as RunRow}
use Rattle.sms_devices.specs.declared.ledger.failure.LedgerFailure.{LedgerFailure}
use Rattle.sms_driver.specs.declared.start.StartPhase.{StartPhase}
use Rattle.sms_send.specs.Faults.{unsettled_by}
use Rattle.sms_send.specs.LedgerSendings.{EndsOn, FailsReturns, FailsToSettle, IsSettled, ReturnsBooked, rows_due}
use Rattle.sms_send.specs.declared.faults.fault.Fault.{Fault}
use Rattle.sms_send.specs.declared.faults.fault.Fault.TheVariants.{Unsettled}
use Rattle.sms_send.specs.declared.faults.ledger_run.Unsettled.{Unsettled as WhyUnsettled}
use Rattle.sms_send.specs.declared.jobs.ledger_send.Debtor.{Debtor}
use Rattle.sms_send.specs.declared.sending.kept.Kept.{Kept}

-- what is kept is settled where what is due came back
settled : (returns : List RunRow → Type 0) (debtor : Debtor) (begun : StartPhase) (kept : Option Kept) → is_some kept ≡ true → IfSome (rows_due debtor begun kept) returns → IsSettled returns kept
settled returns debtor begun None some given = let bad = some in cc
settled returns debtor begun (Some kept) some given = λ none. subst (λ (n : ℕ). IfSome (if n == 0 then Some kept.rows.items else None) returns) none given

module _ {F : Type 0} (holds : List ℕ → F → Type 0) (lacks : List ℕ → LedgerFailure → Type 0) (errs : ErrorKind → Type 0) (octets stored : F → Option (List ℕ)) (opening : F → ℕ) (is_closed : F → Type 0) (ledger : List ℕ) (debtor : Debtor) (begun : StartPhase) (kept : Option Kept) (sent : Result ℕ Fault) where
  -- the sending was printed, and what came back is booked
  pub ended : (status : ℕ) → sent ≡ Ok status → is_some kept ≡ true → IfSome (rows_due debtor begun kept) (ReturnsBooked holds octets stored opening is_closed ledger debtor) → EndsOn holds lacks errs octets stored opening is_closed ledger debtor begun kept sent (Ok status)
  ended status is some given = record { ended = (is, settled _ debtor begun kept some given); failed = tt }

  -- or couldn't be
  pub unsettled : (status : ℕ) (why : Fault) (told : WhyUnsettled) (is_sent : Bool) → sent ≡ Ok status → is_sent ≡ is_ok sent → told ≡ unsettled_by why
      → FailsToSettle (FailsReturns holds lacks errs octets opening is_closed ledger debtor) (rows_due debtor begun kept) is_sent why → EndsOn holds lacks errs octets stored opening is_closed ledger debtor begun kept sent (Err (Unsettled told))
  unsettled status why told is_sent is same by fails =
      let printed : is_sent ≡ true = same ∙ ap is_ok is in
      record { ended = tt; failed = inr (status, is, why, ap Unsettled by, subst (λ (b : Bool). FailsToSettle (FailsReturns holds lacks errs octets opening is_closed ledger debtor) (rows_due debtor begun kept) b why) printed fails) }

  -- it failed, and stays the fault
  pub unsent : {T : Type 0} (fault : Fault) (back : Result T Fault) (is_sent : Bool) → sent ≡ Err fault → is_sent ≡ is_ok sent → OnOk back (IfSome (rows_due debtor begun kept) (ReturnsBooked holds octets stored opening is_closed ledger debtor))
      → IfErr back (FailsToSettle (FailsReturns holds lacks errs octets opening is_closed ledger debtor) (rows_due debtor begun kept) is_sent) → EndsOn holds lacks errs octets stored opening is_closed ledger debtor begun kept sent (Err fault)
  unsent fault (Ok done) is_sent is same given fails = record { ended = tt; failed = inl (is, IfSome_then (rows_due debtor begun kept) given (λ rows returns. inl returns)) }
  unsent fault (Err why) is_sent is same given (inl (memory, printed)) = let bad = sym printed ∙ same ∙ ap is_ok is in cc
  unsent fault (Err why) is_sent is same given (inr (rows, due, fails)) = record {
    ended = tt;
    failed = inl (is, subst (λ (o : Option (List RunRow)). IfSome o (λ rows. ReturnsBooked holds octets stored opening is_closed ledger debtor rows ⊎ ((why : Fault) × FailsReturns holds lacks errs octets opening is_closed ledger debtor rows why))) (sym due) (inr (why, fails)));
  }
