-- The kinds of ledgers that jobs take.
use Rattle.std.specs.Prelude.{Bool, true, false}
use Rattle.sms_devices.specs.declared.ledger.kind.LedgerKind.{LedgerKind}
use Rattle.sms_devices.specs.declared.ledger.kind.LedgerKind.TheVariants.{Paid, Trial}
use Rattle.sms_send.specs.declared.sending.target.TargetKind.{TargetKind}
use Rattle.sms_send.specs.declared.sending.target.TargetKind.TheVariants.{Loopback, Remote}

-- a trial has credits for trials, and what goes to a message centre those that are paid for
abbrev pub kind_for : TargetKind → LedgerKind
kind_for Loopback = Trial
kind_for Remote = Paid

-- and by a command's word
abbrev pub kind_said : Bool → LedgerKind
kind_said true = Trial
kind_said false = Paid
