-- What the arguments of a sending on a ledger ask for, by those of a sending.
use Rattle.std.proofs.Common.{◌≡◌, ◌⊎◌, ◌∙◌, inr, sym, subst, true, codes, List, Option, None, Some, String, Global, Result, Ok, Err, IfErr, IfOk}
use Rattle.std.specs.Prelude.{is_some, string_bytes}
use Rattle.clap.specs.Words.{Row, first_of}
use Rattle.sms_send.specs.CommandLine.{AreRefusedArgs, AsksFor, AsksToNote, AsksToSend, IsLedgerAlone, RefusesFor}
use Rattle.sms_send.specs.Faults.{IsWords}
use Rattle.sms_send.specs.declared.args.job.Job.{Job}
use Rattle.sms_send.specs.declared.args.job.Job.TheVariants.{SendOn}
use Rattle.sms_send.specs.declared.args.job.Subcommand.TheVariants.{Loop, Send}
use Rattle.sms_send.specs.declared.args.send_args.JournalFile.{JournalFile}
use Rattle.sms_send.specs.declared.args.send_args.SendArgs.{SendArgs}
use Rattle.sms_send.specs.declared.faults.fault.Fault.{Fault}
use Rattle.sms_send.specs.declared.sending.target.TargetKind.TheVariants.{Loopback, Remote}

module _ (rows : List Row) (ledger : String Global) (order : SendArgs) (asks : AsksToSend rows order) (named : first_of (codes "ledger") rows ≡ Some (string_bytes ledger)) where
  pub sends_on : (r : Result Job Fault) → IfOk r (λ job. (job ≡ SendOn Remote ledger order) × (is_some order.journal ≡ true)) → IfOk r (AsksFor Send rows)
  sends_on (Ok job) (is, noted) = subst (AsksFor Send rows) (sym is) (asks, named, noted)
  sends_on (Err fault) is = tt

  pub tries_on : (r : Result Job Fault) → IfOk r (λ job. (job ≡ SendOn Loopback ledger order) × (is_some order.journal ≡ true)) → IfOk r (AsksFor Loop rows)
  tries_on (Ok job) (is, noted) = subst (AsksFor Loop rows) (sym is) (asks, named, noted)
  tries_on (Err fault) is = tt

pub alone : (rows : List Row) (ledger : String Global) (journal : Option JournalFile) (r : Result Job Fault) → AsksToNote rows journal → first_of (codes "ledger") rows ≡ Some (string_bytes ledger)
    → IfErr r (λ fault. IsWords fault × (journal ≡ None)) → IfErr r (RefusesFor (AreRefusedArgs rows ⊎ IsLedgerAlone rows))
alone rows ledger journal (Ok job) asks named is = tt
alone rows ledger journal (Err fault) asks named (words, none) = inr (words, inr ((λ lacks. let bad : Some (string_bytes ledger) ≡ None = sym named ∙ lacks in cc), (rw none at asks).0))
