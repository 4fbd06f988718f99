use Rattle.std.proofs.Common.{◌≡◌, ◌∙◌, List, ℕ, ap, inr, refl}
use Rattle.sms_files.specs.Fields.{records_of}
use Rattle.sms_journal.specs.OfLedger.{accounts_in}
use Rattle.sms_ledger.specs.InMemory.{state_in}
use Rattle.sms_send.proofs.Telling.{told_so}
use Rattle.sms_send.proofs.jobs.ledger_send.noted_on.Goals as goal

pub returns-in_err-noted-clause-refused : goal.returns-in_err-noted-clause-refused
returns-in_err-noted-clause-refused g c =
    let are : c.in_ok-accounts.accounts.items ≡ accounts_in (state_in c.args.ledger.now) (records_of c.args.named.messages.items) = c.in_ok-accounts.ensures ∙ ap (λ (m : List ℕ). accounts_in (state_in c.args.ledger.now) (records_of m)) c.as_slice.ensures.value in
    told_so c.from_residual-in_err-noted.result _ _ c.from_residual-in_err-noted.ensures.1
    (inr (record { accounts = c.in_ok-accounts.accounts; messages = c.args.named.messages; tariff = c.args.named.tariff }, are, refl, refl, c.in_err-noted.ensures.refused))

pub returns-clause-read : goal.returns-clause-read
returns-clause-read g c = record {
  accounts_are = c.in_ok-accounts.ensures ∙ ap (λ (m : List ℕ). accounts_in (state_in c.args.ledger.now) (records_of m)) c.as_slice.ensures.value;
  files = record { accounts = c.in_ok-accounts.accounts; messages = c.args.named.messages; tariff = c.args.named.tariff };
  accounts_in_files = refl;
  messages = refl;
  tariff = refl;
  read = c.in_ok-noted.ensures.read;
  closed = c.in_ok-noted.ensures.closed;
  digests = c.in_ok-noted.ensures.digests;
}
