use Rattle.std.proofs.Common.{rules, ◌≡◌, ◌∙◌, List, Option, Result, ℕ, ap, subst, sym}
use Rattle.std.specs.Prelude.{IfErr, IfOk, option_copied}
use Rattle.sms_files.specs.declared.input.Input.{Input}
use Rattle.sms_journal.specs.Ahead.{tariff_by}
use Rattle.sms_journal.specs.Digests.{digests_of, keys_of}
use Rattle.sms_journal.specs.Files.{IsFaultOfFiles, Reads}
use Rattle.sms_journal.specs.declared.recovery.fault.RecoveryFault.{RecoveryFault}
use Rattle.sms_journal.proofs.recovery.reading.read_beside.Goals as goal

pub returns-in-Ok-clause-read : goal.returns-in-Ok-clause-read
returns-in-Ok-clause-read g c =
    let a = c.args in
    let given = c.parts_of-given.result in
    let found : IfOk c.join-ahead.result.1.1 (Reads a.config.now a.accounts.now a.messages.now (tariff_by given.0 given.1.now)) = c.join-ahead.ensures.second.1.0 in
    subst (λ (t : Option (List ℕ)). Reads a.config.now a.accounts.now a.messages.now t c.in-Ok.input) (sym c.parts_of-given.ensures)
    (subst (λ (r : Result Input RecoveryFault). IfOk r (Reads a.config.now a.accounts.now a.messages.now (tariff_by given.0 given.1.now))) c.in-Ok.is found)

pub returns-in-Ok-clause-ties : goal.returns-in-Ok-clause-ties
returns-in-Ok-clause-ties g c =
    let a = c.args in
    let digests : c.join-ahead.result.0 ≡ digests_of a.config.now a.accounts.now a.messages.now (option_copied a.tariff) =
    c.join-ahead.ensures.first ∙ ap (digests_of a.config.now a.accounts.now a.messages.now) (sym c.parts_of-given.ensures) in
    let keys : c.keys_of.result ≡ keys_of c.in-Ok.input.config = search rules in
    λ j. record { digests = digests j; keys = keys j }

pub returns-in-Ok-clause-ahead : goal.returns-in-Ok-clause-ahead
returns-in-Ok-clause-ahead g c = c.join-ahead.ensures.second.0

pub returns-in-Err-clause-refused : goal.returns-in-Err-clause-refused
returns-in-Err-clause-refused g c =
    let a = c.args in
    let given = c.parts_of-given.result in
    let found : IfErr c.join-ahead.result.1.1 (IsFaultOfFiles a.config.now a.accounts.now a.messages.now (tariff_by given.0 given.1.now)) = c.join-ahead.ensures.second.1.1 in
    subst (λ (t : Option (List ℕ)). IsFaultOfFiles a.config.now a.accounts.now a.messages.now t c.in-Err.fault) (sym c.parts_of-given.ensures)
    (subst (λ (r : Result Input RecoveryFault). IfErr r (IsFaultOfFiles a.config.now a.accounts.now a.messages.now (tariff_by given.0 given.1.now))) c.in-Err.is found)
