use Rattle.std.proofs.Common.{◌≡◌, ◌∙◌, ◌<◌, sym, refl, inl, [], ◌∷◌, length, None, rules, arith}
use Rattle.std.specs.List.{AllZip}
use Rattle.std.specs.Prelude.{vec_len}
use Rattle.std.proofs.lemmas.Bool.{eqb-false}
use Rattle.csv.specs.Records.{fields_of}
use Rattle.sms_files.specs.Accounts.{AreAccounts, SaysAccount, accounts_fault, rest_fault}
use Rattle.sms_files.specs.Fields.{records_of}
use Rattle.sms_files.specs.Records.{TellsRecords, records_left}
use Rattle.sms_files.specs.declared.fault.Source.TheVariants.{Accounts}
use Rattle.sms_files.specs.declared.flaw.Flaw.TheVariants.{Header, Missing}
use Rattle.sms_files.proofs.Files.{told-empty, told-first}
use Rattle.sms_files.proofs.NewAccounts.{are-accounts, bad-header, no-accounts, tells-rest}
use Rattle.sms_files.proofs.Runs.{if_known, names-record, told_so}
use Rattle.sms_files.proofs.tables.accounts.read_accounts.Goals as goal

pub returns-then-not-branch-clause-faulty : goal.returns-then-not-branch-clause-faulty
returns-then-not-branch-clause-faulty g c =
    let remaining = g.R.Read.remaining in
    told-empty (λ rs. TellsRecords Accounts (accounts_fault rs) c.missing_record.result) (remaining c.args.input) (records_left remaining c.read_all-reader.result) c.in_ok-next_record.field-0
    (fields_of c.next_record.new.record) (records_left remaining c.next_record.new.reader) c.read_all-reader.ensures.whole c.in_ok-next_record.ensures.first c.if-not-branch.true
    (names-record Accounts 1 Missing (accounts_fault []) c.missing_record.result c.missing_record.ensures refl)

pub returns-then-not-is_pair-clause-faulty : goal.returns-then-not-is_pair-clause-faulty
returns-then-not-is_pair-clause-faulty g c =
    let remaining = g.R.Read.remaining in
    let r = fields_of c.next_record.new.record in
    let after = records_left remaining c.next_record.new.reader in
    let bad = sym c.is_pair.ensures ∙ c.if-not-is_pair.true in
    told-first (λ rs. TellsRecords Accounts (accounts_fault rs) c.bad_record.result) (λ rs. Unit {0}) (remaining c.args.input) (records_left remaining c.read_all-reader.result)
    c.in_ok-next_record.field-0 r after c.read_all-reader.ensures.whole c.in_ok-next_record.ensures.first c.if-not-branch.false
    (if_known after (λ rs. Unit {0}) (λ rs known. tt)) (λ rs h. names-record Accounts 1 Header (accounts_fault (r ∷ rs)) c.bad_record.result c.bad_record.ensures (bad-header r rs bad))

pub returns-then-is_empty-clause-faulty : goal.returns-then-is_empty-clause-faulty
returns-then-is_empty-clause-faulty g c =
    let remaining = g.R.Read.remaining in
    let r = fields_of c.next_record.new.record in
    let openings = c.in-Ok.openings.items in
    let good = sym c.is_pair.ensures ∙ c.if-not-is_pair.false in
    let none : length openings ≡ 0 = search rules in
    told-first (λ rs. TellsRecords Accounts (accounts_fault rs) c.missing_record-then-is_empty.result) (λ rs. AllZip SaysAccount rs openings × (rest_fault [] 1 rs ≡ None)) (remaining c.args.input)
    (records_left remaining c.read_all-reader.result) c.in_ok-next_record.field-0 r (records_left remaining c.next_record.new.reader)
    c.read_all-reader.ensures.whole c.in_ok-next_record.ensures.first c.if-not-branch.false
    c.in-Ok.ensures.accounts (λ rs h. names-record Accounts 2 Missing (accounts_fault (r ∷ rs)) c.missing_record-then-is_empty.result c.missing_record-then-is_empty.ensures (no-accounts r rs openings good none h.0))

pub returns-in-Ok-clause-accounts : goal.returns-in-Ok-clause-accounts
returns-in-Ok-clause-accounts g c =
    let remaining = g.R.Read.remaining in
    let r = fields_of c.next_record.new.record in
    let openings = c.in-Ok.openings.items in
    let good = sym c.is_pair.ensures ∙ c.if-not-is_pair.false in
    let some : 0 < length openings = omega (arith, eqb-false (vec_len c.in-Ok.openings) 0 (sym c.if-is_empty.ensures), c.in-Ok.openings.ok.0) in
    told-first (λ rs. AreAccounts rs openings) (λ rs. AllZip SaysAccount rs openings × (rest_fault [] 1 rs ≡ None)) (remaining c.args.input)
    (records_left remaining c.read_all-reader.result) c.in_ok-next_record.field-0 r (records_left remaining c.next_record.new.reader)
    c.read_all-reader.ensures.whole c.in_ok-next_record.ensures.first c.if-not-branch.false
    c.in-Ok.ensures.accounts (λ rs h. are-accounts r rs openings good some h.0 h.1)

pub returns-clause-faulty : goal.returns-clause-faulty
returns-clause-faulty g c =
    let remaining = g.R.Read.remaining in
    let r = fields_of c.next_record.new.record in
    let good = sym c.is_pair.ensures ∙ c.if-not-is_pair.false in
    told-first (λ rs. TellsRecords Accounts (accounts_fault rs) c.in-Err.fault) (λ rs. TellsRecords Accounts (rest_fault [] 1 rs) c.in-Err.fault) (remaining c.args.input)
    (records_left remaining c.read_all-reader.result) c.in_ok-next_record.field-0 r (records_left remaining c.next_record.new.reader)
    c.read_all-reader.ensures.whole c.in_ok-next_record.ensures.first c.if-not-branch.false
    c.in-Err.ensures.faulty (λ rs h. tells-rest r rs c.in-Err.fault good h)

pub returns-in_err-next_record-clause-faulty : goal.returns-in_err-next_record-clause-faulty
returns-in_err-next_record-clause-faulty g c =
    let remaining = g.R.Read.remaining in
    told_so c.from_residual.result _ _ c.from_residual.ensures.1
    (if_known (remaining c.args.input) (λ bytes. TellsRecords Accounts (accounts_fault (records_of bytes)) c.in_err-next_record.field-0.0) (λ bytes known. inl c.in_err-next_record.ensures.device))
