use Rattle.std.proofs.Common.{arith, ◌≡◌, ◌≤◌, ◌<◌, ◌∙◌, refl, ap, inr, [], ◌+◌, length, None, Some}
use Rattle.std.specs.List.{AllZip}
use Rattle.std.proofs.lemmas.List.{length-append}
use Rattle.csv.specs.Records.{fields_of}
use Rattle.sms_core.specs.Limits.{most_accounts}
use Rattle.sms_book.specs.Openings.{names_of}
use Rattle.sms_files.specs.Accounts.{SaysAccount, rest_fault}
use Rattle.sms_files.specs.Records.{TellsRecords, records_left}
use Rattle.sms_files.specs.declared.fault.Source.TheVariants.{Accounts}
use Rattle.sms_files.specs.declared.flaw.Flaw.TheVariants.{OneTooMany}
use Rattle.sms_files.proofs.NewAccounts.{one-account, read-flaw, read-new, stops-bad, stops-many}
use Rattle.sms_files.proofs.Runs.{bad-next, device-tells, if_known, names-record, names-row, no-more, one-more, told_so}
use Rattle.sms_files.proofs.tables.accounts.read_openings.Goals as goal

pub returns-then-not-branch-clause-accounts : goal.returns-then-not-branch-clause-accounts
returns-then-not-branch-clause-accounts g c =
    let openings = c.loop-before.openings.items in
    if_known (records_left g.R.Read.remaining c.args.reader.now) (λ left. AllZip SaysAccount left openings × (rest_fault [] 1 left ≡ None)) (λ left known.
    no-more SaysAccount (rest_fault [] 1 left) (rest_fault (names_of openings) c.loop-before.before) left openings (records_left g.R.Read.remaining c.loop-before.reader)
    (records_left g.R.Read.remaining c.next_record.new.reader) c.in_ok-next_record.field-0 (fields_of c.next_record.new.record)
    (c.loop-before.invariant.rest left known) c.in_ok-next_record.ensures.first c.if-not-branch.true refl)

pub returns-in-Err-clause-faulty : goal.returns-in-Err-clause-faulty
returns-in-Err-clause-faulty g c =
    let before = c.loop-before.before in
    let openings = c.loop-before.openings.items in
    let r = fields_of c.next_record.new.record in
    let low : before ≤ most_accounts = omega arith in
    if_known (records_left g.R.Read.remaining c.args.reader.now) (λ left. TellsRecords Accounts (rest_fault [] 1 left) c.at.result) (λ left known.
    names-row Accounts (before + 1) c.in-Err.fault (rest_fault [] 1 left) c.at.result c.at.ensures (λ is is_flaw.
    bad-next SaysAccount (rest_fault [] 1 left) (rest_fault (names_of openings) before) (before + 1, is) left openings (records_left g.R.Read.remaining c.loop-before.reader)
    (records_left g.R.Read.remaining c.next_record.new.reader) c.in_ok-next_record.field-0 r
    (c.loop-before.invariant.rest left known) c.in_ok-next_record.ensures.first c.if-not-branch.false
    (λ rs. stops-bad (names_of openings) before r rs is low
    (read-flaw c.as_slice.result.now openings r c.opening_of.result c.in-Err.fault is c.as_slice.ensures.value c.opening_of.ensures c.in-Err.is is_flaw))))

pub loop-before-preserved : goal.loop-before-preserved
loop-before-preserved g c =
    let before = c.loop-before.before in
    let openings = c.loop-before.openings.items in
    let r = fields_of c.next_record.new.record in
    let pushed = c.in_ok-push-in-Ok.ensures.items in
    let low : before ≤ most_accounts = omega arith in
    let read = read-new c.as_slice.result.now openings r c.opening_of.result c.in-Ok.opening c.as_slice.ensures.value c.opening_of.ensures c.in-Ok.is in
    record {
      reads = c.in_ok-next_record.ensures.reads;
      count = omega (arith, simp length-append at (ap length pushed), c.loop-before.invariant.count);
      rest = λ left known.
          one-more SaysAccount (rest_fault [] 1 left) (rest_fault (names_of openings) before) (rest_fault (names_of c.push.new.list.items) (before + 1)) left openings c.push.new.list.items c.in-Ok.opening
          (records_left g.R.Read.remaining c.loop-before.reader) (records_left g.R.Read.remaining c.next_record.new.reader) c.in_ok-next_record.field-0 r
          (c.loop-before.invariant.rest left known) c.in_ok-next_record.ensures.first c.if-not-branch.false
          (λ rs. one-account openings c.push.new.list.items before r c.in-Ok.opening rs low read.0 read.1 pushed) read.1 pushed;
    }

pub returns-then-branch-clause-faulty : goal.returns-then-branch-clause-faulty
returns-then-branch-clause-faulty g c =
    let before = c.loop-before.before in
    let openings = c.loop-before.openings.items in
    let r = fields_of c.next_record-2.new.record in
    let place : before + 1 ≡ most_accounts + 2 = omega arith in
    let high : most_accounts < before = omega arith in
    if_known (records_left g.R.Read.remaining c.args.reader.now) (λ left. TellsRecords Accounts (rest_fault [] 1 left) c.bad_record.result) (λ left known.
    names-record Accounts (most_accounts + 2) OneTooMany (rest_fault [] 1 left) c.bad_record.result c.bad_record.ensures
    (bad-next SaysAccount (rest_fault [] 1 left) (rest_fault (names_of openings) before) (before + 1, OneTooMany) left openings (records_left g.R.Read.remaining c.loop-before.reader)
    (records_left g.R.Read.remaining c.next_record-2.new.reader) c.in_ok-next_record-2.field-0 r
    (c.loop-before.invariant.rest left known) c.in_ok-next_record-2.ensures.first c.if-branch.true
    (λ rs. stops-many (names_of openings) before r rs high)
    ∙ ap (λ n. Some (n, OneTooMany)) place))

pub returns-clause-accounts : goal.returns-clause-accounts
returns-clause-accounts g c =
    let openings = c.loop-before.openings.items in
    if_known (records_left g.R.Read.remaining c.args.reader.now) (λ left. AllZip SaysAccount left openings × (rest_fault [] 1 left ≡ None)) (λ left known.
    no-more SaysAccount (rest_fault [] 1 left) (rest_fault (names_of openings) c.loop-before.before) left openings (records_left g.R.Read.remaining c.loop-before.reader)
    (records_left g.R.Read.remaining c.next_record-2.new.reader) c.in_ok-next_record-2.field-0 (fields_of c.next_record-2.new.record)
    (c.loop-before.invariant.rest left known) c.in_ok-next_record-2.ensures.first c.if-branch.false refl)

pub returns-in_err-next_record-clause-faulty : goal.returns-in_err-next_record-clause-faulty
returns-in_err-next_record-clause-faulty g c =
    told_so c.from_residual.result _ _ c.from_residual.ensures.1
    (device-tells Accounts (records_left g.R.Read.remaining c.args.reader.now) (rest_fault [] 1) c.in_err-next_record.field-0.0 c.in_err-next_record.ensures.device)

pub returns-in_err-next_record-2-clause-faulty : goal.returns-in_err-next_record-2-clause-faulty
returns-in_err-next_record-2-clause-faulty g c =
    told_so c.from_residual-in_err-next_record-2.result _ _ c.from_residual-in_err-next_record-2.ensures.1
    (device-tells Accounts (records_left g.R.Read.remaining c.args.reader.now) (rest_fault [] 1) c.in_err-next_record-2.field-0.0 c.in_err-next_record-2.ensures.device)
