use Rattle.std.proofs.Common.{inl, inr, refl, subst}
use Rattle.std.specs.Prelude.{OnOk}
use Rattle.sms_send.specs.LedgerKinds.{kind_for}
use Rattle.std.proofs.lemmas.Result.{IfErr-weaker, IfOk-weaker}
use Rattle.sms_send.specs.PlainFiles.{sees}
use Rattle.sms_send.proofs.ConfigFiles.{early_at}
use Rattle.sms_send.proofs.LedgerPhases.{messages_at}
use Rattle.sms_send.proofs.LedgerSends.{fails_on, sends_on, without_config, without_inbox, without_messages}
use Rattle.sms_send.proofs.Starts.{memory_at}
use Rattle.sms_send.proofs.Telling.{told_so}
use Rattle.sms_send.proofs.jobs.ledger_send.ledger_send_job.Goals as goal

pub returns-in_err-read-clause-refused : goal.returns-in_err-read-clause-refused
returns-in_err-read-clause-refused g c = told_so c.from_residual.result _ _ c.from_residual.ensures.1 (without_config (g.R.JournalFiles.makes c.args.rt.now) (g.R.JournalFiles.refuses c.args.rt.now) (g.R.JournalFiles.holds c.args.rt.now) (sees c.args.order.refs (g.R.InputFiles.finds c.args.rt.now)) (g.R.Connects.tells c.args.rt.now) c.args.kind (g.R.LedgerFiles.holds_ledger c.args.rt.now) (g.R.LedgerFiles.lacks_ledger c.args.rt.now) g.R.LedgerFile.HeldFile.errs g.R.LedgerFile.HeldFile.octets g.R.LedgerFile.HeldFile.stored g.R.LedgerFile.HeldFile.opening g.R.LedgerFile.HeldFile.is_closed _ c.args.order _ _ _ _ c.in_err-read.ensures.refused)

pub returns-in_err-read-clause-phase : goal.returns-in_err-read-clause-phase
returns-in_err-read-clause-phase g c = told_so c.from_residual.result _ _ c.from_residual.ensures.1 (early_at _ _ c.requires.not_started c.in_err-read.ensures.early)

pub returns-in_err-read-clause-unwritten : goal.returns-in_err-read-clause-unwritten
returns-in_err-read-clause-unwritten g c = told_so c.from_residual.result _ _ c.from_residual.ensures.1 (λ other kept settled. refl)

pub returns-in_err-target-clause-refused : goal.returns-in_err-target-clause-refused
returns-in_err-target-clause-refused g c = told_so c.from_residual-in_err-target.result _ _ c.from_residual-in_err-target.ensures.1 (inr (inl c.in_err-target.ensures.refused))

pub returns-in_err-target-clause-phase : goal.returns-in_err-target-clause-phase
returns-in_err-target-clause-phase g c = told_so c.from_residual-in_err-target.result _ _ c.from_residual-in_err-target.ensures.1 (memory_at _ _ c.requires.not_started c.in_err-target.ensures.refused)

pub returns-in_err-target-clause-unwritten : goal.returns-in_err-target-clause-unwritten
returns-in_err-target-clause-unwritten g c = told_so c.from_residual-in_err-target.result _ _ c.from_residual-in_err-target.ensures.1 (λ other kept settled. refl)

pub returns-in_err-named-clause-refused : goal.returns-in_err-named-clause-refused
returns-in_err-named-clause-refused g c =
    told_so c.from_residual-in_err-named.result _ _ c.from_residual-in_err-named.ensures.1
    (without_messages (g.R.JournalFiles.makes c.args.rt.now) g.R.JournalFile.Write.contents (g.R.JournalFiles.refuses c.args.rt.now) (g.R.JournalFiles.holds c.args.rt.now) (sees c.args.order.refs (g.R.InputFiles.finds c.args.rt.now)) (g.R.Connects.tells c.args.rt.now) c.args.kind (g.R.LedgerFiles.holds_ledger c.args.rt.now) (g.R.LedgerFiles.lacks_ledger c.args.rt.now) g.R.LedgerFile.HeldFile.errs g.R.LedgerFile.HeldFile.octets g.R.LedgerFile.HeldFile.stored g.R.LedgerFile.HeldFile.opening g.R.LedgerFile.HeldFile.is_closed _ _ refl c.args.order c.in_ok-read.read c.in_ok-read.ensures.read c.in_ok-read.ensures.fields _ _ _ _ c.in_err-named.ensures.refused)

pub returns-in_err-named-clause-phase : goal.returns-in_err-named-clause-phase
returns-in_err-named-clause-phase g c =
    told_so c.from_residual-in_err-named.result _ _ c.from_residual-in_err-named.ensures.1 (messages_at _ c.requires.not_started (sees c.args.order.refs (g.R.InputFiles.finds c.args.rt.now)) c.in_ok-read.read.config.files _ c.in_err-named.ensures.refused)

pub returns-in_err-named-clause-unwritten : goal.returns-in_err-named-clause-unwritten
returns-in_err-named-clause-unwritten g c = told_so c.from_residual-in_err-named.result _ _ c.from_residual-in_err-named.ensures.1 (λ other kept settled. refl)

pub returns-in_err-inbox-clause-refused : goal.returns-in_err-inbox-clause-refused
returns-in_err-inbox-clause-refused g c =
    told_so c.from_residual-in_err-inbox.result _ _ c.from_residual-in_err-inbox.ensures.1
    (without_inbox (g.R.JournalFiles.makes c.args.rt.now) g.R.JournalFile.Write.contents (g.R.JournalFiles.refuses c.args.rt.now) (g.R.JournalFiles.holds c.args.rt.now) (sees c.args.order.refs (g.R.InputFiles.finds c.args.rt.now)) (g.R.Connects.tells c.args.rt.now) c.args.kind (g.R.LedgerFiles.holds_ledger c.args.rt.now) (g.R.LedgerFiles.lacks_ledger c.args.rt.now) g.R.LedgerFile.HeldFile.errs g.R.LedgerFile.HeldFile.octets g.R.LedgerFile.HeldFile.stored g.R.LedgerFile.HeldFile.opening g.R.LedgerFile.HeldFile.is_closed _ _ refl c.args.order c.in_ok-read.read c.in_ok-read.ensures.read c.in_ok-read.ensures.fields _ _ _ _ c.in_err-inbox.ensures.refused)

pub returns-in_err-inbox-clause-phase : goal.returns-in_err-inbox-clause-phase
returns-in_err-inbox-clause-phase g c = told_so c.from_residual-in_err-inbox.result _ _ c.from_residual-in_err-inbox.ensures.1 (early_at _ _ c.requires.not_started c.in_err-inbox.ensures.early)

pub returns-in_err-inbox-clause-unwritten : goal.returns-in_err-inbox-clause-unwritten
returns-in_err-inbox-clause-unwritten g c = told_so c.from_residual-in_err-inbox.result _ _ c.from_residual-in_err-inbox.ensures.1 (λ other kept settled. refl)

pub returns-clause-sent : goal.returns-clause-sent
returns-clause-sent g c =
    IfOk-weaker c.send_on.result _ _
    (λ status sends. sends_on (g.R.JournalFiles.makes c.args.rt.now) g.R.JournalFile.Write.contents (g.R.JournalFiles.refuses c.args.rt.now) (g.R.JournalFiles.holds c.args.rt.now) (sees c.args.order.refs (g.R.InputFiles.finds c.args.rt.now)) (g.R.Connects.tells c.args.rt.now) c.args.kind (g.R.LedgerFiles.holds_ledger c.args.rt.now) (g.R.LedgerFiles.lacks_ledger c.args.rt.now) g.R.LedgerFile.HeldFile.errs g.R.LedgerFile.HeldFile.octets g.R.LedgerFile.HeldFile.stored g.R.LedgerFile.HeldFile.opening g.R.LedgerFile.HeldFile.is_closed _ _ c.as_str-name.ensures.value c.args.order c.in_ok-read.read c.in_ok-read.ensures.read c.in_ok-read.ensures.fields c.send_on.new.start.begun (g.W.Write.contents c.args.output.now) (g.W.Write.contents c.send_on.new.output) c.in_ok-named.named c.in-Some.wanted status c.in_ok-named.ensures.files c.in-Some.is sends)
    c.send_on.ensures.sent

pub returns-clause-kind : goal.returns-clause-kind
returns-clause-kind g c = subst (λ name. OnOk c.send_on.result (g.R.LedgerFiles.has_kind c.args.rt.now name (kind_for c.args.kind))) c.as_str-name.ensures.value c.send_on.ensures.kind

pub returns-clause-refused : goal.returns-clause-refused
returns-clause-refused g c =
    IfErr-weaker c.send_on.result _ _
    (λ fault fails. fails_on (g.R.JournalFiles.makes c.args.rt.now) g.R.JournalFile.Write.contents (g.R.JournalFiles.refuses c.args.rt.now) (g.R.JournalFiles.holds c.args.rt.now) (sees c.args.order.refs (g.R.InputFiles.finds c.args.rt.now)) (g.R.Connects.tells c.args.rt.now) c.args.kind (g.R.LedgerFiles.holds_ledger c.args.rt.now) (g.R.LedgerFiles.lacks_ledger c.args.rt.now) g.R.LedgerFile.HeldFile.errs g.R.LedgerFile.HeldFile.octets g.R.LedgerFile.HeldFile.stored g.R.LedgerFile.HeldFile.opening g.R.LedgerFile.HeldFile.is_closed _ _ c.as_str-name.ensures.value c.args.order c.in_ok-read.read c.in_ok-read.ensures.read c.in_ok-read.ensures.fields c.send_on.new.start.begun (g.W.Write.contents c.args.output.now) (g.W.Write.contents c.send_on.new.output) c.in_ok-named.named c.in-Some.wanted fault c.in_ok-named.ensures.files c.in-Some.is fails)
    c.send_on.ensures.refused
