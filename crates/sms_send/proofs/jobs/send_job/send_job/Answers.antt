use Rattle.std.proofs.Common.{◌≡◌, inl, sym, subst, ap, Option, Some, None, IfOk, true, false}
use Rattle.std.specs.Prelude.{◌||◌, is_some, option_map}
use Rattle.std.proofs.lemmas.Result.{IfErr-weaker, IfOk-weaker}
use Rattle.sms_send.specs.Words.{bytes_of}
use Rattle.sms_send.specs.Noted.{FailsBegin, NotesEnd}
use Rattle.sms_send.specs.Reached.{centre_of}
use Rattle.sms_send.specs.declared.args.send_args.JournalFile.{JournalFile}
use Rattle.sms_send.specs.PlainFiles.{left_in, sees}
use Rattle.sms_send.proofs.ConfigFiles.{early_at}
use Rattle.sms_send.proofs.Noting.{ended_early, unwanted}
use Rattle.sms_send.proofs.SendJobs.{inbox_fails, input_fails, missing_fails, or_false, or_true, reading_fails, sends_by, unread_fails}
use Rattle.sms_send.proofs.Starts.{memory_at, missing_at, reading_at}
use Rattle.sms_send.proofs.jobs.send_job.send_job.Goals as goal

pub returns-in-None-clause-ended : goal.returns-in-None-clause-ended
returns-in-None-clause-ended g c = record {
  sent = IfOk-weaker c.run.result _ _
      (λ status sends. sends_by (sees c.args.order.refs (g.R.InputFiles.finds c.args.rt.now)) (g.R.Connects.tells c.args.rt.now) _ c.args.kind c.in_ok-read.read (centre_of c.in_ok-target.target) c.in_ok-opened.opened.config _ _ _ (bytes_of c.args.order.fields) c.args.order.again c.args.order.strict c.args.order.strict false _ c.in_ok-input-in-None.input _ _ status
      c.in_ok-read.ensures.read c.in_ok-read.ensures.fields (record { config_is = c.in_ok-opened.ensures.config; found = c.in_ok-opened.ensures.found }) c.in_ok-target.ensures.centre (or_false c.args.order.strict) (ap is_some c.in-None.is) c.in_ok-input-in-None.ensures.read sends)
      c.run.ensures.ended.sent;
  status = c.run.ensures.ended.status;
  started = c.run.ensures.ended.started;
  refused = IfErr-weaker c.run.result _ _
      (λ fault fails. input_fails (FailsBegin (g.R.JournalFiles.makes c.args.rt.now) (g.R.JournalFiles.refuses c.args.rt.now) (g.R.JournalFiles.holds c.args.rt.now)) (sees c.args.order.refs (g.R.InputFiles.finds c.args.rt.now)) (g.R.Connects.tells c.args.rt.now) c.args.kind c.args.order _ _ fault c.in_ok-read.read (centre_of c.in_ok-target.target) c.in_ok-opened.opened.config _ _ _ c.args.order.strict None c.in_ok-input-in-None.input
      c.in_ok-read.ensures.read c.in_ok-read.ensures.fields (record { config_is = c.in_ok-opened.ensures.config; found = c.in_ok-opened.ensures.found }) c.in_ok-target.ensures.centre c.in-None.is (or_false c.args.order.strict) c.in_ok-input-in-None.ensures.read fails)
      c.run.ensures.ended.refused;
  phase = c.run.ensures.ended.phase;
  unwritten = c.run.ensures.ended.unwritten;
}

pub returns-clause-ended : goal.returns-clause-ended
returns-clause-ended g c = record {
  sent = IfOk-weaker c.run_noted.result _ _
      (λ status sends. sends_by (sees c.args.order.refs (g.R.InputFiles.finds c.args.rt.now)) (g.R.Connects.tells c.args.rt.now) _ c.args.kind c.in_ok-read.read (centre_of c.in_ok-target.target) c.in_ok-opened.opened.config _ _ _ (bytes_of c.args.order.fields) c.args.order.again true c.args.order.strict true _ c.in_ok-noted-in-Some.noted.input _ _ status
      c.in_ok-read.ensures.read c.in_ok-read.ensures.fields (record { config_is = c.in_ok-opened.ensures.config; found = c.in_ok-opened.ensures.found }) c.in_ok-target.ensures.centre (or_true c.args.order.strict) (ap is_some c.in-Some.is) c.in_ok-noted-in-Some.ensures.read sends)
      c.run_noted.ensures.ended.sent;
  status = c.run_noted.ensures.ended.status;
  started = c.run_noted.ensures.ended.started;
  refused = IfErr-weaker c.run_noted.result _ _
      (λ fault fails. input_fails (FailsBegin (g.R.JournalFiles.makes c.args.rt.now) (g.R.JournalFiles.refuses c.args.rt.now) (g.R.JournalFiles.holds c.args.rt.now)) (sees c.args.order.refs (g.R.InputFiles.finds c.args.rt.now)) (g.R.Connects.tells c.args.rt.now) c.args.kind c.args.order _ _ fault c.in_ok-read.read (centre_of c.in_ok-target.target) c.in_ok-opened.opened.config _ _ _ true (Some c.in-Some.wanted) c.in_ok-noted-in-Some.noted.input
      c.in_ok-read.ensures.read c.in_ok-read.ensures.fields (record { config_is = c.in_ok-opened.ensures.config; found = c.in_ok-opened.ensures.found }) c.in_ok-target.ensures.centre c.in-Some.is (or_true c.args.order.strict) c.in_ok-noted-in-Some.ensures.read fails)
      c.run_noted.ensures.ended.refused;
  phase = c.run_noted.ensures.ended.phase;
  unwritten = c.run_noted.ensures.ended.unwritten;
}

pub returns-in_err-read-clause-ended : goal.returns-in_err-read-clause-ended
returns-in_err-read-clause-ended g c =
    ended_early c.from_residual.result _ _ _ _ _ _ c.from_residual.ensures.1
    (unread_fails (FailsBegin (g.R.JournalFiles.makes c.args.rt.now) (g.R.JournalFiles.refuses c.args.rt.now) (g.R.JournalFiles.holds c.args.rt.now)) (sees c.args.order.refs (g.R.InputFiles.finds c.args.rt.now)) (g.R.Connects.tells c.args.rt.now) c.args.kind c.args.order _ _ _ c.in_err-read.ensures.refused)
    (early_at _ _ c.requires.not_started c.in_err-read.ensures.early)

pub returns-in_err-target-clause-ended : goal.returns-in_err-target-clause-ended
returns-in_err-target-clause-ended g c =
    ended_early c.from_residual-in_err-target.result _ _ _ _ _ _ c.from_residual-in_err-target.ensures.1
    (inl (inl c.in_err-target.ensures.refused))
    (memory_at _ _ c.requires.not_started c.in_err-target.ensures.refused)

pub returns-in_err-inbox-clause-ended : goal.returns-in_err-inbox-clause-ended
returns-in_err-inbox-clause-ended g c =
    ended_early c.from_residual-in_err-inbox.result _ _ _ _ _ _ c.from_residual-in_err-inbox.ensures.1
    (inbox_fails (FailsBegin (g.R.JournalFiles.makes c.args.rt.now) (g.R.JournalFiles.refuses c.args.rt.now) (g.R.JournalFiles.holds c.args.rt.now)) (sees c.args.order.refs (g.R.InputFiles.finds c.args.rt.now)) (g.R.Connects.tells c.args.rt.now) c.args.kind c.args.order _ _ _ c.in_ok-read.read c.in_ok-read.ensures.read c.in_err-inbox.ensures.refused)
    (early_at _ _ c.requires.not_started c.in_err-inbox.ensures.early)

pub returns-in_err-opened-clause-ended : goal.returns-in_err-opened-clause-ended
returns-in_err-opened-clause-ended g c =
    ended_early c.from_residual-in_err-opened.result _ _ _ _ _ _ c.from_residual-in_err-opened.ensures.1
    (missing_fails (FailsBegin (g.R.JournalFiles.makes c.args.rt.now) (g.R.JournalFiles.refuses c.args.rt.now) (g.R.JournalFiles.holds c.args.rt.now)) (sees c.args.order.refs (g.R.InputFiles.finds c.args.rt.now)) (g.R.Connects.tells c.args.rt.now) c.args.kind c.args.order _ _ _ c.in_ok-read.read c.in_ok-read.ensures.read c.in_err-opened.ensures.refused)
    (missing_at (sees c.args.order.refs (g.R.InputFiles.finds c.args.rt.now)) _ _ _ c.requires.not_started c.in_err-opened.ensures.refused)

pub returns-in_err-input-in-None-clause-ended : goal.returns-in_err-input-in-None-clause-ended
returns-in_err-input-in-None-clause-ended g c =
    ended_early c.from_residual-in_err-input-in-None.result _ _ _ _ _ _ c.from_residual-in_err-input-in-None.ensures.1
    (reading_fails (FailsBegin (g.R.JournalFiles.makes c.args.rt.now) (g.R.JournalFiles.refuses c.args.rt.now) (g.R.JournalFiles.holds c.args.rt.now)) (sees c.args.order.refs (g.R.InputFiles.finds c.args.rt.now)) (g.R.Connects.tells c.args.rt.now) c.args.kind c.args.order _ _ _ c.in_ok-read.read c.in_ok-opened.opened.config ((left_in g.R.InputFile.Read.remaining) c.in_ok-opened.opened.accounts) ((left_in g.R.InputFile.Read.remaining) c.in_ok-opened.opened.messages) (option_map (left_in g.R.InputFile.Read.remaining) c.in_ok-opened.opened.tariff) c.args.order.strict c.in_ok-read.ensures.read (record { config_is = c.in_ok-opened.ensures.config; found = c.in_ok-opened.ensures.found }) (subst (λ (j : Option JournalFile). c.args.order.strict ≡ (c.args.order.strict || is_some j)) (sym c.in-None.is) (or_false c.args.order.strict)) c.in_err-input-in-None.ensures.refused)
    (reading_at _ c.args.order.strict c.args.order.strict c.in_ok-opened.opened.config ((left_in g.R.InputFile.Read.remaining) c.in_ok-opened.opened.accounts) ((left_in g.R.InputFile.Read.remaining) c.in_ok-opened.opened.messages) (option_map (left_in g.R.InputFile.Read.remaining) c.in_ok-opened.opened.tariff) _ c.requires.not_started c.in_err-input-in-None.ensures.refused)

pub returns-in_err-noted-in-Some-clause-ended : goal.returns-in_err-noted-in-Some-clause-ended
returns-in_err-noted-in-Some-clause-ended g c =
    ended_early c.from_residual-in_err-noted-in-Some.result _ _ _ _ _ _ c.from_residual-in_err-noted-in-Some.ensures.1
    (reading_fails (FailsBegin (g.R.JournalFiles.makes c.args.rt.now) (g.R.JournalFiles.refuses c.args.rt.now) (g.R.JournalFiles.holds c.args.rt.now)) (sees c.args.order.refs (g.R.InputFiles.finds c.args.rt.now)) (g.R.Connects.tells c.args.rt.now) c.args.kind c.args.order _ _ _ c.in_ok-read.read c.in_ok-opened.opened.config ((left_in g.R.InputFile.Read.remaining) c.in_ok-opened.opened.accounts) ((left_in g.R.InputFile.Read.remaining) c.in_ok-opened.opened.messages) (option_map (left_in g.R.InputFile.Read.remaining) c.in_ok-opened.opened.tariff) true c.in_ok-read.ensures.read (record { config_is = c.in_ok-opened.ensures.config; found = c.in_ok-opened.ensures.found }) (subst (λ (j : Option JournalFile). true ≡ (c.args.order.strict || is_some j)) (sym c.in-Some.is) (or_true c.args.order.strict)) c.in_err-noted-in-Some.ensures.refused)
    (reading_at _ true c.args.order.strict c.in_ok-opened.opened.config ((left_in g.R.InputFile.Read.remaining) c.in_ok-opened.opened.accounts) ((left_in g.R.InputFile.Read.remaining) c.in_ok-opened.opened.messages) (option_map (left_in g.R.InputFile.Read.remaining) c.in_ok-opened.opened.tariff) _ c.requires.not_started c.in_err-noted-in-Some.ensures.refused)

pub returns-in-None-clause-noted : goal.returns-in-None-clause-noted
returns-in-None-clause-noted g c = unwanted g.R.JournalFile.Write.contents (g.R.JournalFiles.makes c.args.rt.now) c.args.order.journal c.run.result c.in-None.is

pub returns-clause-noted : goal.returns-clause-noted
returns-clause-noted g c =
    subst (λ (j : Option JournalFile). IfOk c.run_noted.result (NotesEnd g.R.JournalFile.Write.contents (g.R.JournalFiles.makes c.args.rt.now) j)) (sym c.in-Some.is) c.run_noted.ensures.noted
