use Rattle.std.proofs.Common.{◌≡◌, ◌++◌, drop, sym, subst, string_bytes}
use Rattle.std.specs.Prelude.{OnOk}
use Rattle.sms_inbox.specs.Record.{record_text}
use Rattle.sms_inbox.specs.declared.record.Record.{Record}
use Rattle.sms_inbox.proofs.Walks.{other_unread}
use Rattle.sms_inbox.proofs.arrivals.write_body.Goals as goal

pub returns-in_default : goal.returns-in_default
returns-in_default c =
    subst (λ (r : Record). OnOk c.write_unread.result (string_bytes c.write_unread.new.text ≡ string_bytes c.args.text.now ++ record_text r))
    (sym (other_unread c.args.time c.args.bind c.args.body.now (drop 16 c.args.frame.now) c.in_default.not-Deliver)) c.write_unread.ensures
