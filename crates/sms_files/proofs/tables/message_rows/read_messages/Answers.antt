use Rattle.sms_book.specs.Openings.{names_of}
use Rattle.sms_files.specs.Fields.{records_of}
use Rattle.sms_files.specs.Messages.{message_flaw, messages_header_flaw, most_messages}
use Rattle.sms_files.specs.Rows.{AreRows}
use Rattle.sms_files.specs.MessageRows.{AreMessages, HasFields}
use Rattle.sms_files.proofs.Addressing.{messages-are}
use Rattle.sms_files.proofs.Runs.{at_known, if_known}
use Rattle.sms_files.proofs.tables.message_rows.read_messages.Goals as goal

pub returns-clause-messages : goal.returns-clause-messages
returns-clause-messages g c =
    let names = names_of c.args.openings.now in
    let input = g.R.Read.remaining c.args.input in
    let rows = c.in_ok-rows.rows.items in
    let messages = c.in_ok-addressed.field-0.items in
    if_known input (λ bytes. AreMessages names (records_of bytes) messages) (λ bytes known.
    messages-are names (records_of bytes) rows messages
    (at_known input (λ b. AreRows messages_header_flaw message_flaw HasFields most_messages (records_of b) rows) bytes c.in_ok-rows.ensures.rows known) c.in_ok-addressed.ensures)
