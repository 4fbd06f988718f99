use Rattle.std.proofs.Common.{inl, inr, subst, List, IfSome}
use Rattle.sms_book.specs.Openings.{names_of}
use Rattle.sms_book.specs.declared.opening.Opening.{Opening}
use Rattle.sms_files.specs.Fields.{records_of}
use Rattle.sms_files.specs.MessageRows.{AreMessages}
use Rattle.sms_files.proofs.Inputs.{has_accounts, has_messages}
use Rattle.sms_files.proofs.input.read_files.Goals as goal

pub returns-clause-read : goal.returns-clause-read
returns-clause-read g c =
    record {
      openings = c.in-Ok.ensures.accounts;
      messages_are = subst (λ (os : List Opening). IfSome (g.M.Read.remaining c.args.messages) (λ bytes. AreMessages (names_of os) (records_of bytes) c.in-Ok-read_messages.messages.items))
          c.as_slice.ensures.value c.in-Ok-read_messages.ensures.messages;
      tariff_is = c.in-Ok-tariff_in.ensures.tariff;
    }

pub returns-in-Err-clause-refused : goal.returns-in-Err-clause-refused
returns-in-Err-clause-refused g c = inl c.in-Err.ensures.faulty

pub returns-in-Err-read_messages-clause-refused : goal.returns-in-Err-read_messages-clause-refused
returns-in-Err-read_messages-clause-refused g c =
    let accounts = has_accounts _ c.in-Ok.openings.items c.in-Ok.ensures.accounts in
    inr (inl (accounts, c.in-Err-read_messages.ensures.faulty))

pub returns-in-Err-tariff_in-clause-refused : goal.returns-in-Err-tariff_in-clause-refused
returns-in-Err-tariff_in-clause-refused g c =
    let accounts = has_accounts _ c.in-Ok.openings.items c.in-Ok.ensures.accounts in
    let messages = has_messages _ _ c.in-Ok-read_messages.messages.items c.in-Ok-read_messages.ensures.messages in
    inr (inr (accounts, messages, c.in-Err-tariff_in.ensures.refused))
