use Rattle.sms_files.proofs.tables.quoting.check_quotes.Goals as goal

pub returns-then-ends_quoted-clause-refused : goal.returns-then-ends_quoted-clause-refused
returns-then-ends_quoted-clause-refused c = (c.ends_quoted.ensures.0 c.if-ends_quoted.true, rw c.messages.ensures at c.quoted_record.ensures)
