use Rattle.std.proofs.Common.{inl, inr, sym, subst, true, IfErr, IfOk}
use Rattle.std.specs.Prelude.{Bool, option_map}
use Rattle.std.proofs.lemmas.Result.{IfErr-weaker}
use Rattle.sms_send.specs.Reading.{FailsReading, IsReadFrom}
use Rattle.sms_send.proofs.Reading.{read_whole}
use Rattle.sms_send.proofs.files.sending_input.read_plain.Goals as goal

pub returns-then-not-strict-clause-read : goal.returns-then-not-strict-clause-read
returns-then-not-strict-clause-read g c =
    subst (λ (b : Bool). IfOk c.read_files.result (IsReadFrom b b c.args.opened.config (g.F.Read.remaining c.args.opened.accounts) (g.F.Read.remaining c.args.opened.messages) (option_map g.F.Read.remaining c.args.opened.tariff))) (sym c.if-not-strict.true) c.read_files.ensures.read

pub returns-then-not-strict-clause-refused : goal.returns-then-not-strict-clause-refused
returns-then-not-strict-clause-refused g c =
    subst (λ (b : Bool). IfErr c.read_files.result (FailsReading b b c.args.opened.config (g.F.Read.remaining c.args.opened.accounts) (g.F.Read.remaining c.args.opened.messages) (option_map g.F.Read.remaining c.args.opened.tariff))) (sym c.if-not-strict.true) c.read_files.ensures.refused

pub returns-in-Err-clause-refused : goal.returns-in-Err-clause-refused
returns-in-Err-clause-refused g c =
    subst (λ (b : Bool). FailsReading b b c.args.opened.config (g.F.Read.remaining c.args.opened.accounts) (g.F.Read.remaining c.args.opened.messages) (option_map g.F.Read.remaining c.args.opened.tariff) c.in-Err.fault) (sym c.if-not-strict.false) (inl c.in-Err.ensures.refused)

pub returns-clause-read : goal.returns-clause-read
returns-clause-read g c =
    subst (λ (b : Bool). IfOk c.input_of.result (IsReadFrom b b c.args.opened.config (g.F.Read.remaining c.args.opened.accounts) (g.F.Read.remaining c.args.opened.messages) (option_map g.F.Read.remaining c.args.opened.tariff))) (sym c.if-not-strict.false)
    (read_whole c.input_of.result true c.args.opened.config _ _ _ c.in-Ok.named c.in-Ok.ensures.read c.input_of.ensures.read c.input_of.ensures.closed)

pub returns-clause-refused : goal.returns-clause-refused
returns-clause-refused g c =
    subst (λ (b : Bool). IfErr c.input_of.result (FailsReading b b c.args.opened.config (g.F.Read.remaining c.args.opened.accounts) (g.F.Read.remaining c.args.opened.messages) (option_map g.F.Read.remaining c.args.opened.tariff))) (sym c.if-not-strict.false)
    (IfErr-weaker c.input_of.result _ _ (λ fault fails. inr (c.in-Ok.named, c.in-Ok.ensures.read, fails)) c.input_of.ensures.refused)
