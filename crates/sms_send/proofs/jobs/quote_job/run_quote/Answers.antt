use Rattle.std.proofs.Common.{inl}
use Rattle.std.specs.Prelude.{option_map}
use Rattle.std.proofs.lemmas.Result.{IfErr-weaker, on_ok_weaker}
use Rattle.sms_send.proofs.Quoting.{config_fails, octets_fail, octets_front, octets_quoted, read_is_no_output}
use Rattle.sms_send.proofs.jobs.quote_job.run_quote.Goals as goal

pub returns-in-Ok-clause-quoted : goal.returns-in-Ok-clause-quoted
returns-in-Ok-clause-quoted g c =
    on_ok_weaker c.quote_files.result (octets_quoted c.args.config.now c.in-Ok.parsed (g.A.Read.remaining c.args.accounts) (g.M.Read.remaining c.args.messages) (option_map g.T.Read.remaining c.args.tariff) _ _ _ _ _ c.in-Ok.ensures.config) c.quote_files.ensures.quoted

pub returns-in-Ok-clause-refused : goal.returns-in-Ok-clause-refused
returns-in-Ok-clause-refused g c =
    IfErr-weaker c.quote_files.result _ _ (λ fault fails. octets_fail c.args.config.now c.in-Ok.parsed (g.A.Read.remaining c.args.accounts) (g.M.Read.remaining c.args.messages) (option_map g.T.Read.remaining c.args.tariff) _ _ fault c.in-Ok.ensures.config fails) c.quote_files.ensures.refused

pub returns-in-Ok-clause-front : goal.returns-in-Ok-clause-front
returns-in-Ok-clause-front g c =
    IfErr-weaker c.quote_files.result _ _ (λ fault front out. octets_front c.args.config.now c.in-Ok.parsed (g.A.Read.remaining c.args.accounts) (g.M.Read.remaining c.args.messages) (option_map g.T.Read.remaining c.args.tariff) _ _ _ c.in-Ok.ensures.config (front out)) c.quote_files.ensures.front

pub returns-in-Err-clause-refused : goal.returns-in-Err-clause-refused
returns-in-Err-clause-refused g c = inl (config_fails c.args.config.now (g.A.Read.remaining c.args.accounts) (g.M.Read.remaining c.args.messages) (option_map g.T.Read.remaining c.args.tariff) c.in-Err.fault c.in-Err.ensures.refused)

pub returns-in-Err-clause-front : goal.returns-in-Err-clause-front
returns-in-Err-clause-front g c = read_is_no_output _ c.in-Err.fault c.in-Err.ensures.refused
