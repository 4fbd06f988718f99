use Rattle.std.proofs.Common.{inl, refl}
use Rattle.std.specs.Prelude.{option_map, string_bytes}
use Rattle.std.proofs.lemmas.Result.{IfErr-weaker, on_ok_weaker}
use Rattle.sms_driver.specs.declared.start.StartPhase.TheVariants.{Idle}
use Rattle.sms_send.proofs.ConfigFiles.{early_is_no_output}
use Rattle.sms_send.proofs.Quoting.{files_fail, memory_is_no_output, missing_fails, named_front, named_quoted, names_told}
use Rattle.sms_send.proofs.Starts.{missing_at}
use Rattle.sms_send.proofs.Telling.{told_so}
use Rattle.sms_send.proofs.jobs.quote_job.quote_config.Goals as goal

pub returns-clause-quoted : goal.returns-clause-quoted
returns-clause-quoted g c =
    on_ok_weaker c.quote_files.result
    (named_quoted (g.R.InputFiles.finds c.args.rt.now) (g.R.FullNames.is_full c.args.rt.now) c.args.at_length (string_bytes c.args.config) c.in_ok-read.read c.in_ok-opened.opened.config (g.R.InputFile.Read.remaining c.in_ok-opened.opened.accounts) (g.R.InputFile.Read.remaining c.in_ok-opened.opened.messages) (option_map g.R.InputFile.Read.remaining c.in_ok-opened.opened.tariff) _ _ _ _ _
    c.in_ok-read.ensures.read (record { config_is = c.in_ok-opened.ensures.config; found = c.in_ok-opened.ensures.found }) (names_told (g.R.FullNames.is_full c.args.rt.now) c.args.at_length (string_bytes c.args.config) _ _ c.in_ok-read.read.config.files _ _ c.in_ok-kept.ensures.kept c.as_str.ensures.value c.as_str-lines.ensures.value c.in_ok-lines.ensures.told))
    c.quote_files.ensures.quoted

pub returns-clause-refused : goal.returns-clause-refused
returns-clause-refused g c =
    IfErr-weaker c.quote_files.result _ _
    (λ fault fails. files_fail (g.R.InputFiles.finds c.args.rt.now) c.args.config c.in_ok-read.read c.in_ok-opened.opened.config (g.R.InputFile.Read.remaining c.in_ok-opened.opened.accounts) (g.R.InputFile.Read.remaining c.in_ok-opened.opened.messages) (option_map g.R.InputFile.Read.remaining c.in_ok-opened.opened.tariff) _ _ fault c.in_ok-read.ensures.read (record { config_is = c.in_ok-opened.ensures.config; found = c.in_ok-opened.ensures.found }) fails)
    c.quote_files.ensures.refused

pub returns-clause-front : goal.returns-clause-front
returns-clause-front g c =
    IfErr-weaker c.quote_files.result _ _
    (λ fault front out. named_front (g.R.InputFiles.finds c.args.rt.now) (g.R.FullNames.is_full c.args.rt.now) c.args.at_length (string_bytes c.args.config) c.in_ok-read.read c.in_ok-opened.opened.config (g.R.InputFile.Read.remaining c.in_ok-opened.opened.accounts) (g.R.InputFile.Read.remaining c.in_ok-opened.opened.messages) (option_map g.R.InputFile.Read.remaining c.in_ok-opened.opened.tariff) _ _ _
    c.in_ok-read.ensures.read (record { config_is = c.in_ok-opened.ensures.config; found = c.in_ok-opened.ensures.found }) (names_told (g.R.FullNames.is_full c.args.rt.now) c.args.at_length (string_bytes c.args.config) _ _ c.in_ok-read.read.config.files _ _ c.in_ok-kept.ensures.kept c.as_str.ensures.value c.as_str-lines.ensures.value c.in_ok-lines.ensures.told) (front out))
    c.quote_files.ensures.front

pub returns-clause-unwritten : goal.returns-clause-unwritten
returns-clause-unwritten g c = c.quote_files.ensures.unwritten

pub returns-in_err-kept-clause-refused : goal.returns-in_err-kept-clause-refused
returns-in_err-kept-clause-refused g c = told_so c.from_residual.result _ _ c.from_residual.ensures.1 (inl (inl c.in_err-kept.ensures.refused))

pub returns-in_err-kept-clause-unwritten : goal.returns-in_err-kept-clause-unwritten
returns-in_err-kept-clause-unwritten g c = told_so c.from_residual.result _ _ c.from_residual.ensures.1 (λ other. (refl, refl))

pub returns-in_err-kept-clause-front : goal.returns-in_err-kept-clause-front
returns-in_err-kept-clause-front g c = told_so c.from_residual.result _ _ c.from_residual.ensures.1 (memory_is_no_output _ c.in_err-kept.ensures.refused)

pub returns-in_err-read-clause-refused : goal.returns-in_err-read-clause-refused
returns-in_err-read-clause-refused g c = told_so c.from_residual-in_err-read.result _ _ c.from_residual-in_err-read.ensures.1 (inl c.in_err-read.ensures.refused)

pub returns-in_err-read-clause-unwritten : goal.returns-in_err-read-clause-unwritten
returns-in_err-read-clause-unwritten g c = told_so c.from_residual-in_err-read.result _ _ c.from_residual-in_err-read.ensures.1 (λ other. (refl, refl))

pub returns-in_err-read-clause-front : goal.returns-in_err-read-clause-front
returns-in_err-read-clause-front g c = told_so c.from_residual-in_err-read.result _ _ c.from_residual-in_err-read.ensures.1 (early_is_no_output _ c.in_err-read.ensures.early)

pub returns-in_err-lines-clause-refused : goal.returns-in_err-lines-clause-refused
returns-in_err-lines-clause-refused g c = told_so c.from_residual-in_err-lines.result _ _ c.from_residual-in_err-lines.ensures.1 (inl (inl c.in_err-lines.ensures.refused))

pub returns-in_err-lines-clause-unwritten : goal.returns-in_err-lines-clause-unwritten
returns-in_err-lines-clause-unwritten g c = told_so c.from_residual-in_err-lines.result _ _ c.from_residual-in_err-lines.ensures.1 (λ other. (refl, refl))

pub returns-in_err-lines-clause-front : goal.returns-in_err-lines-clause-front
returns-in_err-lines-clause-front g c = told_so c.from_residual-in_err-lines.result _ _ c.from_residual-in_err-lines.ensures.1 (memory_is_no_output _ c.in_err-lines.ensures.refused)

pub returns-in_err-opened-clause-refused : goal.returns-in_err-opened-clause-refused
returns-in_err-opened-clause-refused g c = told_so c.from_residual-in_err-opened.result _ _ c.from_residual-in_err-opened.ensures.1 (missing_fails (g.R.InputFiles.finds c.args.rt.now) c.args.config c.in_ok-read.read _ _ _ c.in_ok-read.ensures.read c.in_err-opened.ensures.refused)

pub returns-in_err-opened-clause-unwritten : goal.returns-in_err-opened-clause-unwritten
returns-in_err-opened-clause-unwritten g c = told_so c.from_residual-in_err-opened.result _ _ c.from_residual-in_err-opened.ensures.1 (λ other. (refl, refl))

pub returns-in_err-opened-clause-front : goal.returns-in_err-opened-clause-front
returns-in_err-opened-clause-front g c = told_so c.from_residual-in_err-opened.result _ _ c.from_residual-in_err-opened.ensures.1 (early_is_no_output _ (missing_at (g.R.InputFiles.finds c.args.rt.now) _ Idle _ refl c.in_err-opened.ensures.refused))
