use Rattle.std.proofs.Common.{◌≡◌, ◌∙◌, inl, refl, subst, List, ℕ}
use Rattle.std.proofs.lemmas.Result.{IfErr-weaker, IfOk-weaker}
use Rattle.std.specs.Prelude.{string_bytes}
use Rattle.sms_send.specs.ConfigFiles.{IsConfigFile}
use Rattle.sms_send.specs.Runs.{IsRunBy}
use Rattle.sms_send.proofs.Runs.{fails_by, run_by}
use Rattle.sms_send.proofs.Telling.{told_so}
use Rattle.sms_send.proofs.files.run_files.read_warned_run.Goals as goal

pub returns-in_err-config-clause-refused : goal.returns-in_err-config-clause-refused
returns-in_err-config-clause-refused g c =
    told_so c.from_residual.result _ _ c.from_residual.ensures.1 (c.args.order.now.config, c.args.order.now.journal.name, refl, refl, inl (inl refl))

pub returns-in_err-read-clause-refused : goal.returns-in_err-read-clause-refused
returns-in_err-read-clause-refused g c =
    let said : string_bytes c.in_ok-config.config ≡ string_bytes c.args.order.now.config = c.in_ok-config.ensures.ok ∙ c.as_str.ensures.value in
    told_so c.from_residual-in_err-read.result _ _ c.from_residual-in_err-read.ensures.1 (c.in_ok-config.config, c.args.order.now.journal.name, said, refl, inl c.in_err-read.ensures.refused)

pub returns-in_err-written-clause-refused : goal.returns-in_err-written-clause-refused
returns-in_err-written-clause-refused g c =
    told_so c.from_residual-in_err-written.result _ _ c.from_residual-in_err-written.ensures.1 (c.args.order.now.config, c.args.order.now.journal.name, refl, refl, inl (inl refl))

pub returns-clause-read : goal.returns-clause-read
returns-clause-read g c =
    let finds = g.R.InputFiles.finds c.args.rt.now in
    let said : string_bytes c.in_ok-config.config ≡ string_bytes c.args.order.now.config = c.in_ok-config.ensures.ok ∙ c.as_str.ensures.value in
    let also : string_bytes c.in_ok-written.written ≡ string_bytes c.args.order.now.journal.name = c.in_ok-written.ensures.ok ∙ c.as_str-2.ensures.value in
    IfOk-weaker c.read_by.result _ _
    (λ run is. run_by finds (string_bytes c.args.order.now.config) (string_bytes c.args.order.now.journal.name) c.in_ok-read.read run
    (subst (λ (n : List ℕ). IsConfigFile finds n c.in_ok-read.read) said c.in_ok-read.ensures.read)
    (subst (λ (n : List ℕ). IsRunBy finds c.in_ok-read.read n run) also is))
    c.read_by.ensures.read

pub returns-clause-refused : goal.returns-clause-refused
returns-clause-refused g c =
    let said : string_bytes c.in_ok-config.config ≡ string_bytes c.args.order.now.config = c.in_ok-config.ensures.ok ∙ c.as_str.ensures.value in
    let also : string_bytes c.in_ok-written.written ≡ string_bytes c.args.order.now.journal.name = c.in_ok-written.ensures.ok ∙ c.as_str-2.ensures.value in
    IfErr-weaker c.read_by.result _ _
    (λ fault fails. (c.in_ok-config.config, c.in_ok-written.written, said, also, fails_by (g.R.InputFiles.finds c.args.rt.now) c.in_ok-config.config c.in_ok-written.written c.in_ok-read.read fault c.in_ok-read.ensures.read fails))
    c.read_by.ensures.refused
