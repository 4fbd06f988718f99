use Rattle.std.proofs.Common.{◌∙◌, inr, refl, subst, List, ℕ}
use Rattle.sms_devices.specs.Ledgers.{Leaves}
use Rattle.sms_send.proofs.jobs.ledger_job.put_line.Goals as goal

pub returns-clause-failed : goal.returns-clause-failed
returns-clause-failed g c =
    let why = c.in-Err-append_text.why in
    let whole = c.whole_len-whole.result in
    let leaves = subst (λ (text : List ℕ). Leaves g.F.HeldFile.errs (g.F.HeldFile.octets c.args.file.now) (g.F.HeldFile.octets c.append_text.new.file) whole text why) (c.as_str.ensures.value ∙ c.in-Ok.ensures) c.in-Err-append_text.ensures.failed in
    inr (c.in-Some.line, c.in-Some.is, whole, c.whole_len-whole.ensures, why, leaves, refl)
