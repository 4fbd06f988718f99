use Rattle.std.proofs.Common.{◌≡◌, ◌-◌, ap, sym, List, ℕ, ◌++◌, ◌∙◌, length, Some, rules}
use Rattle.std.specs.Prelude.{slice_get, string_bytes}
use Rattle.std.proofs.lemmas.Result.{on_ok_weaker}
use Rattle.sms_files.proofs.LastReply.{last_is}
use Rattle.sms_files.proofs.report.report.write_last.Goals as goal

pub returns-in-Some : goal.returns-in-Some
returns-in-Some g c =
    let found : slice_get c.args.attempts.now (length c.args.attempts.now - 1) ≡ Some c.in-Some.attempt.now = search rules in
    let same = last_is c.args.attempts.now c.in-Some.attempt.now found in
    on_ok_weaker c.write_answer.result (λ h. h ∙ ap (λ (t : List ℕ). string_bytes c.args.text.now ++ t) (sym same)) c.write_answer.ensures
