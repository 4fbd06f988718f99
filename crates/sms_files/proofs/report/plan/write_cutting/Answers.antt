use Rattle.std.proofs.Common.{ap, List, ℕ, ◌++◌, ◌∙◌}
use Rattle.std.specs.Prelude.{string_bytes}
use Rattle.std.proofs.lemmas.Result.{on_ok_weaker}
use Rattle.sms_files.proofs.Plans.{cut-long, cut-short, pushed}
use Rattle.sms_files.proofs.report.plan.write_cutting.Goals as goal

pub returns-in-Ok : goal.returns-in-Ok
returns-in-Ok c =
    let same = cut-short c.args.reference c.args.coded.now c.as_slice.result.now (c.as_slice.ensures.value ∙ c.in-Ok.ensures.exact) (rw c.as_slice.ensures.value c.in-Ok.ensures.countable) in
    on_ok_weaker c.write_parts.result (λ h. h ∙ ap (λ (t : List ℕ). string_bytes c.args.text.now ++ t) same) c.write_parts.ensures

pub returns-in-Err-TooLong : goal.returns-in-Err-TooLong
returns-in-Err-TooLong c =
    let same = cut-long c.args.reference c.args.coded.now ((c.the_parts_tell_what_is_too_long.ensures c.args.coded.now c.args.reference).0 (c.in-Err-TooLong.ensures.too_long.0 (let long = c.in-Err-TooLong.field-0-is in let failed = c.in-Err-TooLong.is in cc))) in
    pushed c.push_str.result (string_bytes c.push_str.new.self) (string_bytes c.args.text.now) _ _ c.push_str.ensures.bytes same
