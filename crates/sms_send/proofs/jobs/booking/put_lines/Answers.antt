use Rattle.std.proofs.Common.{◌∙◌, ap, sym, length}
use Rattle.std.proofs.lemmas.Bool.{eqb-false, eqb-true}
use Rattle.std.proofs.lemmas.List.{nil_from_length}
use Rattle.std.proofs.lemmas.Result.{IfErr-weaker, on_ok_weaker}
use Rattle.std.specs.Prelude.{string_bytes}
use Rattle.sms_send.proofs.Posting.{no_lines, some_lines, untaken_none, untaken_some}
use Rattle.sms_send.proofs.jobs.booking.put_lines.Goals as goal

pub returns-then-is_empty-clause-stand : goal.returns-then-is_empty-clause-stand
returns-then-is_empty-clause-stand g c = on_ok_weaker c.put_line.result (no_lines c.args.octets.now (string_bytes c.args.lines) _ _ (sym c.as_str.ensures.value ∙ nil_from_length c.as_str.result.now (eqb-true (length c.as_str.result.now) 0 (sym c.is_empty.ensures ∙ c.if-is_empty.true)))) c.put_line.ensures.taken

pub returns-then-is_empty-clause-failed : goal.returns-then-is_empty-clause-failed
returns-then-is_empty-clause-failed g c = IfErr-weaker c.put_line.result _ _ (λ fault fails. untaken_none g.F.HeldFile.errs c.args.octets.now (string_bytes c.args.lines) _ _ fault fails) c.put_line.ensures.failed

pub returns-else-is_empty-clause-stand : goal.returns-else-is_empty-clause-stand
returns-else-is_empty-clause-stand g c = on_ok_weaker c.put_line-else-is_empty.result (some_lines c.args.octets.now c.args.lines _ _ (λ none. eqb-false (length c.as_str.result.now) 0 (sym c.is_empty.ensures ∙ c.if-is_empty.false) (ap length (c.as_str.ensures.value ∙ none)))) c.put_line-else-is_empty.ensures.taken

pub returns-else-is_empty-clause-failed : goal.returns-else-is_empty-clause-failed
returns-else-is_empty-clause-failed g c = IfErr-weaker c.put_line-else-is_empty.result _ _ (λ fault fails. untaken_some g.F.HeldFile.errs c.args.octets.now c.args.lines _ _ fault fails) c.put_line-else-is_empty.ensures.failed
