use Rattle.std.proofs.Common.{inl, inr, subst, List, ℕ}
use Rattle.std.proofs.lemmas.Result.{IfErr-weaker}
use Rattle.std.specs.Io.KnownBytes.{Appends}
use Rattle.std.specs.Prelude.{string_bytes}
use Rattle.sms_files.specs.Output.{WritesFront}
use Rattle.sms_send.specs.Resumed.{FailsOpen}
use Rattle.sms_send.proofs.Resuming.{on_ok_weaker}
use Rattle.sms_send.proofs.jobs.settle_job.settle_job.Goals as goal

pub returns-in-Err-clause-refused : goal.returns-in-Err-clause-refused
returns-in-Err-clause-refused g c =
    inl (subst (λ (n : List ℕ). FailsOpen (g.R.JournalFiles.refuses c.args.rt.now) (g.R.JournalFiles.holds c.args.rt.now) n c.in-Err.fault) c.as_str.ensures.value c.in-Err.ensures.refused)

pub returns-in-Ok-settled-clause-settled : goal.returns-in-Ok-settled-clause-settled
returns-in-Ok-settled-clause-settled g c =
    on_ok_weaker c.print.result _ _
    (λ out. (
      c.in-Ok.held,
      subst (λ (n : List ℕ). g.R.JournalFiles.opens c.args.rt.now n c.in-Ok.held) c.as_str.ensures.value c.in-Ok.ensures.opened,
      string_bytes c.in-Ok-settled.lines,
      c.in-Ok-settled.ensures.settled,
      subst (Appends (g.W.Write.contents c.args.output.now) (g.W.Write.contents c.print.new.output)) c.as_str-in-Ok-settled.ensures.value out,
    )) c.print.ensures.printed

pub returns-in-Ok-settled-clause-refused : goal.returns-in-Ok-settled-clause-refused
returns-in-Ok-settled-clause-refused g c =
    IfErr-weaker c.print.result _ _
    (λ fault told. inr (inr (
      told,
      string_bytes c.in-Ok-settled.lines,
      c.in-Ok-settled.ensures.settled,
      subst (WritesFront (g.W.Write.contents c.args.output.now) (g.W.Write.contents c.print.new.output)) c.as_str-in-Ok-settled.ensures.value c.print.ensures.front,
    ))) c.print.ensures.failed

pub returns-clause-refused : goal.returns-clause-refused
returns-clause-refused g c = inr (inl c.in-Err-settled.ensures.refused)
