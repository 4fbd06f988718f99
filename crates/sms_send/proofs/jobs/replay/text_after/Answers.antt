use Rattle.std.proofs.Common.{◌∙◌, ap, List}
use Rattle.std.proofs.lemmas.Result.{IfOk-weaker}
use Rattle.sms_core.specs.declared.event.Step.{Step}
use Rattle.sms_files.specs.ReplayText.{replay_text}
use Rattle.sms_send.proofs.jobs.replay.text_after.Goals as goal

pub returns : goal.returns
returns c =
    IfOk-weaker c.replay_text.result _ _ (λ text h.
    (c.in_ok-answers.answers.items, c.in_ok-answers.ensures.runs, h ∙ ap (λ (a : List Step). replay_text a c.run.new.self) c.as_slice.ensures.value))
    c.replay_text.ensures
