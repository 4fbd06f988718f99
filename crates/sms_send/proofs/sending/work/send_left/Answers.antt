use Rattle.std.proofs.Common.{ℕ, ◌∙◌, ◌+◌, inl, refl, List, ap, ap₂, length, subst, sym}
use Rattle.std.proofs.lemmas.Result.{IfOk-weaker}
use Rattle.std.specs.List.{AllZip}
use Rattle.sms_book.specs.declared.opening.Opening.{Opening}
use Rattle.sms_core.specs.declared.row.Row.{Row}
use Rattle.sms_message.specs.declared.message.Message.{Message}
use Rattle.sms_journal.specs.Left.{SaysSame, free_in, left_in}
use Rattle.sms_send.specs.Rounds.{most_rounds}
use Rattle.sms_send.proofs.RoundRuns.{is_resumed, no_memory, rounds_fail}
use Rattle.sms_send.proofs.Telling.{told_so}
use Rattle.sms_send.proofs.sending.work.send_left.Goals as goal

pub returns-in_err-left-clause-refused : goal.returns-in_err-left-clause-refused
returns-in_err-left-clause-refused g c =
    told_so c.from_residual.result _ _ c.from_residual.ensures.1
    (inl (no_memory (λ (round : ℕ). g.D.Dial.refuses (g.D.RoundDial.of_round c.args.devices.now.dial.now round)) (λ round. g.D.Dial.told (g.D.RoundDial.of_round c.args.devices.now.dial.now round)) c.args.again c.args.run.rounds c.args.run.config _ _ c.requires.not_started refl))

pub openings_left-requires : goal.openings_left-requires
openings_left-requires g c = record {
  each = ap (λ (l : List Row). length l) c.as_slice-4.ensures.value ∙ c.requires.rows ∙ sym (ap (λ (l : List Opening). length l) c.as_slice-3.ensures.value);
}

pub returns-in_err-free-clause-refused : goal.returns-in_err-free-clause-refused
returns-in_err-free-clause-refused g c =
    told_so c.from_residual-in_err-free.result _ _ c.from_residual-in_err-free.ensures.1
    (inl (no_memory (λ (round : ℕ). g.D.Dial.refuses (g.D.RoundDial.of_round c.args.devices.now.dial.now round)) (λ round. g.D.Dial.told (g.D.RoundDial.of_round c.args.devices.now.dial.now round)) c.args.again c.args.run.rounds c.args.run.config _ _ c.requires.not_started refl))

pub returns-in-Ok-clause-sent : goal.returns-in-Ok-clause-sent
returns-in-Ok-clause-sent g c =
    let run = c.args.run in
    let tells = λ (round : ℕ). g.D.Dial.told (g.D.RoundDial.of_round c.args.devices.now.dial.now round) in
    let ns = c.as_slice-6.result.now in
    let same : AllZip SaysSame (left_in run.messages.items run.ends.items) ns =
    subst (λ (l : List Message). AllZip SaysSame l ns) (ap₂ left_in c.as_slice.ensures.value c.as_slice-2.ensures.value)
    (subst (λ (l : List Message). AllZip SaysSame (left_in c.as_slice.result.now c.as_slice-2.result.now) l) (sym c.as_slice-6.ensures.value) c.in_ok-left.ensures) in
    IfOk-weaker c.new.result _ _
    (λ resumed together. is_resumed tells c.args.again run c.settings_of-settings.result ns c.as_slice-5.result.now c.in_ok-free.free.items c.more_rounds.result c.in-Ok.came resumed
    c.settings_of-settings.ensures.settings same c.as_slice-5.ensures.value (c.in_ok-free.ensures.credits ∙ ap free_in c.as_slice-4.ensures.value) c.more_rounds.ensures c.in-Ok.ensures.sent together)
    c.new.ensures.together

pub returns-clause-refused : goal.returns-clause-refused
returns-clause-refused g c =
    inl (rounds_fail (λ (round : ℕ). g.D.Dial.refuses (g.D.RoundDial.of_round c.args.devices.now.dial.now round)) (λ round. g.D.Dial.told (g.D.RoundDial.of_round c.args.devices.now.dial.now round)) c.args.run.config c.args.run.tariff c.settings_of-settings.result
    c.args.run.rounds (c.more_rounds.result + 1) (most_rounds c.args.again) c.send_rounds.new.start.begun c.in-Err.fault
    c.settings_of-settings.ensures.settings c.more_rounds.ensures c.in-Err.ensures.refused)
