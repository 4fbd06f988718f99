use Rattle.std.proofs.Common.{◌≡◌, ℕ, ◌∙◌, ◌+◌, List, Vec, Global, ap, refl, subst, sym}
use Rattle.sms_book.specs.Openings.{credits_of}
use Rattle.sms_book.specs.declared.opening.Opening.{Opening}
use Rattle.sms_message.specs.declared.message.Message.{Message}
use Rattle.sms_send.specs.Rounds.{AreSmall}
use Rattle.sms_send.proofs.RoundRuns.{is_run, rounds_fail, settings_by}
use Rattle.sms_send.proofs.sending.work.send_in_rounds.Goals as goal

pub returns-in-Ok-clause-sent : goal.returns-in-Ok-clause-sent
returns-in-Ok-clause-sent g c =
    let input = c.args.input in
    let tells = λ (round : ℕ). g.D.Dial.told (g.D.RoundDial.of_round c.args.devices.now.dial.now round) in
    let run = c.settings_of-settings.result in
    let e = c.into_parts-config.ensures in
    let is = settings_by input.config _ input.tariff _ run e.config e.tariff c.settings_of-settings.ensures.settings in
    let os = c.as_slice-2.result.now in
    let ns = c.as_slice-3.result.now in
    let openings : os ≡ input.openings.items = c.as_slice-2.ensures.value ∙ ap (λ (v : Vec Opening Global). v.items) e.openings in
    let messages : ns ≡ input.messages.items = c.as_slice-3.ensures.value ∙ ap (λ (v : Vec Message Global). v.items) e.messages in
    let small : AreSmall (credits_of os) = subst (λ (o : List Opening). AreSmall (credits_of o)) (c.as_slice.ensures.value ∙ sym c.as_slice-2.ensures.value) c.credits_are_small.ensures in
    is_run tells c.args.again input run os ns c.in-Ok.sending c.new.result is openings messages (c.new.ensures.openings ∙ e.openings) c.new.ensures.ends c.new.ensures.statement small c.in-Ok.ensures.sent

pub returns-in-Err-clause-refused : goal.returns-in-Err-clause-refused
returns-in-Err-clause-refused g c =
    let input = c.args.input in
    let run = c.settings_of-settings.result in
    let e = c.into_parts-config.ensures in
    let is = settings_by input.config _ input.tariff _ run e.config e.tariff c.settings_of-settings.ensures.settings in
    let refuses = λ (round : ℕ). g.D.Dial.refuses (g.D.RoundDial.of_round c.args.devices.now.dial.now round) in
    let tells = λ (round : ℕ). g.D.Dial.told (g.D.RoundDial.of_round c.args.devices.now.dial.now round) in
    rounds_fail refuses tells input.config input.tariff run 0 (c.args.again.most + 1) (c.args.again.most + 1) c.send_rounds.new.start.begun c.in-Err.fault is refl c.in-Err.ensures.refused
