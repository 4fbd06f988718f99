use Rattle.std.proofs.Common.{[], Some, ◌*◌, ◌≡◌, ◌∙◌, ◌++◌, ap, subst, sym, ℕ, List, length, map, Vec, Global}
use Rattle.std.specs.List.{AllZip}
use Rattle.sms_book.specs.Openings.{credits_of}
use Rattle.sms_book.specs.Tariffs.{Price}
use Rattle.sms_book.specs.declared.opening.Opening.{Opening}
use Rattle.sms_bind.specs.Frames.{AreSame, requests}
use Rattle.sms_worker.specs.Credit.{IsCovered}
use Rattle.sms_worker.specs.EndOf.{IsEndOf}
use Rattle.sms_worker.specs.Frames.{frames_in}
use Rattle.sms_message.specs.declared.message.Message.{Message}
use Rattle.sms_pdu.specs.declared.command.Mode.{Mode}
use Rattle.sms_session.specs.declared.settings.Settings.{Settings}
use Rattle.sms_driver.specs.Answered.{AreHeard}
use Rattle.sms_driver.specs.BindEnds.{AreBinds}
use Rattle.sms_driver.specs.Deals.{dealt}
use Rattle.sms_driver.specs.Handed.{AreWritten}
use Rattle.sms_driver.specs.Closings.{AreExplained, AreReasoned}
use Rattle.sms_driver.specs.Numbered.{AreBelow, AreNumbered}
use Rattle.sms_driver.specs.Rings.{flat}
use Rattle.sms_driver.specs.SendFaults.{IsFaultOfOne}
use Rattle.sms_driver.specs.Statements.{AreRows}
use Rattle.sms_files.specs.declared.config.Config.{Config}
use Rattle.sms_send.proofs.Sendings.{fault_at, for_settings}
use Rattle.sms_send.specs.Faults.{ComesAt}
use Rattle.sms_send.specs.Sent.{unbinds_in}
use Rattle.sms_send.specs.Settings.{AreRunSettings}
use Rattle.sms_send.proofs.sending.sender.send_all.Goals as goal

pub returns-clause-sent : goal.returns-clause-sent
returns-clause-sent g c =
    let input = c.args.input in
    let run = c.settings_of-settings.result in
    let told = g.D.Dial.told c.args.dial.now in
    let ends = c.in-Ok.sending.ends.items in
    let binds = c.in-Ok.sending.binds.items in
    let reasons = c.in-Ok.sending.reasons.items in
    let e = c.into_parts-config.ensures in
    let sent = c.in-Ok.ensures.sent in
    let is : AreRunSettings input.config input.tariff run = subst (λ (t : List Price). AreRunSettings input.config t run) e.tariff
    (subst (λ (k : Config). AreRunSettings k c.into_parts-config.result.3 run) e.config c.settings_of-settings.ensures.settings) in
    let slice : c.as_slice.result.now ≡ input.openings.items = c.as_slice.ensures.value ∙ ap (λ (v : Vec Opening Global). v.items) e.openings in
    record {
      openings = e.openings;
      rules = run.rules;
      says = is.says;
      fields = is.fields;
      ends = subst (λ (os : List Opening). AllZip (IsEndOf run.rules (length os)) input.messages.items ends) slice
          (subst (λ (ms : Vec Message Global). AllZip (IsEndOf run.rules (length c.as_slice.result.now)) ms.items ends) e.messages sent.ends);
      covered = subst (λ (os : List Opening). AllZip (IsCovered (credits_of os) run.rules) input.messages.items ends) slice
          (subst (λ (ms : Vec Message Global). AllZip (IsCovered (credits_of c.as_slice.result.now) run.rules) ms.items ends) e.messages sent.covered);
      rows = subst (λ (os : List Opening). AreRows (credits_of os) input.messages.items ends c.in-Ok.sending.statement) slice
          (subst (λ (ms : Vec Message Global). AreRows (credits_of c.as_slice.result.now) ms.items ends c.in-Ok.sending.statement) e.messages sent.rows);
      binds = for_settings input.config input.tariff run is (λ b w. AreBinds b w binds) sent.binds;
      settings = run.bind_settings;
      asks = is.asks;
      readers = sent.readers;
      numbers = for_settings input.config input.tariff run is (λ b w. AreNumbered b w (dealt (b * w) 0 ends)) sent.numbers;
      below = for_settings input.config input.tariff run is (λ b w. AreBelow w binds (dealt (b * w) 0 ends)) sent.below;
      explained = for_settings input.config input.tariff run is (λ b w. AreExplained w binds (dealt (b * w) 0 ends)) sent.explained;
      reasons = for_settings input.config input.tariff run is (λ b w. AreReasoned run.rules.policy.attempts w binds reasons (dealt (b * w) 0 ends)) sent.reasons;
      handed = for_settings input.config input.tariff run is (λ b w. AreSame (requests c.in-Ok.sending.log.given) (flat (map frames_in (dealt (b * w) 0 ends)) ++ unbinds_in binds)) sent.handed;
      written = for_settings input.config input.tariff run is (λ b w. AreWritten (Some run.bind_settings.settings) b [] c.in-Ok.sending.log.given) sent.written;
      heard = for_settings input.config input.tariff run is (λ b w. AreHeard told b w (dealt (b * w) 0 ends)) sent.heard;
    }

pub returns-in-Err-clause-refused : goal.returns-in-Err-clause-refused
returns-in-Err-clause-refused g c =
    let input = c.args.input in
    let run = c.settings_of-settings.result in
    let refuses = g.D.Dial.refuses c.args.dial.now in
    let told = g.D.Dial.told c.args.dial.now in
    let e = c.into_parts-config.ensures in
    let is : AreRunSettings input.config input.tariff run = subst (λ (t : List Price). AreRunSettings input.config t run) e.tariff
    (subst (λ (k : Config). AreRunSettings k c.into_parts-config.result.3 run) e.config c.settings_of-settings.ensures.settings) in
    let mode = ap (λ (s : Settings). s.mode) is.asks.settings in (
      c.in-Err.fault,
      subst (λ (n : ℕ). IsFaultOfOne refuses told input.config.connection.settings.mode n c.in-Err.fault) is.binds
          (subst (λ (m : Mode). IsFaultOfOne refuses told m run.binds c.in-Err.fault) mode c.in-Err.ensures.refused),
      c.in-Err.ensures.phase,
      c.from.ensures,
    )

pub returns-in-Err-clause-phase : goal.returns-in-Err-clause-phase
returns-in-Err-clause-phase g c =
    subst (ComesAt c.drive_all-driven.new.start.begun) (sym c.from.ensures) (fault_at c.drive_all-driven.new.start.begun c.in-Err.fault c.in-Err.ensures.phase)
