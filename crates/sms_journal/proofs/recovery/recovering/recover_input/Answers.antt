use Rattle.std.proofs.Common.{◌≡◌, ◌∙◌, ap, subst, List, Vec, Global, length}
use Rattle.std.proofs.lemmas.Result.{IfErr-weaker, IfOk-weaker}
use Rattle.sms_book.specs.Tariffs.{Price}
use Rattle.sms_book.specs.declared.opening.Opening.{Opening}
use Rattle.sms_message.specs.declared.message.Message.{Message}
use Rattle.sms_files.specs.declared.config.Config.{Config}
use Rattle.sms_journal.specs.Recovering.{Recovers, RecoversInput, IsFaultOfInput, IsFaultOfRecovery, size_in, sized}
use Rattle.sms_files.specs.RunRules.{IsRulesOf}
use Rattle.sms_journal.specs.declared.notes.run_size.RunSize.{RunSize}
use Rattle.sms_journal.proofs.NoteLists.{recovers_input, tells_input}
use Rattle.sms_journal.proofs.recovery.recovering.recover_input.Goals as goal

pub returns-clause-recovered : goal.returns-clause-recovered
returns-clause-recovered g c =
    let input = c.args.input in
    let old = g.W.Write.contents c.args.output.now in
    let new = g.W.Write.contents c.recover_notes.new.output in
    let rules = c.rules_of-rules.result in
    let e = c.into_parts-config.ensures in
    let says = subst (λ (t : List Price). IsRulesOf input.config.retry input.config.limits input.config.flags t 0 rules) e.tariff
    (subst (λ (k : Config). IsRulesOf k.retry k.limits k.flags c.into_parts-config.result.3 0 rules) e.config c.rules_of-rules.ensures.says) in
    let size : RunSize = c.size_by-size.result in
    let limits : c.into_parts-config.result.0.limits ≡ input.config.limits = ap (λ (k : Config). k.limits) e.config in
    let os : c.as_slice-accounts.result.now ≡ input.openings.items = c.as_slice-accounts.ensures.value ∙ ap (λ (v : Vec Opening Global). v.items) e.openings in
    let large : size ≡ size_in input c.args.first = c.size_by-size.ensures ∙ (λ i. sized (length (os i)) (limits i) c.args.first) in
    let ms : c.as_slice.result.now ≡ input.messages.items = c.as_slice.ensures.value ∙ ap (λ (v : Vec Message Global). v.items) e.messages in
    IfOk-weaker c.recover_notes.result (Recovers rules size c.as_slice-accounts.result.now c.as_slice.result.now c.args.notes.now old new) (RecoversInput input c.args.first c.args.notes.now old new)
    (recovers_input input c.args.first c.args.notes.now old new rules size c.as_slice-accounts.result.now c.as_slice.result.now says os ms large) c.recover_notes.ensures.recovered

pub returns-clause-refused : goal.returns-clause-refused
returns-clause-refused g c =
    let input = c.args.input in
    let old = g.W.Write.contents c.args.output.now in
    let new = g.W.Write.contents c.recover_notes.new.output in
    let rules = c.rules_of-rules.result in
    let e = c.into_parts-config.ensures in
    let says = subst (λ (t : List Price). IsRulesOf input.config.retry input.config.limits input.config.flags t 0 rules) e.tariff
    (subst (λ (k : Config). IsRulesOf k.retry k.limits k.flags c.into_parts-config.result.3 0 rules) e.config c.rules_of-rules.ensures.says) in
    let size : RunSize = c.size_by-size.result in
    let limits : c.into_parts-config.result.0.limits ≡ input.config.limits = ap (λ (k : Config). k.limits) e.config in
    let os : c.as_slice-accounts.result.now ≡ input.openings.items = c.as_slice-accounts.ensures.value ∙ ap (λ (v : Vec Opening Global). v.items) e.openings in
    let large : size ≡ size_in input c.args.first = c.size_by-size.ensures ∙ (λ i. sized (length (os i)) (limits i) c.args.first) in
    let ms : c.as_slice.result.now ≡ input.messages.items = c.as_slice.ensures.value ∙ ap (λ (v : Vec Message Global). v.items) e.messages in
    IfErr-weaker c.recover_notes.result (IsFaultOfRecovery rules size c.as_slice-accounts.result.now c.as_slice.result.now c.args.notes.now old new) (IsFaultOfInput input c.args.first c.args.notes.now old new)
    (tells_input input c.args.first c.args.notes.now old new rules size c.as_slice-accounts.result.now c.as_slice.result.now says os ms large) c.recover_notes.ensures.refused
