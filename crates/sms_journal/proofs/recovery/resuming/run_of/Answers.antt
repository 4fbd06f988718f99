use Rattle.std.proofs.Common.{◌≡◌, ◌∙◌, ap, subst, List, Vec, Global, length}
use Rattle.sms_book.specs.Tariffs.{Price}
use Rattle.sms_book.specs.declared.opening.Opening.{Opening}
use Rattle.sms_message.specs.declared.message.Message.{Message}
use Rattle.sms_files.specs.declared.config.Config.{Config}
use Rattle.sms_files.specs.RunRules.{IsRulesOf}
use Rattle.sms_journal.specs.Recovering.{size_in, sized}
use Rattle.sms_journal.specs.Rounds.{first_round, going_after}
use Rattle.sms_journal.specs.declared.notes.note.Note.{Note}
use Rattle.sms_journal.specs.declared.notes.run_size.RunSize.{RunSize}
use Rattle.sms_journal.proofs.NoteLists.{noted_fault, recovered_of}
use Rattle.sms_journal.proofs.recovery.resuming.run_of.Goals as goal

pub returns-in-Ok-clause-run : goal.returns-in-Ok-clause-run
returns-in-Ok-clause-run g c =
    let input = c.args.input in
    let first = c.args.read.now.first in
    let notes = c.args.read.now.notes.items in
    let rules = c.rules_of-rules.result in
    let e = c.into_parts-config.ensures in
    let says = subst (λ (t : List Price). IsRulesOf input.config.retry input.config.limits input.config.flags t 0 rules) e.tariff
    (subst (λ (k : Config). IsRulesOf k.retry k.limits k.flags c.into_parts-config.result.3 0 rules) e.config c.rules_of-rules.ensures.says) in
    let size : RunSize = c.size_by-size.result in
    let limits : c.into_parts-config.result.0.limits ≡ input.config.limits = ap (λ (k : Config). k.limits) e.config in
    let openings = ap (λ (v : Vec Opening Global). v.items) e.openings in
    let counted : c.as_slice.result.now ≡ input.openings.items = c.as_slice.ensures.value ∙ openings in
    let os : c.as_slice-2.result.now ≡ input.openings.items = c.as_slice-2.ensures.value ∙ openings in
    let large : size ≡ size_in input first = c.size_by-size.ensures ∙ (λ i. sized (length (counted i)) (limits i) first) in
    let messages = ap (λ (v : Vec Message Global). v.items) e.messages in
    let ms : c.as_slice-3.result.now ≡ input.messages.items = c.as_slice-3.ensures.value ∙ messages in
    let slice = c.as_slice-notes.result.now in
    let same : slice ≡ notes = c.as_slice-notes.ensures.value in
    record {
      parts = record { config = e.config; openings = openings; messages = messages; tariff = c.rules_of-rules.ensures.says.tariff_is ∙ e.tariff };
      rules = rules;
      says = says;
      is = recovered_of input first notes slice rules size c.as_slice-2.result.now c.as_slice-3.result.now says os ms large same c.in-Ok.ends.items c.in-Ok.rows.items c.in-Ok.ensures.is;
      rounds = c.last_round.ensures (size_in input first) input.messages.items ∙ ap (λ (n : List Note). (going_after (first_round (size_in input first) input.messages.items) n).number) same;
    }

pub returns-clause-refused : goal.returns-clause-refused
returns-clause-refused g c =
    let input = c.args.input in
    let first = c.args.read.now.first in
    let rules = c.rules_of-rules.result in
    let e = c.into_parts-config.ensures in
    let says = subst (λ (t : List Price). IsRulesOf input.config.retry input.config.limits input.config.flags t 0 rules) e.tariff
    (subst (λ (k : Config). IsRulesOf k.retry k.limits k.flags c.into_parts-config.result.3 0 rules) e.config c.rules_of-rules.ensures.says) in
    let size : RunSize = c.size_by-size.result in
    let limits : c.into_parts-config.result.0.limits ≡ input.config.limits = ap (λ (k : Config). k.limits) e.config in
    let openings = ap (λ (v : Vec Opening Global). v.items) e.openings in
    let counted : c.as_slice.result.now ≡ input.openings.items = c.as_slice.ensures.value ∙ openings in
    let os : c.as_slice-2.result.now ≡ input.openings.items = c.as_slice-2.ensures.value ∙ openings in
    let large : size ≡ size_in input first = c.size_by-size.ensures ∙ (λ i. sized (length (counted i)) (limits i) first) in
    let messages = ap (λ (v : Vec Message Global). v.items) e.messages in
    let ms : c.as_slice-3.result.now ≡ input.messages.items = c.as_slice-3.ensures.value ∙ messages in
    noted_fault input first c.args.read.now.notes.items c.as_slice-notes.result.now rules size c.as_slice-2.result.now c.as_slice-3.result.now says os ms large c.as_slice-notes.ensures.value c.in-Err.fault c.in-Err.ensures.refused
