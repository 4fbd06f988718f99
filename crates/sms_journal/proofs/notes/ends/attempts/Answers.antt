use Rattle.std.proofs.Common.{◌++◌, sym, ap, ◌∙◌, arith}
use Rattle.std.specs.Prelude.{flat_map}
use Rattle.std.proofs.lemmas.Grind.{flat_map-append}
use Rattle.std.proofs.lemmas.List.{append-nil}
use Rattle.sms_journal.specs.Recovered.{listed}
use Rattle.sms_journal.specs.Index.{attempts_by}
use Rattle.sms_files.proofs.Lists.{take_whole}
use Rattle.sms_journal.proofs.SentParts.{attempts_about, attempts_more}
use Rattle.sms_journal.proofs.notes.ends.attempts.Goals as goal

pub loop-sent-init : goal.loop-sent-init
loop-sent-init c = c.in_ok-attempts.ensures ∙ sym (append-nil (flat_map (attempts_by c.args.evidence.now.notes.now c.args.part) (listed c.args.evidence.now.first)))

pub loop-sent-preserved : goal.loop-sent-preserved
loop-sent-preserved c =
    let f = attempts_by c.args.evidence.now.notes.now c.args.part in
    attempts_more f c.args.evidence.now.others.now c.loop-sent.sent-index _ (flat_map f (listed c.args.evidence.now.first)) c.loop-sent.attempts.items c.add_attempt.new.attempts.items (omega arith) c.in_ok-add_attempt.ensures c.loop-sent.invariant

pub returns : goal.returns
returns c =
    let notes = c.args.evidence.now.notes.now in
    let message = c.args.evidence.now.message.now.index in
    let f = attempts_by notes c.args.part in
    let first = listed c.args.evidence.now.first in
    let others = c.args.evidence.now.others.now in
    c.loop-sent.invariant ∙ ap (λ l. flat_map f first ++ flat_map f l) (take_whole others c.loop-sent.sent-index (omega arith)) ∙ sym (flat_map-append f first others) ∙ ap (flat_map f) c.requires.own
    ∙ attempts_about notes message c.args.part notes
