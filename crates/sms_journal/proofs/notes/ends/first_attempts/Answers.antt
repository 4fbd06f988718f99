use Rattle.std.proofs.Common.{◌++◌, sym, ap, ◌∙◌}
use Rattle.std.specs.Prelude.{flat_map}
use Rattle.std.proofs.lemmas.List.{append-nil}
use Rattle.sms_journal.specs.Recovered.{listed}
use Rattle.sms_journal.specs.Index.{attempts_by}
use Rattle.sms_journal.proofs.notes.ends.first_attempts.Goals as goal

pub returns : goal.returns
returns c =
    let f = attempts_by c.args.evidence.now.notes.now c.args.part in
    c.in_ok-add_attempt.ensures ∙ ap (λ l. l ++ f c.in-Some.first) c.in_ok-attempts.ensures.items ∙ sym (append-nil (f c.in-Some.first)) ∙ ap (λ o. flat_map f (listed o)) (sym c.in-Some.is)
