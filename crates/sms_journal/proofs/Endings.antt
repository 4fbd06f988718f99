-- The ends that a run has where its journal says that it ended.
use Rattle.std.proofs.Common.{ℕ, List, subst}
use Rattle.std.specs.List.{AllZip}
use Rattle.sms_message.specs.declared.message.Message.{Message}
use Rattle.sms_message.specs.declared.rules.Rules.{Rules}
use Rattle.sms_message.specs.declared.ends.MessageEnd.{MessageEnd}
use Rattle.sms_journal.specs.declared.notes.note.Note.{Note}
use Rattle.sms_journal.specs.Lawful.{IsStatusOf, MayEnd}
use Rattle.sms_journal.specs.Recovered.{IsRecoveredEnd}
use Rattle.sms_journal.proofs.Agreeing.{same_ends}

pub status_once : (rules : Rules) (ms : List Message) (given : List ℕ) (notes : List Note) (es : List (MessageEnd (Unit {0}))) (status : ℕ) → AllZip (IsRecoveredEnd rules notes) ms es → MayEnd rules ms given notes status → IsStatusOf es status
status_once rules ms given notes es status h may = subst (λ (l : List (MessageEnd (Unit {0}))). IsStatusOf l status) (same_ends rules notes ms may.ends es may.are h) may.status_is
