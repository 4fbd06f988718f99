-- The turns of parts, as the code names them.
use Rattle.std.specs.Prelude.{ℕ, Bool, List, length, sum_by}
use Rattle.sms_core.specs.declared.request.Phase.{Phase}
use Rattle.sms_journal.specs.declared.audit.part.SentPart.{SentPart}
use Rattle.sms_journal.specs.declared.audit.schedule.Turn.{Turn}
use Rattle.sms_journal.specs.declared.audit.schedule.Turn.TheVariants.{Back, Charged, Unanswered}
use Rattle.sms_journal.specs.Schedules.{NamedPart, comes_back, is_charged, is_unanswered}

abbrev pub is_of_turn : Turn → Phase → Bool
is_of_turn Back phase = comes_back phase
is_of_turn Charged phase = is_charged phase
is_of_turn Unanswered phase = is_unanswered phase

abbrev pub named_from : ℕ → SentPart → NamedPart
named_from name p = record { name = name; part = p }

-- how many sequence numbers they draw
abbrev pub drawn_by : List NamedPart → ℕ
drawn_by ns = sum_by (λ n. length n.part.attempts) ns
