-- Evidence that a line is down, as contracts see it.
use Rattle.std.specs.Prelude.{◌≡◌, MatchResult, Result}
use Rattle.sms_bind.specs.declared.down.Down.{Down}
use Rattle.sms_bind.specs.declared.down.DownBefore.{DownBefore}
use Rattle.sms_bind.specs.declared.down.DownCause.{DownCause}
use Rattle.sms_bind.specs.declared.down.DownCause.TheVariants.{Reader}
use Rattle.sms_bind.specs.declared.down.DownMark.{DownMark}
use Rattle.sms_bind.specs.declared.ending.ReaderCause.{ReaderCause}

-- why a line is down
abbrev pub cause_of : Down → DownCause
cause_of down = down.token.value

-- this is evidence of the line that has this mark
abbrev pub IsDownAt : DownMark → Down → Type 0
IsDownAt mark down = down.token.of ≡ mark.cause.id

-- both are evidence of the same line
abbrev pub AreOfOneMark : Down → Down → Type 0
AreOfOneMark one other = one.token.of ≡ other.token.of

-- the line of this mark is down: for this cause, or it was down before
abbrev pub IsMarked : DownMark → DownCause → Result Down Down → Type 0
IsMarked mark cause result = MatchResult result (λ down. IsDownAt mark down × (cause_of down ≡ cause)) (IsDownAt mark)

-- the reader of the line of this mark ended for this cause, and marked the line then: it is down for that, or was before
abbrev pub IsMarkedAtEnd : DownMark → ReaderCause → Result Down DownBefore → Type 0
IsMarkedAtEnd mark cause result = MatchResult result (λ down. IsDownAt mark down × (cause_of down ≡ Reader cause)) (λ before. IsDownAt mark before.down × (before.cause ≡ cause))
