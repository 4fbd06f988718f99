use Rattle.std.proofs.Common.{List, ℕ}
use Rattle.std.specs.Fmt.{HasWritten, IsPlainFormatter}
use Rattle.std.specs.Str.Iter.{chars_rest}
use Rattle.sms_send.specs.Shown.{indented_char}
use Rattle.sms_send.proofs.Characters.{IsShownTo}
use Rattle.sms_send.proofs.faults.details.shown.write_indented.Given as goal

abbrev pub invariant-loop-c : goal.invariant-loop-c
invariant-loop-c g l =
    (done : List ℕ) × IsShownTo indented_char done (chars_rest l.c-iterator) l.fn.text
    × (IsPlainFormatter l.initial.f → HasWritten g.W.Write.write_str_gives l.initial.f done l.f)
