use Rattle.std.proofs.Common.{length, sym}
use Rattle.std.proofs.lemmas.Bool.{eqb-true, eqb-false}
use Rattle.sms_alphabet.proofs.Readings.{read_on, read_all, read_never, begins_shorter}
use Rattle.sms_alphabet.proofs.reading.gsm_text.Goals as goal

pub loop-c-smaller : goal.loop-c-smaller
loop-c-smaller c = begins_shorter _ c.in-Some.c _ c.in-Some.ensures.first

pub loop-c-preserved : goal.loop-c-preserved
loop-c-preserved c = rw c.in_ok-push.ensures.bytes (read_on _ _ _ _ c.in-Some.c c.loop-c.invariant c.in-Some.ensures.first)

pub returns-then-is_empty : goal.returns-then-is_empty
returns-then-is_empty c = read_all _ _ _ c.loop-c.invariant (eqb-true (length c.loop-c.rest.now) 0 (sym c.if-is_empty.ensures))

pub returns-else-is_empty : goal.returns-else-is_empty
returns-else-is_empty c =
    read_never _ _ _ c.loop-c.invariant (eqb-false (length c.loop-c.rest.now) 0 (sym c.if-is_empty.ensures)) c.in_default.ensures.none
