-- Each escape at the end turns the answer round.
use Rattle.std.proofs.Common.{◌≡◌, ◌≤◌, length, take, not, cond}
use Rattle.sms_alphabet.specs.declared.coded.Coding.TheVariants.{Gsm}
use Rattle.sms_segment.specs.Front.{is_open}
use Rattle.sms_segment.proofs.front.ends_in_escape.Given as goal

abbrev pub invariant-loop-start : goal.invariant-loop-start
invariant-loop-start l =
    (l.start ≤ length l.codes)
    × (is_open Gsm l.codes ≡ cond l.open (not (is_open Gsm (take l.start l.codes))) (is_open Gsm (take l.start l.codes)))

abbrev pub decreases-loop-start : goal.decreases-loop-start
decreases-loop-start l = l.start
