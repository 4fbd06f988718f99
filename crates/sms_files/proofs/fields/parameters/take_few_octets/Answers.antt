use Rattle.std.proofs.Common.{◌+◌, ◌<◌, arith, sym}
use Rattle.sms_pdu.proofs.Lengths.{sized-take-more, sized-take-le, sized-take-all}
use Rattle.sms_files.proofs.ParameterTexts.{few, too_many}
use Rattle.sms_files.proofs.fields.parameters.take_few_octets.Goals as goal
use Rattle.sms_files.proofs.fields.parameters.take_few_octets.Goals.{then-len-gt-MOST_OCTETS-via-then-len-gt-MOST_OCTETS, then-len-gt-MOST_OCTETS-via-else-len-gt-MOST_OCTETS+then-size-len-gt-MOST_OCTETS}

pub returns-then-len-gt-MOST_OCTETS : goal.returns-then-len-gt-MOST_OCTETS
returns-then-len-gt-MOST_OCTETS c =
    let ps = c.args.params.now in
    let i = c.loop-p.p-index in
    let more = sized-take-more ps i c.p-item.result c.loop-p-test.true c.p-item.is in
    let le = sized-take-le ps (i + 1) in
    let over : 1024 < c.loop-p.size + 4 + c.len-len.result = elim c.then-len-gt-MOST_OCTETS.branch [ then-len-gt-MOST_OCTETS-via-then-len-gt-MOST_OCTETS w ↦ omega (arith, w.if-len-gt-MOST_OCTETS.true) | then-len-gt-MOST_OCTETS-via-else-len-gt-MOST_OCTETS+then-size-len-gt-MOST_OCTETS w ↦ omega (arith, w.if-size-len-gt-MOST_OCTETS.true) ] in
    sym (too_many ps (omega (arith, more, le, over, c.len-len.ensures, c.loop-p.invariant.so_far)))

pub loop-p-preserved : goal.loop-p-preserved
loop-p-preserved c =
    let more = sized-take-more c.args.params.now c.loop-p.p-index c.p-item.result c.loop-p-test.true c.p-item.is in
    record { so_far = omega (arith, more, c.len-len.ensures, c.loop-p.invariant.so_far); small = omega (arith, c.if-size-len-gt-MOST_OCTETS.false) }

pub returns : goal.returns
returns c =
    let all = sized-take-all c.args.params.now c.loop-p.p-index c.loop-p-test.false in
    sym (few c.args.params.now c.loop-p.size (omega (arith, all, c.loop-p.invariant.so_far)) c.loop-p.invariant.small)
