use Rattle.std.proofs.Common.{◌+◌, ◌<◌, arith, sym}
use Rattle.sms_pdu.proofs.Lengths.{sized-take-more, sized-take-le, sized-take-all, whole_fits, whole_too_long}
use Rattle.sms_pdu.proofs.sizes.whole.Goals as goal
use Rattle.sms_pdu.proofs.sizes.whole.Goals.{then-len-gt-MOST_LENGTH-via-then-len-gt-MOST_LENGTH, then-len-gt-MOST_LENGTH-via-else-len-gt-MOST_LENGTH+then-size-len-gt-MOST_LENGTH}

pub returns-then-len-gt-MOST_LENGTH : goal.returns-then-len-gt-MOST_LENGTH
returns-then-len-gt-MOST_LENGTH c =
    let ps = c.args.params.now in
    let i = c.loop-p.p-index in
    let more = sized-take-more ps i c.p-item.result c.loop-p-test.true c.p-item.is in
    let le = sized-take-le ps (i + 1) in
    let over : 70000 < c.loop-p.size + 4 + c.len-len.result = elim c.then-len-gt-MOST_LENGTH.branch [ then-len-gt-MOST_LENGTH-via-then-len-gt-MOST_LENGTH w ↦ omega (arith, w.if-len-gt-MOST_LENGTH.true) | then-len-gt-MOST_LENGTH-via-else-len-gt-MOST_LENGTH+then-size-len-gt-MOST_LENGTH w ↦ omega (arith, w.if-size-len-gt-MOST_LENGTH.true) ] in
    sym (whole_too_long c.args.before ps (omega (arith, more, le, over, c.len-len.ensures, c.loop-p.invariant.so_far)))

pub loop-p-preserved : goal.loop-p-preserved
loop-p-preserved c =
    let more = sized-take-more c.args.params.now c.loop-p.p-index c.p-item.result c.loop-p-test.true c.p-item.is in
    record { so_far = omega (arith, more, c.len-len.ensures, c.loop-p.invariant.so_far); small = omega (arith, c.if-size-len-gt-MOST_LENGTH.false) }

pub returns : goal.returns
returns c =
    let all = sized-take-all c.args.params.now c.loop-p.p-index c.loop-p-test.false in
    sym (whole_fits c.args.before c.args.params.now c.loop-p.size (omega (arith, all, c.loop-p.invariant.so_far)) c.loop-p.invariant.small)
