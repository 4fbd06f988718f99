use Rattle.std.proofs.Common.{◌≡◌, ◌+◌, ◌++◌, length, refl, sym, ap, ◌∙◌, subst, arith, length-append}
use Rattle.std.specs.Prelude.{string_bytes}
use Rattle.sms_pdu.specs.Frame.{IsFrame}
use Rattle.sms_pdu.proofs.Streams.{went_none, went_frame}
use Rattle.sms_inbox.proofs.Walks.{Wrote, wrote_more, wrote_none}
use Rattle.sms_inbox.proofs.arrivals.write_arrivals.Goals as goal

pub loop-length-init : goal.loop-length-init
loop-length-init c = record {
  went = went_none (Wrote c.args.time c.args.bind (string_bytes c.args.text.now) (string_bytes c.args.text.now) 0) c.args.stream.now (wrote_none c.args.time c.args.bind (string_bytes c.args.text.now));
  few = omega arith;
}

pub loop-length-preserved : goal.loop-length-preserved
loop-length-preserved c =
    let time = c.args.time in
    let bind = c.args.bind in
    let old = string_bytes c.args.text.now in
    let mid = string_bytes c.loop-length.text in
    let new = string_bytes c.write_frame.new.text in
    let n = c.loop-length.count in
    let m = c.in_ok-lines.lines in
    let left = c.loop-length.left.now in
    let f = c.split_at.result.0.now in
    let after = c.split_at.result.1.now in
    let joins : left ≡ f ++ after = c.split_at.ensures.by_index.0 in
    let is : IsFrame f = subst IsFrame (sym c.split_at.ensures.front) c.in-Some.ensures.frame.1 in
    let long : length left ≡ length f + length after = ap length joins ∙ length-append f after in
    let least = is.good.least in
    let one = c.in_ok-lines.ensures.few in
    let before = c.loop-length.invariant.few in
    record {
      went = went_frame (Wrote time bind old mid n) (Wrote time bind old new (n + m)) c.args.stream.now left f after c.loop-length.invariant.went joins is
          (λ fs w. wrote_more time bind old mid new n m (n + m) fs f w c.in_ok-lines.ensures.lines c.in_ok-lines.ensures.counted refl);
      few = omega (arith, long, least, one, before);
    }
