use Rattle.std.proofs.Common.{◌≡◌, ◌+◌, ◌++◌, ◌∷◌, [], length, Option, None, sym, ap, ◌∙◌, subst, arith, length-append}
use Rattle.sms_pdu.specs.Frame.{IsFrame}
use Rattle.sms_pdu.proofs.Streams.{went_none, went_frame, went_dropped}
use Rattle.sms_centre.specs.declared.serving.Stop.{Stop}
use Rattle.sms_centre.specs.Stops.{Answered}
use Rattle.sms_centre.proofs.Talks.{answered_none, answered_more}
use Rattle.sms_centre.proofs.centre.Centre.answer_stream.Goals as goal

pub loop-length-init : goal.loop-length-init
loop-length-init c = record {
  went = went_none (Answered c.args.self.now c.args.self.now None c.args.out.now.items c.args.out.now.items) c.args.stream.now (answered_none c.args.self.now c.args.out.now.items);
  fits = omega arith;
}

pub loop-length-preserved : goal.loop-length-preserved
loop-length-preserved c =
    let p = c.args.self.now in
    let q = c.loop-length.self in
    let z = c.answer_frame.new.self in
    let left = c.loop-length.left.now in
    let f = c.split_at.result.0.now in
    let after = c.split_at.result.1.now in
    let u = c.args.out.now.items in
    let v = c.loop-length.out.items in
    let w = c.answer_frame.new.out.items in
    let joins : left ≡ f ++ after = c.split_at.ensures.by_index.0 in
    let is : IsFrame f = subst IsFrame (sym c.split_at.ensures.front) c.in-Some.ensures.frame.1 in
    let one = subst (λ (e : Option Stop). Answered q z e v w (f ∷ [])) c.in-Ok-None.field-0-is c.in-Ok-None.ensures.answered in
    let long : length left ≡ length f + length after = ap length joins ∙ length-append f after in
    record {
      went = went_frame (Answered p q None u v) (Answered p z None u w) c.args.stream.now left f after c.loop-length.invariant.went joins is (λ fs x. answered_more p q z None u v w fs (f ∷ []) x one);
      fits = (let k = c.loop-length.invariant.fits in omega (arith, k, long));
    }

pub returns-in-Ok-clause-handled : goal.returns-in-Ok-clause-handled
returns-in-Ok-clause-handled c =
    let p = c.args.self.now in
    let q = c.loop-length.self in
    let z = c.answer_frame.new.self in
    let left = c.loop-length.left.now in
    let f = c.split_at.result.0.now in
    let after = c.split_at.result.1.now in
    let u = c.args.out.now.items in
    let v = c.loop-length.out.items in
    let w = c.answer_frame.new.out.items in
    let joins : left ≡ f ++ after = c.split_at.ensures.by_index.0 in
    let is : IsFrame f = subst IsFrame (sym c.split_at.ensures.front) c.in-Some.ensures.frame.1 in
    let why = c.in-Ok.end in
    went_dropped (Answered p z why u w) c.args.stream.now after
    (went_frame (Answered p q None u v) (Answered p z why u w) c.args.stream.now left f after c.loop-length.invariant.went joins is (λ fs x. answered_more p q z why u v w fs (f ∷ []) x c.in-Ok.ensures.answered))
